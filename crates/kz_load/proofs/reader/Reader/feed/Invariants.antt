use Rattle.std.proofs.Common.{◌≡◌, ◌≢◌, ◌+◌, ◌≤◌, take}
use Rattle.std.specs.List.{slice_range}
use Rattle.kz_spec_data.specs.Forms.{AllFit}
use Rattle.kz_load.specs.Kept.{IsKept}
use Rattle.kz_load.specs.Pending.{GoesOn}
use Rattle.kz_load.proofs.reader.Reader.feed.Given as goal

abbrev pub invariant-loop-at : goal.invariant-loop-at
invariant-loop-at l = record {
  begun : l.from ≤ l.at;
  goes : GoesOn l.fn.self l.self (take l.from l.piece);
  count : l.self.taken ≡ l.fn.self.taken + l.from;
  kept : IsKept l.self;
  no_ends : AllFit (λ b. b ≢ 10) (slice_range l.piece l.from l.at);
}
