use Rattle.std.proofs.Common.{◌≡◌, ◌≤◌, true, take}
use Rattle.std.specs.List.{list_all, slice_range}
use Rattle.kz_types.specs.PathRule.{is_shown}
use Rattle.kz_types.proofs.FormPlaces.{IsDone}
use Rattle.kz_types.proofs.path_rule.form_place.Given as goal

abbrev pub invariant-loop-at : goal.invariant-loop-at
invariant-loop-at l = record {
  some : 1 ≤ l.start;
  started : l.start ≤ l.at;
  done : IsDone (take l.start l.bytes);
  shown : list_all is_shown (slice_range l.bytes l.start l.at) ≡ true;
}
