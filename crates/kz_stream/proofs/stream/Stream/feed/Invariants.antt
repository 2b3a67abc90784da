use Rattle.std.proofs.Common.{◌≡◌, ℕ, ◌+◌, true, List, take}
use Rattle.std.specs.Io.KnownBytes.{Appends}
use Rattle.kz_stream.specs.FailureDisks.{AreQuiet}
use Rattle.kz_stream.specs.Pending.{GoesSoundly, state_of}
use Rattle.kz_stream.specs.Disks.{OverSound}
use Rattle.kz_stream.proofs.stream.Stream.feed.Given as goal

abbrev pub invariant-loop-byte : goal.invariant-loop-byte
invariant-loop-byte g l =
    ((sent : List ℕ) × Appends (g.K.Sink.taken l.fn.out) (g.K.Sink.taken l.out) sent × GoesSoundly (state_of g.M.Machine.world l.fn.self) (state_of g.M.Machine.world l.self) (take l.byte-index l.piece) sent)
    × (g.K.Sink.faults l.out ≡ g.K.Sink.faults l.fn.out)
    × (g.K.Sink.last_failed l.out ≡ true → g.K.Sink.last_failed l.fn.out ≡ true)
    × OverSound (g.M.Machine.world l.fn.self.place.machine) (g.M.Machine.disks l.fn.self.place.machine) (AreQuiet (g.M.Machine.disks l.fn.self.place.machine) (g.M.Machine.disks l.self.place.machine))
    × (l.self.taken ≡ l.fn.self.taken + l.byte-index)
