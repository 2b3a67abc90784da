use Rattle.std.proofs.Common.{◌≡◌, ℕ, ◌≤◌, true, List, length}
use Rattle.std.specs.Io.KnownBytes.{Appends, Consumes}
use Rattle.kz_types.specs.declared.limits.TheConstants.{MAX_INPUT_BYTES}
use Rattle.kz_stream.specs.FailureDisks.{AreQuiet}
use Rattle.kz_stream.specs.Pending.{GoesSoundly, state_of}
use Rattle.kz_stream.specs.Disks.{OverSound}
use Rattle.kz_replay.proofs.pump.pump.Given as goal

abbrev pub invariant-loop-turn : goal.invariant-loop-turn
invariant-loop-turn g l =
    ((read sent : List ℕ) × Consumes (g.S.Source.left l.fn.input) (g.S.Source.left l.input) read
    × Appends (g.K.Sink.taken l.fn.out) (g.K.Sink.taken l.out) sent × GoesSoundly (state_of g.M.Machine.world l.fn.stream) (state_of g.M.Machine.world l.stream) read sent)
    × (l.turn ≤ l.stream.taken) × (l.stream.taken ≤ MAX_INPUT_BYTES)
    × (g.S.Source.faults l.input ≡ g.S.Source.faults l.fn.input)
    × (g.S.Source.last_failed l.input ≡ true → g.S.Source.last_failed l.fn.input ≡ true)
    × (g.K.Sink.faults l.out ≡ g.K.Sink.faults l.fn.out)
    × (g.K.Sink.last_failed l.out ≡ true → g.K.Sink.last_failed l.fn.out ≡ true)
    × (length l.piece ≡ 4096)
    × OverSound (g.M.Machine.world l.fn.stream.place.machine) (g.M.Machine.disks l.fn.stream.place.machine) (AreQuiet (g.M.Machine.disks l.fn.stream.place.machine) (g.M.Machine.disks l.stream.place.machine))
