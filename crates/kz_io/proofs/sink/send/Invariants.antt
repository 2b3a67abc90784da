use Rattle.std.proofs.Common.{◌≡◌, List, ℕ, ◌++◌, length, true}
use Rattle.std.specs.Io.KnownBytes.{Appends}
use Rattle.kz_io.specs.Told.{StaysTold}
use Rattle.kz_io.proofs.sink.send.Given as goal

abbrev pub invariant-loop-rest : goal.invariant-loop-rest
invariant-loop-rest g l =
    (front : List ℕ) × (l.text ≡ front ++ l.rest)
    × Appends (g.K.Sink.taken l.fn.sink) (g.K.Sink.taken l.sink) front
    × (g.K.Sink.faults l.sink ≡ g.K.Sink.faults l.fn.sink)
    × StaysTold (g.K.Sink.taken l.fn.sink) (g.K.Sink.taken l.sink)
    × (g.K.Sink.last_failed l.sink ≡ true → g.K.Sink.last_failed l.fn.sink ≡ true)

abbrev pub decreases-loop-rest : goal.decreases-loop-rest
decreases-loop-rest g l = length l.rest
