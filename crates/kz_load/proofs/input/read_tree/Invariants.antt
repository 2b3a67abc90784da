use Rattle.std.proofs.Common.{◌≡◌, ℕ, ◌≤◌, true, List, ◌++◌, length}
use Rattle.std.specs.Io.KnownBytes.{Consumes}
use Rattle.kz_spec_machine.specs.Loading.{loaded}
use Rattle.kz_load.specs.Kept.{IsKept}
use Rattle.kz_load.specs.Pending.{load_to_come}
use Rattle.kz_load.proofs.input.read_tree.Given as goal

abbrev pub invariant-loop-turn : goal.invariant-loop-turn
invariant-loop-turn g l =
    ((read : List ℕ) × Consumes (g.S.Source.left l.fn.input) (g.S.Source.left l.input) read × ((rest : List ℕ) → loaded (read ++ rest) ≡ load_to_come l.reader rest))
    × (l.turn ≤ l.reader.taken) × IsKept l.reader
    × (g.S.Source.faults l.input ≡ g.S.Source.faults l.fn.input)
    × (g.S.Source.last_failed l.input ≡ true → g.S.Source.last_failed l.fn.input ≡ true)
    × (length l.piece ≡ 4096)
