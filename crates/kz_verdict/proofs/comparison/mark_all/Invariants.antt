use Rattle.std.proofs.Common.{◌≡◌, ◌-◌, ℕ, List, [], drop, length, map}
use Rattle.kz_spec_data.specs.Log.{batch_ends}
use Rattle.kz_verdict.specs.Agreement.{found_among}
use Rattle.kz_verdict.proofs.comparison.mark_all.Given as goal

abbrev pub invariant-loop-done : goal.invariant-loop-done
invariant-loop-done l =
    (paths : List (List ℕ)) → l.fn.found.items ≡ map (found_among l.area l.log l.offset []) paths
    → l.found.items ≡ map (found_among l.area l.log l.offset (drop (length (batch_ends l.log) - l.done) (batch_ends l.log))) paths
