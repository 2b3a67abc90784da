-- What a stop leaves where an event failed before which neither store was down: the tree and the log from before the event, or
-- those after one of its requests. A turn is made of steps, and only its last one fails: what a stop leaves is from then on.
use Rattle.std.specs.Prelude.{◌≡◌, ⊤, true, ℤ, List, [], ◌∷◌, Option, Some, Result, Ok, Err}
use Rattle.kz_types.specs.declared.machine.Event.{Event}
use Rattle.kz_types.specs.declared.machine.Answer.{Answer}
use Rattle.kz_types.specs.declared.record.MetaRecord.{MetaRecord}
use Rattle.kz_spec_data.specs.Tree.{Tree}
use Rattle.kz_spec_data.specs.Log.{Log}
use Rattle.kz_spec_machine.specs.Driver.{Driver}
use Rattle.kz_spec_machine.specs.Machine.{World, Pair, pair_of, pairs_unless, full, changed_world}
use Rattle.kz_spec_machine.specs.Failures.{is_failure}
use Rattle.kz_driver.specs.Disks.{Disks}
use Rattle.kz_world_parts.specs.TurnStops.{AreUp, LeavesOneOf, turn_failure_pairs, failure_pairs}
use Rattle.kz_world_parts.specs.declared.faults.EventFault.{EventFault}
use Rattle.kz_world_parts.specs.Faults.{answer_of_result}

-- an event failed: by itself, or a step of it did
abbrev pub IsFailed : Result Answer EventFault → Type 0
IsFailed (Ok a) = is_failure a ≡ true
IsFailed (Err f) = ⊤

-- this world's tree and log, or one of these pairs
abbrev pub FailureLeaves : World → List Pair → Result Answer EventFault → Disks → (Option Tree → Type 0) → (Option Log → Type 0) → Type 0
FailureLeaves w pairs r old tree_left log_left = AreUp old → IsFailed r → LeavesOneOf (pair_of w.shared ∷ pairs) tree_left log_left

-- what a stop leaves after a turn of this driver
abbrev pub TurnLeaves : World → ℤ → Driver → Result Answer EventFault → Disks → (Option Tree → Type 0) → (Option Log → Type 0) → Type 0
TurnLeaves w now d r old tree_left log_left = AreUp old → IsFailed r → LeavesOneOf (turn_failure_pairs w now (answer_of_result r) (Some d)) tree_left log_left

-- what a stop leaves after an event
abbrev pub EventLeaves : World → Event → Result Answer EventFault → Disks → (Option Tree → Type 0) → (Option Log → Type 0) → Type 0
EventLeaves w e r old tree_left log_left = AreUp old → IsFailed r → LeavesOneOf (failure_pairs w e (answer_of_result r)) tree_left log_left

-- the tree and the log after an append by the leader, where it is made
abbrev pub append_pairs : World → List MetaRecord → ℤ → List Pair
append_pairs w records now = pairs_unless (full w.shared.log records) (pair_of (changed_world w records now).shared ∷ [])
