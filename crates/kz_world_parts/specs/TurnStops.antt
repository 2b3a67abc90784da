-- What a stop leaves of the tree and the log together.
use Rattle.std.specs.Prelude.{◌≡◌, false, ℤ, List, [], ◌∷◌, Option, Some, Contains}
use Rattle.kz_types.specs.declared.plan.Plan.TheVariants as plan
use Rattle.kz_types.specs.declared.machine.Event.{Event}
use Rattle.kz_types.specs.declared.machine.Event.TheVariants as event
use Rattle.kz_types.specs.declared.machine.Answer.{Answer}
use Rattle.kz_types.specs.declared.machine.Answer.TheVariants as answer
use Rattle.kz_types.specs.declared.machine.Reply.{Reply}
use Rattle.kz_spec_data.specs.Tree.{Tree}
use Rattle.kz_spec_data.specs.Log.{Log}
use Rattle.kz_spec_machine.specs.Driver.{Shared, Driver, step}
use Rattle.kz_spec_machine.specs.Machine.{World, Pair, pair_of, running_ids, driver_of, step_pairs, event_pairs}
use Rattle.kz_driver.specs.Disks.{Disks}

-- neither store is down
pub record AreUp (disks : Disks) : Type 0 where
  pub tree : disks.tree.down ≡ false
  pub log : disks.log.down ≡ false

-- The tree and the log that a stop leaves are one of these pairs.
abbrev pub LeavesOneOf : List Pair → (Option Tree → Type 0) → (Option Log → Type 0) → Type 0
LeavesOneOf pairs tree_left log_left = (t : Option Tree) (l : Option Log) → tree_left t → log_left l → (pair : Pair) × Contains pairs pair × (t ≡ Some pair.tree) × (l ≡ Some pair.log)

-- What a stop in the last of a turn's steps with these replies may leave: the pair from before that step, or one of its own.
unfoldable pub last_step_pairs : List Reply → Shared → List ℤ → ℤ → Driver → List Pair
last_step_pairs [] s running now d = pair_of s ∷ []
last_step_pairs (r ∷ []) s running now d = pair_of s ∷ step_pairs plan.Deliver s running now d
last_step_pairs (r ∷ q ∷ rs) s running now d = last_step_pairs (q ∷ rs) (step s running now d).shared running now (step s running now d).driver

-- The pairs that a stop may leave in a turn of this driver that ended with this answer, which tells of a failure: those of its last
-- step. Where it isn't an answer of steps, none was made.
abbrev pub turn_failure_pairs : World → ℤ → Answer → Option Driver → List Pair
turn_failure_pairs w now (answer.Turn replies) (Some d) = last_step_pairs replies w.shared (running_ids w.drivers) now d
turn_failure_pairs w now a d = pair_of w.shared ∷ []

-- The pairs that a stop may leave in an event that ended with this answer, which tells of a failure. Of an event that isn't a turn, these
-- are the pair from before it and those after each of its requests.
abbrev pub failure_pairs : World → Event → Answer → List Pair
failure_pairs w (event.Turn id now) a = turn_failure_pairs w now a (driver_of id w.drivers)
failure_pairs w e a = pair_of w.shared ∷ event_pairs w e
