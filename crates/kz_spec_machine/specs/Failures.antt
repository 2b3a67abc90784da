-- Answers that tell of a failure: a store or the memory failed, so that the event or the step could not be finished.
use Rattle.std.specs.Prelude.{◌≡◌, ◌⊎◌, ℕ, zero, suc, Bool, true, false, ◌||◌, ℤ, List, [], ◌∷◌, Option, Some, None}
use Rattle.std.specs.List.{list_any}
use Rattle.kz_types.specs.declared.fault.TreeFault.{TreeFault}
use Rattle.kz_types.specs.declared.fault.TreeFault.TheVariants as tree_fault
use Rattle.kz_types.specs.declared.fault.LogFault.{LogFault}
use Rattle.kz_types.specs.declared.fault.LogFault.TheVariants as log_fault
use Rattle.kz_types.specs.declared.machine.Reply.{Reply}
use Rattle.kz_types.specs.declared.machine.Reply.TheVariants as reply
use Rattle.kz_types.specs.declared.machine.Event.{Event}
use Rattle.kz_types.specs.declared.machine.Event.TheVariants as event
use Rattle.kz_types.specs.declared.machine.Answer.{Answer}
use Rattle.kz_types.specs.declared.machine.Answer.TheVariants as answer
use Rattle.kz_spec_machine.specs.Driver.{Shared, Driver, step}
use Rattle.kz_spec_machine.specs.Machine.{World, driver_of, ends, reset_world, rollback_refusal, running_ids, running_refusal, with_driver, work}

-- A refusal of the tree and of the log, a limit among them, is an answer of the machine. The other faults are failures.
abbrev pub is_tree_failure : TreeFault → Bool
is_tree_failure (tree_fault.Refused index code) = false
is_tree_failure (tree_fault.Limit index number) = false
is_tree_failure fault = true

abbrev pub is_log_failure : LogFault → Bool
is_log_failure (log_fault.Stale epoch) = false
is_log_failure (log_fault.Limit number) = false
is_log_failure fault = true

abbrev pub is_failed_step : Reply → Bool
is_failed_step (reply.TreeFailed fault) = is_tree_failure fault
is_failed_step (reply.LogFailed fault) = is_log_failure fault
is_failed_step reply.NoMemory = true
is_failed_step other = false

-- An event failed: by itself, or a step of its turn did.
abbrev pub is_failure : Answer → Bool
is_failure (answer.TreeFailed fault) = is_tree_failure fault
is_failure (answer.LogFailed fault) = is_log_failure fault
is_failure answer.NoMemory = true
is_failure (answer.Step reply) = is_failed_step reply
is_failure (answer.Turn replies) = list_any is_failed_step replies
is_failure other = false

-- A turn of at most so many steps was cut off by a failure: it told the replies of the steps before, none of which ends a
-- turn, and then the failure; what is shared and the driver are as those steps left them.
unfoldable pub IsCutOff : ℕ → Shared → List ℤ → ℤ → Driver → List Reply → Shared → Driver → Type 0
IsCutOff zero s running now d replies shared driver = ⊥
IsCutOff (suc n) s running now d [] shared driver = ⊥
IsCutOff (suc n) s running now d (r ∷ []) shared driver = (is_failed_step r ≡ true) × (shared ≡ s) × (driver ≡ d)
IsCutOff (suc n) s running now d (r ∷ q ∷ rs) shared driver =
    (r ≡ (step s running now d).reply) × (ends r ≡ false) × IsCutOff n (step s running now d).shared running now (step s running now d).driver (q ∷ rs) shared driver

-- a turn of this driver was cut off, and left this world
pub record CutOffTurn (w : World) (id now : ℤ) (replies : List Reply) (new : World) : Type 0 where
  pub before : Driver
  pub after : Driver
  pub runs : (running_refusal w id ≡ None) × (driver_of id w.drivers ≡ Some before)
  pub cut_off : IsCutOff (work w.shared before) w.shared (running_ids w.drivers) now before replies new.shared after
  pub drivers : new.drivers ≡ with_driver after w.drivers

-- A turn alone answers replies. One that failed leaves what its steps before the failure did.
abbrev pub IsLeftByTurn : World → Event → List Reply → World → Type 0
IsLeftByTurn w (event.Turn id now) replies new = CutOffTurn w id now replies new
IsLeftByTurn w e replies new = ⊥

-- A single step alone answers its reply, and it is made by a controller that runs. One that failed leaves the world as it was.
abbrev pub IsLeftByStep : World → Event → World → Type 0
IsLeftByStep w (event.Step id now p) new = (running_refusal w id ≡ None) × ((d : Driver) × (driver_of id w.drivers ≡ Some d)) × (new ≡ w)
IsLeftByStep w e new = ⊥

-- What an event leaves that is answered `TreeFailed`, and one that is out of memory. A rollback that isn't refused resets the log
-- first. It has done so where the tree failed, and may have where memory ran out.
abbrev pub IsLeftByTree : World → Event → World → Type 0
IsLeftByTree w event.Rollback new = (rollback_refusal w ≡ None) × (new ≡ reset_world w)
IsLeftByTree w e new = new ≡ w

abbrev pub IsLeftOutOfMemory : World → Event → World → Type 0
IsLeftOutOfMemory w event.Rollback new = (new ≡ w) ⊎ ((rollback_refusal w ≡ None) × (new ≡ reset_world w))
IsLeftOutOfMemory w e new = new ≡ w

-- What an event leaves that is answered `LogFailed`: the world as it was. A rollback reads the log before anything refuses it, so it
-- may find the log's disk down; with any other fault of the log nothing refuses it.
abbrev pub IsLeftByLog : World → Event → LogFault → World → Type 0
IsLeftByLog w event.Rollback log_fault.Down new = new ≡ w
IsLeftByLog w event.Rollback fault new = (rollback_refusal w ≡ None) × (new ≡ w)
IsLeftByLog w e fault new = new ≡ w

-- What an event leaves that failed. But for a turn that was cut off and a rollback, it leaves the world as it was.
abbrev pub IsLeft : World → Event → Answer → World → Type 0
IsLeft w e (answer.Turn replies) new = IsLeftByTurn w e replies new
IsLeft w e (answer.Step r) new = IsLeftByStep w e new
IsLeft w e (answer.TreeFailed f) new = IsLeftByTree w e new
IsLeft w e (answer.LogFailed f) new = IsLeftByLog w e f new
IsLeft w e answer.NoMemory new = IsLeftOutOfMemory w e new
IsLeft w e a new = new ≡ w
