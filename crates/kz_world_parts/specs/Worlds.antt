-- Worlds by their parts.
use Rattle.std.specs.Prelude.{◌≡◌, true, false, ℤ, List, [], ◌∷◌, ◌++◌, map, Option, None, is_some, Ok, ⊤, if◌then◌else◌}
use Rattle.std.specs.Ordering.{int_eq}
use Rattle.kz_types.specs.declared.codes.TheConstants.{NO_MIGRATION, PRE_MIGRATION}
use Rattle.kz_types.specs.declared.plan.Plan.{Plan}
use Rattle.kz_types.specs.declared.plan.Plan.TheVariants as plan
use Rattle.kz_types.specs.declared.machine.Event.{Event}
use Rattle.kz_types.specs.declared.machine.Answer.{Answer}
use Rattle.kz_types.specs.declared.machine.Answer.TheVariants as answer
use Rattle.kz_types.specs.declared.record.MetaRecord.{MetaRecord}
use Rattle.kz_types.specs.declared.record.MetaRecord.TheVariants as meta
use Rattle.kz_spec_data.specs.Log.{Log, View, IsViewOf, append, end_of}
use Rattle.kz_spec_data.specs.Tree.{Tree}
use Rattle.kz_spec_machine.specs.Driver.{Driver, elected_driver, is_one_of}
use Rattle.kz_spec_machine.specs.Machine.{World, next, running_ids, outcome_unless, full, changed_log, changed_world}
use Rattle.kz_spec_machine.specs.Failures.{is_failure, IsLeft}
use Rattle.kz_driver.specs.Drivers.{shared_of}
use Rattle.kz_world_parts.specs.Faults.{result_of_answer}
use Rattle.kz_world_parts.specs.declared.parts.Parts.{Parts}

-- the world of these parts, where the stores' tree and log are told
abbrev pub world_of : {T L : Type 0} → (T → Tree) → (L → Log) → Parts T L → World
world_of tree log p = record { shared = shared_of (tree p.tree.inner) (log p.log.inner) p.declared; drivers = p.drivers.items }

-- A store of a tree, a store of a log, the ids of the declared controllers, and the drivers of those that run.
pub record WorldOver (T : Type 0) (L : Type 0) : Type 0 where
  pub tree : T
  pub log : L
  pub declared : List ℤ
  pub drivers : List Driver

-- the world over two stores, whose tree and log are told
abbrev pub plain_world : {T L : Type 0} → (T → Tree) → (L → Log) → WorldOver T L → World
plain_world tree log w = record { shared = shared_of (tree w.tree) (log w.log) w.declared; drivers = w.drivers }

-- the parts as a world over their stores
abbrev pub world_of_parts : {T L : Type 0} → Parts T L → WorldOver T L
world_of_parts p = record { tree = p.tree.inner; log = p.log.inner; declared = p.declared; drivers = p.drivers.items }

-- no two of these ids are the same
abbrev pub AreDistinct : List ℤ → Type 0
AreDistinct [] = ⊤
AreDistinct (id ∷ ids) = (is_one_of ids id ≡ false) × AreDistinct ids

-- what each of these drivers knows is a view of the log
abbrev pub AreViews : Log → List Driver → Type 0
AreViews l [] = ⊤
AreViews l (d ∷ ds) = IsViewOf l d.view × AreViews l ds

-- What is true of every world: the connections deliver, no two drivers have one id, and what the world and each driver know is
-- a view of the log.
pub record IsKept (tree_plan log_plan : Plan) (l : Log) (view : View) (drivers : List Driver) : Type 0 where
  pub tree_delivers : tree_plan ≡ plan.Deliver
  pub log_delivers : log_plan ≡ plan.Deliver
  pub distinct : AreDistinct (running_ids drivers)
  pub own : IsViewOf l view
  pub each : AreViews l drivers

abbrev pub AreKept : {T L : Type 0} → (L → Log) → Parts T L → Type 0
AreKept log_of p = IsKept p.tree.plan p.log.plan (log_of p.log.inner) p.view p.drivers.items

-- the drivers, of which those of a controller are elected with an epoch
abbrev pub elected_drivers : ℤ → ℤ → List Driver → List Driver
elected_drivers id epoch drivers = map (λ (d : Driver). if int_eq d.id id then elected_driver epoch d else d) drivers

-- what an append by the leader makes of the world, and its answer
abbrev pub world_after_append : World → List MetaRecord → ℤ → World × Answer
world_after_append w records now = outcome_unless w (full w.shared.log records) (changed_world w records now) (answer.Appended (end_of (changed_log w.shared.log records now)))

-- where an append by the leader answers so, the log has the records, and the answer is its last offset
abbrev pub IsAppended : Log → List MetaRecord → ℤ → Log → Answer → Type 0
IsAppended old records now new (answer.Appended offset) = (append old old.epoch now records ≡ Ok new) × (offset ≡ end_of new)
IsAppended old records now new a = ⊤

-- what an election writes where a transaction has begun or not, and the migration is in this state
abbrev pub records_on_election : Option ℤ → ℤ → List MetaRecord
records_on_election begun state = meta.NoOp
    ∷ ((if is_some begun then meta.AbortTransaction None ∷ [] else [])
    ++ (if int_eq state NO_MIGRATION then meta.ZkMigrationState PRE_MIGRATION ∷ [] else []))

-- ---- what an event answers

-- an answer that tells of no failure, and the world, as the definition has them
abbrev pub IsDone : World → Event → World → Answer → Type 0
IsDone w e new a = (next w e ≡ (new, a)) × (is_failure a ≡ false)

-- An answer of an event that tells no fault of its own. Where it tells of no failure, it and the world are as the definition
-- has them; otherwise a step of a turn failed.
pub record IsOutcome (w : World) (e : Event) (new : World) (a : Answer) : Type 0 where
  pub done : is_failure a ≡ false → next w e ≡ (new, a)
  pub failed : is_failure a ≡ true → IsLeft w e a new
  pub told : result_of_answer a ≡ Ok a
