-- What a driver's own requests leave true of it, and what they are to others.
use Rattle.std.specs.Prelude.{◌≡◌, ◌≢◌, ℤ, true, List, Option, Some, None, Ok, All, ⊤}
use Rattle.kz_types.specs.declared.tree.Op.{Op}
use Rattle.kz_types.specs.declared.driver.ClaimSeen.{ClaimSeen}
use Rattle.kz_types.specs.declared.driver.Stage.{Stage}
use Rattle.kz_types.specs.declared.driver.Stage.TheVariants as stage
use Rattle.kz_types.specs.declared.machine.Recorded.{Recorded}
use Rattle.kz_types.specs.declared.machine.Event.TheVariants as event
use Rattle.kz_types.specs.declared.machine.Reply.TheVariants as reply
use Rattle.kz_types.specs.declared.plan.Plan.{Plan}
use Rattle.kz_spec_data.specs.Tree.{Tree, multi, area, migration_record, unclosed_path}
use Rattle.kz_spec_data.specs.Log.{end_of, image_at}
use Rattle.kz_spec_data.specs.Rendering.{render}
use Rattle.kz_spec_machine.specs.Driver.{Shared, Driver, epoch_or_zero, claimed_version, claim_ops, remaining_at, write_ops, request_at, without_answer, after_answer, planned_step}
use Rattle.kz_spec_machine.specs.Machine.{World, driver_of, is_held_tree, next}
use Rattle.kz_spec_machine.specs.Sound.{Sound, IsId, IsSession, IsLawfulOp, IsTime, IsSharedSound, IsCurrent, IsSoundDriver}
use Rattle.kz_laws_machine.specs.Effects.{IsClaimed, IsWritten}

-- ---- steps that change nothing

-- the request of a driver at this stage, if it makes one, changes nothing
abbrev pub IsReading : Stage → Type 0
IsReading (stage.ClaimLeadership seen) = ⊥
IsReading (stage.BeginMigration rows) = ⊥
IsReading (stage.AppendRecords records) = ⊥
IsReading (stage.WriteResync target ops) = ⊥
IsReading (stage.WriteDelta target ops) = ⊥
IsReading x = ⊤

-- What is true of the driver is true after such a request's answer.
abbrev pub ReadingStepsKeep : Type 0
ReadingStepsKeep = (s : Shared) (running : List ℤ) (now : ℤ) (d : Driver) → IsReading d.stage → IsSharedSound s → IsSoundDriver s d → IsSoundDriver s (after_answer s running now d d.stage).0

-- And of a driver that gets no answer, where its request wasn't taken.
abbrev pub UnheardStepsKeep : Type 0
UnheardStepsKeep = (s : Shared) (now : ℤ) (d : Driver) → IsSoundDriver s d → IsSoundDriver s (without_answer (request_at s now d d.stage) d)

-- ---- a step that records

-- The tree is closed, it records this offset, and its migrated area is the rendering of the metadata there.
pub record IsResynced (s : Shared) (offset : ℤ) : Type 0 where
  pub closed : unclosed_path s.tree ≡ None
  pub recorded : (r : Recorded) × (migration_record s.tree ≡ Some r) × (r.offset ≡ offset)
  pub same : area s.tree ≡ render (image_at s.log offset)

-- Under every plan, a step that replies that an offset is recorded leaves such a tree.
abbrev pub RecordingSteps : Type 0
RecordingSteps = (p : Plan) (s : Shared) (running : List ℤ) (now : ℤ) (d : Driver) (offset : ℤ) → IsSharedSound s → IsSoundDriver s d → (planned_step p s running now d).reply ≡ reply.Recorded offset
    → IsResynced (planned_step p s running now d).shared offset

-- A driver in dual write that replies that nothing is new leaves one at the log's end, whatever controller holds the tree.
abbrev pub RestingSteps : Type 0
RestingSteps = (p : Plan) (s : Shared) (running : List ℤ) (now : ℤ) (d : Driver) → IsSharedSound s → IsSoundDriver s d → d.stage ≡ stage.DualWrite → (planned_step p s running now d).reply ≡ reply.Idle → IsResynced (planned_step p s running now d).shared (end_of s.log)

-- ---- claims

-- what a claim that is taken is to others, and what is true of what is shared and of its driver then
pub record ClaimLeads (s : Shared) (running : List ℤ) (now : ℤ) (d : Driver) (seen : ClaimSeen) (new : Tree) : Type 0 where
  pub effect : IsClaimed s.tree new s.log (claimed_version seen.epoch) (epoch_or_zero d.epoch)
  pub shared : IsSharedSound (record s { tree = new })
  pub driver : IsSoundDriver (record s { tree = new }) (after_answer s running now d (stage.ClaimLeadership seen)).0

-- A claim is taken where the driver saw what is there. It is then current.
abbrev pub ClaimsLead : Type 0
ClaimsLead = (s : Shared) (running : List ℤ) (now : ℤ) (d : Driver) (seen : ClaimSeen) (new : Tree) → IsTime now → IsSharedSound s → IsSoundDriver s d → d.stage ≡ stage.ClaimLeadership seen → multi s.tree (claim_ops seen d now) ≡ Ok new
    → ClaimLeads s running now d seen new

-- ---- writes

-- a stage at which a driver writes to a target
abbrev pub WritesTo : Stage → Recorded → List Op → Type 0
WritesTo (stage.WriteResync target ops) to held = (target ≡ to) × (ops ≡ held)
WritesTo (stage.WriteDelta target ops) to held = (target ≡ to) × (ops ≡ held)
WritesTo x to held = ⊥

-- what a write that is taken is to others
pub record WriteLeads (s : Shared) (d : Driver) (new : Tree) : Type 0 where
  pub current : IsCurrent s.tree d.claim
  pub effect : IsWritten s.tree new s.log

-- A write is taken of a current driver alone.
abbrev pub WritesLead : Type 0
WritesLead = (s : Shared) (d : Driver) (claim : ℤ) (target : Recorded) (ops : List Op) (new : Tree) → IsSharedSound s → IsSoundDriver s d → WritesTo d.stage target ops → d.claim ≡ Some claim
    → multi s.tree (write_ops claim (remaining_at s.tree s.log target.offset) target) ≡ Ok new → WriteLeads s d new

-- what a write that is taken leaves true
pub record WriteKeeps (s : Shared) (running : List ℤ) (now : ℤ) (d : Driver) (new : Tree) : Type 0 where
  pub shared : IsSharedSound (record s { tree = new })
  pub driver : IsSoundDriver (record s { tree = new }) (after_answer s running now d d.stage).0

-- It keeps what is shared sound, and what is true of its driver.
abbrev pub TakenWritesKeep : Type 0
TakenWritesKeep = (s : Shared) (running : List ℤ) (now : ℤ) (d : Driver) (claim : ℤ) (target : Recorded) (ops : List Op) (new : Tree) → IsSharedSound s → IsSoundDriver s d → WritesTo d.stage target ops → d.claim ≡ Some claim
    → multi s.tree (write_ops claim (remaining_at s.tree s.log target.offset) target) ≡ Ok new → WriteKeeps s running now d new

-- ---- a whole step

-- a driver at this stage appends nothing
abbrev pub AppendsNothing : Stage → Type 0
AppendsNothing (stage.BeginMigration rows) = ⊥
AppendsNothing (stage.AppendRecords records) = ⊥
AppendsNothing x = ⊤

-- another driver has another epoch, if this one has any
abbrev pub IsApartFrom : Driver → Driver → Type 0
IsApartFrom d other = d.epoch ≢ None → d.epoch ≢ other.epoch

-- What a step leaves true: what is shared is sound, and all that was true of its driver and of each other one.
pub record StepKeeps (s : Shared) (d : Driver) (new : Shared) (after : Driver) : Type 0 where
  pub shared : IsSharedSound new
  pub driver : IsSoundDriver new after
  pub others : (other : Driver) → IsApartFrom d other → IsSoundDriver s other → IsSoundDriver new other

-- So does each step that appends nothing, under every plan.
abbrev pub StepsKeep : Type 0
StepsKeep = (p : Plan) (s : Shared) (running : List ℤ) (now : ℤ) (d : Driver) → IsTime now → AppendsNothing d.stage → IsSharedSound s → IsSoundDriver s d → StepKeeps s d (planned_step p s running now d).shared (planned_step p s running now d).driver

-- ---- worlds

-- So an event of such a step keeps a world sound.
abbrev pub StepEventsKeepSound : Type 0
StepEventsKeepSound = (w : World) (id now : ℤ) (p : Plan) (d : Driver) → IsTime now → Sound w → driver_of id w.drivers ≡ Some d → AppendsNothing d.stage → Sound (next w (event.Step id now p)).0

-- So does one that declares controllers.
abbrev pub QuorumsKeepSound : Type 0
QuorumsKeepSound = (w : World) (ids : List ℤ) → Sound w → Sound (next w (event.Quorum ids)).0

-- So does one that stops a controller, or all of them.
abbrev pub StopsKeepSound : Type 0
StopsKeepSound = (w : World) (controller : Option ℤ) → Sound w → Sound (next w (event.Stop controller)).0

-- So does one that starts a controller.
abbrev pub StartsKeepSound : Type 0
StartsKeepSound = (w : World) (id : ℤ) → IsId id → Sound w → Sound (next w (event.Start id)).0

-- So does a session of a client that begins or ends.
abbrev pub SessionsKeepSound : Type 0
SessionsKeepSound = (w : World) (session : ℤ) → IsSession session → Sound w → Sound (next w (event.ZkOpen session)).0 × Sound (next w (event.ZkExpire session)).0

-- So does a client's multi, while a KRaft controller holds the tree.
abbrev pub HeldClientsKeepSound : Type 0
HeldClientsKeepSound = (w : World) (ops : List Op) → All IsLawfulOp ops → is_held_tree w.shared.tree ≡ true → Sound w → Sound (next w (event.Zk ops)).0
