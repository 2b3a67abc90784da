-- What a fenced controller leaves.
use Rattle.std.specs.Prelude.{◌≡◌, ◌≢◌, ℤ, Bool, List, None, ⊤}
use Rattle.kz_types.specs.declared.plan.Plan.{Plan}
use Rattle.kz_types.specs.declared.machine.Event.TheVariants as event
use Rattle.kz_types.specs.declared.machine.Reply.{Reply}
use Rattle.kz_types.specs.declared.machine.Reply.TheVariants as reply
use Rattle.kz_types.specs.declared.record.MetaRecord.{MetaRecord}
use Rattle.kz_spec_machine.specs.Driver.{Shared, Driver, planned_step}
use Rattle.kz_spec_machine.specs.Machine.{World, leader_refusal, next}
use Rattle.kz_spec_machine.specs.Sound.{shown_in, IsBelowShown, IsSoundDriver}

-- Under every plan, a step of a driver whose epoch is below the one that `/controller` shows leaves the tree and the log.
abbrev pub FencedDriversLeave : Type 0
FencedDriversLeave = (p : Plan) (s : Shared) (running : List ℤ) (now : ℤ) (d : Driver) → IsSoundDriver s d → IsBelowShown (shown_in s.tree) d.epoch → (planned_step p s running now d).shared ≡ s

-- by this reply a driver learns that another controller has taken over
abbrev pub IsOfFence : Reply → Type 0
IsOfFence (reply.FencedEpoch epoch) = ⊤
IsOfFence (reply.FencedWrite claim) = ⊤
IsOfFence (reply.Stale epoch) = ⊤
IsOfFence r = ⊥

-- A step with such a reply leaves the tree and the log, whatever the driver believes.
abbrev pub FencedRepliesLeave : Type 0
FencedRepliesLeave = (p : Plan) (s : Shared) (running : List ℤ) (now : ℤ) (d : Driver) → IsOfFence (planned_step p s running now d).reply → (planned_step p s running now d).shared ≡ s

-- A change by a controller that doesn't lead the log leaves the world, and so do a registration and a finalisation.
abbrev pub OnlyLeadersAppend : Type 0
OnlyLeadersAppend = (w : World) (id now : ℤ) (records : List MetaRecord) (broker : ℤ) (migrating : Bool) → leader_refusal w id ≢ None
    → ((next w (event.Change id records now)).0 ≡ w) × ((next w (event.Register id broker migrating now)).0 ≡ w) × ((next w (event.Finalise id now)).0 ≡ w)
