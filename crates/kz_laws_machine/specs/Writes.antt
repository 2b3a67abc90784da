-- What a driver writes, and that no code refuses it.
use Rattle.std.specs.Prelude.{◌≡◌, ◌≢◌, ◌⊎◌, ℕ, ℤ, List, Err, ⊤}
use Rattle.kz_types.specs.declared.tree.Op.{Op}
use Rattle.kz_types.specs.declared.driver.Stage.{Stage}
use Rattle.kz_types.specs.declared.driver.Stage.TheVariants as stage
use Rattle.kz_types.specs.declared.fault.TreeFault.TheVariants.{Refused}
use Rattle.kz_types.specs.declared.machine.Recorded.{Recorded}
use Rattle.kz_types.specs.declared.machine.Reply.{Reply}
use Rattle.kz_types.specs.declared.machine.Reply.TheVariants as reply
use Rattle.kz_spec_data.specs.Tree.{multi}
use Rattle.kz_spec_machine.specs.Driver.{Shared, Driver, remaining_at, write, request_at, step}
use Rattle.kz_spec_machine.specs.Sound.{HasBases, IsSharedSound, IsCurrent, IsSoundDriver}

-- The operations that a current driver holds are those that remain to be written.
abbrev pub HeldOperationsRemain : Type 0
HeldOperationsRemain = (s : Shared) (d : Driver) (target : Recorded) (ops : List Op) → IsSoundDriver s d → IsCurrent s.tree d.claim → (d.stage ≡ stage.WriteResync target ops) ⊎ (d.stage ≡ stage.WriteDelta target ops) → ops ≡ remaining_at s.tree s.log target.offset

-- a stage at which a driver writes
abbrev pub IsWriting : Stage → Type 0
IsWriting (stage.WriteResync target ops) = ⊤
IsWriting (stage.WriteDelta target ops) = ⊤
IsWriting x = ⊥

-- A driver that writes, under a claim that still stands, on a tree where the base znodes stand.
pub record MayWrite (s : Shared) (d : Driver) : Type 0 where
  pub kept : IsSharedSound s
  pub fine : IsSoundDriver s d
  pub bases : HasBases s.tree
  pub claim : IsCurrent s.tree d.claim
  pub stage : IsWriting d.stage

-- Its multi is refused with no code. It may pass a limit.
abbrev pub WritesAreTaken : Type 0
WritesAreTaken = (s : Shared) (d : Driver) → MayWrite s d → (now : ℤ) (ops : List Op) → request_at s now d d.stage ≡ write ops → (index : ℕ) (code : ℤ) → multi s.tree ops ≢ Err (Refused index code)

-- operations are written, the offset is recorded, or a limit would be passed
abbrev pub IsTaken : Reply → Type 0
IsTaken (reply.Wrote ops) = ⊤
IsTaken (reply.Recorded offset) = ⊤
IsTaken (reply.Limit path) = ⊤
IsTaken r = ⊥

-- So the step replies that it was taken.
abbrev pub WritesReplyTaken : Type 0
WritesReplyTaken = (s : Shared) (d : Driver) → MayWrite s d → (running : List ℤ) (now : ℤ) → IsTaken (step s running now d).reply
