-- A driver's write is refused with no code.
use Rattle.std.proofs.Common.{◌≡◌, ◌≢◌, ◌⊎◌, inl, inr, ℕ, ℤ, Bool, true, false, if◌then◌else◌, List, Option, Some, None, is_some, refl, sym, ◌∙◌, subst}
use Rattle.std.specs.Prelude.{Result, Ok, Err, option_and_then}
use Rattle.kz_types.specs.declared.tree.Op.{Op}
use Rattle.kz_types.specs.declared.tree.Row.{Row}
use Rattle.kz_types.specs.declared.driver.Stage.{Stage}
use Rattle.kz_types.specs.declared.driver.Stage.TheVariants as stage
use Rattle.kz_types.specs.declared.machine.Recorded.{Recorded}
use Rattle.kz_types.specs.declared.machine.Reply.{Reply}
use Rattle.kz_types.specs.declared.fault.TreeFault.{TreeFault}
use Rattle.kz_types.specs.declared.fault.TreeFault.TheVariants as fault
use Rattle.kz_types.specs.declared.plan.Plan.TheVariants as plan
use Rattle.kz_spec_data.specs.Control.{migration_path, recorded_of}
use Rattle.kz_spec_data.specs.Tree.{Tree, row_at, multi}
use Rattle.kz_spec_data.specs.Log.{image_at, is_migrated_log}
use Rattle.kz_spec_machine.specs.Driver.{Shared, Driver, epoch_or_zero, remaining_at, is_last_write, write_ops, write, write_request, request_at, after_write, writes, after_answer, hearing, driver_after, planned_step, step}
use Rattle.kz_spec_machine.specs.Sound.{IsSharedSound, IsCurrent, AtStage, IsSoundDriver}
use Rattle.kz_laws_machine.specs.RefusalLaws.{HasMigration}
use Rattle.kz_laws_machine.proofs.NeverRefused.{write_taken, multi_fails}
use Rattle.kz_laws_machine.specs.Writes.{IsWriting, MayWrite, IsTaken}
use Rattle.kz_laws_machine.proofs.WriteImages.{log_in_order}

-- ---- what is held

pub held_remain : (s : Shared) (d : Driver) (target : Recorded) (ops : List Op) → IsSoundDriver s d → IsCurrent s.tree d.claim → (d.stage ≡ stage.WriteResync target ops) ⊎ (d.stage ≡ stage.WriteDelta target ops) → ops ≡ remaining_at s.tree s.log target.offset
held_remain s d target ops fine current (inl is) =
    let at : AtStage s.tree s.log d (stage.WriteResync target ops) = subst (AtStage s.tree s.log d) is fine.stage in
    (at.2 current).remaining
held_remain s d target ops fine current (inr is) =
    let at : AtStage s.tree s.log d (stage.WriteDelta target ops) = subst (AtStage s.tree s.log d) is fine.stage in
    (at.2 current).remaining

-- ---- `/migration`

some_row : (m : Option Row) → option_and_then (λ (r : Row). recorded_of r.body) m ≢ None → is_some m ≡ true
some_row None some = absurd (some refl)
some_row (Some r) some = refl

has_migration : (s : Shared) → IsSharedSound s → is_migrated_log s.log ≡ true → HasMigration s.tree
has_migration s kept migrated = some_row (row_at migration_path s.tree.rows) (kept.agreement migrated).record_there

there_at : (s : Shared) (d : Driver) (x : Stage) → IsSharedSound s → IsWriting x → AtStage s.tree s.log d x → HasMigration s.tree
there_at s d (stage.WriteResync target ops) kept writing at = has_migration s kept at.0.migrated
there_at s d (stage.WriteDelta target ops) kept writing at = has_migration s kept at.0.migrated
there_at s d x kept writing at = absurd writing

-- ---- one write

taken_by : (s : Shared) (d : Driver) (claim : ℤ) (target : Recorded) (index : ℕ) (code : ℤ) → MayWrite s d → d.claim ≡ Some claim → multi s.tree (write_ops claim (remaining_at s.tree s.log target.offset) target) ≢ Err (fault.Refused index code)
taken_by s d claim target index code may is =
    write_taken s.tree (image_at s.log target.offset) claim target index code may.kept.tree may.bases (log_in_order s.log target.offset may.kept.log) (sym may.claim.0 ∙ is) (there_at s d d.stage may.kept may.stage may.fine.stage)

same_ops : (xs ys : List Op) → write xs ≡ write ys → xs ≡ ys
same_ops xs ys is = cc

request_taken : (s : Shared) (d : Driver) (c : Option ℤ) (target : Recorded) (ops : List Op) (index : ℕ) (code : ℤ) → d.claim ≡ c → MayWrite s d → write_request c (remaining_at s.tree s.log target.offset) target ≡ write ops → multi s.tree ops ≢ Err (fault.Refused index code)
request_taken s d None target ops index code is may made = absurd (may.claim.1 is)
request_taken s d (Some claim) target ops index code is may made =
    subst (λ (os : List Op). multi s.tree os ≢ Err (fault.Refused index code)) (same_ops (write_ops claim (remaining_at s.tree s.log target.offset) target) ops made) (taken_by s d claim target index code may is)

asked_taken : (s : Shared) (now : ℤ) (d : Driver) (x : Stage) (ops : List Op) (index : ℕ) (code : ℤ) → MayWrite s d → IsWriting x → request_at s now d x ≡ write ops → multi s.tree ops ≢ Err (fault.Refused index code)
asked_taken s now d (stage.WriteResync target held) ops index code may writing made = request_taken s d d.claim target ops index code refl may made
asked_taken s now d (stage.WriteDelta target held) ops index code may writing made = request_taken s d d.claim target ops index code refl may made
asked_taken s now d x ops index code may writing made = absurd writing

pub writes_taken : (s : Shared) (d : Driver) → MayWrite s d → (now : ℤ) (ops : List Op) → request_at s now d d.stage ≡ write ops → (index : ℕ) (code : ℤ) → multi s.tree ops ≢ Err (fault.Refused index code)
writes_taken s d may now ops made index code = asked_taken s now d d.stage ops index code may may.stage made

-- ---- its reply

last_replies : (b : Bool) (x y : Driver × Reply) → IsTaken x.1 → IsTaken y.1 → IsTaken (if b then x else y).1
last_replies true x y first second = first
last_replies false x y first second = second

write_replies : (s : Shared) (d : Driver) (claim : ℤ) (target : Recorded) (more : List Op → Stage) (last : Stage) (r : Result Tree TreeFault) → multi s.tree (write_ops claim (remaining_at s.tree s.log target.offset) target) ≡ r
    → ((index : ℕ) (code : ℤ) → r ≢ Err (fault.Refused index code)) → IsTaken (after_write claim (remaining_at s.tree s.log target.offset) target more last d r).1
write_replies s d claim target more last (Ok t) is taken = last_replies (is_last_write (remaining_at s.tree s.log target.offset)) _ _ tt tt
write_replies s d claim target more last (Err (fault.Refused index code)) is taken = absurd (taken index code refl)
write_replies s d claim target more last (Err (fault.Limit index number)) is taken = tt
write_replies s d claim target more last (Err f) is taken = absurd (multi_fails s.tree (write_ops claim (remaining_at s.tree s.log target.offset) target) f is)

writes_reply : (s : Shared) (d : Driver) (c : Option ℤ) (target : Recorded) (more : List Op → Stage) (last : Stage) → d.claim ≡ c → MayWrite s d → IsTaken (writes s.tree c (remaining_at s.tree s.log target.offset) target more last d).1
writes_reply s d None target more last is may = absurd (may.claim.1 is)
writes_reply s d (Some claim) target more last is may =
    write_replies s d claim target more last (multi s.tree (write_ops claim (remaining_at s.tree s.log target.offset) target)) refl (λ index code. taken_by s d claim target index code may is)

-- what is heard of a delivered write, or of none
heard : (s : Shared) (epoch now : ℤ) (c : Option ℤ) (ops : List Op) (target : Recorded) (given : Driver × Reply) (d : Driver) → IsTaken given.1 → IsTaken (driver_after (hearing plan.Deliver s epoch now (write_request c ops target)) given (write_request c ops target) d).1
heard s epoch now None ops target given d taken = taken
heard s epoch now (Some claim) ops target given d taken = taken

answered_taken : (s : Shared) (running : List ℤ) (now : ℤ) (d : Driver) (x : Stage) → MayWrite s d → IsWriting x → IsTaken (driver_after (hearing plan.Deliver s (epoch_or_zero d.epoch) now (request_at s now d x)) (after_answer s running now d x) (request_at s now d x) d).1
answered_taken s running now d (stage.WriteResync target held) may writing =
    heard s (epoch_or_zero d.epoch) now d.claim (remaining_at s.tree s.log target.offset) target (after_answer s running now d (stage.WriteResync target held)) d (writes_reply s d d.claim target (λ rest. stage.WriteResync target rest) stage.KraftControllerToBrokerComm refl may)
answered_taken s running now d (stage.WriteDelta target held) may writing =
    heard s (epoch_or_zero d.epoch) now d.claim (remaining_at s.tree s.log target.offset) target (after_answer s running now d (stage.WriteDelta target held)) d (writes_reply s d d.claim target (λ rest. stage.WriteDelta target rest) stage.DualWrite refl may)
answered_taken s running now d x may writing = absurd writing

pub replies_taken : (s : Shared) (d : Driver) → MayWrite s d → (running : List ℤ) (now : ℤ) → IsTaken (step s running now d).reply
unfolding step planned_step
replies_taken s d may running now = answered_taken s running now d d.stage may may.stage
