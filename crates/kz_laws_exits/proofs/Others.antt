-- What a request of one driver leaves of the tree for another: the tree stays, or the other's claim isn't current any more.
use Rattle.std.proofs.Common.{◌≡◌, ◌⊎◌, inl, inr, ℤ, Bool, true, false, List, [], ◌∷◌, Option, Some, None, Result, Ok, Err, if◌then◌else◌, refl, sym, subst}
use Rattle.kz_types.specs.declared.driver.ClaimSeen.{ClaimSeen}
use Rattle.kz_types.specs.declared.driver.Stage.{Stage}
use Rattle.kz_types.specs.declared.driver.Stage.TheVariants as stage
use Rattle.kz_types.specs.declared.fault.TreeFault.{TreeFault}
use Rattle.kz_types.specs.declared.fault.LogFault.{LogFault}
use Rattle.kz_types.specs.declared.machine.Recorded.{Recorded}
use Rattle.kz_types.specs.declared.plan.Plan.{Plan}
use Rattle.kz_types.specs.declared.record.MetaRecord.{MetaRecord}
use Rattle.kz_types.specs.declared.tree.Op.{Op}
use Rattle.kz_spec_data.specs.Tree.{Tree, multi}
use Rattle.kz_spec_data.specs.Log.{Log, append}
use Rattle.kz_spec_data.specs.Translation.{Unreadable, translate}
use Rattle.kz_spec_machine.specs.Driver.{Shared, Driver, epoch_or_zero, claim_ops, remaining_at, write_ops, begin_record, begin_request, next_records, write_request, request_at, with_tree, with_log, shared_after, reaches_store, planned_step}
use Rattle.kz_spec_machine.specs.Sound.{IsTime, IsCurrent, IsSharedSound, IsSoundDriver}
use Rattle.kz_laws_events.specs.Steps.{WritesTo, IsApartFrom}
use Rattle.kz_laws_commits.proofs.Others.{claim_past, one_past}

-- what is shared after a request, for another driver
abbrev pub LeavesOrPasses : Shared → Driver → Shared → Type 0
LeavesOrPasses s f new = (new.tree ≡ s.tree) ⊎ (IsCurrent new.tree f.claim → ⊥)

log_only : (s : Shared) (f : Driver) (r : Result Log LogFault) → LeavesOrPasses s f (with_log s r)
log_only s f (Ok new) = inl refl
log_only s f (Err e) = inl refl

claim_passes : (s : Shared) (now : ℤ) (d : Driver) (seen : ClaimSeen) (f : Driver) (r : Result Tree TreeFault) → multi s.tree (claim_ops seen d now) ≡ r → IsTime now → IsSharedSound s → IsSoundDriver s d → d.stage ≡ stage.ClaimLeadership seen → IsApartFrom d f → IsSoundDriver s f → LeavesOrPasses s f (with_tree s r)
claim_passes s now d seen f (Ok new) is time kept fine at apart other = inr (claim_past s now d seen new f time kept fine at is apart other)
claim_passes s now d seen f (Err e) is time kept fine at apart other = inl refl

write_by : (s : Shared) (d : Driver) (claim : ℤ) (target : Recorded) (ops : List Op) (f : Driver) (r : Result Tree TreeFault) → multi s.tree (write_ops claim (remaining_at s.tree s.log target.offset) target) ≡ r → IsSharedSound s → IsSoundDriver s d → WritesTo d.stage target ops → d.claim ≡ Some claim
    → IsApartFrom d f → IsSoundDriver s f → LeavesOrPasses s f (with_tree s r)
write_by s d claim target ops f (Ok new) is kept fine at claimed apart other = inr (one_past s d claim target ops new f is kept fine at claimed apart other)
write_by s d claim target ops f (Err e) is kept fine at claimed apart other = inl refl

write_passes : (s : Shared) (now : ℤ) (d : Driver) (m : Option ℤ) (target : Recorded) (ops : List Op) (f : Driver) → d.claim ≡ m → IsSharedSound s → IsSoundDriver s d → WritesTo d.stage target ops → IsApartFrom d f → IsSoundDriver s f
    → LeavesOrPasses s f (shared_after s (epoch_or_zero d.epoch) now (write_request m (remaining_at s.tree s.log target.offset) target))
write_passes s now d None target ops f claimed kept fine at apart other = inl refl
write_passes s now d (Some claim) target ops f claimed kept fine at apart other =
    write_by s d claim target ops f (multi s.tree (write_ops claim (remaining_at s.tree s.log target.offset) target)) refl kept fine at claimed apart other

begin_passes : (s : Shared) (epoch now : ℤ) (f : Driver) (t : Result (List MetaRecord) Unreadable) → LeavesOrPasses s f (shared_after s epoch now (begin_request t))
begin_passes s epoch now f (Ok records) = log_only s f (append s.log epoch now (begin_record ∷ []))
begin_passes s epoch now f (Err e) = inl refl

request_passes : (s : Shared) (now : ℤ) (d : Driver) (x : Stage) (f : Driver) → d.stage ≡ x → IsTime now → IsSharedSound s → IsSoundDriver s d → IsApartFrom d f → IsSoundDriver s f → LeavesOrPasses s f (shared_after s (epoch_or_zero d.epoch) now (request_at s now d x))
request_passes s now d (stage.ClaimLeadership seen) f is time kept fine apart other = claim_passes s now d seen f (multi s.tree (claim_ops seen d now)) refl time kept fine is apart other
request_passes s now d (stage.BeginMigration rows) f is time kept fine apart other = begin_passes s (epoch_or_zero d.epoch) now f (translate rows)
request_passes s now d (stage.AppendRecords records) f is time kept fine apart other = log_only s f (append s.log (epoch_or_zero d.epoch) now (next_records records))
request_passes s now d (stage.WriteResync target ops) f is time kept fine apart other =
    write_passes s now d d.claim target ops f refl kept fine (subst (λ (y : Stage). WritesTo y target ops) (sym is) (refl, refl)) apart other
request_passes s now d (stage.WriteDelta target ops) f is time kept fine apart other =
    write_passes s now d d.claim target ops f refl kept fine (subst (λ (y : Stage). WritesTo y target ops) (sym is) (refl, refl)) apart other
request_passes s now d x f is time kept fine apart other = inl refl

either_passes : (b : Bool) (x s : Shared) (f : Driver) → LeavesOrPasses s f x → LeavesOrPasses s f (if b then x else s)
either_passes true x s f made = made
either_passes false x s f made = inl refl

pub step_passes : (p : Plan) (s : Shared) (running : List ℤ) (now : ℤ) (d f : Driver) → IsTime now → IsSharedSound s → IsSoundDriver s d → IsApartFrom d f → IsSoundDriver s f → LeavesOrPasses s f (planned_step p s running now d).shared
unfolding planned_step
step_passes p s running now d f time kept fine apart other =
    let r = request_at s now d d.stage in
    either_passes (reaches_store p r) (shared_after s (epoch_or_zero d.epoch) now r) s f (request_passes s now d d.stage f refl time kept fine apart other)
