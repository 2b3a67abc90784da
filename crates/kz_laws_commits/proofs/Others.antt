-- What another driver copies, after a request of one.
use Rattle.std.proofs.Common.{◌≡◌, ◌≢◌, ℤ, false, if◌then◌else◌, List, [], ◌∷◌, take, Option, Some, None, refl, sym, ap, ◌∙◌, subst}
use Rattle.std.specs.Prelude.{Result, Ok, Err}
use Rattle.kz_types.specs.declared.limits.TheConstants.{MAX_APPEND_RECORDS}
use Rattle.kz_types.specs.declared.tree.Row.{Row}
use Rattle.kz_types.specs.declared.tree.Op.{Op}
use Rattle.kz_types.specs.declared.driver.ClaimSeen.{ClaimSeen}
use Rattle.kz_types.specs.declared.driver.Stage.{Stage}
use Rattle.kz_types.specs.declared.driver.Stage.TheVariants as stage
use Rattle.kz_types.specs.declared.fault.TreeFault.{TreeFault}
use Rattle.kz_types.specs.declared.fault.LogFault.{LogFault}
use Rattle.kz_types.specs.declared.machine.Recorded.{Recorded}
use Rattle.kz_types.specs.declared.record.MetaRecord.{MetaRecord}
use Rattle.kz_spec_data.specs.Tree.{Tree, multi, migrated_rows}
use Rattle.kz_spec_data.specs.Log.{Log, append}
use Rattle.kz_spec_data.specs.Translation.{Unreadable, translate}
use Rattle.kz_spec_machine.specs.Driver.{Shared, Driver, epoch_or_zero, claimed_version, views_migrated, claim_ops, remaining_at, write_ops, begin_record, commit_records, begin_request, write_request, request_at, with_tree, with_log, shared_after, after_claim}
use Rattle.kz_spec_machine.specs.Sound.{IsTime, IsSharedSound, IsCurrent, WasElected, is_filling, IsSoundDriver}
use Rattle.kz_laws_machine.proofs.Claimed.{others_claimed}
use Rattle.kz_laws_machine.proofs.Written.{one_current}
use Rattle.kz_laws_events.specs.Steps.{WritesTo, IsApartFrom}
use Rattle.kz_laws_events.proofs.Tests.{own_epoch}
use Rattle.kz_laws_events.proofs.Claiming.{claim_leads}
use Rattle.kz_laws_events.proofs.Written.{Took, took}
use Rattle.kz_laws_events.proofs.Leading.{not_leading}
use Rattle.kz_laws_events.proofs.Filling.{begun_log, appended_log}
use Rattle.kz_laws_events.proofs.Committed.{ready}
use Rattle.kz_laws_commits.specs.Commits.{Copies, CopiesAtStage}

-- ---- drivers that owe nothing

pub quiet_copies : (t : Tree) (l : Log) (f : Driver) (x : Stage) → is_filling x ≡ false → CopiesAtStage t l f x
quiet_copies t l f (stage.AppendRecords rest) quiet = absurd (cc)
quiet_copies t l f x quiet = tt

pub past_copies : (t : Tree) (l : Log) (f : Driver) (x : Stage) → (IsCurrent t f.claim → ⊥) → CopiesAtStage t l f x
past_copies t l f (stage.AppendRecords rest) past = λ current leads from records begun so_far. absurd (past current)
past_copies t l f x past = tt

pub behind_copies : (t : Tree) (l : Log) (f : Driver) (x : Stage) → (f.epoch ≡ Some l.epoch → ⊥) → CopiesAtStage t l f x
behind_copies t l f (stage.AppendRecords rest) behind = λ current leads from records begun so_far. absurd (behind leads)
behind_copies t l f x behind = tt

-- another tree with the same area, on which it was current
pub same_copies : (t new : Tree) (l : Log) (f : Driver) (x : Stage) → migrated_rows new ≡ migrated_rows t → (IsCurrent new f.claim → IsCurrent t f.claim) → CopiesAtStage t l f x → CopiesAtStage new l f x
same_copies t new l f (stage.AppendRecords rest) rows was copies = λ current leads from records begun so_far.
    let old = copies (was current) leads from records begun so_far in
    record { translated = ap translate rows ∙ old.translated; unbroken = old.unbroken }
same_copies t new l f x rows was copies = tt

-- ---- a claim

-- after a claim that is taken no other claim is current
pub claim_past : (s : Shared) (now : ℤ) (d : Driver) (seen : ClaimSeen) (new : Tree) (f : Driver) → IsTime now → IsSharedSound s → IsSoundDriver s d → d.stage ≡ stage.ClaimLeadership seen → multi s.tree (claim_ops seen d now) ≡ Ok new → IsApartFrom d f → IsSoundDriver s f → IsCurrent new f.claim → ⊥
claim_past s now d seen new f time kept fine at is apart other current =
    let k = claim_leads s [] now d seen new time kept fine at is in
    let s-new : Shared = record s { tree = new } in
    let elected : d.epoch ≢ None = subst (WasElected d.epoch) at fine.elected in
    let own = subst (λ r. IsSoundDriver s-new (after_claim seen d (claim_ops seen d now) r).0) is k.driver in
    let others = others_claimed s new (claimed_version seen.epoch) (epoch_or_zero d.epoch) f k.effect (λ same. apart elected (sym (own_epoch d.epoch elected) ∙ sym same)) other in
    one_current s-new (record d { claim = Some (claimed_version seen.epoch); stage = if views_migrated d then stage.ReadLogForResync else stage.ScanForMigration [] }) f own others apart (sym k.effect.version_is, λ none. cc) current

claim_copies : (s : Shared) (now : ℤ) (d : Driver) (seen : ClaimSeen) (f : Driver) (r : Result Tree TreeFault) → multi s.tree (claim_ops seen d now) ≡ r → IsTime now → IsSharedSound s → IsSoundDriver s d → d.stage ≡ stage.ClaimLeadership seen → IsApartFrom d f → IsSoundDriver s f → Copies s f → Copies (with_tree s r) f
claim_copies s now d seen f (Ok new) is time kept fine at apart other copies = past_copies new s.log f f.stage (claim_past s now d seen new f time kept fine at is apart other)
claim_copies s now d seen f (Err e) is time kept fine at apart other copies = copies

-- ---- a write

-- nor is one after a write that is taken
pub one_past : (s : Shared) (d : Driver) (claim : ℤ) (target : Recorded) (ops : List Op) (new : Tree) (f : Driver) → multi s.tree (write_ops claim (remaining_at s.tree s.log target.offset) target) ≡ Ok new → IsSharedSound s → IsSoundDriver s d → WritesTo d.stage target ops → d.claim ≡ Some claim
    → IsApartFrom d f → IsSoundDriver s f → IsCurrent new f.claim → ⊥
one_past s d claim target ops new f is kept fine at claimed apart other current =
    let k : Took s d claim target new = took s d claim target ops new kept fine at claimed is in
    one_current s d f fine other apart k.leads.current (current.0 ∙ k.leads.effect.version, current.1)

write_by : (s : Shared) (d : Driver) (claim : ℤ) (target : Recorded) (ops : List Op) (f : Driver) (r : Result Tree TreeFault) → multi s.tree (write_ops claim (remaining_at s.tree s.log target.offset) target) ≡ r → IsSharedSound s → IsSoundDriver s d → WritesTo d.stage target ops → d.claim ≡ Some claim
    → IsApartFrom d f → IsSoundDriver s f → Copies s f → Copies (with_tree s r) f
write_by s d claim target ops f (Ok new) is kept fine at claimed apart other copies = past_copies new s.log f f.stage (one_past s d claim target ops new f is kept fine at claimed apart other)
write_by s d claim target ops f (Err e) is kept fine at claimed apart other copies = copies

write_copies : (s : Shared) (now : ℤ) (d : Driver) (m : Option ℤ) (target : Recorded) (ops : List Op) (f : Driver) → d.claim ≡ m → IsSharedSound s → IsSoundDriver s d → WritesTo d.stage target ops → IsApartFrom d f → IsSoundDriver s f → Copies s f
    → Copies (shared_after s (epoch_or_zero d.epoch) now (write_request m (remaining_at s.tree s.log target.offset) target)) f
write_copies s now d None target ops f claimed kept fine at apart other copies = copies
write_copies s now d (Some claim) target ops f claimed kept fine at apart other copies =
    write_by s d claim target ops f (multi s.tree (write_ops claim (remaining_at s.tree s.log target.offset) target)) refl kept fine at claimed apart other copies

-- ---- an append

append_copies : (s : Shared) (f : Driver) (r : Result Log LogFault) → ((new : Log) → r ≡ Ok new → f.epoch ≡ Some new.epoch → ⊥) → Copies s f → Copies (with_log s r) f
append_copies s f (Ok new) behind copies = behind_copies s.tree new f f.stage (behind new refl)
append_copies s f (Err e) behind copies = copies

begin_copies : (s : Shared) (now : ℤ) (d : Driver) (rows : List Row) (f : Driver) (t : Result (List MetaRecord) Unreadable) → translate rows ≡ t → IsSharedSound s → IsSoundDriver s d → d.stage ≡ stage.BeginMigration rows → IsApartFrom d f → Copies s f → Copies (shared_after s (epoch_or_zero d.epoch) now (begin_request t)) f
begin_copies s now d rows f (Ok records) is kept fine at apart copies =
    append_copies s f (append s.log (epoch_or_zero d.epoch) now (begin_record ∷ []))
    (λ new made leads. let k = begun_log s now d rows records new kept fine at is made in not_leading s d f new.epoch k.elected k.own apart leads) copies
begin_copies s now d rows f (Err e) is kept fine at apart copies = copies

records_copies : (s : Shared) (now : ℤ) (d : Driver) (records : List MetaRecord) (f : Driver) → IsSharedSound s → IsSoundDriver s d → d.stage ≡ stage.AppendRecords records → IsApartFrom d f → Copies s f → Copies (shared_after s (epoch_or_zero d.epoch) now (request_at s now d (stage.AppendRecords records))) f
records_copies s now d [] f kept fine at apart copies =
    append_copies s f (append s.log (epoch_or_zero d.epoch) now commit_records)
    (λ new made leads. let both = ready s now d new kept fine at made in not_leading s d f new.epoch both.1.elected (ap (λ (l : Log). l.epoch) (sym both.0.made)) apart leads) copies
records_copies s now d (r ∷ rs) f kept fine at apart copies =
    append_copies s f (append s.log (epoch_or_zero d.epoch) now (take MAX_APPEND_RECORDS (r ∷ rs)))
    (λ new made leads. let k = appended_log s now d r rs new kept fine at made in not_leading s d f new.epoch k.elected k.own apart leads) copies

-- ---- every request

pub others_copy : (s : Shared) (now : ℤ) (d : Driver) (x : Stage) (f : Driver) → d.stage ≡ x → IsTime now → IsSharedSound s → IsSoundDriver s d → IsApartFrom d f → IsSoundDriver s f → Copies s f → Copies (shared_after s (epoch_or_zero d.epoch) now (request_at s now d x)) f
others_copy s now d stage.Uninitialized f is time kept fine apart other copies = copies
others_copy s now d stage.Inactive f is time kept fine apart other copies = copies
others_copy s now d stage.WaitForControllerQuorum f is time kept fine apart other copies = copies
others_copy s now d stage.WaitForBrokers f is time kept fine apart other copies = copies
others_copy s now d stage.ListBrokers f is time kept fine apart other copies = copies
others_copy s now d stage.ReadControlZnodes f is time kept fine apart other copies = copies
others_copy s now d (stage.ClaimLeadership seen) f is time kept fine apart other copies = claim_copies s now d seen f (multi s.tree (claim_ops seen d now)) refl time kept fine is apart other copies
others_copy s now d (stage.ScanForMigration rows) f is time kept fine apart other copies = copies
others_copy s now d (stage.BeginMigration rows) f is time kept fine apart other copies = begin_copies s now d rows f (translate rows) refl kept fine is apart copies
others_copy s now d (stage.AppendRecords records) f is time kept fine apart other copies = records_copies s now d records f kept fine is apart copies
others_copy s now d stage.ReadLogForResync f is time kept fine apart other copies = copies
others_copy s now d (stage.ScanForResync target rows) f is time kept fine apart other copies = copies
others_copy s now d (stage.WriteResync target ops) f is time kept fine apart other copies =
    write_copies s now d d.claim target ops f refl kept fine (subst (λ (y : Stage). WritesTo y target ops) (sym is) (refl, refl)) apart other copies
others_copy s now d stage.KraftControllerToBrokerComm f is time kept fine apart other copies = copies
others_copy s now d stage.DualWrite f is time kept fine apart other copies = copies
others_copy s now d (stage.WriteDelta target ops) f is time kept fine apart other copies =
    write_copies s now d d.claim target ops f refl kept fine (subst (λ (y : Stage). WritesTo y target ops) (sym is) (refl, refl)) apart other copies
