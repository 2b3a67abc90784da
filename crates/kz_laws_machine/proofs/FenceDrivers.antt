-- A step of a driver whose epoch is below the shown one.
use Rattle.std.proofs.Common.{◌≡◌, ◌≢◌, ℕ, ℤ, pos, negsuc, ◌+ℤ◌, ◌≤ℤ◌, Bool, true, false, not, ◌||◌, if◌then◌else◌, List, [], ◌∷◌, Option, Some, None, option_map, is_some, refl, sym, ap, ◌∙◌, subst, arith}
use Rattle.std.specs.Prelude.{◌<ℤ◌, Result, Ok, Err, nat_lt, nat_le, int_le, length}
use Rattle.kz_types.specs.declared.limits.Limit.TheVariants as limits
use Rattle.kz_types.specs.declared.limits.TheConstants.{MAX_BODY_BYTES, MAX_VERSION, MAX_ZNODES}
use Rattle.kz_types.specs.Limits.{number_of_limit}
use Rattle.std.specs.Ordering.{int_eq}
use Rattle.std.proofs.lemmas.Bool.Decides.{Decides-int_eq}
use Rattle.std.proofs.lemmas.Int.{ints}
use Rattle.kz_types.specs.declared.codes.TheConstants.{BAD_VERSION, NODE_EXISTS, NO_CHILDREN_FOR_EPHEMERALS, NO_NODE}
use Rattle.kz_types.specs.declared.tree.Row.{Row}
use Rattle.kz_types.specs.declared.tree.Op.{Op}
use Rattle.kz_types.specs.declared.driver.ClaimSeen.{ClaimSeen}
use Rattle.kz_types.specs.declared.driver.Stage.{Stage}
use Rattle.kz_types.specs.declared.driver.Stage.TheVariants as stage
use Rattle.kz_types.specs.declared.machine.Recorded.{Recorded}
use Rattle.kz_types.specs.declared.fault.TreeFault.{TreeFault}
use Rattle.kz_types.specs.declared.fault.TreeFault.TheVariants as fault
use Rattle.kz_types.specs.declared.fault.LogFault.TheVariants as log_fault
use Rattle.kz_types.specs.declared.plan.Plan.{Plan}
use Rattle.kz_types.specs.declared.record.MetaRecord.{MetaRecord}
use Rattle.kz_spec_data.specs.Control.{epoch_path, written_epoch}
use Rattle.kz_spec_data.specs.Tree.{Tree, row_at, parent_of, is_ephemeral, count_beside, limit_beside, fits_version, Refusal, code, limit, first_refusal, create_refusal, set_refusal, check_refusal, op_refusal, after_op, rows_unless_refused, after_ops, with_zxid, multi}
use Rattle.kz_spec_data.specs.Log.{Log, append, full_log, with_batch, log_unless_limit}
use Rattle.kz_spec_data.specs.Translation.{Unreadable, translate}
use Rattle.kz_spec_machine.specs.Driver.{Shared, Driver, epoch_or_zero, epoch_number, epoch_op, claim_ops, remaining_at, begin_record, begin_request, next_records, write_request, request_at, with_tree, with_log, shared_after, reaches_store, planned_step}
use Rattle.kz_spec_machine.specs.Sound.{claim_version, shown_in, IsBelowShown, Claims, SeesPresent, Looks, AtStage, IsSoundDriver}

-- ---- refusals

-- a multi whose first operation is refused
pub multi_refused : (t : Tree) (o : Op) (os : List Op) (c : ℤ) → op_refusal t.sessions o t.rows ≡ Some (code c) → multi t (o ∷ os) ≡ Err (fault.Refused 0 c)
unfolding multi
multi_refused t o os c is = ap (λ m. with_zxid t (rows_unless_refused 0 m (after_ops t.sessions (t.zxid +ℤ pos 1) 1 os (after_op (t.zxid +ℤ pos 1) o t.rows)))) is

pub tree_left : (s : Shared) (ops : List Op) (e : TreeFault) → multi s.tree ops ≡ Err e → with_tree s (multi s.tree ops) ≡ s
tree_left s ops e is = ap (with_tree s) is

third_refusal : (b : Bool) (r : Refusal) (cs : List (Bool × Refusal)) → b ≡ true → (if b then Some r else first_refusal cs) ≡ Some r
third_refusal true r cs is = refl
third_refusal false r cs is = absurd (cc)

-- `/controller_epoch` is there
pub create_refused : (sessions : List ℤ) (body : List ℕ) (rows : List Row) (r : Row) → row_at epoch_path rows ≡ Some r → create_refusal sessions epoch_path body None rows ≡ Some (code NODE_EXISTS)
create_refused sessions body rows r is =
    let limits-left : List (Bool × Refusal) = (nat_lt MAX_BODY_BYTES (length body), limit (number_of_limit limits.BodyBytes)) ∷ (nat_le MAX_ZNODES (count_beside epoch_path rows), limit (limit_beside epoch_path)) ∷ [] in
    third_refusal (is_some (row_at epoch_path rows)) (code NODE_EXISTS) ((is_ephemeral (row_at (parent_of epoch_path) rows), code NO_CHILDREN_FOR_EPHEMERALS) ∷ limits-left) (ap is_some is)

not_either : (a b : Bool) → a ≡ false → b ≡ false → not (a || b) ≡ true
not_either false false x y = refl
not_either true b x y = absurd (cc)
not_either false true x y = absurd (cc)

-- numbers that differ
differs : (a b : ℤ) (t : Bool) → int_eq a b ≡ t → a ≢ b → t ≡ false
differs a b true is other = absurd (other ((Decides-int_eq a b).0 is))
differs a b false is other = refl

below_zero : (v : ℤ) → pos 0 ≤ℤ v → v ≢ negsuc 0
below_zero v low is = absurd (omega (arith, ints, low, is))

-- it has another version
other_version : (v : ℤ) (r : Row) → pos 0 ≤ℤ v → v ≢ r.version → not (fits_version v r) ≡ true
other_version v r low other = not_either (int_eq v (negsuc 0)) (int_eq v r.version)
    (differs v (negsuc 0) (int_eq v (negsuc 0)) refl (below_zero v low))
    (differs v r.version (int_eq v r.version) refl other)

pub set_refused : (body : List ℕ) (v : ℤ) (r : Row) → pos 0 ≤ℤ v → v ≢ r.version → set_refusal body v (Some r) ≡ Some (code BAD_VERSION)
set_refused body v r low other =
    third_refusal (not (fits_version v r)) (code BAD_VERSION) ((nat_lt MAX_BODY_BYTES (length body), limit (number_of_limit limits.BodyBytes)) ∷ (int_le MAX_VERSION r.version, limit (number_of_limit limits.Version)) ∷ []) (other_version v r low other)

pub check_refused : (v : ℤ) (r : Row) → pos 0 ≤ℤ v → v ≢ r.version → check_refusal v (Some r) ≡ Some (code BAD_VERSION)
check_refused v r low other = third_refusal (not (fits_version v r)) (code BAD_VERSION) [] (other_version v r low other)

-- ---- the claim of a driver that saw something else

-- the operation of `/controller_epoch` is refused
data IsRefused (t : Tree) (o : Op) : Type 0 where
  by_code : (c : ℤ) → op_refusal t.sessions o t.rows ≡ Some (code c) → IsRefused t o

refused_left : (s : Shared) (o : Op) (os : List Op) → IsRefused s.tree o → with_tree s (multi s.tree (o ∷ os)) ≡ s
refused_left s o os (by_code c is) = tree_left s (o ∷ os) (fault.Refused 0 c) (multi_refused s.tree o os c is)

epoch_refused : (t : Tree) (seen m : Option Row) → row_at epoch_path t.rows ≡ m → ((r : Row) → seen ≡ Some r → pos 0 ≤ℤ r.version)
    → (option_map (λ (r : Row). r.version) seen ≡ option_map (λ (r : Row). r.version) m → ⊥) → IsRefused t (epoch_op seen)
epoch_refused t None None is low other = absurd (other refl)
epoch_refused t None (Some x) is low other = by_code NODE_EXISTS (create_refused t.sessions (written_epoch (pos 1)) t.rows x is)
epoch_refused t (Some r) None is low other = by_code NO_NODE (ap (set_refusal (written_epoch (epoch_number r +ℤ pos 1)) r.version) is)
epoch_refused t (Some r) (Some x) is low other = by_code BAD_VERSION
    (ap (set_refusal (written_epoch (epoch_number r +ℤ pos 1)) r.version) is ∙ set_refused (written_epoch (epoch_number r +ℤ pos 1)) r.version x (low r refl) (λ same. other (ap (λ (v : ℤ). Some v) same)))

pub less_itself : (e f : ℤ) → e <ℤ f → f ≤ℤ e → ⊥
less_itself e f less least = absurd (omega (arith, ints, less, least))

-- a driver below the shown epoch didn't see what is there
pub unseen : (t : Tree) (epoch : Option ℤ) (seen : ClaimSeen) → Looks t epoch seen → IsBelowShown (shown_in t) epoch → SeesPresent t seen → ⊥
unseen t epoch seen looks below sees = less_itself (epoch_or_zero epoch) below.0 below.2 (looks.first sees below.0 below.1)

claim_left : (s : Shared) (d : Driver) (seen : ClaimSeen) (now : ℤ) → Looks s.tree d.epoch seen → IsBelowShown (shown_in s.tree) d.epoch → with_tree s (multi s.tree (claim_ops seen d now)) ≡ s
claim_left s d seen now looks below =
    refused_left s (epoch_op seen.epoch) _ (epoch_refused s.tree seen.epoch (row_at epoch_path s.tree.rows) refl looks.version (unseen s.tree d.epoch seen looks below))

-- ---- the write of a driver whose claim isn't current

pub same_shown : (shown epoch : Option ℤ) → shown ≡ epoch → IsBelowShown shown epoch → ⊥
same_shown shown epoch is below =
    let e = below.0 in
    let own : epoch_or_zero epoch ≡ e = ap epoch_or_zero (sym is ∙ below.1) in
    less_itself (epoch_or_zero epoch) e below.2 (subst (λ (x : ℤ). e ≤ℤ x) (sym own) (itself e))
  where
    itself : (x : ℤ) → x ≤ℤ x
    itself x = omega (arith, ints)

check_by : (log_epoch v : ℤ) (t : Tree) (epoch : Option ℤ) (m : Option Row) → row_at epoch_path t.rows ≡ m → Claims log_epoch (option_map (λ (r : Row). r.version) m) (shown_in t) epoch (Some v) → IsBelowShown (shown_in t) epoch → IsRefused t (Rattle.kz_types.specs.declared.tree.Op.TheVariants.Check epoch_path v)
check_by log_epoch v t epoch None is claims below = by_code NO_NODE (ap (check_refusal v) is)
check_by log_epoch v t epoch (Some r) is claims below = by_code BAD_VERSION
    (ap (check_refusal v) is ∙ check_refused v r claims.least (λ same. same_shown (shown_in t) epoch (claims.shows (ap (λ (x : ℤ). Some x) (sym same))) below))

write_left : (s : Shared) (now : ℤ) (d : Driver) (claim : Option ℤ) (target : Recorded) → Claims s.log.epoch (claim_version s.tree) (shown_in s.tree) d.epoch claim → IsBelowShown (shown_in s.tree) d.epoch
    → shared_after s (epoch_or_zero d.epoch) now (write_request claim (remaining_at s.tree s.log target.offset) target) ≡ s
write_left s now d None target claims below = refl
write_left s now d (Some v) target claims below = refused_left s _ _ (check_by s.log.epoch v s.tree d.epoch (row_at epoch_path s.tree.rows) refl claims below)

-- ---- the append of a driver that doesn't lead

append_refused : (l : Log) (epoch now : ℤ) (records : List MetaRecord) → epoch ≢ l.epoch → append l epoch now records ≡ Err (log_fault.Stale l.epoch)
append_refused l epoch now records other =
    ap (λ (b : Bool). if b then log_unless_limit (full_log l records) (with_batch l epoch now records) else Err (log_fault.Stale l.epoch)) (differs epoch l.epoch (int_eq epoch l.epoch) refl other)

below_log : (log_epoch : ℤ) (version shown epoch claim : Option ℤ) → claim ≢ None → Claims log_epoch version shown epoch claim → IsBelowShown shown epoch → epoch_or_zero epoch ≢ log_epoch
below_log log_epoch version shown epoch None some claims below same = absurd (some refl)
below_log log_epoch version shown epoch (Some v) some claims below same =
    less_itself (epoch_or_zero epoch) below.0 below.2 (subst (λ (x : ℤ). below.0 ≤ℤ x) (sym same) (claims.within below.0 below.1))

log_left : (s : Shared) (now : ℤ) (d : Driver) (records : List MetaRecord) → d.claim ≢ None → Claims s.log.epoch (claim_version s.tree) (shown_in s.tree) d.epoch d.claim → IsBelowShown (shown_in s.tree) d.epoch
    → with_log s (append s.log (epoch_or_zero d.epoch) now records) ≡ s
log_left s now d records some claims below =
    ap (with_log s) (append_refused s.log (epoch_or_zero d.epoch) now records (below_log s.log.epoch (claim_version s.tree) (shown_in s.tree) d.epoch d.claim some claims below))

begin_left : (s : Shared) (now : ℤ) (d : Driver) (r : Result (List MetaRecord) Unreadable) → d.claim ≢ None → Claims s.log.epoch (claim_version s.tree) (shown_in s.tree) d.epoch d.claim → IsBelowShown (shown_in s.tree) d.epoch
    → shared_after s (epoch_or_zero d.epoch) now (begin_request r) ≡ s
begin_left s now d (Ok records) some claims below = log_left s now d (begin_record ∷ []) some claims below
begin_left s now d (Err e) some claims below = refl

-- ---- every stage

request_left : (s : Shared) (now : ℤ) (d : Driver) (x : Stage) → Claims s.log.epoch (claim_version s.tree) (shown_in s.tree) d.epoch d.claim → IsBelowShown (shown_in s.tree) d.epoch → AtStage s.tree s.log d x
    → shared_after s (epoch_or_zero d.epoch) now (request_at s now d x) ≡ s
request_left s now d stage.Uninitialized claims below at = refl
request_left s now d stage.Inactive claims below at = refl
request_left s now d stage.WaitForControllerQuorum claims below at = refl
request_left s now d stage.WaitForBrokers claims below at = refl
request_left s now d stage.ListBrokers claims below at = refl
request_left s now d stage.ReadControlZnodes claims below at = refl
request_left s now d (stage.ClaimLeadership seen) claims below at = claim_left s d seen now at below
request_left s now d (stage.ScanForMigration rows) claims below at = refl
request_left s now d (stage.BeginMigration rows) claims below at = begin_left s now d (translate rows) at.0.claimed claims below
request_left s now d (stage.AppendRecords records) claims below at = log_left s now d (next_records records) at.0.claimed claims below
request_left s now d stage.ReadLogForResync claims below at = refl
request_left s now d (stage.ScanForResync target rows) claims below at = refl
request_left s now d (stage.WriteResync target ops) claims below at = write_left s now d d.claim target claims below
request_left s now d stage.KraftControllerToBrokerComm claims below at = refl
request_left s now d stage.DualWrite claims below at = refl
request_left s now d (stage.WriteDelta target ops) claims below at = write_left s now d d.claim target claims below

pub either_same : (b : Bool) (x y : Shared) → x ≡ y → (if b then x else y) ≡ y
either_same true x y is = is
either_same false x y is = refl

pub fenced_driver : (p : Plan) (s : Shared) (running : List ℤ) (now : ℤ) (d : Driver) → IsSoundDriver s d → IsBelowShown (shown_in s.tree) d.epoch → (planned_step p s running now d).shared ≡ s
unfolding planned_step
fenced_driver p s running now d fine below =
    let r = request_at s now d d.stage in
    either_same (reaches_store p r) (shared_after s (epoch_or_zero d.epoch) now r) s (request_left s now d d.stage fine.claims below fine.stage)
