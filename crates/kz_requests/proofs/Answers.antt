-- What the definitions of the tree and of the log answer is done or refused.
use Rattle.std.proofs.Common.{◌≡◌, ℕ, ◌+◌, ℤ, Bool, true, false, List, [], ◌∷◌, Option, Some, None, Result, Ok, Err, refl, sym, subst}
use Rattle.std.specs.Prelude.{◌+ℤ◌, pos, int_le, if◌then◌else◌, IfErr}
use Rattle.std.specs.Ordering.{int_eq}
use Rattle.kz_types.specs.declared.limits.TheConstants.{MAX_LONG}
use Rattle.kz_types.specs.declared.tree.Row.{Row}
use Rattle.kz_types.specs.declared.tree.Op.{Op}
use Rattle.kz_types.specs.declared.fault.TreeFault.{TreeFault}
use Rattle.kz_types.specs.declared.fault.TreeFault.TheVariants as tree_fault
use Rattle.kz_types.specs.declared.fault.LogFault.{LogFault}
use Rattle.kz_types.specs.declared.fault.LogFault.TheVariants as log_fault
use Rattle.kz_types.specs.declared.record.MetaRecord.{MetaRecord}
use Rattle.kz_spec_data.specs.Tree.{Tree, Refusal, code, limit, op_refusal, rows_unless_refused, after_op, after_ops, multi, with_zxid}
use Rattle.kz_spec_data.specs.Log.{Log, View, IsLog, IsViewOf, append, log_unless_limit, full_log, with_batch}
use Rattle.kz_spec_data.specs.Requests.{answer_by, answer_of_tree_fault, answer_of_log_fault}
use Rattle.kz_spec_machine.specs.Failures.{is_tree_failure, is_log_failure}
use Rattle.kz_log.proofs.Views.{append_leaves_views}
use Rattle.kz_requests.specs.Appends.{log_after}
use Rattle.kz_requests.specs.Disks.{answer_of_made}

abbrev pub IsTreeAnswer : {A : Type 0} → Result A TreeFault → Type 0
IsTreeAnswer r = IfErr r (λ f. is_tree_failure f ≡ false)

abbrev pub IsLogAnswer : {A : Type 0} → Result A LogFault → Type 0
IsLogAnswer r = IfErr r (λ f. is_log_failure f ≡ false)

refused_answers : (index : ℕ) (r : Option Refusal) (rest : Result (List Row) TreeFault) → IsTreeAnswer rest → IsTreeAnswer (rows_unless_refused index r rest)
refused_answers index None rest h = h
refused_answers index (Some (code c)) rest h = refl
refused_answers index (Some (limit n)) rest h = refl

ops_answer : (sessions : List ℤ) (zxid : ℤ) (index : ℕ) (ops : List Op) (rows : List Row) → IsTreeAnswer (after_ops sessions zxid index ops rows)
ops_answer sessions zxid index [] rows = tt
ops_answer sessions zxid index (o ∷ os) rows = refused_answers index (op_refusal sessions o rows) (after_ops sessions zxid (index + 1) os (after_op zxid o rows)) (ops_answer sessions zxid (index + 1) os (after_op zxid o rows))

chosen_answer : {A : Type 0} (b : Bool) (x y : Result A TreeFault) → IsTreeAnswer x → IsTreeAnswer y → IsTreeAnswer (if b then x else y)
chosen_answer true x y h k = h
chosen_answer false x y h k = k

zxid_answers : (t : Tree) (r : Result (List Row) TreeFault) → IsTreeAnswer r → IsTreeAnswer (with_zxid t r)
zxid_answers t (Err e) h = h
zxid_answers t (Ok rows) h = chosen_answer (int_le MAX_LONG t.zxid) _ _ refl tt

pub multi_answers : (t : Tree) (ops : List Op) → IsTreeAnswer (multi t ops)
unfolding multi
multi_answers t ops = zxid_answers t (after_ops t.sessions (t.zxid +ℤ pos 1) 0 ops t.rows) (ops_answer t.sessions (t.zxid +ℤ pos 1) 0 ops t.rows)

added_answers : (o : Option ℕ) (l : Log) → IsLogAnswer (log_unless_limit o l)
added_answers None l = tt
added_answers (Some n) l = refl

chosen_log_answer : (b : Bool) (x y : Result Log LogFault) → IsLogAnswer x → IsLogAnswer y → IsLogAnswer (if b then x else y)
chosen_log_answer true x y h k = h
chosen_log_answer false x y h k = k

pub append_answers : (l : Log) (epoch now : ℤ) (items : List MetaRecord) → IsLogAnswer (append l epoch now items)
append_answers l epoch now items = chosen_log_answer (int_eq epoch l.epoch) (log_unless_limit (full_log l items) (with_batch l epoch now items)) (Err (log_fault.Stale l.epoch)) (added_answers (full_log l items) (with_batch l epoch now items)) refl

tree_answer_made : (r : Result Tree TreeFault) → IsTreeAnswer r → answer_by answer_of_tree_fault r ≡ answer_of_made r
tree_answer_made (Ok t) h = refl
tree_answer_made (Err (tree_fault.Refused index c)) h = refl
tree_answer_made (Err (tree_fault.Limit index n)) h = refl
tree_answer_made (Err tree_fault.NoMemory) h = absurd (cc)
tree_answer_made (Err tree_fault.Device) h = absurd (cc)
tree_answer_made (Err tree_fault.Down) h = absurd (cc)
tree_answer_made (Err (tree_fault.Full n)) h = absurd (cc)

pub multi_made : (t : Tree) (ops : List Op) → answer_by answer_of_tree_fault (multi t ops) ≡ answer_of_made (multi t ops)
multi_made t ops = tree_answer_made (multi t ops) (multi_answers t ops)

log_answer_made : (r : Result Log LogFault) → IsLogAnswer r → answer_by answer_of_log_fault r ≡ answer_of_made r
log_answer_made (Ok l) h = refl
log_answer_made (Err (log_fault.Stale epoch)) h = refl
log_answer_made (Err (log_fault.Limit n)) h = refl
log_answer_made (Err log_fault.NoMemory) h = absurd (cc)
log_answer_made (Err log_fault.Failed) h = absurd (cc)
log_answer_made (Err log_fault.Down) h = absurd (cc)
log_answer_made (Err (log_fault.Full n)) h = absurd (cc)

pub append_made : (l : Log) (epoch now : ℤ) (items : List MetaRecord) → answer_by answer_of_log_fault (append l epoch now items) ≡ answer_of_made (append l epoch now items)
append_made l epoch now items = log_answer_made (append l epoch now items) (append_answers l epoch now items)

-- ---- views of a log that an append was made on, or was refused on

views_by : (l : Log) (v : View) (epoch now : ℤ) (items : List MetaRecord) (r : Result Log LogFault) → append l epoch now items ≡ r → IsLog l → IsViewOf l v → IsViewOf (log_after r l) v
views_by l v epoch now items (Ok new) is k h = append_leaves_views l new v epoch now items k h is
views_by l v epoch now items (Err f) is k h = h

chosen_view : (b : Bool) (x y : Log) (v : View) → IsViewOf x v → IsViewOf y v → IsViewOf (if b then x else y) v
chosen_view true x y v h k = h
chosen_view false x y v h k = k

-- a view of a log is one of the log after an append, whether it arrived or not
pub views_after : (b : Bool) (l new : Log) (v : View) (epoch now : ℤ) (items : List MetaRecord) → IsLog l → new ≡ (if b then log_after (append l epoch now items) l else l) → IsViewOf l v → IsViewOf new v
views_after b l new v epoch now items k is h =
    let r = append l epoch now items in
    subst (λ (x : Log). IsViewOf x v) (sym is) (chosen_view b (log_after r l) l v (views_by l v epoch now items r refl k h) h)
