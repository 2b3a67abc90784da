-- A multi, operation after operation.
use Rattle.std.proofs.Common.{◌≡◌, ◌<◌, ◌≤◌, ◌+◌, ℕ, suc, ℤ, List, ◌∷◌, length, get_or, drop, Some, None, Result, Ok, sym, ap, ◌∙◌, refl, drop-cons, add-one}
use Rattle.std.proofs.lemmas.List.{drop_all}
use Rattle.kz_types.specs.declared.tree.Row.{Row}
use Rattle.kz_types.specs.declared.tree.Op.{Op}
use Rattle.kz_types.specs.declared.fault.TreeFault.{TreeFault}
use Rattle.kz_spec_data.specs.Tree.{Refusal, code, limit, op_refusal, after_op, after_ops, rows_unless_refused}
use Rattle.kz_tree.specs.Kept.{AreRows}
use Rattle.kz_tree.proofs.Kept.{rises_after_op}

-- the operations from an index on, on the znodes that those before it made, give what all give
pub record GoesOn (sessions : List ℤ) (zxid : ℤ) (ops : List Op) (first : List Row) (index : ℕ) (rows : List Row) : Type 0 where
  pub same : after_ops sessions zxid index (drop index ops) rows ≡ after_ops sessions zxid 0 ops first
  pub rise : AreRows rows

at_op : (sessions : List ℤ) (zxid : ℤ) (ops : List Op) (index : ℕ) (rows : List Row) (o : Op) → index < length ops → o ≡ get_or ops index o
    → after_ops sessions zxid index (drop index ops) rows ≡ rows_unless_refused index (op_refusal sessions o rows) (after_ops sessions zxid (index + 1) (drop (index + 1) ops) (after_op zxid o rows))
at_op sessions zxid ops index rows o within is =
    ap (λ os. after_ops sessions zxid index os rows) (drop-cons ops index o within ∙ ap (λ x. x ∷ drop (suc index) ops) (sym is))
    ∙ ap (λ n. rows_unless_refused index (op_refusal sessions o rows) (after_ops sessions zxid (index + 1) (drop n ops) (after_op zxid o rows))) (sym (add-one index))

pub op_accepted : (sessions : List ℤ) (zxid : ℤ) (ops : List Op) (first : List Row) (index : ℕ) (rows next : List Row) (o : Op) → GoesOn sessions zxid ops first index rows
    → index < length ops → o ≡ get_or ops index o → op_refusal sessions o rows ≡ None → next ≡ after_op zxid o rows → GoesOn sessions zxid ops first (index + 1) next
op_accepted sessions zxid ops first index rows next o h within is none e =
    let step = at_op sessions zxid ops index rows o within is in
    rw e (record {
      same = ap (λ r. rows_unless_refused index r (after_ops sessions zxid (index + 1) (drop (index + 1) ops) (after_op zxid o rows))) (sym none) ∙ sym step ∙ h.same;
      rise = rises_after_op zxid o rows h.rise;
    })

same_fault : (index : ℕ) (why : Refusal) (a b : Result (List Row) TreeFault) → rows_unless_refused index (Some why) a ≡ rows_unless_refused index (Some why) b
same_fault index (code c) a b = refl
same_fault index (limit n) a b = refl

pub op_refused : (sessions : List ℤ) (zxid : ℤ) (ops : List Op) (first : List Row) (index : ℕ) (rows : List Row) (o : Op) (why : Refusal) (other : Result (List Row) TreeFault) → GoesOn sessions zxid ops first index rows
    → index < length ops → o ≡ get_or ops index o → Some why ≡ op_refusal sessions o rows → after_ops sessions zxid 0 ops first ≡ rows_unless_refused index (Some why) other
op_refused sessions zxid ops first index rows o why other h within is some =
    let rest = after_ops sessions zxid (index + 1) (drop (index + 1) ops) (after_op zxid o rows) in
    sym h.same ∙ at_op sessions zxid ops index rows o within is ∙ ap (λ r. rows_unless_refused index r rest) (sym some) ∙ same_fault index why rest other

pub all_accepted : (sessions : List ℤ) (zxid : ℤ) (ops : List Op) (first : List Row) (index : ℕ) (rows : List Row) → GoesOn sessions zxid ops first index rows → length ops ≤ index → after_ops sessions zxid 0 ops first ≡ Ok rows
all_accepted sessions zxid ops first index rows h all = sym h.same ∙ ap (λ os. after_ops sessions zxid index os rows) (drop_all index ops all)
