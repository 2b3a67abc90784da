-- The operation that a limit of a multi names is one of them.
use Rattle.std.proofs.Common.{◌≡◌, ℕ, suc, ◌+◌, ◌<◌, ℤ, Bool, true, false, cond, List, [], ◌∷◌, length, Option, Some, None, Result, Ok, Err, ap, ◌∙◌, arith}
use Rattle.std.specs.Prelude.{◌+ℤ◌, pos, int_le}
use Rattle.kz_types.specs.declared.limits.TheConstants.{MAX_LONG}
use Rattle.kz_types.specs.declared.tree.Row.{Row}
use Rattle.kz_types.specs.declared.tree.Op.{Op}
use Rattle.kz_types.specs.declared.fault.TreeFault.{TreeFault}
use Rattle.kz_types.specs.declared.fault.TreeFault.TheVariants as fault
use Rattle.kz_spec_data.specs.Tree.{Tree, Refusal, code, limit, op_refusal, rows_unless_refused, after_op, after_ops, multi, with_zxid}

abbrev index_of : {A : Type 0} → ℕ → Result A TreeFault → ℕ
index_of d (Err (fault.Limit j n)) = j
index_of d other = d

here_or_later : (index len : ℕ) (r : Option Refusal) (rest : Result (List Row) TreeFault) (j n : ℕ) → (rest ≡ Err (fault.Limit j n) → j < index + suc len) → rows_unless_refused index r rest ≡ Err (fault.Limit j n) → j < index + suc len
here_or_later index len None rest j n later e = later e
here_or_later index len (Some (code c)) rest j n later e = absurd (cc)
here_or_later index len (Some (limit m)) rest j n later e =
    let same : index ≡ j = ap (index_of index) e in
    omega (arith, same)

within : (sessions : List ℤ) (zxid : ℤ) (index : ℕ) (ops : List Op) (rows : List Row) (j : ℕ) (n : ℕ) → after_ops sessions zxid index ops rows ≡ Err (fault.Limit j n) → j < index + length ops
within sessions zxid index [] rows j n h = absurd (cc)
within sessions zxid index (o ∷ os) rows j n h =
    here_or_later index (length os) (op_refusal sessions o rows) (after_ops sessions zxid (index + 1) os (after_op zxid o rows)) j n
    (λ e. omega (arith, within sessions zxid (index + 1) os (after_op zxid o rows) j n e)) h

abbrev rows_of : Result Tree TreeFault → Result (List Row) TreeFault
rows_of (Ok t) = Ok []
rows_of (Err f) = Err f

full_or_not : (ops : List Op) (j n : ℕ) (b : Bool) (new : Tree) → 0 < length ops → cond b (Err (fault.Limit 0 17)) (Ok new) ≡ Err (fault.Limit j n) → j < length ops
full_or_not ops j n true new some e = let same : 0 ≡ j = ap (index_of 0) e in omega (arith, same, some)
full_or_not ops j n false new some e = absurd (cc)

by_rows : (t : Tree) (ops : List Op) (j n : ℕ) (r : Result (List Row) TreeFault) → 0 < length ops → (r ≡ Err (fault.Limit j n) → j < length ops) → with_zxid t r ≡ Err (fault.Limit j n) → j < length ops
by_rows t ops j n (Ok rows) some ran e = full_or_not ops j n (int_le MAX_LONG t.zxid) (record { zxid = t.zxid +ℤ pos 1; sessions = t.sessions; rows = rows }) some e
by_rows t ops j n (Err f) some ran e = ran (ap rows_of e)

-- where there is an operation
pub limit_within : (t : Tree) (ops : List Op) (j n : ℕ) → 0 < length ops → multi t ops ≡ Err (fault.Limit j n) → j < length ops
unfolding multi
limit_within t ops j n some h =
    by_rows t ops j n (after_ops t.sessions (t.zxid +ℤ pos 1) 0 ops t.rows) some (λ e. omega (arith, within t.sessions (t.zxid +ℤ pos 1) 0 ops t.rows j n e)) h

-- whatever limit a fault is
pub limit_told : (t : Tree) (ops : List Op) (j n : ℕ) → 0 < length ops → multi t ops ≡ Err (fault.Limit j n) → (index number : ℕ) → fault.Limit j n ≡ fault.Limit index number → index < length ops
limit_told t ops j n some h index number is = limit_within t ops index number some (h ∙ ap Err is)
