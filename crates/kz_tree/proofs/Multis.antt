-- A multi of a tree, by what its operations make of the znodes.
use Rattle.std.proofs.Common.{◌≡◌, ℤ, pos, true, false, List, Ok, Err, refl, sym, ap, ◌∙◌, arith}
use Rattle.std.specs.Prelude.{◌+ℤ◌, ◌<ℤ◌, ◌≤ℤ◌, int_le}
use Rattle.std.proofs.lemmas.Int.{ints}
use Rattle.kz_types.specs.declared.limits.TheConstants.{MAX_LONG}
use Rattle.kz_types.specs.declared.limits.Limit.TheVariants as limits
use Rattle.kz_types.specs.Limits.{number_of_limit}
use Rattle.kz_types.specs.declared.tree.Row.{Row}
use Rattle.kz_types.specs.declared.tree.Op.{Op}
use Rattle.kz_types.specs.declared.fault.TreeFault.{TreeFault}
use Rattle.kz_types.specs.declared.fault.TreeFault.TheVariants as fault
use Rattle.kz_spec_data.specs.Tree.{Tree, after_ops, multi, with_zxid}
use Rattle.kz_tree.specs.Refusals.{IsMultiFaultOf}
use Rattle.kz_tree.specs.declared.faults.MultiFault.{MultiFault}
use Rattle.kz_tree.specs.declared.faults.MultiFault.TheVariants as multi_fault
use Rattle.kz_tree.proofs.Zxids.{refused_whatever, accepted_whatever}

not_full : (z : ℤ) → z <ℤ MAX_LONG → int_le MAX_LONG z ≡ false
not_full z h = grind (arith, ints)

full : (z : ℤ) → MAX_LONG ≤ℤ z → int_le MAX_LONG z ≡ true
full z h = grind (arith, ints)

pub multi_done : (t : Tree) (ops : List Op) (rows : List Row) (z : ℤ) → t.zxid <ℤ MAX_LONG → z ≡ t.zxid +ℤ pos 1 → after_ops t.sessions z 0 ops t.rows ≡ Ok rows
    → multi t ops ≡ Ok (record { zxid = z; sessions = t.sessions; rows = rows })
unfolding multi
multi_done t ops rows z small e is =
    ap (with_zxid t) (ap (λ y. after_ops t.sessions y 0 ops t.rows) (sym e) ∙ is) ∙ rw (not_full t.zxid small) (ap (λ y. Ok (record { zxid = y; sessions = t.sessions; rows = rows })) (sym e))

pub multi_refused : (t : Tree) (ops : List Op) (z : ℤ) (e : TreeFault) → after_ops t.sessions z 0 ops t.rows ≡ Err e → multi t ops ≡ Err e
unfolding multi
multi_refused t ops z e is = ap (with_zxid t) (refused_whatever t.sessions z (t.zxid +ℤ pos 1) ops t.rows e is)

pub multi_fault_of : (t : Tree) (ops : List Op) (z : ℤ) (e : MultiFault) → IsMultiFaultOf (after_ops t.sessions z 0 ops t.rows) e → IsMultiFaultOf (multi t ops) e
multi_fault_of t ops z (multi_fault.Refused index c) h = multi_refused t ops z (fault.Refused index c) h
multi_fault_of t ops z (multi_fault.Limit index n) h = multi_refused t ops z (fault.Limit index n) h
multi_fault_of t ops z multi_fault.NoMemory h = h

pub multi_full : (t : Tree) (ops : List Op) (rows : List Row) (z : ℤ) → MAX_LONG ≤ℤ t.zxid → after_ops t.sessions z 0 ops t.rows ≡ Ok rows → multi t ops ≡ Err (fault.Limit 0 (number_of_limit limits.Long))
unfolding multi
multi_full t ops rows z large is =
    let other = accepted_whatever t.sessions z (t.zxid +ℤ pos 1) ops rows t.rows is in
    ap (with_zxid t) other.1 ∙ rw (full t.zxid large) refl
