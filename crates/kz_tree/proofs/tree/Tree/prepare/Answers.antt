use Rattle.std.proofs.Common.{rules, Ok, Err, ◌≡◌, ℤ, pos, sym, ap, ◌∙◌, arith, to_z, of_z, w64, to_z-of_z, SFits, subst}
use Rattle.std.specs.Prelude.{◌+ℤ◌, ◌<ℤ◌, ◌≤ℤ◌}
use Rattle.std.proofs.lemmas.Int.{ints}
use Rattle.kz_types.specs.declared.limits.TheConstants.{MAX_LONG}
use Rattle.kz_types.specs.declared.fault.TreeFault.TheVariants as fault
use Rattle.kz_spec_data.specs.Tree.{Tree}
use Rattle.kz_spec_data.specs.Requests.{Multi}
use Rattle.kz_tree.proofs.Moves.{below}
use Rattle.kz_tree.proofs.Multis.{multi_done, multi_fault_of, multi_full}
use Rattle.kz_tree.proofs.tree.Tree.prepare.Goals as goal

pub returns-in-Err-clause-err : goal.returns-in-Err-clause-err
returns-in-Err-clause-err c =
    let sessions : c.self.inside.sessions.items ≡ c.args.self.now.sessions = ap (λ (t : Tree). t.sessions) c.self.view_is in
    let rows : c.self.inside.rows ≡ c.args.self.now.rows = ap (λ (t : Tree). t.rows) c.self.view_is in
    multi_fault_of c.args.self.now c.args.ops.now _ c.in-Err.fault (rw (c.deref-2.ensures.value, sessions, c.in-Ok.ensures, rows) at c.in-Err.ensures.err)

pub returns-then-self-eq-MAX_LONG-clause-err : goal.returns-then-self-eq-MAX_LONG-clause-err
returns-then-self-eq-MAX_LONG-clause-err c =
    let sessions : c.self.inside.sessions.items ≡ c.args.self.now.sessions = ap (λ (t : Tree). t.sessions) c.self.view_is in
    let rows : c.self.inside.rows ≡ c.args.self.now.rows = ap (λ (t : Tree). t.rows) c.self.view_is in
    let zxid : c.self.inside.zxid ≡ c.args.self.now.zxid = ap (λ (t : Tree). t.zxid) c.self.view_is in
    let large : MAX_LONG ≤ℤ c.args.self.now.zxid = omega (arith, ints, zxid, c.if-self-eq-MAX_LONG.true) in
    multi_full c.args.self.now c.args.ops.now c.in-Ok-after_ops.rows _ large (rw (c.deref-2.ensures.value, sessions, c.in-Ok.ensures, rows) at c.in-Ok-after_ops.ensures.ok)
    ∙ ap (λ n. Err (fault.Limit 0 n)) (sym c.number.ensures)

pub returns-clause-ok : goal.returns-clause-ok
returns-clause-ok c =
    let sessions : c.self.inside.sessions.items ≡ c.args.self.now.sessions = ap (λ (t : Tree). t.sessions) c.self.view_is in
    let rows : c.self.inside.rows ≡ c.args.self.now.rows = ap (λ (t : Tree). t.rows) c.self.view_is in
    let zxid : c.self.inside.zxid ≡ c.args.self.now.zxid = ap (λ (t : Tree). t.zxid) c.self.view_is in
    let fits : SFits w64 c.self.inside.zxid = search rules in
    let next_fits : SFits w64 c.next_zxid-zxid.result = search rules in
    let small : c.args.self.now.zxid <ℤ MAX_LONG = subst (λ (z : ℤ). z <ℤ MAX_LONG) zxid (below c.self.inside.zxid fits c.if-self-eq-MAX_LONG.false) in
    let next : to_z w64 (of_z w64 c.next_zxid-zxid.result) ≡ c.args.self.now.zxid +ℤ pos 1 = to_z-of_z next_fits ∙ c.next_zxid-zxid.ensures small in
    let copied : c.in-Ok-copy_all.sessions.items ≡ c.args.self.now.sessions = c.in-Ok-copy_all.ensures ∙ c.deref.ensures.value ∙ sessions in
    multi_done c.args.self.now c.args.ops.now c.in-Ok-after_ops.rows (to_z w64 (of_z w64 c.next_zxid-zxid.result)) small next
    (rw (c.deref-2.ensures.value, sessions, c.in-Ok.ensures, rows) at c.in-Ok-after_ops.ensures.ok)
    ∙ ap (λ (t : Tree). Ok t) (ap (λ s. record { zxid = to_z w64 (of_z w64 c.next_zxid-zxid.result); sessions = s; rows = c.in-Ok-after_ops.rows }) (sym copied) ∙ sym c.new.ensures)

pub returns-clause-made : goal.returns-clause-made
returns-clause-made c = (Multi c.args.ops.now, returns-clause-ok c)
