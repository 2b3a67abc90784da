use Rattle.std.proofs.Common.{rules, Err, ◌≡◌, ℤ, pos, sym, ap, ◌∙◌, arith, to_z, of_z, w64, to_z-of_z, SFits, subst}
use Rattle.std.specs.Prelude.{◌+ℤ◌, ◌<ℤ◌, ◌≤ℤ◌}
use Rattle.std.proofs.lemmas.Int.{ints}
use Rattle.kz_types.specs.declared.limits.TheConstants.{MAX_LONG}
use Rattle.kz_types.specs.declared.move_fault.MoveFault.TheVariants as fault
use Rattle.kz_spec_data.specs.Tree.{Tree}
use Rattle.kz_spec_data.specs.Requests.{EndSession}
use Rattle.kz_tree.proofs.Moves.{end_unknown, end_full, end_made, below}
use Rattle.kz_tree.proofs.tree.Tree.prepare_end.Goals as goal

pub returns-then-not-is_live-clause-err : goal.returns-then-not-is_live-clause-err
returns-then-not-is_live-clause-err c =
    let sessions : c.deref.result.now ≡ c.args.self.now.sessions = c.deref.ensures.value ∙ ap (λ (t : Tree). t.sessions) c.self.view_is in
    end_unknown c.args.self.now c.args.session (sym (rw (to_z-of_z c.ranges.session, sessions) at c.is_live.ensures) ∙ c.if-not-is_live.true)

pub returns-then-self-eq-MAX_LONG-clause-err : goal.returns-then-self-eq-MAX_LONG-clause-err
returns-then-self-eq-MAX_LONG-clause-err c =
    let sessions : c.deref.result.now ≡ c.args.self.now.sessions = c.deref.ensures.value ∙ ap (λ (t : Tree). t.sessions) c.self.view_is in
    let zxid : c.self.inside.zxid ≡ c.args.self.now.zxid = ap (λ (t : Tree). t.zxid) c.self.view_is in
    let large : MAX_LONG ≤ℤ c.args.self.now.zxid = omega (arith, ints, zxid, c.if-self-eq-MAX_LONG.true) in
    end_full c.args.self.now c.args.session (sym (rw (to_z-of_z c.ranges.session, sessions) at c.is_live.ensures) ∙ c.if-not-is_live.false) large
    ∙ ap (λ n. Err (fault.Limit n)) (sym c.number.ensures)

pub returns-clause-ok : goal.returns-clause-ok
returns-clause-ok c =
    let sessions : c.deref.result.now ≡ c.args.self.now.sessions = c.deref.ensures.value ∙ ap (λ (t : Tree). t.sessions) c.self.view_is in
    let old_sessions : c.deref-2.result.now ≡ c.args.self.now.sessions = c.deref-2.ensures.value ∙ ap (λ (t : Tree). t.sessions) c.self.view_is in
    let old_rows : c.self.inside.rows ≡ c.args.self.now.rows = ap (λ (t : Tree). t.rows) c.self.view_is in
    let zxid : c.self.inside.zxid ≡ c.args.self.now.zxid = ap (λ (t : Tree). t.zxid) c.self.view_is in
    let fits : SFits w64 c.self.inside.zxid = search rules in
    let next_fits : SFits w64 c.next_zxid-zxid.result = search rules in
    let small : c.args.self.now.zxid <ℤ MAX_LONG = subst (λ (z : ℤ). z <ℤ MAX_LONG) zxid (below c.self.inside.zxid fits c.if-self-eq-MAX_LONG.false) in
    let next : to_z w64 (of_z w64 c.next_zxid-zxid.result) ≡ c.args.self.now.zxid +ℤ pos 1 = to_z-of_z next_fits ∙ c.next_zxid-zxid.ensures small in
    end_made c.args.self.now c.new.result c.args.session (to_z w64 (of_z w64 c.next_zxid-zxid.result)) c.in-Ok.sessions.items c.in-Ok-without_owned.rows
    (sym (rw (to_z-of_z c.ranges.session, sessions) at c.is_live.ensures) ∙ c.if-not-is_live.false) small next (rw (to_z-of_z c.ranges.session, old_sessions) at c.in-Ok.ensures.value) (rw (to_z-of_z c.ranges.session, old_rows) at c.in-Ok-without_owned.ensures.value) c.new.ensures

pub returns-clause-made : goal.returns-clause-made
returns-clause-made c = (EndSession c.args.session, returns-clause-ok c)
