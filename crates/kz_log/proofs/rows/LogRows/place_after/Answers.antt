use Rattle.std.proofs.Common.{◌≡◌, ◌-◌, sym, subst, suc, drop, filter, to_z, of_z, w64, rules, arith}
use Rattle.std.proofs.lemmas.Int.{to_z-of_z}
use mir.Val.{SFits}
use Rattle.kz_spec_data.specs.Log.{Log, begins_after}
use Rattle.kz_log.proofs.Batches.{is_at_most, none_later}
use Rattle.kz_log.proofs.rows.LogRows.place_after.Goals as goal

pub returns-then-index-after-clause-place : goal.returns-then-index-after-clause-place
returns-then-index-after-clause-place c =
    let bs = c.self.inside.batches.items in
    let place = c.loop-place.place in
    let b = c.index.result.now in
    let some = c.loop-place-test.true in
    let low = c.loop-place.invariant.low in
    let is : place ≡ suc (place - 1) = omega (arith, some) in
    let after_is = to_z-of_z w64 c.args.after c.ranges.after in
    let fits : SFits w64 b.first = search rules in
    let after = to_z w64 (of_z w64 c.args.after) in
    let le = is_at_most b.first after fits c.if-index-after.true in
    let rest = subst (λ n. drop n bs ≡ filter (begins_after after) (drop n bs)) is c.loop-place.invariant.following in
    let all = none_later c.self.inside.base after bs (place - 1) b c.self.invariant.0.follow (omega (arith, some, low)) c.index.ensures le rest in
    subst (λ (l : Log). drop place l.batches ≡ filter (begins_after c.args.after) l.batches) c.self.view_is
    (subst (λ o. drop place bs ≡ filter (begins_after o) bs) after_is (subst (λ n. drop n bs ≡ filter (begins_after after) bs) (sym is) all))
