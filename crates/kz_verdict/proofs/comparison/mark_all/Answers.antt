use Rattle.std.proofs.Common.{rules, ◌≡◌, ◌-◌, ◌<◌, ◌≤◌, [], ◌∷◌, length, drop, get_or, map, sym, ◌∙◌, ap, arith, w64, to_z, of_z}
use Rattle.std.proofs.lemmas.Int.{to_z-of_z}
use mir.Val.{SFits}
use Rattle.kz_spec_data.specs.Log.{batch_ends}
use Rattle.kz_verdict.specs.Agreement.{found_among}
use Rattle.kz_verdict.proofs.Agreements.{ends_more}
use Rattle.kz_verdict.proofs.comparison.mark_all.Goals as goal

pub loop-done-preserved : goal.loop-done-preserved
loop-done-preserved c =
    let l = c.args.log.now in
    let es = batch_ends l in
    let offset = to_z w64 (of_z w64 c.args.offset) in
    let done = c.loop-done.done in
    let end = c.index-end.result.now in
    let fits : SFits w64 end = search rules in
    let items_are = c.in_ok-ends.ensures in
    let len = ap length items_are in
    let count_is : c.len-count.result ≡ length es = omega (arith, c.len-count.ensures, c.in_ok-ends.ends.ok.0, len) in
    let lt : done < c.len-count.result = c.loop-done-test.true in
    let within : done < length es = omega (arith, lt, count_is) in
    let is = c.index-end.ensures ∙ ap (λ xs. get_or xs (c.len-count.result - 1 - done) end) items_are ∙ ap (λ n. get_or es (n - 1 - done) end) count_is in
    λ paths start.
    c.in_ok-mark_end.ensures (drop (length es - done) es) paths (c.loop-done.invariant paths start)
    ∙ ap (λ xs. map (found_among c.args.area.now l offset xs) paths) (ap (λ x. x ∷ drop (length es - done) es) (to_z-of_z w64 end fits) ∙ ends_more es done end within is)

pub returns : goal.returns
returns c =
    let l = c.args.log.now in
    let es = batch_ends l in
    let there = c.args.area.now in
    let offset_is = to_z-of_z w64 c.args.offset c.ranges.offset in
    let offset = to_z w64 (of_z w64 c.args.offset) in
    let done = c.loop-done.done in
    let len = ap length c.in_ok-ends.ensures in
    let count_is : c.len-count.result ≡ length es = omega (arith, c.len-count.ensures, c.in_ok-ends.ends.ok.0, len) in
    let past : c.len-count.result ≤ done = c.loop-done-test.false in
    let none_left : length es - done ≡ 0 = omega (arith, past, count_is) in
    λ paths start.
    c.loop-done.invariant paths (start ∙ ap (λ x. map (found_among there l x []) paths) (sym offset_is))
    ∙ ap (λ n. map (found_among there l offset (drop n es)) paths) none_left ∙ ap (λ x. map (found_among there l x es) paths) offset_is
