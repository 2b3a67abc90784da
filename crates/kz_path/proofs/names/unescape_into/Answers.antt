use Rattle.std.proofs.Common.{◌+◌, ◌*◌, ◌∙◌, ◌++◌, ◌∷◌, [], inl, inr, arith, refl}
use Rattle.std.proofs.lemmas.Bool.{ne_eqb, eq-eqb}
use Rattle.kz_types.proofs.NameLemmas.{unescaped_one, unescaped_three, unescaped_step, unescaped_done}
use Rattle.kz_path.proofs.NameBuffers.{past_end}
use Rattle.kz_path.proofs.names.unescape_into.Goals as goal
use Rattle.kz_path.proofs.names.unescape_into.Goals.{else-part-at-eq37-via-then-part-at-eq37+else-part-at-gt2, else-part-at-eq37-via-else-part-at-eq37}

pub returns-then-not-push-clause-too_long : goal.returns-then-not-push-clause-too_long
returns-then-not-push-clause-too_long c is =
    past_end c.args.part.now c.loop-at.buffer _ c.loop-at.at (c.loop-at.at + 3) (unescaped_three c.args.part.now c.loop-at.at c.if-part-at-gt2.true (eq-eqb _ 37 c.if-part-at-eq37.true)) c.loop-at.invariant.left
    (c.if-not-push.ensures.too_long refl)

pub loop-at-preserved-then-part-at-gt2 : goal.loop-at-preserved-then-part-at-gt2
loop-at-preserved-then-part-at-gt2 c = record {
  inside = let more = c.if-part-at-gt2.true in omega arith;
  left = unescaped_step c.args.part.now c.loop-at.buffer c.push.new.self _ c.loop-at.at (c.loop-at.at + 3)
      (unescaped_three c.args.part.now c.loop-at.at c.if-part-at-gt2.true (eq-eqb _ 37 c.if-part-at-eq37.true)) c.loop-at.invariant.left
      (c.if-not-push.ensures.added refl ∙ (λ i. c.loop-at.buffer ++ (c.hex_value.ensures.value i * 16 + c.hex_value-then-part-at-gt2.ensures.value i) ∷ []));
}

pub returns-then-not-push-2-clause-too_long : goal.returns-then-not-push-2-clause-too_long
returns-then-not-push-2-clause-too_long c is =
    past_end c.args.part.now c.loop-at.buffer _ c.loop-at.at (c.loop-at.at + 1) (unescaped_one c.args.part.now c.loop-at.at c.loop-at-test.true (elim c.else-part-at-eq37.branch [
      | else-part-at-eq37-via-then-part-at-eq37+else-part-at-gt2 w ↦ inr w.if-part-at-gt2.false
      | else-part-at-eq37-via-else-part-at-eq37 w ↦ inl (ne_eqb _ 37 w.if-part-at-eq37.false)
    ])) c.loop-at.invariant.left (c.if-not-push-2.ensures.too_long refl)

pub loop-at-preserved : goal.loop-at-preserved
loop-at-preserved c = record {
  inside = let more = c.loop-at-test.true in omega arith;
  left = unescaped_step c.args.part.now c.loop-at.buffer c.push-else-part-at-eq37.new.self _ c.loop-at.at (c.loop-at.at + 1)
      (unescaped_one c.args.part.now c.loop-at.at c.loop-at-test.true (elim c.else-part-at-eq37.branch [
        | else-part-at-eq37-via-then-part-at-eq37+else-part-at-gt2 w ↦ inr w.if-part-at-gt2.false
        | else-part-at-eq37-via-else-part-at-eq37 w ↦ inl (ne_eqb _ 37 w.if-part-at-eq37.false)
      ])) c.loop-at.invariant.left (c.if-not-push-2.ensures.added refl);
}

pub returns-clause-put : goal.returns-clause-put
returns-clause-put c is = unescaped_done c.args.part.now c.loop-at.buffer c.loop-at.at c.loop-at-test.false c.loop-at.invariant.left
