use Rattle.std.proofs.Common.{◌+◌, ◌*◌, ◌∙◌, ◌++◌, ◌∷◌, [], inl, inr, arith}
use Rattle.std.proofs.lemmas.Bool.{ne_eqb, eq-eqb}
use Rattle.kz_types.proofs.NameLemmas.{unescaped_one, unescaped_three, unescaped_step, unescaped_done}
use Rattle.kz_path.proofs.names.unescape.Goals as goal
use Rattle.kz_path.proofs.names.unescape.Goals.{else-part-at-eq37-via-then-part-at-eq37+else-part-at-gt2, else-part-at-eq37-via-else-part-at-eq37}

pub loop-at-preserved-then-part-at-gt2 : goal.loop-at-preserved-then-part-at-gt2
loop-at-preserved-then-part-at-gt2 c = record {
  inside = let more = c.if-part-at-gt2.true in omega arith;
  left = unescaped_step c.args.part.now c.loop-at.bytes.items c.push.new.self.items _ c.loop-at.at (c.loop-at.at + 3)
      (unescaped_three c.args.part.now c.loop-at.at c.if-part-at-gt2.true (eq-eqb _ 37 c.if-part-at-eq37.true)) c.loop-at.invariant.left
      (c.in_ok-push.ensures.items ∙ (λ i. c.loop-at.bytes.items ++ (c.hex_value.ensures.value i * 16 + c.hex_value-then-part-at-gt2.ensures.value i) ∷ []));
}

pub loop-at-preserved : goal.loop-at-preserved
loop-at-preserved c = record {
  inside = let more = c.loop-at-test.true in omega arith;
  left = unescaped_step c.args.part.now c.loop-at.bytes.items c.push-else-part-at-eq37.new.self.items _ c.loop-at.at (c.loop-at.at + 1)
      (unescaped_one c.args.part.now c.loop-at.at c.loop-at-test.true (elim c.else-part-at-eq37.branch [
        | else-part-at-eq37-via-then-part-at-eq37+else-part-at-gt2 w ↦ inr w.if-part-at-gt2.false
        | else-part-at-eq37-via-else-part-at-eq37 w ↦ inl (ne_eqb _ 37 w.if-part-at-eq37.false)
      ])) c.loop-at.invariant.left c.in_ok-push-2.ensures.items;
}

pub returns : goal.returns
returns c = unescaped_done c.args.part.now c.loop-at.bytes.items c.loop-at.at c.loop-at-test.false c.loop-at.invariant.left
