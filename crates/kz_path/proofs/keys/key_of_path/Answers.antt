use Rattle.std.proofs.Common.{◌≡◌, ◌≤◌, length, ◌∙◌, ap, sym, subst}
use Rattle.std.specs.Prelude.{IfOk, if◌then◌else◌, Some, None}
use Rattle.kz_types.specs.declared.key.EntityKey.TheVariants.{Producer}
use Rattle.kz_types.specs.PathRule.{parts}
use Rattle.kz_types.specs.Paths.{key_of, key_of_parts}
use Rattle.kz_path.proofs.KeyParts.{key_of_more}
use Rattle.kz_path.proofs.keys.key_of_path.Goals as goal

pub returns-then-eq : goal.returns-then-eq
unfolding key_of
returns-then-eq c = let e = ap parts (sym c.as_str.ensures.value) ∙ c.in-One.ensures.parts in
    sym (ap key_of_parts e ∙ (λ i. if sym c.if-eq.ensures i then Some Producer else None))

pub returns-else-eq : goal.returns-else-eq
unfolding key_of
returns-else-eq c = let e = ap parts (sym c.as_str.ensures.value) ∙ c.in-One.ensures.parts in
    sym (ap key_of_parts e ∙ (λ i. if sym c.if-eq.ensures i then Some Producer else None))

pub returns-in-Two : goal.returns-in-Two
unfolding key_of
returns-in-Two c = let e = ap parts (sym c.as_str.ensures.value) ∙ c.in-Two.ensures.parts in sym (ap key_of_parts e)

pub returns-in-Three : goal.returns-in-Three
unfolding key_of
returns-in-Three c = let e = ap parts (sym c.as_str.ensures.value) ∙ c.in-Three.ensures.parts in
    subst (λ ps. IfOk c.key_of_three.result (λ key. key ≡ key_of_parts ps)) (sym e) c.key_of_three.ensures

pub returns-in-Four : goal.returns-in-Four
unfolding key_of
returns-in-Four c = let e = ap parts (sym c.as_str.ensures.value) ∙ c.in-Four.ensures.parts in
    subst (λ ps. IfOk c.key_of_four.result (λ key. key ≡ key_of_parts ps)) (sym e) c.key_of_four.ensures

pub returns-in-Five : goal.returns-in-Five
unfolding key_of
returns-in-Five c = let e = ap parts (sym c.as_str.ensures.value) ∙ c.in-Five.ensures.parts in
    subst (λ ps. IfOk c.key_of_five.result (λ key. key ≡ key_of_parts ps)) (sym e) c.key_of_five.ensures

pub returns-in-Six : goal.returns-in-Six
unfolding key_of
returns-in-Six c = let e = ap parts (sym c.as_str.ensures.value) ∙ c.in-Six.ensures.parts in
    subst (λ ps. IfOk c.key_of_six.result (λ key. key ≡ key_of_parts ps)) (sym e) c.key_of_six.ensures

pub returns-in-More : goal.returns-in-More
unfolding key_of
returns-in-More c = sym (key_of_more (parts c.args.path.now) (subst (λ p. 7 ≤ length (parts p)) c.as_str.ensures.value c.in-More.ensures.parts))
