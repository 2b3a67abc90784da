use Rattle.std.proofs.Common.{◌≡◌, ◌∙◌, ap, sym, subst, ◌≤◌, length}
use Rattle.kz_types.specs.PathRule.{parts}
use Rattle.kz_types.specs.Paths.{is_scaffold_of_parts}
use Rattle.kz_path.proofs.KeyParts.{scaffold_of_more}
use Rattle.kz_path.proofs.kinds.is_scaffold.Goals as goal

pub returns-in-One : goal.returns-in-One
returns-in-One c = sym (ap is_scaffold_of_parts (ap parts (sym c.as_str.ensures.value) ∙ c.in-One.ensures.parts))

pub returns-in-Two : goal.returns-in-Two
returns-in-Two c = sym (ap is_scaffold_of_parts (ap parts (sym c.as_str.ensures.value) ∙ c.in-Two.ensures.parts))

pub returns-in-Three : goal.returns-in-Three
returns-in-Three c = sym (ap is_scaffold_of_parts (ap parts (sym c.as_str.ensures.value) ∙ c.in-Three.ensures.parts))

pub returns-in-Four : goal.returns-in-Four
returns-in-Four c = let e = ap parts (sym c.as_str.ensures.value) ∙ c.in-Four.ensures.parts in
    subst (λ ps. c.is_scaffold_of_four.result ≡ is_scaffold_of_parts ps) (sym e) c.is_scaffold_of_four.ensures

pub returns-in-Five : goal.returns-in-Five
returns-in-Five c = let e = ap parts (sym c.as_str.ensures.value) ∙ c.in-Five.ensures.parts in
    subst (λ ps. c.is_scaffold_of_five.result ≡ is_scaffold_of_parts ps) (sym e) c.is_scaffold_of_five.ensures

pub returns-in-Six : goal.returns-in-Six
returns-in-Six c = sym (ap is_scaffold_of_parts (ap parts (sym c.as_str.ensures.value) ∙ c.in-Six.ensures.parts))

pub returns-in-More : goal.returns-in-More
returns-in-More c = sym (scaffold_of_more (parts c.args.path.now) (subst (λ p. 7 ≤ length (parts p)) c.as_str.ensures.value c.in-More.ensures.parts))
