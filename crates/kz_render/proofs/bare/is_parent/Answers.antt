use Rattle.std.proofs.Common.{◌<◌, length, sym, subst}
use Rattle.kz_types.specs.PathRule.{parts}
use Rattle.kz_render.proofs.Parents.{none_of_few, none_of_many}
use Rattle.kz_render.proofs.bare.is_parent.Goals as goal

pub returns-in-Fewer : goal.returns-in-Fewer
returns-in-Fewer c = sym (none_of_few c.args.image.now c.args.path.now (parts c.args.path.now) (subst (λ p. length (parts p) < 4) c.as_str.ensures.value c.in-Fewer.ensures))

pub returns-in-More : goal.returns-in-More
returns-in-More c = sym (none_of_many c.args.image.now c.args.path.now (parts c.args.path.now) (subst (λ p. 5 < length (parts p)) c.as_str.ensures.value c.in-More.ensures))
