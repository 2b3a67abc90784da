use Rattle.std.proofs.Common.{rules, arith, w32, SFits, ◌≡◌, ◌++◌, codes, sym, subst, true}
use Rattle.std.proofs.lemmas.Int.{ints}
use Rattle.std.specs.Fmt.{signed_decimal}
use Rattle.kz_types.specs.PathRule.{is_path}
use Rattle.kz_render.proofs.TopicPaths.{number_rule, state_rule}
use Rattle.kz_render.proofs.topic_paths.number_path.Goals as goal

pub path_after-requires : goal.path_after-requires
path_after-requires c =
    let part : c.deref.result.now ≡ codes "/" ++ signed_decimal c.args.number = search rules in
    let fits : SFits w32 c.args.number = c.ranges.number in
    let rule = number_rule c.args.name.now c.args.number (state_rule c.args.name.now c.args.number c.requires.named c.requires.numbered (omega (arith, ints, fits))) in
    subst (λ r. is_path (c.args.partitions.now ++ r) ≡ true) (sym part)
    (subst (λ t. is_path (t ++ (codes "/" ++ signed_decimal c.args.number)) ≡ true) (sym c.requires.partitions) rule)
