use Rattle.std.proofs.Common.{◌≡◌, ◌++◌, ◌∙◌, codes, ap, sym, subst, true, arith, w32, SFits}
use Rattle.std.proofs.lemmas.Int.{ints}
use Rattle.kz_types.specs.PathRule.{is_path}
use Rattle.kz_render.proofs.TopicPaths.{state_after, state_of_number}
use Rattle.kz_render.proofs.topic_paths.state_path.Goals as goal

pub path_after-requires : goal.path_after-requires
path_after-requires c =
    let fits : SFits w32 c.args.number = c.ranges.number in
    subst (λ t. is_path (t ++ codes "/state") ≡ true) (sym c.requires.parent) (state_after c.args.name.now c.args.number c.requires.named c.requires.numbered (omega (arith, ints, fits)))

pub returns : goal.returns
returns c = c.in_ok-path.ensures ∙ ap (λ t. t ++ codes "/state") c.requires.parent ∙ sym (state_of_number c.args.name.now c.args.number)
