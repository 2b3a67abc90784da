use Rattle.std.proofs.Common.{ap, ◌∙◌}
use Rattle.std.specs.List.{list_any}
use Rattle.kz_types.specs.Paths.{is_below}
use Rattle.kz_paths.proofs.Tables.{any_lent}
use Rattle.kz_paths.proofs.places.is_below_control.Goals as goal

pub returns : goal.returns
returns c =
    c.is_below_any.ensures ∙ any_lent (λ t. is_below t c.args.path.now) c.control_texts.result.now ∙ ap (list_any (λ t. is_below t c.args.path.now)) c.control_texts.ensures.texts
