use Rattle.std.proofs.Common.{ap, ◌∙◌}
use Rattle.std.specs.List.{list_any}
use Rattle.std.specs.Str.{bytes_eq}
use Rattle.kz_paths.proofs.Tables.{any_lent}
use Rattle.kz_paths.proofs.places.is_control.Goals as goal

pub returns : goal.returns
returns c =
    c.is_among.ensures ∙ any_lent (λ t. bytes_eq c.args.path.now t) c.control_texts.result.now ∙ ap (list_any (λ t. bytes_eq c.args.path.now t)) c.control_texts.ensures.texts
