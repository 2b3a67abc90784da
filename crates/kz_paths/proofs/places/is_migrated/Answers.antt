use Rattle.std.proofs.Common.{ap, ◌∙◌}
use Rattle.std.specs.Prelude.{◌||◌}
use Rattle.std.specs.List.{list_any}
use Rattle.std.specs.Str.{bytes_eq}
use Rattle.kz_types.specs.Paths.{is_below, is_migrated}
use Rattle.kz_paths.proofs.Tables.{any_lent}
use Rattle.kz_paths.proofs.places.is_migrated.Goals as goal

pub returns : goal.returns
unfolding is_migrated
returns c =
    c.is_at_or_below_any.ensures ∙ any_lent (λ t. bytes_eq c.args.path.now t || is_below t c.args.path.now) c.root_texts.result.now ∙ ap (list_any (λ t. bytes_eq c.args.path.now t || is_below t c.args.path.now)) c.root_texts.ensures.texts
