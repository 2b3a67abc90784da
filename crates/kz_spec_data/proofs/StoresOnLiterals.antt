-- What a proof unfolds to compute the definitions of this crate on a literal.
use Rattle.std.specs.Prelude.{⊤}
use Rattle.kz_types.proofs.OnLiterals.{values_on_literals}
use Rattle.serde_json.proofs.OnLiterals.{serde_json_on_literals}
use Rattle.kz_spec_data.specs.Bodies.{text_of_body, body_of, empty_body, read_body}
use Rattle.kz_spec_data.specs.Control.{written_control, shown_epoch, written_recorded, read_recorded}
use Rattle.kz_spec_data.specs.Tree.{multi}
use Rattle.kz_spec_data.specs.ImageRules.{broken_rule}
use Rattle.kz_spec_data.specs.Log.{image_at}

unfoldable pub stores_on_literals : ⊤
unfolding values_on_literals serde_json_on_literals text_of_body body_of empty_body read_body written_control shown_epoch written_recorded read_recorded multi broken_rule image_at
stores_on_literals = tt
