-- What a proof unfolds to compute the definitions of bodies on a literal.
use Rattle.std.specs.Prelude.{⊤}
use Rattle.serde_json.proofs.OnLiterals.{serde_json_on_literals}
use Rattle.kz_types.proofs.OnLiterals.{values_on_literals}
use Rattle.kz_spec_data.proofs.QuotasOnLiterals.{quotas_on_literals}
use Rattle.kz_spec_data.specs.Credentials.{credential_of, credential_text, entries_of}
use Rattle.kz_spec_data.specs.Bodies.{body_of, empty_body, read_body, text_of_body, is_of_kind}

unfoldable pub bodies_on_literals : ⊤
unfolding serde_json_on_literals values_on_literals quotas_on_literals credential_of credential_text entries_of body_of empty_body read_body text_of_body is_of_kind
bodies_on_literals = tt
