use Rattle.std.proofs.Common.{◌∙◌, ap}
use Rattle.std.specs.Prelude.{option_map}
use Rattle.kz_spec_data.specs.Credentials.{after_name}
use Rattle.kz_json.proofs.CredentialLemmas.{after_no_name, after_a_name}
use Rattle.kz_json.proofs.credentials.after_name.Goals as goal

pub returns-in_err-rest : goal.returns-in_err-rest
returns-in_err-rest c =
    ap (option_map (λ v. v.now)) c.from_residual.ensures
    ∙ after_no_name c.as_bytes-2.result.now c.as_bytes.result.now c.in_err-rest.ensures.cases
    ∙ (λ i. after_name (c.as_bytes-2.ensures.value i) (c.as_bytes.ensures.value i))

pub returns : goal.returns
returns c =
    after_a_name c.as_bytes-2.result.now c.as_bytes.result.now c.as_slice.result.now c.in_ok-rest.rest c.strip_prefix-2.result c.in_ok-rest.ensures.cases c.as_slice.ensures c.strip_prefix-2.ensures.cases
    ∙ (λ i. after_name (c.as_bytes-2.ensures.value i) (c.as_bytes.ensures.value i))
