-- What a proof unfolds to compute the definitions of quotas' texts on a literal.
use Rattle.std.specs.Prelude.{⊤}
use Rattle.kz_types.proofs.OnLiterals.{values_on_literals}
use Rattle.kz_spec_data.specs.Quotas.{numeral_of, quota_of, quota_text}

unfoldable pub quotas_on_literals : ⊤
unfolding values_on_literals numeral_of quota_of quota_text
quotas_on_literals = tt
