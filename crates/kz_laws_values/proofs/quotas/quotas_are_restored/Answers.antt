use Rattle.kz_laws_values.proofs.QuotaTexts.{quota_restored}
use Rattle.kz_laws_values.proofs.quotas.quotas_are_restored.Goals as goal

pub returns : goal.returns
returns c = quota_restored
