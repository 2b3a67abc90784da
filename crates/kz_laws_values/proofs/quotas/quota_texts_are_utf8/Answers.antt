use Rattle.kz_laws_values.proofs.QuotaTexts.{quota_is_text}
use Rattle.kz_laws_values.proofs.quotas.quota_texts_are_utf8.Goals as goal

pub returns : goal.returns
returns c = quota_is_text
