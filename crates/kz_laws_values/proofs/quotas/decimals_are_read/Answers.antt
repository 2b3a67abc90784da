use Rattle.kz_laws_values.proofs.Grammar.{is_read, is_decimal}
use Rattle.kz_laws_values.proofs.quotas.decimals_are_read.Goals as goal

pub returns-clause-read : goal.returns-clause-read
returns-clause-read c = is_read

pub returns-clause-decimal : goal.returns-clause-decimal
returns-clause-decimal c = is_decimal
