use Rattle.kz_case_fields.proofs.FewBytes.{few_bytes_fit}
use Rattle.kz_case_fields.proofs.lengths.lengths_fit.Goals as goal

pub returns : goal.returns
returns c = few_bytes_fit c.args.meta.now c.value_size.result c.value_size.ensures
