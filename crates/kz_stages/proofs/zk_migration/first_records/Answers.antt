use Rattle.std.proofs.Common.{take, ap, ◌∙◌}
use Rattle.kz_stages.proofs.Batches.{first_batch}
use Rattle.kz_stages.proofs.zk_migration.first_records.Goals as goal

pub returns : goal.returns
returns c = ap (λ n. take n c.args.records.now) c.min.ensures ∙ first_batch c.args.records.now c.requires
