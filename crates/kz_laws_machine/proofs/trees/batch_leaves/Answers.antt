use Rattle.kz_laws_machine.proofs.LogBatches.{image_kept, end_more}
use Rattle.kz_laws_machine.proofs.Ends.{batch_end_kept}
use Rattle.kz_laws_machine.proofs.trees.batch_leaves.Goals as goal

pub returns-clause-images : goal.returns-clause-images
returns-clause-images c = image_kept

pub returns-clause-ends : goal.returns-clause-ends
returns-clause-ends c = batch_end_kept

pub returns-clause-end : goal.returns-clause-end
returns-clause-end c = end_more
