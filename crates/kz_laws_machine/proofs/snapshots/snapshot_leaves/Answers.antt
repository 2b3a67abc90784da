use Rattle.kz_laws_machine.proofs.Cut.{cuts, keeps_shape}
use Rattle.kz_laws_machine.proofs.snapshots.snapshot_leaves.Goals as goal

pub returns-clause-cuts : goal.returns-clause-cuts
returns-clause-cuts c = cuts

pub returns-clause-shape : goal.returns-clause-shape
returns-clause-shape c = keeps_shape
