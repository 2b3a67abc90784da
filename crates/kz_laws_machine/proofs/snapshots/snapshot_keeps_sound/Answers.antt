use Rattle.kz_laws_machine.proofs.Worlds.{may_be_base, shared_stays, driver_kept}
use Rattle.kz_laws_machine.proofs.snapshots.snapshot_keeps_sound.Goals as goal

pub returns-clause-may : goal.returns-clause-may
returns-clause-may c = may_be_base

pub returns-clause-shared : goal.returns-clause-shared
returns-clause-shared c = shared_stays

pub returns-clause-drivers : goal.returns-clause-drivers
returns-clause-drivers c = λ s r d kept was found least fine. driver_kept s r kept was found least d fine
