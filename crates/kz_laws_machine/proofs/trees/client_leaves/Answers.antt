use Rattle.kz_laws_machine.proofs.Clients.{client_keeps_shape, client_leaves_recorded, client_leaves_held}
use Rattle.kz_laws_machine.proofs.Multi.{multi_ran}
use Rattle.kz_laws_machine.proofs.Standing.{client_unheld}
use Rattle.kz_laws_machine.proofs.Versions.{client_keeps_version}
use Rattle.kz_laws_machine.proofs.trees.client_leaves.Goals as goal

pub returns-clause-shape : goal.returns-clause-shape
returns-clause-shape c = client_keeps_shape

pub returns-clause-recorded : goal.returns-clause-recorded
returns-clause-recorded c = client_leaves_recorded

pub returns-clause-held : goal.returns-clause-held
returns-clause-held c = client_leaves_held

pub returns-clause-unheld : goal.returns-clause-unheld
returns-clause-unheld c = λ t new ops is none shape before. client_unheld t new ops (multi_ran t new ops is) none shape before

pub returns-clause-version : goal.returns-clause-version
returns-clause-version c = client_keeps_version
