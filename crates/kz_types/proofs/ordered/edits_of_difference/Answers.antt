use Rattle.kz_types.proofs.Edits.{due_exactly, due_once, edits_in_order}
use Rattle.kz_types.proofs.ordered.edits_of_difference.Goals as goal

pub returns-clause-due : goal.returns-clause-due
returns-clause-due g c = λ cmp key same o. due_exactly o key same

pub returns-clause-order : goal.returns-clause-order
returns-clause-order g c = λ cmp key same o. edits_in_order o key same

pub returns-clause-once : goal.returns-clause-once
returns-clause-once g c = λ cmp key same o. due_once o key same
