use Rattle.kz_types.proofs.Difference.{difference_leads, prefix_leaves_rest, no_difference}
use Rattle.kz_types.proofs.ordered.difference_leads.Goals as goal

pub returns-clause-whole : goal.returns-clause-whole
returns-clause-whole g c = λ cmp key same o d. difference_leads o key same d

pub returns-clause-part : goal.returns-clause-part
returns-clause-part g c = λ cmp key same o d. prefix_leaves_rest o key same d

pub returns-clause-none : goal.returns-clause-none
returns-clause-none g c = λ cmp key same o d. no_difference o key same d
