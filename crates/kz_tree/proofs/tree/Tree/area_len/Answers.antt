use Rattle.std.proofs.Common.{length, ap, ◌∙◌}
use Rattle.kz_spec_data.specs.Tree.{Tree, area}
use Rattle.kz_tree.proofs.Areas.{area_count}
use Rattle.kz_tree.proofs.tree.Tree.area_len.Goals as goal

pub returns : goal.returns
returns c = c.migrated_count.ensures ∙ area_count c.self.inside.rows ∙ ap (λ (t : Tree). length (area t)) c.self.view_is
