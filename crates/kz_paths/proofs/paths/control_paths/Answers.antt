use Rattle.std.proofs.Common.{ap, ◌∙◌}
use Rattle.std.specs.List.{list_all}
use Rattle.kz_types.specs.PathRule.{is_path}
use Rattle.kz_paths.proofs.Tables.{controls_are_paths}
use Rattle.kz_paths.proofs.paths.control_paths.Goals as goal

pub paths-requires : goal.paths-requires
paths-requires c = ap (list_all is_path) c.control_texts.ensures.texts ∙ controls_are_paths
