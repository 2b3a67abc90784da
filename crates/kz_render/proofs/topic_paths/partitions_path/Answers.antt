use Rattle.std.proofs.Common.{◌≡◌, ◌++◌, codes, sym, subst, true}
use Rattle.kz_types.specs.PathRule.{is_path}
use Rattle.kz_render.proofs.TopicPaths.{partitions_rule}
use Rattle.kz_render.proofs.topic_paths.partitions_path.Goals as goal

pub path_after-requires : goal.path_after-requires
path_after-requires c = subst (λ t. is_path (t ++ codes "/partitions") ≡ true) (sym c.requires.topic) (partitions_rule c.args.name.now c.requires.named)
