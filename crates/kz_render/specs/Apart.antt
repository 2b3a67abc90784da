-- The znodes of topics apart from those of their configurations.
use Rattle.std.specs.Prelude.{List, [], ◌∷◌, ◌++◌}
use Rattle.std.specs.List.{flat_map}
use Rattle.kz_types.specs.declared.image.TopicEntry.{TopicEntry}
use Rattle.kz_types.specs.declared.tree.Rendered.{Rendered}
use Rattle.kz_spec_data.specs.Rendering.{bare, topic_znode, partitions_path, partition_znodes, topic_config_znodes}

-- the znodes of a topic and of its partitions
abbrev pub own_znodes : TopicEntry → List Rendered
own_znodes t = topic_znode t ∷ bare (partitions_path t.name) ∷ flat_map (partition_znodes t.name) t.partitions

-- the znode of a topic's configuration, where it isn't empty
abbrev pub configs_of : TopicEntry → List Rendered
configs_of t = topic_config_znodes t.name t.pairs

-- those of all topics, and then those of all their configurations
abbrev pub topics_apart : List TopicEntry → List Rendered
topics_apart ts = flat_map own_znodes ts ++ flat_map configs_of ts
