-- The data that the rendering of metadata has at a path, by look-ups alone: one znode is told without the others.
use Rattle.std.specs.Prelude.{ℕ, ℤ, Bool, true, false, ◌&&◌, ◌||◌, List, [], ◌∷◌, ◌++◌, filter, slice_get, Option, Some, None, is_some, option_map, option_and_then, if◌then◌else◌, codes}
use Rattle.std.specs.Str.{bytes_eq}
use Rattle.std.specs.Ordering.{match_ordering}
use Rattle.std.specs.Option.{option_or}
use Rattle.kz_types.specs.declared.key.EntityKey.{EntityKey}
use Rattle.kz_types.specs.declared.key.EntityKey.TheVariants as key
use Rattle.kz_types.specs.declared.image.TopicEntry.{TopicEntry}
use Rattle.kz_types.specs.declared.image.QuotaEntry.{QuotaEntry}
use Rattle.kz_types.specs.Numbers.{number_in}
use Rattle.kz_types.specs.Paths.{roots, is_among, is_below, are, parts, key_of}
use Rattle.kz_types.specs.Order.{bytes_cmp}
use Rattle.kz_spec_data.specs.Bodies.{text_of_body}
use Rattle.kz_spec_data.specs.Metadata.{Image, topic_named, partition_at}
use Rattle.kz_spec_data.specs.Entities.{entity}

-- ---- what stands below a path

-- whether an entry of quotas has a path above this one
abbrev pub is_above : List ℕ → QuotaEntry → Bool
is_above path q = match_ordering (bytes_cmp path q.path) true false false

-- the first entry of quotas with a path above this one
abbrev pub first_above : List ℕ → List QuotaEntry → Option QuotaEntry
first_above path quotas = slice_get (filter (is_above path) quotas) 0

abbrev pub is_entry_below : List ℕ → Option QuotaEntry → Bool
is_entry_below path None = false
is_entry_below path (Some q) = is_below path q.path

-- Whether an entity with quotas has a path below this one. The entries rise by path, so the first one above this path and a slash is below
-- the path where any is.
abbrev pub has_quotas_below : List ℕ → Image → Bool
has_quotas_below path i = is_entry_below path (first_above (path ++ codes "/") i.quotas)

-- whether the topic of a name has the partition of a number
abbrev pub has_partition : List ℕ → Option ℤ → Image → Bool
has_partition name None i = false
has_partition name (Some number) i = is_some (option_and_then (λ (t : TopicEntry). partition_at number t.partitions) (topic_named name i))

-- ---- znodes without data

-- Whether these are the parts of the parent of a topic's partitions, where the topic is there, or of a partition's number, where the
-- partition is there.
abbrev pub is_parent_of_partitions : Image → List (List ℕ) → Bool
is_parent_of_partitions i (a ∷ b ∷ c ∷ d ∷ []) = are a b (codes "brokers") (codes "topics") && (bytes_eq d (codes "partitions") && is_some (topic_named c i))
is_parent_of_partitions i (a ∷ b ∷ c ∷ d ∷ e ∷ []) = are a b (codes "brokers") (codes "topics") && (bytes_eq d (codes "partitions") && has_partition c (number_in e) i)
is_parent_of_partitions i ps = false

-- Whether this path, which has these parts, is the parent of a user's clients, and a client with quotas is below it.
abbrev pub is_parent_of_clients : Image → List ℕ → List (List ℕ) → Bool
is_parent_of_clients i path (a ∷ b ∷ c ∷ d ∷ []) = are a b (codes "config") (codes "users") && (bytes_eq d (codes "clients") && has_quotas_below path i)
is_parent_of_clients i path ps = false

-- Whether a znode stands at this path without the body of an entity. The path holds the entity of this key, or none. The roots stand
-- always, that of the producer ids among them, and a user stands where it has clients.
abbrev pub stands_bare : Image → List ℕ → Option EntityKey → Bool
stands_bare i path None = is_among roots path || (is_parent_of_partitions i (parts path) || is_parent_of_clients i path (parts path))
stands_bare i path (Some (key.User user)) = has_quotas_below path i
stands_bare i path (Some key.Producer) = true
stands_bare i path (Some k) = false

-- no data, where the znode is there
abbrev pub no_data_if : Bool → Option (List ℕ)
no_data_if there = if there then Some [] else None

-- ---- one znode

-- the written body of the entity of a key, where the metadata holds something for it
abbrev pub written_body : Image → Option EntityKey → Option (List ℕ)
written_body i k = option_map text_of_body (option_and_then (entity i) k)

-- The data of the znode at a path, where there is a znode: the written body of the entity that the path holds, and no bytes where a znode
-- stands without the body of an entity. The path is one that keeps the rule of paths.
abbrev pub body_at : Image → List ℕ → Option (List ℕ)
body_at i path = option_or (written_body i (key_of path)) (no_data_if (stands_bare i path (key_of path)))
