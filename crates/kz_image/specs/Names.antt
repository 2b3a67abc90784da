-- The names of topics by rising id.
use Rattle.std.specs.Prelude.{◌≡◌, ℕ, List, Option, Some, None, option_map, if◌then◌else◌, ⊤}
use Rattle.std.specs.List.{find as find_by}
use Rattle.kz_types.specs.declared.id.Id.{Id}
use Rattle.kz_types.specs.declared.image.TopicEntry.{TopicEntry}
use Rattle.kz_types.specs.Order.{bytes_cmp}
use Rattle.kz_types.specs.Ordered.{find, Rises}
use Rattle.kz_spec_data.specs.Metadata.{name_of_topic, same_id}
use Rattle.kz_image.specs.declared.names.TopicName.{TopicName}

-- the id of the topic that has a name
abbrev pub id_of_name : TopicName → List ℕ
id_of_name n = n.id.bytes

-- where a topic is found, its name is that which is found
abbrev pub IsNamed : Option (List ℕ) → Option (List ℕ) → Type 0
IsNamed name None = ⊤
IsNamed name (Some topic) = name ≡ Some topic

-- The names rise by id, and what is found by the id of a topic is the topic's name. There may be names of topics that aren't there.
pub record AreNames (names : List TopicName) (topics : List TopicEntry) : Type 0 where
  pub rising : Rises bytes_cmp id_of_name names
  pub same : (id : Id) → IsNamed (option_map (λ (n : TopicName). n.name) (find bytes_cmp id_of_name id.bytes names))
      (option_map name_of_topic (find_by (λ (t : TopicEntry). same_id t.id id) topics))

-- the topic that is found, where it has this id
abbrev pub topic_if : Id → Option TopicEntry → Option TopicEntry
topic_if id None = None
topic_if id (Some t) = if same_id t.id id then Some t else None
