-- What every metadata keeps: its lists rise, and so do the lists within its entries; the lists that an entry must have some
-- item in aren't empty; and its entries are legal.
use Rattle.std.specs.Prelude.{◌≡◌, ◌<◌, ◌==◌, ℕ, Bool, true, ◌&&◌, ◌||◌, List, length, slice_index, All}
use Rattle.std.specs.Ordering.{int_cmp}
use Rattle.kz_types.specs.PathRule.{is_path}
use Rattle.kz_types.specs.declared.image.Configuration.{Configuration}
use Rattle.kz_types.specs.declared.image.TopicEntry.{TopicEntry}
use Rattle.kz_types.specs.declared.image.QuotaEntry.{QuotaEntry}
use Rattle.kz_types.specs.declared.image.ScramEntry.{ScramEntry}
use Rattle.kz_types.specs.Order.{bytes_cmp}
use Rattle.kz_types.specs.Ordered.{Rises}
use Rattle.kz_spec_data.specs.Metadata.{Image, name_of_topic, number_of_partition, name_of_configuration, name_of_pair, path_of_quotas, key_of_quota, name_of_user, mechanism_of_pair, id_of_acl, id_of_broker}
use Rattle.kz_spec_data.specs.Legal.{IsLegal}

-- A topic's partitions rise by number, and its members by name.
abbrev pub IsTopicInOrder : TopicEntry → Type 0
IsTopicInOrder t = Rises int_cmp number_of_partition t.partitions × Rises bytes_cmp name_of_pair t.pairs

-- The topics rise by name, and each is in order.
pub record AreTopicsInOrder (topics : List TopicEntry) : Type 0 where
  pub rising : Rises bytes_cmp name_of_topic topics
  pub within : All IsTopicInOrder topics

-- A configuration has a member, and its members rise by name.
abbrev pub IsFilled : Configuration → Type 0
IsFilled c = (0 < length c.pairs) × Rises bytes_cmp name_of_pair c.pairs

-- The configurations rise by name, and each is filled.
pub record AreInOrder (configs : List Configuration) : Type 0 where
  pub rising : Rises bytes_cmp name_of_configuration configs
  pub filled : All IsFilled configs

-- Whether a path of an entity is at `/config/clients`, `/config/ips` or `/config/users`: no other kind of entity has a path
-- with these bytes at these places.
abbrev pub is_below_quota_root : List ℕ → Bool
is_below_quota_root path = (slice_index path 1 == 99) && ((slice_index path 8 == 99) || (slice_index path 8 == 105) || (slice_index path 8 == 117))

-- An entity has a quota, its quotas rise by key, and its path is one of an entity that may have some.
abbrev pub IsQuotaFilled : QuotaEntry → Type 0
IsQuotaFilled q = (0 < length q.quotas) × Rises bytes_cmp key_of_quota q.quotas × (is_path q.path ≡ true) × (is_below_quota_root q.path ≡ true)

-- The entities rise by path, and each is filled.
pub record AreQuotasInOrder (entries : List QuotaEntry) : Type 0 where
  pub rising : Rises bytes_cmp path_of_quotas entries
  pub filled : All IsQuotaFilled entries

-- A user has a credential, and its credentials rise by mechanism.
abbrev pub IsUserFilled : ScramEntry → Type 0
IsUserFilled u = (0 < length u.scrams) × Rises int_cmp mechanism_of_pair u.scrams

-- The users rise by name, and each is filled.
pub record AreUsersInOrder (users : List ScramEntry) : Type 0 where
  pub rising : Rises bytes_cmp name_of_user users
  pub filled : All IsUserFilled users

-- Each list is in order, the access control entries and brokers rise by id, and each entry is legal.
pub record IsInOrder (i : Image) : Type 0 where
  pub topics : AreTopicsInOrder i.topics
  pub configs : AreInOrder i.broker_configs
  pub quotas : AreQuotasInOrder i.quotas
  pub users : AreUsersInOrder i.users
  pub acls : Rises bytes_cmp id_of_acl i.acls
  pub brokers : Rises int_cmp id_of_broker i.brokers
  pub legal : IsLegal i
