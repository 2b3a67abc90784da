-- Entities that may have quotas.
use Rattle.kz_types.specs.declared.key.EntityKey.{EntityKey}
use Rattle.kz_types.specs.declared.key.EntityKey.TheVariants as key
use Rattle.kz_image_rules.specs.declared.quota_keys.QuotaKey.{QuotaKey}
use Rattle.kz_image_rules.specs.declared.quota_keys.QuotaKey.TheVariants as quota

-- the entity, as a key of its own
abbrev pub entity_of : QuotaKey → EntityKey
entity_of (quota.User user) = key.User user.now
entity_of (quota.Client client) = key.Client client.now
entity_of (quota.UserClient user client) = key.UserClient user.now client.now
entity_of (quota.Ip address) = key.Ip address.now
