-- What stays as it was said when a znode says nothing of it.
use Rattle.std.proofs.Common.{◌≡◌, ℕ, ℤ, cond, List, [], ◌∷◌, ◌++◌, length, Option, Some, None, refl, sym, ap, ◌∙◌, subst, append-nil}
use Rattle.std.specs.Prelude.{option_and_then}
use Rattle.std.specs.Str.{is_utf8}
use Rattle.std.proofs.lemmas.Grind.{flat_map-append}
use Rattle.kz_types.specs.declared.tree.Row.{Row}
use Rattle.kz_types.specs.declared.image.Configuration.{Configuration}
use Rattle.kz_types.specs.declared.image.TopicEntry.{TopicEntry}
use Rattle.kz_types.specs.declared.image.QuotaEntry.{QuotaEntry}
use Rattle.kz_types.specs.declared.image.ScramEntry.{ScramEntry}
use Rattle.kz_types.specs.declared.image.AclEntry.{AclEntry}
use Rattle.kz_types.specs.declared.key.EntityKey.TheVariants as key
use Rattle.kz_types.specs.declared.record.MetaRecord.{MetaRecord}
use Rattle.kz_types.specs.declared.record.RegisterBrokerRecord.{RegisterBrokerRecord}
use Rattle.kz_types.specs.Paths.{path_of}
use Rattle.kz_spec_data.specs.Metadata.{Image}
use Rattle.kz_laws_znodes.proofs.Accepting.{Leads, leads_none}
use Rattle.kz_laws_znodes.proofs.OtherSteps.{configuration, quota_list, scram_list, numbered, AreBelowNumber}
use Rattle.kz_laws_znodes.proofs.Saying.{entity_of, pick, topic_said, topic_config_said, broker_config_said, quotas_said, scrams_said, next_said, said, unsaid, entries_by, entries_of, all_entries, listed, or_empty}
use Rattle.kz_laws_znodes.proofs.Says.{topic_by, broker_named, configuration_in, SaysTopics, SaysConfigs, SaysQuotas, SaysUsers, SaysEntries, Says}

pub entries_after : (earlier : List Row) (r : Row) → all_entries (earlier ++ r ∷ []) ≡ all_entries earlier ++ entries_of r
entries_after earlier r = flat_map-append entries_of earlier (r ∷ []) ∙ ap (λ rows. all_entries earlier ++ rows) (append-nil (entries_of r))

module _ (earlier : List Row) (r : Row) where
  pub stay_topics : (epoch : ℤ) (rows : List Row) (topics : List TopicEntry) → pick topic_said (entity_of r) ≡ None → pick topic_config_said (entity_of r) ≡ None → SaysTopics epoch rows earlier topics → SaysTopics epoch rows (earlier ++ r ∷ []) topics
  stay_topics epoch rows topics one two s = record {
    rise = s.rise;
    each = λ name. s.each name ∙ sym (λ i. topic_by epoch rows name (unsaid topic_said (path_of (key.Topic name)) earlier r one i) (unsaid topic_config_said (path_of (key.TopicConfig name)) earlier r two i));
  }

  configs_alike : (name : List ℕ) → pick broker_config_said (entity_of r) ≡ None → (o : Option (Option ℤ)) → option_and_then (configuration_in (earlier ++ r ∷ []) name) o ≡ option_and_then (configuration_in earlier name) o
  configs_alike name nothing None = refl
  configs_alike name nothing (Some broker) = ap (λ pairs. listed configuration name (or_empty pairs)) (unsaid broker_config_said (path_of (key.BrokerConfig broker)) earlier r nothing)

  pub stay_configs : (configs : List Configuration) → pick broker_config_said (entity_of r) ≡ None → SaysConfigs earlier configs → SaysConfigs (earlier ++ r ∷ []) configs
  stay_configs configs nothing s = record { rise = s.rise; each = λ name. s.each name ∙ sym (configs_alike name nothing (broker_named name)) }

  pub stay_quotas : (quotas : List QuotaEntry) → pick quotas_said (entity_of r) ≡ None → SaysQuotas earlier quotas → SaysQuotas (earlier ++ r ∷ []) quotas
  stay_quotas quotas nothing s = record { rise = s.rise; each = λ path. s.each path ∙ sym (ap (λ qs. listed quota_list path (or_empty qs)) (unsaid quotas_said path earlier r nothing)) }

  pub stay_users : (users : List ScramEntry) → pick scrams_said (entity_of r) ≡ None → SaysUsers earlier users → SaysUsers (earlier ++ r ∷ []) users
  stay_users users nothing s = record {
    rise = s.rise;
    each = λ name. s.each name ∙ sym (ap (λ scrams. cond (is_utf8 name) (listed scram_list name (or_empty scrams)) None) (unsaid scrams_said (path_of (key.User (Some name))) earlier r nothing));
  }

  pub stay_entries : (acls : List AclEntry) → entries_of r ≡ [] → SaysEntries earlier acls → SaysEntries (earlier ++ r ∷ []) acls
  stay_entries acls nothing s =
      let same : all_entries (earlier ++ r ∷ []) ≡ all_entries earlier = entries_after earlier r ∙ ap (λ rows. all_entries earlier ++ rows) nothing ∙ append-nil (all_entries earlier) in record {
        each = s.each ∙ sym (ap (numbered 0) same);
        below = subst (λ rows. AreBelowNumber (length rows) acls) (sym same) s.below;
      }

  pub stay_next : (next : Option ℤ) → pick next_said (entity_of r) ≡ None → next ≡ said next_said (path_of key.Producer) earlier → next ≡ said next_said (path_of key.Producer) (earlier ++ r ∷ [])
  stay_next next nothing s = s ∙ sym (unsaid next_said (path_of key.Producer) earlier r nothing)

-- The records of one znode lead to what is said with it.
pub record Step (epoch : ℤ) (rows : List Row) (brokers : List RegisterBrokerRecord) (state : ℤ) (earlier : List Row) (r : Row) (one : List MetaRecord) (i : Image) : Type 0 where
  pub after : Image
  pub leads : Leads epoch one i after
  pub says : Says epoch rows brokers state (earlier ++ r ∷ []) after

-- A znode that says nothing.
pub record IsSilent (r : Row) : Type 0 where
  pub topic : pick topic_said (entity_of r) ≡ None
  pub topic_config : pick topic_config_said (entity_of r) ≡ None
  pub broker_config : pick broker_config_said (entity_of r) ≡ None
  pub quotas : pick quotas_said (entity_of r) ≡ None
  pub scrams : pick scrams_said (entity_of r) ≡ None
  pub entries : entries_of r ≡ []
  pub next : pick next_said (entity_of r) ≡ None

pub silent_step : (epoch : ℤ) (rows : List Row) (brokers : List RegisterBrokerRecord) (state : ℤ) (earlier : List Row) (r : Row) (one : List MetaRecord) (i : Image) → one ≡ [] → IsSilent r → Says epoch rows brokers state earlier i → Step epoch rows brokers state earlier r one i
silent_step epoch rows brokers state earlier r one i none q s = record {
  after = i;
  leads = subst (λ rs. Leads epoch rs i i) (sym none) (leads_none epoch i);
  says = record {
    topics = stay_topics earlier r epoch rows i.topics q.topic q.topic_config s.topics;
    configs = stay_configs earlier r i.broker_configs q.broker_config s.configs;
    quotas = stay_quotas earlier r i.quotas q.quotas s.quotas;
    users = stay_users earlier r i.users q.scrams s.users;
    entries = stay_entries earlier r i.acls q.entries s.entries;
    next = stay_next earlier r i.next_producer q.next s.next;
    brokers_are = s.brokers_are;
    state_is = s.state_is;
  };
}

pub no_entity_is_silent : (r : Row) → entity_of r ≡ None → IsSilent r
no_entity_is_silent r none = record {
  topic = ap (pick topic_said) none;
  topic_config = ap (pick topic_config_said) none;
  broker_config = ap (pick broker_config_said) none;
  quotas = ap (pick quotas_said) none;
  scrams = ap (pick scrams_said) none;
  entries = ap entries_by none;
  next = ap (pick next_said) none;
}
