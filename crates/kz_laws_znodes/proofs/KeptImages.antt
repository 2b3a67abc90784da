-- What a record that breaks no rule makes of a metadata in order is in order.
use Rattle.std.proofs.Common.{◌≡◌, ℕ, ◌&&◌, ◌||◌, not, Bool, true, false, cond, ℤ, pos, negsuc, List, None, refl}
use Rattle.std.specs.Prelude.{int_le, int_lt, is_some}
use Rattle.std.specs.Ordering.{int_cmp, int_eq}
use Rattle.std.specs.List.{All}
use Rattle.kz_types.specs.declared.id.Id.{Id}
use Rattle.kz_types.specs.declared.image.TopicEntry.{TopicEntry}
use Rattle.kz_types.specs.declared.image.ScramEntry.{ScramEntry}
use Rattle.kz_types.specs.declared.image.AclEntry.{AclEntry}
use Rattle.kz_types.specs.declared.record.MetaRecord.{MetaRecord}
use Rattle.kz_types.specs.declared.record.MetaRecord.TheVariants as meta
use Rattle.kz_types.specs.declared.record.ConfigRecord.{ConfigRecord}
use Rattle.kz_types.specs.Paths.{is_topic_name}
use Rattle.kz_types.specs.Quotas.{is_quota}
use Rattle.kz_types.specs.Order.{bytes_cmp}
use Rattle.kz_types.specs.Ordered.{without, Rises}
use Rattle.kz_types.proofs.Order.{bytes_order, int_order}
use Rattle.kz_types.proofs.Lookup.{Rises-put, Rises-without}
use Rattle.kz_spec_data.specs.Metadata.{Image, id_of_acl, id_of_broker, topic_named, topic_with}
use Rattle.kz_spec_data.specs.ImageRules.{is_empty, is_zero, is_broker_name, is_mechanism, is_user, are_codes, is_resource, is_row, new_row, is_epoch, is_operation, is_permission, is_epoch_or_none, is_below_next, max_next, broken_rule, quota_key}
use Rattle.kz_spec_data.specs.Image.{acl_row, topic_configured, with_changed, configurations_after, without_topic, scram_removed, effect}
use Rattle.kz_spec_data.specs.Legal.{AreTopics, IsScramEntry, IsAcl, IsBroker}
use Rattle.kz_spec_data.specs.InOrder.{AreTopicsInOrder, AreUsersInOrder, IsInOrder}
use Rattle.kz_laws_znodes.proofs.Lists.{All-put, All-without, configured_in_order}
use Rattle.kz_laws_znodes.proofs.TopicLists.{topic_made_in_order, partition_made_in_order, partition_changed_in_order, topic_configured_in_order, topic_removed_in_order}
use Rattle.kz_laws_znodes.proofs.QuotaLists.{quota_changed_in_order}
use Rattle.kz_laws_znodes.proofs.UserLists.{scram_set_in_order, scram_removed_in_order}
use Rattle.kz_laws_znodes.proofs.Unbroken.{unbroken, holds_by, neither_holds, absent_by, not_less, quota_unbroken, change_unbroken}
use Rattle.kz_laws_znodes.proofs.Legal.{topic_made_legal, topic_removed_legal, partition_made_legal, partition_changed_legal, topic_configured_legal, configured_legal, quota_changed_legal, scram_set_legal, scram_removed_legal}

-- a resource that is no topic is a broker, and has a broker's name
broker_named : (topic broker : Bool) (name : List ℕ) → not topic && not broker ≡ false → topic ≡ false → broker && not (is_broker_name name) ≡ false → is_broker_name name ≡ true
broker_named true broker name known other named = cc
broker_named false true name known other named = holds_by (is_broker_name name) named
broker_named false false name known other named = cc

-- what a change of a configuration has that breaks no rule
config_names : (i : Image) (r : ConfigRecord) → broken_rule i (meta.Config r) ≡ None → (is_empty r.name ≡ false) × (int_eq r.resource_type (pos 4) && not (is_broker_name r.resource_name) ≡ false)
config_names i r fine =
    let topic = int_eq r.resource_type (pos 2) && not (is_topic_name r.resource_name) in
    let named = neither_holds (is_empty r.name || topic) (int_eq r.resource_type (pos 4) && not (is_broker_name r.resource_name)) (unbroken i (meta.Config r) fine).0 in
    ((neither_holds (is_empty r.name) topic named.0).0, named.1)

pub member_named : (i : Image) (r : ConfigRecord) → broken_rule i (meta.Config r) ≡ None → is_empty r.name ≡ false
member_named i r fine = (config_names i r fine).0

pub resource_named : (i : Image) (r : ConfigRecord) → broken_rule i (meta.Config r) ≡ None → int_eq r.resource_type (pos 2) ≡ false → is_broker_name r.resource_name ≡ true
resource_named i r fine other = broker_named (int_eq r.resource_type (pos 2)) (int_eq r.resource_type (pos 4)) r.resource_name (unbroken i (meta.Config r) fine).2 other (config_names i r fine).1

module _ (i : Image) (order : IsInOrder i) where
  with_topics : (topics : List TopicEntry) → AreTopicsInOrder topics → AreTopics topics → IsInOrder (record i { topics = topics })
  with_topics topics rising legal = record {
    topics = rising;
    configs = order.configs;
    quotas = order.quotas;
    users = order.users;
    acls = order.acls;
    brokers = order.brokers;
    legal = record {
      topics = legal;
      configs = order.legal.configs;
      quotas = order.legal.quotas;
      users = order.legal.users;
      acls = order.legal.acls;
      brokers = order.legal.brokers;
      next = order.legal.next;
      state = order.legal.state;
    };
  }

  with_users : (users : List ScramEntry) → AreUsersInOrder users → All IsScramEntry users → IsInOrder (record i { users = users })
  with_users users rising legal = record {
    topics = order.topics;
    configs = order.configs;
    quotas = order.quotas;
    users = rising;
    acls = order.acls;
    brokers = order.brokers;
    legal = record {
      topics = order.legal.topics;
      configs = order.legal.configs;
      quotas = order.legal.quotas;
      users = legal;
      acls = order.legal.acls;
      brokers = order.legal.brokers;
      next = order.legal.next;
      state = order.legal.state;
    };
  }

  with_acls : (acls : List AclEntry) → Rises bytes_cmp id_of_acl acls → All IsAcl acls → IsInOrder (record i { acls = acls })
  with_acls acls rising legal = record {
    topics = order.topics;
    configs = order.configs;
    quotas = order.quotas;
    users = order.users;
    acls = rising;
    brokers = order.brokers;
    legal = record {
      topics = order.legal.topics;
      configs = order.legal.configs;
      quotas = order.legal.quotas;
      users = order.legal.users;
      acls = legal;
      brokers = order.legal.brokers;
      next = order.legal.next;
      state = order.legal.state;
    };
  }

  -- a member of a topic's configuration
  pub topic_configuration_kept : (r : ConfigRecord) → is_empty r.name ≡ false → IsInOrder (record i { topics = with_changed (topic_configured r) (topic_named r.resource_name i) i.topics })
  topic_configuration_kept r member = with_topics _ (topic_configured_in_order r i.topics order.topics) (topic_configured_legal r i.topics member order.topics.rising order.legal.topics)

  -- a member of a broker's configuration
  pub broker_configuration_kept : (r : ConfigRecord) → is_broker_name r.resource_name ≡ true → is_empty r.name ≡ false → IsInOrder (record i { broker_configs = configurations_after r i.broker_configs })
  broker_configuration_kept r named member = record {
    topics = order.topics;
    configs = configured_in_order r i.broker_configs order.configs;
    quotas = order.quotas;
    users = order.users;
    acls = order.acls;
    brokers = order.brokers;
    legal = record {
      topics = order.legal.topics;
      configs = configured_legal r i.broker_configs named member order.legal.configs;
      quotas = order.legal.quotas;
      users = order.legal.users;
      acls = order.legal.acls;
      brokers = order.legal.brokers;
      next = order.legal.next;
      state = order.legal.state;
    };
  }

  configuration_kept : (b : Bool) (r : ConfigRecord) → (b ≡ false → is_broker_name r.resource_name ≡ true) → is_empty r.name ≡ false
      → IsInOrder (cond b (record i { topics = with_changed (topic_configured r) (topic_named r.resource_name i) i.topics }) (record i { broker_configs = configurations_after r i.broker_configs }))
  configuration_kept true r named member = topic_configuration_kept r member
  configuration_kept false r named member = broker_configuration_kept r (named refl) member

  with_state : (b : Bool) (state : ℤ) → int_le (pos 0) state && int_le state (pos 3) ≡ b → IsInOrder (cond b (record i { state = state }) i)
  with_state true state e = record {
    topics = order.topics;
    configs = order.configs;
    quotas = order.quotas;
    users = order.users;
    acls = order.acls;
    brokers = order.brokers;
    legal = record {
      topics = order.legal.topics;
      configs = order.legal.configs;
      quotas = order.legal.quotas;
      users = order.legal.users;
      acls = order.legal.acls;
      brokers = order.legal.brokers;
      next = order.legal.next;
      state = e;
    };
  }
  with_state false state e = order

  pub topic_removed_kept : (id : Id) → IsInOrder (record i { topics = without_topic id i.topics })
  topic_removed_kept id = with_topics _ (topic_removed_in_order id i.topics order.topics) (topic_removed_legal id i.topics order.legal.topics)

  pub scram_removed_kept : (name : List ℕ) (mechanism : ℤ) → IsInOrder (record i { users = scram_removed name mechanism i.users })
  scram_removed_kept name mechanism = with_users _ (scram_removed_in_order name mechanism i.users order.users) (scram_removed_legal name mechanism i.users order.legal.users)

  pub acl_removed_kept : (id : List ℕ) → IsInOrder (record i { acls = without bytes_cmp id_of_acl id i.acls })
  acl_removed_kept id = with_acls _ (Rises-without bytes_order id_of_acl id i.acls order.acls) (All-without IsAcl bytes_cmp id_of_acl id i.acls order.legal.acls)

  pub kept : (epoch : ℤ) (r : MetaRecord) → broken_rule i r ≡ None → IsInOrder (effect epoch r i)
  kept epoch (meta.RegisterBroker r) fine =
      let valued = neither_holds (int_lt r.broker_id (pos 0)) (not (is_epoch r.broker_epoch)) (unbroken i (meta.RegisterBroker r) fine).2 in
      record {
        topics = order.topics;
        configs = order.configs;
        quotas = order.quotas;
        users = order.users;
        acls = order.acls;
        brokers = Rises-put int_order id_of_broker r i.brokers order.brokers;
        legal = record {
          topics = order.legal.topics;
          configs = order.legal.configs;
          quotas = order.legal.quotas;
          users = order.legal.users;
          acls = order.legal.acls;
          brokers = All-put IsBroker int_cmp id_of_broker r i.brokers (not_less r.broker_id (pos 0) valued.0, holds_by (is_epoch r.broker_epoch) valued.1) order.legal.brokers;
          next = order.legal.next;
          state = order.legal.state;
        };
      }
  kept epoch (meta.Topic r) fine =
      let facts = unbroken i (meta.Topic r) fine in
      let named = neither_holds (not (is_topic_name r.name)) (is_zero r.topic_id) facts.0 in
      let absent = (neither_holds (is_some (topic_named r.name i)) (is_some (topic_with r.topic_id i)) facts.1).1 in
      with_topics _ (topic_made_in_order r i.topics order.topics) (topic_made_legal r i.topics (holds_by (is_topic_name r.name) named.0) named.1 (absent_by (topic_with r.topic_id i) absent) order.legal.topics)
  kept epoch (meta.Partition r) fine =
      let valued = neither_holds (int_lt r.partition_id (pos 0)) (not (is_row (new_row (pos 0) r))) (unbroken i (meta.Partition r) fine).2 in
      with_topics _ (partition_made_in_order r.topic_id r.partition_id (new_row epoch r) i.topics order.topics)
      (partition_made_legal epoch r i.topics (not_less r.partition_id (pos 0) valued.0) (holds_by (is_row (new_row (pos 0) r)) valued.1) order.topics.rising order.legal.topics)
  kept epoch (meta.Config r) fine = configuration_kept (int_eq r.resource_type (pos 2)) r (resource_named i r fine) (member_named i r fine)
  kept epoch (meta.PartitionChange r) fine =
      with_topics _ (partition_changed_in_order epoch r i.topics order.topics) (partition_changed_legal epoch r i.topics (change_unbroken i r fine) order.topics.rising order.legal.topics)
  kept epoch (meta.RemoveTopic id) fine = topic_removed_kept id
  kept epoch (meta.UserScramCredential r) fine =
      let facts = unbroken i (meta.UserScramCredential r) fine in
      let valued = neither_holds (not (is_mechanism r.mechanism)) (int_lt r.iterations (pos 1)) facts.2 in
      with_users _ (scram_set_in_order r i.users order.users)
      (scram_set_legal r i.users (holds_by (is_user r.name) facts.0) (holds_by (is_mechanism r.mechanism) valued.0) (not_less r.iterations (pos 1) valued.1) order.legal.users)
  kept epoch (meta.ClientQuota r) fine =
      let named = quota_unbroken i r fine in
      record {
        topics = order.topics;
        configs = order.configs;
        quotas = quota_changed_in_order r i.quotas named order.quotas;
        users = order.users;
        acls = order.acls;
        brokers = order.brokers;
        legal = record {
          topics = order.legal.topics;
          configs = order.legal.configs;
          quotas = quota_changed_legal r (quota_key r.entity) i.quotas named (holds_by (is_quota r.value) (unbroken i (meta.ClientQuota r) fine).2) order.legal.quotas;
          users = order.legal.users;
          acls = order.legal.acls;
          brokers = order.legal.brokers;
          next = order.legal.next;
          state = order.legal.state;
        };
      }
  kept epoch (meta.ProducerIds r) fine =
      let upper = neither_holds (int_lt r.broker_id (negsuc 0) || not (is_epoch_or_none r.broker_epoch) || int_lt r.next (pos 0) || is_below_next r.next i.next_producer) (int_lt max_next r.next) (unbroken i (meta.ProducerIds r) fine).2 in
      let above = neither_holds (int_lt r.broker_id (negsuc 0) || not (is_epoch_or_none r.broker_epoch) || int_lt r.next (pos 0)) (is_below_next r.next i.next_producer) upper.0 in
      let lower = neither_holds (int_lt r.broker_id (negsuc 0) || not (is_epoch_or_none r.broker_epoch)) (int_lt r.next (pos 0)) above.0 in
      record {
        topics = order.topics;
        configs = order.configs;
        quotas = order.quotas;
        users = order.users;
        acls = order.acls;
        brokers = order.brokers;
        legal = record {
          topics = order.legal.topics;
          configs = order.legal.configs;
          quotas = order.legal.quotas;
          users = order.legal.users;
          acls = order.legal.acls;
          brokers = order.legal.brokers;
          next = (not_less r.next (pos 0) lower.1, not_less max_next r.next upper.1);
          state = order.legal.state;
        };
      }
  kept epoch (meta.AccessControlEntry r) fine =
      let facts = unbroken i (meta.AccessControlEntry r) fine in
      let named = neither_holds (is_zero r.id) (not (is_resource r.resource_type r.pattern_type r.resource_name)) facts.0 in
      let permitted = neither_holds (not (are_codes r.resource_type r.pattern_type) || not (is_operation r.operation)) (not (is_permission r.permission)) facts.2 in
      let operated = neither_holds (not (are_codes r.resource_type r.pattern_type)) (not (is_operation r.operation)) permitted.0 in
      let entry : AclEntry = record { id = r.id; row = acl_row r } in
      with_acls _ (Rises-put bytes_order id_of_acl entry i.acls order.acls)
      (All-put IsAcl bytes_cmp id_of_acl entry i.acls
      (record {
        identified = named.0;
        resource = holds_by (is_resource r.resource_type r.pattern_type r.resource_name) named.1;
        codes = holds_by (are_codes r.resource_type r.pattern_type) operated.0;
        operation = holds_by (is_operation r.operation) operated.1;
        permission = holds_by (is_permission r.permission) permitted.1;
      }) order.legal.acls)
  kept epoch (meta.RemoveAccessControlEntry id) fine = acl_removed_kept id.bytes
  kept epoch meta.NoOp fine = order
  kept epoch (meta.ZkMigrationState s) fine = with_state _ s refl
  kept epoch (meta.RemoveUserScramCredential name mechanism) fine = scram_removed_kept name mechanism
  kept epoch (meta.BeginTransaction name) fine = order
  kept epoch meta.EndTransaction fine = order
  kept epoch (meta.AbortTransaction reason) fine = order
