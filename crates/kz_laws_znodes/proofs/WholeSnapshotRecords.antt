-- All records of a snapshot, one list after another.
use Rattle.std.proofs.Common.{◌≡◌, ℤ, List, ◌++◌, map, refl, sym, subst}
use Rattle.std.specs.Prelude.{option_map, option_to_list}
use Rattle.std.specs.List.{flat_map}
use Rattle.std.proofs.lemmas.List.{map-append}
use Rattle.kz_types.specs.declared.record.MetaRecord.{MetaRecord}
use Rattle.kz_types.specs.declared.record.MetaRecord.TheVariants as meta
use Rattle.kz_spec_data.specs.Metadata.{Image, empty_image}
use Rattle.kz_spec_data.specs.InOrder.{IsInOrder}
use Rattle.kz_laws_znodes.specs.RoundTrip.{IsWritable}
use Rattle.kz_types.specs.declared.log.EpochRecord.{EpochRecord}
use Rattle.kz_spec_data.specs.SnapshotRecords.{in_epoch, records_of_topic, members_of_topic, members_of_brokers, quotas_of_entry, scrams_of_entry, record_of_acl, producer_record, state_records, records_after_topics, image_after, snapshot_records}
use Rattle.kz_laws_znodes.proofs.Making.{Make, make_append, map_flat}
use Rattle.kz_laws_znodes.proofs.SnapshotTopics as topics
use Rattle.kz_laws_znodes.proofs.Rest as rest
use Rattle.kz_laws_znodes.proofs.Users as users
use Rattle.std.proofs.lemmas.Simd.{map-map}

one_then : (epoch : ℤ) (rs ss : List MetaRecord) (i j k : Image) → Make (map (in_epoch epoch) rs) i j → Make (map (in_epoch epoch) ss) j k → Make (map (in_epoch epoch) (rs ++ ss)) i k
one_then epoch rs ss i j k a b = subst (λ (l : List EpochRecord). Make l i k) (sym (map-append (in_epoch epoch) rs ss)) (make_append (map (in_epoch epoch) rs) (map (in_epoch epoch) ss) i j k a b)

of_each : {A : Type 0} (epoch : ℤ) (g : A → List MetaRecord) (xs : List A) (i j : Image) → Make (flat_map (λ (x : A). map (in_epoch epoch) (g x)) xs) i j → Make (map (in_epoch epoch) (flat_map g xs)) i j
of_each epoch g xs i j made = subst (λ (l : List EpochRecord). Make l i j) (sym (map_flat (in_epoch epoch) g xs)) made

module _ (g : Image) (o : IsInOrder g) (w : IsWritable g) (epoch : ℤ) where
  abbrev with_brokers : Image
  with_brokers = record empty_image { brokers = g.brokers }

  abbrev with_bare : Image
  with_bare = record with_brokers { topics = map topics.bare_topic g.topics }

  abbrev with_topics : Image
  with_topics = record with_brokers { topics = g.topics }

  abbrev with_configs : Image
  with_configs = record with_topics { broker_configs = g.broker_configs }

  abbrev with_quotas : Image
  with_quotas = record with_configs { quotas = g.quotas }

  abbrev with_users : Image
  with_users = record with_quotas { users = g.users }

  abbrev with_acls : Image
  with_acls = record with_users { acls = g.acls }

  abbrev with_producer : Image
  with_producer = record with_acls { next_producer = g.next_producer }

  after_topics : Make (map (in_epoch epoch) (records_after_topics g)) with_bare g
  after_topics =
      let a = of_each epoch members_of_topic g.topics with_bare with_topics (topics.configs_made with_brokers g.topics o.topics.rising o.topics.within o.legal.topics.each epoch) in
      let b = of_each epoch members_of_brokers g.broker_configs with_topics with_configs (rest.configs_made with_topics g.broker_configs o.configs.rising o.configs.filled o.legal.configs refl epoch) in
      let c = of_each epoch quotas_of_entry g.quotas with_configs with_quotas (users.quotas_made g o w with_configs refl epoch) in
      let d = of_each epoch scrams_of_entry g.users with_quotas with_users (users.users_made g.users o.users.rising o.users.filled o.legal.users with_quotas refl epoch) in
      let e = subst (λ (l : List EpochRecord). Make l with_users with_acls) (sym (map-map (in_epoch epoch) record_of_acl g.acls)) (rest.acls_made with_users g.acls o.acls o.legal.acls refl epoch) in
      let f = rest.producer_made with_acls g.next_producer o.legal.next refl epoch in
      let h = rest.state_made with_producer g.state o.legal.state refl epoch in
      let producers = option_to_list (option_map producer_record g.next_producer) in
      let acls = map record_of_acl g.acls in
      let scrams = flat_map scrams_of_entry g.users in
      let quotas = flat_map quotas_of_entry g.quotas in
      let configs = flat_map members_of_brokers g.broker_configs in
      let members = flat_map members_of_topic g.topics in
      let two = one_then epoch members configs with_bare with_topics with_configs a b in
      let three = one_then epoch (members ++ configs) quotas with_bare with_configs with_quotas two c in
      let four = one_then epoch (members ++ configs ++ quotas) scrams with_bare with_quotas with_users three d in
      let five = one_then epoch (members ++ configs ++ quotas ++ scrams) acls with_bare with_users with_acls four e in
      let six = one_then epoch (members ++ configs ++ quotas ++ scrams ++ acls) producers with_bare with_acls with_producer five f in
      one_then epoch (members ++ configs ++ quotas ++ scrams ++ acls ++ producers) (state_records g.state) with_bare with_producer g six h

  pub records_return : image_after (snapshot_records epoch g) empty_image ≡ g
  records_return =
      let brokers = map (λ b. in_epoch epoch (meta.RegisterBroker b)) g.brokers in
      let all = flat_map (records_of_topic epoch) g.topics in
      make_append (brokers ++ all) (map (in_epoch epoch) (records_after_topics g)) empty_image with_bare g
      (make_append brokers all empty_image with_brokers with_bare (rest.brokers_made empty_image g.brokers o.brokers o.legal.brokers refl epoch)
      (topics.topics_made with_brokers g.topics o.topics.rising o.topics.within o.legal.topics.each o.legal.topics.apart refl epoch))
      after_topics
