use Rattle.std.proofs.Common.{◌∙◌, ◌++◌, ap, map, to_z, of_z, w32, w8, rules}
use Rattle.std.specs.Prelude.{option_map, option_to_list}
use Rattle.std.specs.List.{flat_map}
use Rattle.std.proofs.lemmas.Int.{to_z-of_z}
use mir.Val.{SFits}
use Rattle.kz_spec_data.specs.SnapshotRecords.{in_epoch, members_of_topic, members_of_brokers, quotas_of_entry, scrams_of_entry, record_of_acl, producer_record, state_records, records_after_topics}
use Rattle.kz_snapshot.proofs.Applied.{more_added}
use Rattle.kz_snapshot.proofs.metadata.push_after_topics.Goals as goal

pub returns : goal.returns
returns c =
    let i = c.args.image.now in
    let e = to_z w32 (of_z w32 c.args.epoch) in
    let f = in_epoch e in
    let old = c.args.records.now.items in
    let topics = c.in_ok-push_topic_configs.ensures ∙ ap (λ ts. old ++ map f (flat_map members_of_topic ts)) c.topics.ensures.topics in
    let brokers = c.in_ok-push_broker_configs.ensures ∙ ap (λ bs. c.push_topic_configs.new.records.items ++ map f (flat_map members_of_brokers bs)) c.broker_configs.ensures.configs in
    let quotas = c.in_ok-push_quotas.ensures ∙ ap (λ qs. c.push_broker_configs.new.records.items ++ map f (flat_map quotas_of_entry qs)) c.quota_entries.ensures.quotas in
    let users = c.in_ok-push_scrams.ensures ∙ ap (λ us. c.push_quotas.new.records.items ++ map f (flat_map scrams_of_entry us)) c.users.ensures.users in
    let acls = c.in_ok-push_acls.ensures ∙ ap (λ xs. c.push_scrams.new.records.items ++ map f (map record_of_acl xs)) c.acls.ensures.acls in
    let producer = c.in_ok-push_producer.ensures ∙ ap (λ n. c.push_acls.new.records.items ++ map f (option_to_list (option_map producer_record n))) c.next_producer.ensures.next in
    let fits : SFits w8 c.state.result = search rules in
    let state = c.in_ok-push_state.ensures ∙ ap (λ s. c.push_producer.new.records.items ++ map f (state_records s)) (to_z-of_z w8 c.state.result fits ∙ c.state.ensures.state) in
    let all = more_added f old _ _ _ _ (more_added f old _ _ _ _ (more_added f old _ _ _ _ (more_added f old _ _ _ _ (more_added f old _ _ _ _ (more_added f old _ _ _ _ topics brokers) quotas) users) acls) producer) state in
    all ∙ ap (λ n. old ++ map (in_epoch n) (records_after_topics i)) (to_z-of_z w32 c.args.epoch c.ranges.epoch)
