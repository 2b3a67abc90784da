-- Metadata that a program holds stays as it is to be under each record.
use Rattle.std.proofs.Common.{◌≡◌, ℕ, ℤ, pos, true, false, List, None, arith}
use Rattle.std.proofs.lemmas.Int.{ints}
use Rattle.std.specs.Prelude.{IfSome}
use Rattle.kz_types.specs.declared.id.Id.{Id}
use Rattle.kz_types.specs.declared.record.MetaRecord.{MetaRecord}
use Rattle.kz_types.specs.declared.record.MetaRecord.TheVariants as meta
use Rattle.kz_types.specs.declared.record.ConfigRecord.{ConfigRecord}
use Rattle.kz_types.specs.Order.{bytes_cmp}
use Rattle.kz_types.specs.Ordered.{without}
use Rattle.kz_spec_data.specs.Metadata.{topic_named, id_of_acl}
use Rattle.kz_spec_data.specs.ImageRules.{is_empty, is_broker_name, broken_rule}
use Rattle.kz_spec_data.specs.Image.{Image, with_changed, topic_configured, configurations_after, without_topic, scram_removed, effect}
use Rattle.kz_laws_znodes.proofs.KeptImages.{kept, topic_configuration_kept, broker_configuration_kept, topic_removed_kept, scram_removed_kept, acl_removed_kept}
use Rattle.kz_laws_znodes.specs.Writable.{IsText, FitsInt, IsRecordWritable, IsHeld}
use Rattle.kz_laws_znodes.proofs.KeptWritable as writable

pub held : (i : Image) → IsHeld i → (epoch : ℤ) (r : MetaRecord) → FitsInt epoch → IsRecordWritable r → broken_rule i r ≡ None → IsHeld (effect epoch r i)
held i h epoch r at fields fine = record { order = kept i h.order epoch r fine; writable = writable.kept i h.writable epoch r at fields fine }

-- in a batch of no controller: of most records the epoch says nothing
pub held_at_zero : (i : Image) → IsHeld i → (r : MetaRecord) → IsRecordWritable r → broken_rule i r ≡ None → IsHeld (effect (pos 0) r i)
held_at_zero i h r fields fine = held i h (pos 0) r (omega (arith, ints)) fields fine

pub topic_configured_held : (i : Image) → IsHeld i → (r : ConfigRecord) → IsRecordWritable (meta.Config r) → is_empty r.name ≡ false → IsHeld (record i { topics = with_changed (topic_configured r) (topic_named r.resource_name i) i.topics })
topic_configured_held i h r fields member = record { order = topic_configuration_kept i h.order r member; writable = writable.topic_configured_writable i h.writable r fields.0 fields.1 }

pub broker_configured_held : (i : Image) → IsHeld i → (r : ConfigRecord) → IsRecordWritable (meta.Config r) → is_broker_name r.resource_name ≡ true → is_empty r.name ≡ false → IsHeld (record i { broker_configs = configurations_after r i.broker_configs })
broker_configured_held i h r fields named member = record { order = broker_configuration_kept i h.order r named member; writable = writable.broker_configured_writable i h.writable r fields.0 fields.1 }

pub topic_removed_held : (i : Image) → IsHeld i → (id : Id) → IsHeld (record i { topics = without_topic id i.topics })
topic_removed_held i h id = record { order = topic_removed_kept i h.order id; writable = writable.topic_removed_writable i h.writable id }

pub scram_removed_held : (i : Image) → IsHeld i → (name : List ℕ) (mechanism : ℤ) → IsText name → IsHeld (record i { users = scram_removed name mechanism i.users })
scram_removed_held i h name mechanism named = record { order = scram_removed_kept i h.order name mechanism; writable = writable.scram_removed_writable i h.writable name mechanism named }

pub acl_removed_held : (i : Image) → IsHeld i → (id : List ℕ) → IsHeld (record i { acls = without bytes_cmp id_of_acl id i.acls })
acl_removed_held i h id = record { order = acl_removed_kept i h.order id; writable = writable.acl_removed_writable i h.writable id }
