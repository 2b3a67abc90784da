-- What a record says of a broker, an access control entry, the next producer id and the state of the migration.
use Rattle.std.proofs.Common.{◌≡◌, ℤ, Bool, true, false, cond, Option, Some, None, option_map, refl, ap, ◌∙◌}
use Rattle.std.specs.Prelude.{int_le, pos, ◌&&◌}
use Rattle.std.specs.Ordering.{int_eq}
use Rattle.std.proofs.lemmas.Bool.Decides.{Decides-int_eq}
use Rattle.std.proofs.lemmas.Slice.Eq.{bytes_eq-Decides}
use Rattle.kz_types.specs.declared.id.Id.{Id}
use Rattle.kz_types.specs.declared.image.AclEntry.{AclEntry}
use Rattle.kz_types.specs.declared.record.MetaRecord.TheVariants as meta
use Rattle.kz_types.specs.Order.{bytes_cmp}
use Rattle.kz_types.specs.Ordered.{find}
use Rattle.kz_types.proofs.Order.{bytes_order, int_order}
use Rattle.kz_spec_data.specs.Metadata.{Image, id_of_acl, id_of_broker, same_id, acl_of}
use Rattle.kz_spec_data.specs.Image.{acl_row}
use Rattle.kz_laws_znodes.specs.Words.{broker_of, broker_word, acl_word, producer_word, state_word}
use Rattle.kz_laws_znodes.proofs.Steps.{IsStep, config_leaves, state_leaves}
use Rattle.kz_laws_znodes.proofs.Tests.{find-put_by, find-without_by, map_by}

pub broker_step : (id : ℤ) → IsStep (broker_of id) (λ epoch. broker_word id)
broker_step id epoch (meta.RegisterBroker r) i order fine = find-put_by int_order id_of_broker id r i.brokers (int_eq r.broker_id id) (Decides-int_eq r.broker_id id)
broker_step id epoch (meta.Config r) i order fine = config_leaves (broker_of id) (broker_of id i) i epoch r (λ topics. refl) (λ configs. refl)
broker_step id epoch (meta.ZkMigrationState s) i order fine = state_leaves (broker_of id) (broker_of id i) i epoch s refl refl
broker_step id epoch r i order fine = refl

pub acl_step : (id : Id) → IsStep (acl_of id) (λ epoch. acl_word id)
acl_step id epoch (meta.AccessControlEntry r) i order fine =
    let entry : AclEntry = record { id = r.id; row = acl_row r } in
    ap (option_map (λ (a : AclEntry). a.row)) (find-put_by bytes_order id_of_acl id.bytes entry i.acls (same_id r.id id) (bytes_eq-Decides r.id.bytes id.bytes))
    ∙ map_by (λ (a : AclEntry). a.row) (same_id r.id id) (Some entry) (find bytes_cmp id_of_acl id.bytes i.acls)
acl_step id epoch (meta.RemoveAccessControlEntry removed) i order fine =
    ap (option_map (λ (a : AclEntry). a.row)) (find-without_by bytes_order id_of_acl id.bytes removed.bytes i.acls (same_id removed id) (bytes_eq-Decides removed.bytes id.bytes) order.acls)
    ∙ map_by (λ (a : AclEntry). a.row) (same_id removed id) None (find bytes_cmp id_of_acl id.bytes i.acls)
acl_step id epoch (meta.Config r) i order fine = config_leaves (acl_of id) (acl_of id i) i epoch r (λ topics. refl) (λ configs. refl)
acl_step id epoch (meta.ZkMigrationState s) i order fine = state_leaves (acl_of id) (acl_of id i) i epoch s refl refl
acl_step id epoch r i order fine = refl

abbrev pub next_of : Image → Option ℤ
next_of i = i.next_producer

pub producer_step : IsStep next_of (λ epoch. producer_word)
producer_step epoch (meta.Config r) i order fine = config_leaves next_of (next_of i) i epoch r (λ topics. refl) (λ configs. refl)
producer_step epoch (meta.ZkMigrationState s) i order fine = state_leaves next_of (next_of i) i epoch s refl refl
producer_step epoch r i order fine = refl

abbrev pub state_of : Image → ℤ
state_of i = i.state

state_by : (b : Bool) (state : ℤ) (i : Image) → state_of (cond b (record i { state = state }) i) ≡ cond b state i.state
state_by true state i = refl
state_by false state i = refl

pub state_step : IsStep state_of (λ epoch. state_word)
state_step epoch (meta.Config r) i order fine = config_leaves state_of (state_of i) i epoch r (λ topics. refl) (λ configs. refl)
state_step epoch (meta.ZkMigrationState s) i order fine = state_by (int_le (pos 0) s && int_le s (pos 3)) s i
state_step epoch r i order fine = refl
