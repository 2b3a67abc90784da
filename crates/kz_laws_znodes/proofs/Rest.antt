-- The records of brokers, and those after the topics.
use Rattle.std.proofs.Common.{◌≡◌, ◌<◌, ℤ, pos, Bool, true, false, ◌&&◌, if◌then◌else◌, is_some, List, [], ◌∷◌, ◌++◌, map, length, Option, Some, None, refl, sym, ap, ◌∙◌, subst, arith}
use Rattle.std.specs.Prelude.{int_le, int_lt, option_map, option_to_list}
use Rattle.std.specs.Ordering.{int_cmp, int_eq}
use Rattle.std.specs.List.{All, flat_map}
use Rattle.std.proofs.lemmas.Int.{ints}
use Rattle.kz_types.specs.declared.codes.TheConstants.{NO_MIGRATION, POST_MIGRATION}
use Rattle.kz_types.specs.declared.bodies.Pair.{Pair}
use Rattle.kz_types.specs.declared.image.AclEntry.{AclEntry}
use Rattle.kz_types.specs.declared.image.Configuration.{Configuration}
use Rattle.kz_types.specs.declared.record.RegisterBrokerRecord.{RegisterBrokerRecord}
use Rattle.kz_types.specs.declared.record.MetaRecord.TheVariants as meta
use Rattle.kz_types.specs.Order.{bytes_cmp}
use Rattle.kz_types.specs.Ordered.{put, Rises}
use Rattle.kz_types.proofs.Order.{bytes_order, int_order}
use Rattle.kz_types.proofs.Append.{put_last, find_all_below, below_split}
use Rattle.kz_spec_data.specs.Metadata.{Image, id_of_broker, name_of_configuration, id_of_acl}
use Rattle.kz_types.specs.Paths.{is_not_negative}
use Rattle.kz_spec_data.specs.ImageRules.{max_next}
use Rattle.kz_spec_data.specs.InOrder.{IsFilled}
use Rattle.kz_spec_data.specs.Legal.{IsConfiguration, IsAcl, IsBroker, IsNext}
use Rattle.kz_laws_znodes.proofs.OtherSteps.{configuration, with_configuration, broker_leads, producer_leads}
use Rattle.kz_types.specs.declared.log.EpochRecord.{EpochRecord}
use Rattle.kz_spec_data.specs.SnapshotRecords.{in_epoch, members_of_brokers, record_of_acl, producer_record, state_records}
use Rattle.kz_laws_znodes.proofs.Making.{Make, make_led, make_one, all_at, make_each}
use Rattle.std.proofs.lemmas.List.Concat.{flat_map_single}

-- ---- brokers

not_negative : (z : ℤ) → is_not_negative z ≡ true → int_lt z (pos 0) ≡ false
not_negative z h = grind (arith, ints)

module _ (i : Image) (brokers : List RegisterBrokerRecord) (rises : Rises int_cmp id_of_broker brokers) (legal : All IsBroker brokers) (none : i.brokers ≡ []) (epoch : ℤ) where
  abbrev brokers_done : List RegisterBrokerRecord → List RegisterBrokerRecord → Image
  brokers_done done todo = record i { brokers = done }

  broker_one : (done : List RegisterBrokerRecord) (b : RegisterBrokerRecord) (rest : List RegisterBrokerRecord) → brokers ≡ done ++ b ∷ rest → Make (in_epoch epoch (meta.RegisterBroker b) ∷ []) (brokers_done done (b ∷ rest)) (brokers_done (done ++ b ∷ []) rest)
  broker_one done b rest whole =
      let under = below_split int_order id_of_broker done b rest (subst (Rises int_cmp id_of_broker) whole rises) in
      let own = all_at IsBroker done b rest (subst (All IsBroker) whole legal) in
      make_one epoch (meta.RegisterBroker b) (brokers_done done (b ∷ rest)) refl refl refl (rw (not_negative b.broker_id own.0, own.1) refl)
      ∙ ap (λ (bs : List RegisterBrokerRecord). record i { brokers = bs }) (put_last int_order id_of_broker b done under)

  pub brokers_made : Make (map (λ b. in_epoch epoch (meta.RegisterBroker b)) brokers) i (record i { brokers = brokers })
  brokers_made =
      let begin : record i { brokers = [] } ≡ i = ap (λ (bs : List RegisterBrokerRecord). record i { brokers = bs }) (sym none) in
      subst (λ (rs : List EpochRecord). Make rs i (record i { brokers = brokers })) (flat_map_single (λ b. in_epoch epoch (meta.RegisterBroker b)) brokers)
      (subst (λ (j : Image). Make (flat_map (λ b. in_epoch epoch (meta.RegisterBroker b) ∷ []) brokers) j (record i { brokers = brokers })) begin
      (make_each brokers (λ b. in_epoch epoch (meta.RegisterBroker b) ∷ []) brokers_done broker_one))

-- ---- configurations of brokers

module _ (i : Image) (configs : List Configuration) (rises : Rises bytes_cmp name_of_configuration configs) (filled : All IsFilled configs) (legal : All IsConfiguration configs) (none : i.broker_configs ≡ []) (epoch : ℤ) where
  abbrev configs_done : List Configuration → List Configuration → Image
  configs_done done todo = record i { broker_configs = done }

  filled_is : (c : Configuration) (done : List Configuration) → 0 < length c.pairs → with_configuration c.name c.pairs done ≡ put bytes_cmp name_of_configuration c done
  filled_is c done some = by c.pairs some
    where
      by : (pairs : List Pair) → 0 < length pairs → with_configuration c.name pairs done ≡ put bytes_cmp name_of_configuration (configuration c.name pairs) done
      by [] some = absurd (omega (arith, some))
      by (p ∷ ps) some = refl

  config_one : (done : List Configuration) (c : Configuration) (rest : List Configuration) → configs ≡ done ++ c ∷ rest → Make (map (in_epoch epoch) (members_of_brokers c)) (configs_done done (c ∷ rest)) (configs_done (done ++ c ∷ []) rest)
  config_one done c rest whole =
      let under = below_split bytes_order name_of_configuration done c rest (subst (Rises bytes_cmp name_of_configuration) whole rises) in
      let own = all_at IsConfiguration done c rest (subst (All IsConfiguration) whole legal) in
      let order = all_at IsFilled done c rest (subst (All IsFilled) whole filled) in
      let state = configs_done done (c ∷ rest) in
      make_led epoch (members_of_brokers c) state (record state { broker_configs = with_configuration c.name c.pairs done })
      (broker_leads epoch state c.name own.0 (find_all_below bytes_order name_of_configuration c.name done under) c.pairs order.1 own.1)
      ∙ ap (λ (cs : List Configuration). record i { broker_configs = cs }) (filled_is c done order.0 ∙ put_last bytes_order name_of_configuration c done under)

  pub configs_made : Make (flat_map (λ (c : Configuration). map (in_epoch epoch) (members_of_brokers c)) configs) i (record i { broker_configs = configs })
  configs_made =
      let begin : record i { broker_configs = [] } ≡ i = ap (λ (cs : List Configuration). record i { broker_configs = cs }) (sym none) in
      subst (λ (j : Image). Make (flat_map (λ (c : Configuration). map (in_epoch epoch) (members_of_brokers c)) configs) j (record i { broker_configs = configs })) begin
      (make_each configs (λ (c : Configuration). map (in_epoch epoch) (members_of_brokers c)) configs_done config_one)

-- ---- access control entries

module _ (i : Image) (acls : List AclEntry) (rises : Rises bytes_cmp id_of_acl acls) (legal : All IsAcl acls) (none : i.acls ≡ []) (epoch : ℤ) where
  abbrev acls_done : List AclEntry → List AclEntry → Image
  acls_done done todo = record i { acls = done }

  acl_one : (done : List AclEntry) (a : AclEntry) (rest : List AclEntry) → acls ≡ done ++ a ∷ rest → Make (in_epoch epoch (record_of_acl a) ∷ []) (acls_done done (a ∷ rest)) (acls_done (done ++ a ∷ []) rest)
  acl_one done a rest whole =
      let under = below_split bytes_order id_of_acl done a rest (subst (Rises bytes_cmp id_of_acl) whole rises) in
      let own = all_at IsAcl done a rest (subst (All IsAcl) whole legal) in
      make_one epoch (record_of_acl a) (acls_done done (a ∷ rest))
      (rw (own.identified, own.resource) refl) refl
      (ap (λ o. is_some (option_map (λ (b : AclEntry). b.row) o)) (find_all_below bytes_order id_of_acl a.id.bytes done under))
      (rw (own.codes, own.operation, own.permission) refl)
      ∙ ap (λ (es : List AclEntry). record i { acls = es }) (put_last bytes_order id_of_acl a done under)

  pub acls_made : Make (map (λ a. in_epoch epoch (record_of_acl a)) acls) i (record i { acls = acls })
  acls_made =
      let begin : record i { acls = [] } ≡ i = ap (λ (es : List AclEntry). record i { acls = es }) (sym none) in
      subst (λ (rs : List EpochRecord). Make rs i (record i { acls = acls })) (flat_map_single (λ a. in_epoch epoch (record_of_acl a)) acls)
      (subst (λ (j : Image). Make (flat_map (λ a. in_epoch epoch (record_of_acl a) ∷ []) acls) j (record i { acls = acls })) begin
      (make_each acls (λ a. in_epoch epoch (record_of_acl a) ∷ []) acls_done acl_one))

-- ---- the next producer id, and the state of the migration

not_above : (next : ℤ) → int_le next max_next ≡ true → int_lt max_next next ≡ false
not_above next h = grind (arith, ints)

pub producer_made : (i : Image) (next : Option ℤ) → IsNext next → i.next_producer ≡ None → (epoch : ℤ) → Make (map (in_epoch epoch) (option_to_list (option_map producer_record next))) i (record i { next_producer = next })
producer_made i None legal none epoch = ap (λ (n : Option ℤ). record i { next_producer = n }) none
producer_made i (Some next) legal none epoch =
    make_led epoch (producer_record next ∷ []) i (record i { next_producer = Some next }) (producer_leads epoch i next (not_negative next legal.0) (not_above next legal.1) none)

state_by : (b : Bool) (s : ℤ) (i : Image) (epoch : ℤ) → int_eq s NO_MIGRATION ≡ b → (int_le NO_MIGRATION s && int_le s POST_MIGRATION) ≡ true → i.state ≡ NO_MIGRATION → Make (map (in_epoch epoch) (if b then [] else meta.ZkMigrationState s ∷ [])) i (record i { state = s })
state_by true s i epoch is legal none = ap (λ (t : ℤ). record i { state = t }) (none ∙ sym (same s is))
  where
    same : (s : ℤ) → int_eq s NO_MIGRATION ≡ true → s ≡ NO_MIGRATION
    same s is = grind (arith, ints)
state_by false s i epoch is legal none =
    make_one epoch (meta.ZkMigrationState s) i refl refl refl refl ∙ ap (λ (b : Bool). if b then record i { state = s } else i) legal

pub state_made : (i : Image) (s : ℤ) → (int_le NO_MIGRATION s && int_le s POST_MIGRATION) ≡ true → i.state ≡ NO_MIGRATION → (epoch : ℤ) → Make (map (in_epoch epoch) (state_records s)) i (record i { state = s })
state_made i s legal none epoch = state_by (int_eq s NO_MIGRATION) s i epoch refl legal none
