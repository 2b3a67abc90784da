-- The records of the configuration of a broker lead to what is said with it.
use Rattle.std.proofs.Common.{◌≡◌, ◌≢◌, ℕ, ◌≤◌, ℤ, pos, negsuc, true, List, [], ◌∷◌, ◌++◌, Option, Some, None, is_some, refl, sym, ap, ◌∙◌, subst, arith}
use Rattle.std.specs.Prelude.{Result, Ok, Err, option_map, option_and_then, decimal, IfSome}
use Rattle.std.proofs.lemmas.Bool.{false≢true}
use Rattle.std.proofs.lemmas.Int.{ints}
use Rattle.kz_types.specs.declared.tree.Row.{Row}
use Rattle.kz_types.specs.declared.bodies.Pair.{Pair}
use Rattle.kz_types.specs.declared.bodies.Body.{Body}
use Rattle.kz_types.specs.declared.bodies.Body.TheVariants as body
use Rattle.kz_types.specs.declared.fault.BodyFault.{BodyFault}
use Rattle.kz_types.specs.declared.key.EntityKey.TheVariants as key
use Rattle.kz_types.specs.declared.record.MetaRecord.{MetaRecord}
use Rattle.kz_types.specs.declared.record.RegisterBrokerRecord.{RegisterBrokerRecord}
use Rattle.kz_types.specs.Numbers.{canonical}
use Rattle.kz_types.specs.Paths.{is_not_negative, is_absent_or, is_legal, key_of, path_of}
use Rattle.kz_types.proofs.NumberLemmas.{canonical_sound, canonical_complete, canonical_digits}
use Rattle.kz_types.specs.Order.{bytes_cmp}
use Rattle.kz_types.specs.Ordered.{find}
use Rattle.kz_types.proofs.Order.{bytes_order, below, equal, above, place, less_differs, less_differs_back}
use Rattle.kz_types.proofs.Lookup.{some_is_none, same_some}
use Rattle.kz_spec_data.specs.Bodies.{read_body}
use Rattle.kz_spec_data.specs.Metadata.{Image, name_of_configuration}
use Rattle.kz_spec_data.specs.ImageRules.{is_broker_name}
use Rattle.kz_spec_data.specs.Tree.{row_at}
use Rattle.kz_spec_data.specs.Translation.{broker_name, records_of_config}
use Rattle.kz_laws_values.specs.TextKeys.{IsSmall}
use Rattle.kz_laws_values.proofs.Legal.{IsGoodKey}
use Rattle.kz_laws_values.proofs.Keys.{path_holds}
use Rattle.kz_laws_znodes.proofs.ZnodeReading.{IsBodyOf, read_is}
use Rattle.kz_laws_znodes.proofs.Accepting.{Leads}
use Rattle.kz_laws_znodes.proofs.OtherSteps.{configuration, with_configuration, broker_leads}
use Rattle.kz_laws_znodes.proofs.Saying.{entity_of, entity_read, pick, topic_said, topic_config_said, broker_config_said, quotas_said, scrams_said, next_said, said_elsewhere, said_here, said_nowhere, entries_by, listed, or_empty, grown_rises, grown_here, grown_elsewhere}
use Rattle.kz_laws_znodes.proofs.Says.{broker_named, configuration_in, SaysConfigs, Says}
use Rattle.kz_laws_znodes.proofs.ZnodeStays.{Step, stay_topics, stay_quotas, stay_users, stay_entries, stay_next}
use Rattle.kz_laws_znodes.proofs.Walk.{AreRows, absent_here, key_here, path_of_here}
use Rattle.kz_laws_znodes.proofs.Partitions.{le_holds}
use Rattle.kz_laws_znodes.proofs.ConfigWalk.{members_rise, IsConfigured, configured_are}

-- by whether a name is another
pub by_name : (P : List ℕ → Type 0) (name other : List ℕ) → P name → (other ≢ name → P other) → P other
by_name P name other here there = elim (place bytes_order other name) [
  | below less ↦ there (less_differs bytes_order other name less)
  | equal same ↦ subst P (sym same) here
  | above more ↦ there (less_differs_back bytes_order other name more)
]

-- ---- the names of brokers

-- whether a broker may have a configuration
abbrev pub IsBrokerKey : Option ℤ → Type 0
IsBrokerKey broker = (is_absent_or is_not_negative broker ≡ true) × IfSome broker IsSmall

number_named : (bs : List ℕ) (n : ℕ) → canonical bs ≡ Some n → broker_named bs ≡ Some (Some (pos n))
number_named [] n e = absurd (omega (arith, (canonical_digits [] n e).1))
number_named (b ∷ bs) n e = ap (option_map (λ m. Some (pos m))) e

number_is_name : (bs : List ℕ) (n : ℕ) → canonical bs ≡ Some n → is_broker_name bs ≡ true
number_is_name [] n e = refl
number_is_name (b ∷ bs) n e = ap is_some e

small : (n : ℕ) → IsSmall (pos n) → n ≤ 2147483647
small n h = omega (arith, ints, h)

pub named_back : (broker : Option ℤ) → IsBrokerKey broker → broker_named (broker_name broker) ≡ Some broker
named_back None h = refl
named_back (Some (pos n)) h = number_named (decimal n) n (canonical_complete n (small n h.1))
named_back (Some (negsuc n)) h = absurd (false≢true h.0)

pub name_is_legal : (broker : Option ℤ) → IsBrokerKey broker → is_broker_name (broker_name broker) ≡ true
name_is_legal None h = refl
name_is_legal (Some (pos n)) h = number_is_name (decimal n) n (canonical_complete n (small n h.1))
name_is_legal (Some (negsuc n)) h = absurd (false≢true h.0)

pub named_only : (name : List ℕ) (broker : Option ℤ) → broker_named name ≡ Some broker → (name ≡ broker_name broker) × IsBrokerKey broker
named_only [] broker e = subst (λ b. ([] ≡ broker_name b) × IsBrokerKey b) (same_some None broker e) (refl, (refl, tt))
named_only (b ∷ bs) broker e = by (canonical (b ∷ bs)) refl e
  where
    by : (o : Option ℕ) → canonical (b ∷ bs) ≡ o → option_map (λ n. Some (pos n)) o ≡ Some broker → (b ∷ bs ≡ broker_name broker) × IsBrokerKey broker
    by None is h = absurd (some_is_none (sym h))
    by (Some n) is h =
        let sound = canonical_sound (b ∷ bs) n is in
        let low : IsSmall (pos n) = omega (arith, ints, sound.1) in
        subst (λ k. (b ∷ bs ≡ broker_name k) × IsBrokerKey k) (same_some (Some (pos n)) broker h) (sound.0, (le_holds (pos 0) (pos n) (omega (arith, ints)), low))

broker_is_good : (broker : Option ℤ) → IsGoodKey (key.BrokerConfig broker) → IsBrokerKey broker
unfolding is_legal
broker_is_good broker g = g

pub broker_key_good : (broker : Option ℤ) → IsBrokerKey broker → key_of (path_of (key.BrokerConfig broker)) ≡ Some (key.BrokerConfig broker)
unfolding is_legal
broker_key_good broker h = path_holds (key.BrokerConfig broker) h.0 h.1

same_broker : (a b : Option ℤ) → Some (key.BrokerConfig a) ≡ Some (key.BrokerConfig b) → a ≡ b
same_broker a b e = cc

config_not_err : (resource : ℤ) (name : List ℕ) (e : BodyFault) (one : List MetaRecord) → records_of_config resource name (Err e) ≡ Ok one → ⊥
config_not_err resource name e one h = cc

-- ---- its znode

module _ (epoch : ℤ) (rows : List Row) (brokers : List RegisterBrokerRecord) (state : ℤ) (earlier : List Row) (r : Row) (rest : List Row) (i : Image)
    (whole : rows ≡ earlier ++ r ∷ rest) (z : AreRows rows) (s : Says epoch rows brokers state earlier i) where
  module _ (broker : Option ℤ) (holds : key_of r.path ≡ Some (key.BrokerConfig broker)) (pairs : List Pair) (is : read_body (key.BrokerConfig broker) r.body ≡ Ok (body.Config pairs)) where
    config_entity : entity_of r ≡ Some (record { who = key.BrokerConfig broker; what = body.Config pairs })
    config_entity = entity_read r (key.BrokerConfig broker) (body.Config pairs) holds is

    config_at : path_of (key.BrokerConfig broker) ≡ r.path
    config_at = path_of_here rows earlier r rest whole z (key.BrokerConfig broker) holds

    config_absent : row_at (path_of (key.BrokerConfig broker)) earlier ≡ None
    config_absent = ap (λ p. row_at p earlier) config_at ∙ absent_here rows earlier r rest whole z

    config_good : IsBrokerKey broker
    config_good = broker_is_good broker (key_here rows earlier r rest whole z (key.BrokerConfig broker) holds)

    config_new : find bytes_cmp name_of_configuration (broker_name broker) i.broker_configs ≡ None
    config_new = s.configs.each (broker_name broker) ∙ ap (option_and_then (configuration_in earlier (broker_name broker))) (named_back broker config_good)
        ∙ ap (λ o. listed configuration (broker_name broker) (or_empty o)) (said_nowhere broker_config_said (path_of (key.BrokerConfig broker)) earlier config_absent)

    config_elsewhere : (name : List ℕ) → name ≢ broker_name broker → (o : Option (Option ℤ)) → broker_named name ≡ o → option_and_then (configuration_in earlier name) o ≡ option_and_then (configuration_in (earlier ++ r ∷ []) name) o
    config_elsewhere name ne None e = refl
    config_elsewhere name ne (Some other) e =
        let only = named_only name other e in
        ap (λ o. listed configuration name (or_empty o)) (sym (said_elsewhere broker_config_said (path_of (key.BrokerConfig other)) earlier r
        (λ same. ne (only.0 ∙ ap broker_name (same_broker other broker (sym (broker_key_good other only.1) ∙ ap key_of same ∙ holds))))))

    configs_say : SaysConfigs (earlier ++ r ∷ []) (with_configuration (broker_name broker) pairs i.broker_configs)
    configs_say = record {
      rise = grown_rises bytes_order name_of_configuration configuration (λ k list. refl) (broker_name broker) pairs i.broker_configs s.configs.rise;
      each = λ other. by_name (λ name. find bytes_cmp name_of_configuration name (with_configuration (broker_name broker) pairs i.broker_configs) ≡ option_and_then (configuration_in (earlier ++ r ∷ []) name) (broker_named name)) (broker_name broker) other
          (grown_here bytes_order name_of_configuration configuration (λ k list. refl) (broker_name broker) pairs i.broker_configs config_new
          ∙ sym (ap (option_and_then (configuration_in (earlier ++ r ∷ []) (broker_name broker))) (named_back broker config_good)
          ∙ ap (λ o. listed configuration (broker_name broker) (or_empty o)) (said_here broker_config_said (path_of (key.BrokerConfig broker)) earlier r config_at config_absent ∙ ap (pick broker_config_said) config_entity)))
          (λ ne. grown_elsewhere bytes_order name_of_configuration configuration (λ k list. refl) other (broker_name broker) pairs i.broker_configs ne ∙ s.configs.each other ∙ config_elsewhere other ne (broker_named other) refl);
    }

    broker_body_step : (one : List MetaRecord) → IsBodyOf (key.BrokerConfig broker) (body.Config pairs) → records_of_config (pos 4) (broker_name broker) (Ok (body.Config pairs)) ≡ Ok one → Step epoch rows brokers state earlier r one i
    broker_body_step one rise e =
        let c : IsConfigured (pos 4) (broker_name broker) pairs one = configured_are (pos 4) (broker_name broker) pairs one rise e in
        let after : Image = record i { broker_configs = with_configuration (broker_name broker) pairs i.broker_configs } in record {
          after = after;
          leads = subst (λ rs. Leads epoch rs i after) (sym c.records) (broker_leads epoch i (broker_name broker) (name_is_legal broker config_good) config_new pairs (members_rise pairs rise) c.named);
          says = record {
            topics = stay_topics earlier r epoch rows i.topics (ap (pick topic_said) config_entity) (ap (pick topic_config_said) config_entity) s.topics;
            configs = configs_say;
            quotas = stay_quotas earlier r i.quotas (ap (pick quotas_said) config_entity) s.quotas;
            users = stay_users earlier r i.users (ap (pick scrams_said) config_entity) s.users;
            entries = stay_entries earlier r i.acls (ap entries_by config_entity) s.entries;
            next = stay_next earlier r i.next_producer (ap (pick next_said) config_entity) s.next;
            brokers_are = s.brokers_are;
            state_is = s.state_is;
          };
        }

  broker_by_body : (broker : Option ℤ) → key_of r.path ≡ Some (key.BrokerConfig broker) → (one : List MetaRecord) (b : Body) → read_body (key.BrokerConfig broker) r.body ≡ Ok b → IsBodyOf (key.BrokerConfig broker) b
      → records_of_config (pos 4) (broker_name broker) (Ok b) ≡ Ok one → Step epoch rows brokers state earlier r one i
  broker_by_body broker holds one (body.Topic id ps) is h e = absurd h
  broker_by_body broker holds one (body.State leader leader_epoch controller_epoch isr recovery) is h e = absurd h
  broker_by_body broker holds one (body.Config pairs) is h e = broker_body_step broker holds pairs is one h e
  broker_by_body broker holds one (body.Quota quotas scrams) is h e = absurd h
  broker_by_body broker holds one (body.Acls entries) is h e = absurd h
  broker_by_body broker holds one (body.Producer owner start end) is h e = absurd h
  broker_by_body broker holds one body.Blank is h e = absurd h

  pub broker_config_step : (broker : Option ℤ) → key_of r.path ≡ Some (key.BrokerConfig broker) → (one : List MetaRecord) → records_of_config (pos 4) (broker_name broker) (read_body (key.BrokerConfig broker) r.body) ≡ Ok one → Step epoch rows brokers state earlier r one i
  broker_config_step broker holds one e = by (read_body (key.BrokerConfig broker) r.body) refl e
    where
      by : (read : Result Body BodyFault) → read_body (key.BrokerConfig broker) r.body ≡ read → records_of_config (pos 4) (broker_name broker) read ≡ Ok one → Step epoch rows brokers state earlier r one i
      by (Err f) is h = absurd (config_not_err (pos 4) (broker_name broker) f one h)
      by (Ok b) is h = broker_by_body broker holds one b is (read_is (key.BrokerConfig broker) r.body b is) h
