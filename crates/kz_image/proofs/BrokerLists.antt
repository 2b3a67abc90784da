-- Brokers by rising id: whether the one of an id is ready to migrate.
use Rattle.std.proofs.Common.{◌≡◌, ℤ, ◌&&◌, ◌||◌, Bool, true, false, List, [], ◌∷◌, Option, Some, None, refl, sym, ap, ◌∙◌}
use Rattle.std.specs.List.{list_any}
use Rattle.std.specs.Ordering.{int_cmp, int_eq}
use Rattle.std.proofs.lemmas.Bool.Decides.{Decides-int_eq}
use Rattle.kz_types.specs.declared.record.RegisterBrokerRecord.{RegisterBrokerRecord}
use Rattle.kz_types.specs.Ordered.{find, Rises}
use Rattle.kz_types.proofs.Order.{int_order, below, equal, above, place, less_differs, less_differs_back}
use Rattle.kz_types.proofs.Lookup.{find_here, find_skip, find_at_bound, rest_rises}
use Rattle.kz_spec_data.specs.Metadata.{id_of_broker}

abbrev pub is_ready : Option RegisterBrokerRecord → Bool
is_ready None = false
is_ready (Some b) = b.migrating

or_false : (b : Bool) → b || false ≡ b
or_false true = refl
or_false false = refl

other_int : (a b : ℤ) → (a ≡ b → ⊥) → int_eq a b ≡ false
other_int a b ne = by (int_eq a b) (Decides-int_eq a b).0
  where
    by : (c : Bool) → (c ≡ true → a ≡ b) → c ≡ false
    by true is = absurd (ne (is refl))
    by false is = refl

-- some broker has the id and is ready where the one that is found is
pub any_is_ready : (id : ℤ) (xs : List RegisterBrokerRecord) → Rises int_cmp id_of_broker xs
    → list_any (λ (b : RegisterBrokerRecord). int_eq b.broker_id id && b.migrating) xs ≡ is_ready (find int_cmp id_of_broker id xs)
any_is_ready id [] h = refl
any_is_ready id (x ∷ xs) h =
    let later = any_is_ready id xs (rest_rises int_order id_of_broker x xs h) in
    let any = list_any (λ (b : RegisterBrokerRecord). int_eq b.broker_id id && b.migrating) xs in
    elim (place int_order id x.broker_id) [
      | below p ↦ let ne = less_differs int_order id x.broker_id p in
          ap (λ c. (c && x.migrating) || any) (other_int x.broker_id id (λ e. ne (sym e))) ∙ later ∙ ap is_ready (sym (find_skip int_order id_of_broker id x xs ne))
      | equal p ↦
          ap (λ c. (c && x.migrating) || any) ((Decides-int_eq x.broker_id id).1 (sym p))
          ∙ ap (λ r. x.migrating || r) (later ∙ ap is_ready (ap (λ q. find int_cmp id_of_broker q xs) p ∙ find_at_bound int_order id_of_broker x.broker_id xs h))
          ∙ or_false x.migrating ∙ ap is_ready (sym (find_here int_order id_of_broker id x xs p))
      | above p ↦ let ne = less_differs_back int_order id x.broker_id p in
          ap (λ c. (c && x.migrating) || any) (other_int x.broker_id id (λ e. ne (sym e))) ∙ later ∙ ap is_ready (sym (find_skip int_order id_of_broker id x xs ne))
    ]
