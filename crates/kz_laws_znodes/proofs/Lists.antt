-- Lists of the metadata stay in order when an item is put or taken out.
use Rattle.std.proofs.Common.{ℕ, Bool, true, false, cond, List, [], ◌∷◌, Option, Some, None, Ordering, Less, Equal, Greater, is_eq, arith}
use Rattle.std.specs.Ordering.{match_ordering}
use Rattle.std.specs.List.{All}
use Rattle.std.proofs.lemmas.List.Elements.{All-cons, All-head, All-tail}
use Rattle.kz_types.specs.declared.bodies.Pair.{Pair}
use Rattle.kz_types.specs.declared.image.Configuration.{Configuration}
use Rattle.kz_types.specs.declared.record.ConfigRecord.{ConfigRecord}
use Rattle.kz_types.specs.Order.{bytes_cmp}
use Rattle.kz_types.specs.Ordered.{find, put, without, Rises}
use Rattle.kz_types.proofs.Order.{bytes_order}
use Rattle.kz_types.proofs.Lookup.{Rises-put, Rises-without}
use Rattle.kz_spec_data.specs.Image.{name_of_configuration, name_of_pair, with_member, with_pairs, configurations_after}
use Rattle.kz_spec_data.specs.Metadata.{pairs_of, pairs_at}
use Rattle.kz_spec_data.specs.InOrder.{IsFilled, AreInOrder}

-- ---- the order is kept

module _ {A K : Type 0} (P : A → Type 0) (cmp : K → K → Ordering) (key : A → K) where
  put_by : (o : Ordering) (x y : A) (ys zs : List A) → P x → All P (y ∷ ys) → All P zs → All P (match_ordering o (x ∷ y ∷ ys) (x ∷ ys) (y ∷ zs))
  put_by Less x y ys zs p q r = All-cons P x (y ∷ ys) p q
  put_by Equal x y ys zs p q r = All-cons P x ys p (All-tail P y ys q)
  put_by Greater x y ys zs p q r = All-cons P y zs (All-head P y ys q) r

  pub All-put : (x : A) (ys : List A) → P x → All P ys → All P (put cmp key x ys)
  All-put x [] p q = All-cons P x [] p q
  All-put x (y ∷ ys) p q = put_by (cmp (key x) (key y)) x y ys (put cmp key x ys) p q (All-put x ys p (All-tail P y ys q))

  without_by : (b : Bool) (x : A) (xs zs : List A) → All P (x ∷ xs) → All P zs → All P (cond b xs (x ∷ zs))
  without_by true x xs zs q r = All-tail P x xs q
  without_by false x xs zs q r = All-cons P x zs (All-head P x xs q) r

  pub All-without : (k : K) (xs : List A) → All P xs → All P (without cmp key k xs)
  All-without k [] q = q
  All-without k (x ∷ xs) q = without_by (is_eq (cmp k (key x))) x xs (without cmp key k xs) q (All-without k xs (All-tail P x xs q))

-- ---- a configuration's members

pairs_by : (b : Bool) (c : Configuration) (found : Option Configuration) → Rises bytes_cmp name_of_pair c.pairs → Rises bytes_cmp name_of_pair (pairs_of found) → Rises bytes_cmp name_of_pair (pairs_of (cond b (Some c) found))
pairs_by true c found p q = p
pairs_by false c found p q = q

pub pairs_rise : (k : List ℕ) (xs : List Configuration) → All IsFilled xs → Rises bytes_cmp name_of_pair (pairs_at k xs)
pairs_rise k [] h = tt
pairs_rise k (x ∷ xs) h = pairs_by (is_eq (bytes_cmp k x.name)) x (find bytes_cmp name_of_configuration k xs) (All-head IsFilled x xs h).1 (pairs_rise k xs (All-tail IsFilled x xs h))

pub member_rises : (name : List ℕ) (value : Option (List ℕ)) (ps : List Pair) → Rises bytes_cmp name_of_pair ps → Rises bytes_cmp name_of_pair (with_member name value ps)
member_rises name (Some value) ps h = Rises-put bytes_order name_of_pair (record { name = name; value = value }) ps h
member_rises name None ps h = Rises-without bytes_order name_of_pair name ps h

with_pairs_in_order : (k : List ℕ) (ps : List Pair) (xs : List Configuration) → Rises bytes_cmp name_of_pair ps → AreInOrder xs → AreInOrder (with_pairs k ps xs)
with_pairs_in_order k [] xs h order = record {
  rising = Rises-without bytes_order name_of_configuration k xs order.rising;
  filled = All-without IsFilled bytes_cmp name_of_configuration k xs order.filled;
}
with_pairs_in_order k (p ∷ ps) xs h order =
    let c : Configuration = record { name = k; pairs = p ∷ ps } in record {
      rising = Rises-put bytes_order name_of_configuration c xs order.rising;
      filled = All-put IsFilled bytes_cmp name_of_configuration c xs (omega arith, h) order.filled;
    }

pub configured_in_order : (change : ConfigRecord) (xs : List Configuration) → AreInOrder xs → AreInOrder (configurations_after change xs)
configured_in_order change xs order =
    with_pairs_in_order change.resource_name (with_member change.name change.value (pairs_at change.resource_name xs)) xs
    (member_rises change.name change.value (pairs_at change.resource_name xs) (pairs_rise change.resource_name xs order.filled)) order
