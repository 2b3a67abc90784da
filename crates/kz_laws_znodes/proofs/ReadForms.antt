-- What holds of what is read: forms of members, numbers, brokers and configurations.
use Rattle.std.proofs.Common.{◌≡◌, ℕ, ℤ, ◌≤ℤ◌, pos, Bool, true, false, ◌&&◌, List, ◌∷◌, Option, Some, None, Result, Ok, Err, refl, arith, codes}
use Rattle.std.specs.Prelude.{⊤, IfSome, int_le, option_map, option_and_then, if◌then◌else◌}
use Rattle.std.proofs.lemmas.Bool.{and_parts}
use Rattle.std.proofs.lemmas.Int.{ints}
use Rattle.serde_json.specs.Data.{Data, null, boolean, number, string, array, object, Items, no_items, item, Members, no_members, member}
use Rattle.serde_json.specs.Find.{get, as_number, as_i64, as_array, as_str}
use Rattle.kz_types.specs.declared.fault.BodyFault.{BodyFault}
use Rattle.kz_spec_data.specs.Bodies.{then_read, of_form, required_member, optional, field, greatest, within, whole, brokers_in, brokers_of, texts_in, texts_of, pairs_of}
use Rattle.kz_laws_values.specs.Ranges.{IsBetween}
use Rattle.kz_laws_values.specs.Readable.{IsWhole, AreBrokers, IsBelow, AreRising}
use Rattle.kz_laws_values.proofs.Members.{Rise, IsUnder}
use Rattle.kz_laws_znodes.proofs.Sorted.{IsSorted, if_mapped, if_chained, if_any, get_sorted}

-- ---- what holds of what is read

-- it holds of the value that is read, if one is
abbrev pub Holds : {A E : Type 0} → (A → Type 0) → Result A E → Type 0
Holds P (Err fault) = ⊤
Holds P (Ok a) = P a

pub then_holds : {A B : Type 0} (P : A → Type 0) (Q : B → Type 0) (r : Result A BodyFault) (go : A → Result B BodyFault) → Holds P r → ((a : A) → P a → Holds Q (go a)) → Holds Q (then_read r go)
then_holds P Q (Err fault) go h so = tt
then_holds P Q (Ok a) go h so = so a h

pub then_any : {A B : Type 0} (Q : B → Type 0) (r : Result A BodyFault) (go : A → Result B BodyFault) → ((a : A) → Holds Q (go a)) → Holds Q (then_read r go)
then_any Q (Err fault) go so = tt
then_any Q (Ok a) go so = so a

form_holds : {A : Type 0} (P : A → Type 0) (name : List ℕ) (o : Option A) → IfSome o P → Holds P (of_form name o)
form_holds P name None h = tt
form_holds P name (Some a) h = h

required_holds : {A : Type 0} (P : A → Type 0) (name : List ℕ) (form : Data → Option A) (o : Option Data) → ((d : Data) → IsSorted d → IfSome (form d) P) → IfSome o IsSorted → Holds P (required_member name form o)
required_holds P name form None so s = tt
required_holds P name form (Some d) so s = form_holds P name (form d) (so d s)

pub optional_holds : {A : Type 0} (P : A → Type 0) (name : List ℕ) (absent : A) (form : Data → Option A) (o : Option Data) → P absent → ((d : Data) → IfSome (form d) P) → Holds P (optional name absent form o)
optional_holds P name absent form None here so = here
optional_holds P name absent form (Some d) here so = form_holds P name (form d) (so d)

pub field_holds : {A : Type 0} (P : A → Type 0) (name : List ℕ) (form : Data → Option A) (d : Data) → ((e : Data) → IsSorted e → IfSome (form e) P) → IsSorted d → Holds P (field name form d)
field_holds P name form d so s = required_holds P name form (get name d) so (get_sorted name d s)

pub if_test : {A : Type 0} (P : A → Type 0) (t : Bool) (a : A) → (t ≡ true → P a) → IfSome (if t then Some a else None) P
if_test P true a so = so refl
if_test P false a so = tt

-- where a test holds, this, and else that
pub if_either : {A : Type 0} (P : A → Type 0) (t : Bool) (x y : Option A) → IfSome x P → IfSome y P → IfSome (if t then x else y) P
if_either P true x y first second = first
if_either P false x y first second = second

some_of : {A : Type 0} (P : A → Type 0) (o : Option A) → ((a : A) → o ≡ Some a → P a) → IfSome o P
some_of P None so = tt
some_of P (Some a) so = so a refl

-- ---- numbers and brokers

not_above : (a b : ℤ) → int_le a b ≡ true → a ≤ℤ b
not_above a b e = grind (arith, ints)

within_holds : (low high z : ℤ) → IfSome (within low high z) (IsBetween low high)
within_holds low high z = if_test (IsBetween low high) (int_le low z && int_le z high) z (λ e. let m = and_parts (int_le low z) (int_le z high) e in (not_above low z m.0, not_above z high m.1))

whole_holds : (low high : ℤ) (d : Data) → IfSome (whole low high d) (IsBetween low high)
whole_holds low high d = by (option_and_then as_i64 (as_number d))
  where
    by : (o : Option ℤ) → IfSome (option_and_then (within low high) o) (IsBetween low high)
    by None = tt
    by (Some z) = within_holds low high z

brokers_hold : (ds : Items) → IfSome (brokers_in ds) AreBrokers
brokers_hold no_items = tt
brokers_hold (item d ds) =
    if_chained IsWhole AreBrokers (λ id. option_map (λ ids. id ∷ ids) (brokers_in ds)) (whole (pos 0) greatest d)
    (λ id one. if_mapped AreBrokers AreBrokers (λ ids. id ∷ ids) (brokers_in ds) (λ ids all. (one, all)) (brokers_hold ds)) (whole_holds (pos 0) greatest d)

pub brokers_of_holds : (d : Data) → IfSome (brokers_of d) AreBrokers
brokers_of_holds d = by (as_array d)
  where
    by : (o : Option Items) → IfSome (option_and_then brokers_in o) AreBrokers
    by None = tt
    by (Some ds) = brokers_hold ds

-- ---- configurations

texts_under : (k : List ℕ) (ms : Members) → IsUnder k ms → IfSome (texts_in ms) (IsBelow k)
texts_under k no_members u = tt
texts_under k (member name d ms) u = if_any (IsBelow k) (λ value. option_map (λ pairs. record { name = name; value = value } ∷ pairs) (texts_in ms)) (as_str d)
    (λ value. if_mapped (IsBelow k) (IsBelow k) (λ pairs. record { name = name; value = value } ∷ pairs) (texts_in ms) (λ pairs below. (u.0, below)) (texts_under k ms u.1))

both_some : {A : Type 0} (P Q : A → Type 0) (o : Option A) → IfSome o P → IfSome o Q → IfSome o (λ a. P a × Q a)
both_some P Q None h k = tt
both_some P Q (Some a) h k = (h, k)

texts_rise : (ms : Members) → Rise ms → IfSome (texts_in ms) AreRising
texts_rise no_members r = tt
texts_rise (member name d ms) r = if_any AreRising (λ value. option_map (λ pairs. record { name = name; value = value } ∷ pairs) (texts_in ms)) (as_str d)
    (λ value. if_mapped (λ pairs. IsBelow name pairs × AreRising pairs) AreRising (λ pairs. record { name = name; value = value } ∷ pairs) (texts_in ms) (λ pairs h. h)
    (both_some (IsBelow name) AreRising (texts_in ms) (texts_under name ms r.0) (texts_rise ms r.1)))

texts_hold : (d : Data) → IsSorted d → IfSome (texts_of d) AreRising
texts_hold null s = tt
texts_hold (boolean b) s = tt
texts_hold (number n) s = tt
texts_hold (string t) s = tt
texts_hold (array ds) s = tt
texts_hold (object ms) s = texts_rise ms s.0

pub pairs_hold : (d : Data) → IsSorted d → Holds AreRising (pairs_of d)
pairs_hold d s = then_any AreRising (field (codes "version") (whole (pos 1) (pos 1)) d) _ (λ version. field_holds AreRising (codes "config") texts_of d texts_hold s)
