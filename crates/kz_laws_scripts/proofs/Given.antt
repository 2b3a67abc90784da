-- What a JSON value gives, where it gives something.
use Rattle.std.proofs.Common.{◌≡◌, ℕ, ◌≤◌, nat_le, ℤ, pos, ◌≤ℤ◌, Bool, true, false, if◌then◌else◌, List, [], ◌∷◌, Option, Some, None, option_map, All, refl, arith}
use Rattle.std.specs.Prelude.{⊤, option_and_then, codes}
use Rattle.std.specs.Str.{bytes_eq}
use Rattle.std.proofs.lemmas.Bool.Decides.{nat_tests}
use Rattle.std.proofs.lemmas.Int.{ints}
use Rattle.std.proofs.lemmas.List.Elements.{All-cons}
use Rattle.serde_json.specs.Data.{Data, Items}
use Rattle.serde_json.specs.Find.{get, as_array, as_u64, as_number}
use Rattle.kz_spec_data.specs.Json.{whole_up_to, by_name}
use Rattle.kz_spec_data.specs.Events.{id_of, time_of, controller_of}
use Rattle.kz_spec_machine.specs.Sound.{IsId, IsTime}

-- it is so of what is there
abbrev pub OfSome : {A : Type 0} → (A → Type 0) → Option A → Type 0
OfSome P None = ⊤
OfSome P (Some x) = P x

pub after : {A B : Type 0} (P : A → Type 0) (Q : B → Type 0) (f : A → Option B) (o : Option A) → OfSome P o → ((x : A) → P x → OfSome Q (f x)) → OfSome Q (option_and_then f o)
after P Q f None is then_so = tt
after P Q f (Some x) is then_so = then_so x is

pub mapped : {A B : Type 0} (P : A → Type 0) (Q : B → Type 0) (f : A → B) (o : Option A) → OfSome P o → ((x : A) → P x → Q (f x)) → OfSome Q (option_map f o)
mapped P Q f None is then_so = tt
mapped P Q f (Some x) is then_so = then_so x is

pub anything : {A : Type 0} (o : Option A) → OfSome (λ (x : A). ⊤) o
anything None = tt
anything (Some x) = tt

pub where_true : {A : Type 0} (P : A → Type 0) (b : Bool) (o : Option A) → (b ≡ true → OfSome P o) → OfSome P (if b then o else None)
where_true P true o so = so refl
where_true P false o so = tt

-- ---- numbers

pub at_most : (a b : ℕ) → nat_le a b ≡ true → a ≤ b
at_most a b is = grind (arith, nat_tests)

whole_is : (most : ℕ) (d : Data) → OfSome (λ (i : ℤ). (pos 0 ≤ℤ i) × (i ≤ℤ pos most)) (whole_up_to most d)
whole_is most d = after (λ (n : ℕ). ⊤) (λ (i : ℤ). (pos 0 ≤ℤ i) × (i ≤ℤ pos most)) (λ n. if nat_le n most then Some (pos n) else None) (option_and_then as_u64 (as_number d))
    (anything (option_and_then as_u64 (as_number d))) (λ n t. where_true (λ (i : ℤ). (pos 0 ≤ℤ i) × (i ≤ℤ pos most)) (nat_le n most) (Some (pos n)) (λ low. within n (at_most n most low)))
  where
    within : (n : ℕ) → n ≤ most → (pos 0 ≤ℤ pos n) × (pos n ≤ℤ pos most)
    within n low = (omega (arith, ints), omega (arith, ints))

weaker : {A : Type 0} (P Q : A → Type 0) (o : Option A) → OfSome P o → ((x : A) → P x → Q x) → OfSome Q o
weaker P Q None is so = tt
weaker P Q (Some x) is so = so x is

pub id_is : (d : Data) → OfSome IsId (id_of d)
id_is d = weaker (λ (i : ℤ). (pos 0 ≤ℤ i) × (i ≤ℤ pos 2147483647)) IsId (id_of d) (whole_is 2147483647 d) (λ i both. record { least = both.0; most = both.1 })

pub time_is : (o : Option Data) → OfSome IsTime (time_of o)
time_is None = record { least = omega (arith, ints); most = omega (arith, ints) }
time_is (Some d) = weaker (λ (i : ℤ). (pos 0 ≤ℤ i) × (i ≤ℤ pos 9223372036854775807)) IsTime (whole_up_to 9223372036854775807 d) (whole_is 9223372036854775807 d) (λ i both. record { least = both.0; most = both.1 })

-- the id under a name
pub id_at : (name : List ℕ) (d : Data) → OfSome IsId (option_and_then id_of (get name d))
id_at name d = after (λ (x : Data). ⊤) IsId id_of (get name d) (anything (get name d)) (λ x t. id_is x)

pub controller_is : (d : Data) → OfSome IsId (controller_of d)
controller_is d = id_at (codes "controller") d

-- the list that a member is
abbrev pub items_at : List ℕ → Data → Option Items
items_at name d = option_and_then as_array (get name d)

-- one more of a list
pub one_more : {A : Type 0} (P : A → Type 0) (first : Option A) (rest : Option (List A)) → OfSome P first → OfSome (All P) rest → OfSome (All P) (option_and_then (λ x. option_map (λ xs. x ∷ xs) rest) first)
one_more P first rest is all = after P (All P) (λ x. option_map (λ xs. x ∷ xs) rest) first is (λ x so. mapped (All P) (All P) (λ xs. x ∷ xs) rest all (λ xs each. All-cons P x xs so each))

-- ---- what stands under a name

named : {A : Type 0} (P : A → Type 0) (b : Bool) (o rest : Option A) → OfSome P o → OfSome P rest → OfSome P (if b then o else rest)
named P true o rest first second = first
named P false o rest first second = second

abbrev pub AllGive : {A : Type 0} → (A → Type 0) → List (List ℕ × (Data → Option A)) → Type 0
AllGive P [] = ⊤
AllGive P (f ∷ fs) = ((d : Data) → OfSome P (f.1 d)) × AllGive P fs

pub by_name_gives : {A : Type 0} (P : A → Type 0) (fs : List (List ℕ × (Data → Option A))) (name : List ℕ) (d : Data) → AllGive P fs → OfSome P (by_name fs name d)
by_name_gives P [] name d all = tt
by_name_gives P (f ∷ fs) name d all = named P (bytes_eq name f.0) (f.1 d) (by_name fs name d) (all.0 d) (by_name_gives P fs name d all.1)
