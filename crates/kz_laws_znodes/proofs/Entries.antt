-- Lists of entries with members of their own: a list stays in order when an entry's members
-- are changed. An entry is its key and its members, and one without members isn't kept.
use Rattle.std.proofs.Common.{◌≡◌, ℕ, ◌<◌, List, [], ◌∷◌, Option, Some, None, length, arith, cond, is_eq, Ordering, Bool, true, false}
use Rattle.std.specs.List.{All, find as find_by}
use Rattle.std.proofs.lemmas.List.Elements.{All-head, All-tail}
use Rattle.kz_types.specs.Order.{bytes_cmp}
use Rattle.kz_types.specs.Ordered.{find, put, without, Rises}
use Rattle.kz_types.proofs.Order.{bytes_order}
use Rattle.kz_types.proofs.Lookup.{Rises-put, Rises-without}
use Rattle.kz_laws_znodes.proofs.Lists.{All-put, All-without}

-- How entries are made of a key and members, and what `changed` makes of a list: the list with these members under a key.
pub record Holds {A B : Type 0} (key : A → List ℕ) (members : A → List B) (make : List ℕ → List B → A) (changed : List ℕ → List B → List A → List A) : Type 0 where
  pub whole : (a : A) → make (key a) (members a) ≡ a
  pub key_made : (k : List ℕ) (ms : List B) → key (make k ms) ≡ k
  pub none : (k : List ℕ) (xs : List A) → changed k [] xs ≡ without bytes_cmp key k xs
  pub some : (k : List ℕ) (m : B) (ms : List B) (xs : List A) → changed k (m ∷ ms) xs ≡ put bytes_cmp key (make k (m ∷ ms)) xs

module _ {A B : Type 0} {key : A → List ℕ} {members : A → List B} {make : List ℕ → List B → A} {changed : List ℕ → List B → List A → List A} (holds : Holds key members make changed) where
  pub changed_rises : (k : List ℕ) (ms : List B) (xs : List A) → Rises bytes_cmp key xs → Rises bytes_cmp key (changed k ms xs)
  changed_rises k [] xs h = rw (holds.none k xs) (Rises-without bytes_order key k xs h)
  changed_rises k (m ∷ ms) xs h = rw (holds.some k m ms xs) (Rises-put bytes_order key (make k (m ∷ ms)) xs h)

  pub changed_all : (P : A → Type 0) (k : List ℕ) (ms : List B) (xs : List A) → (0 < length ms → P (make k ms)) → All P xs → All P (changed k ms xs)
  changed_all P k [] xs p h = rw (holds.none k xs) (All-without P bytes_cmp key k xs h)
  changed_all P k (m ∷ ms) xs p h = rw (holds.some k m ms xs) (All-put P bytes_cmp key (make k (m ∷ ms)) xs (p (omega arith)) h)

-- ---- what is found in a list has what each of its entries has

abbrev pub HasIfFound : {A : Type 0} → (A → Type 0) → Option A → Type 0
HasIfFound P None = Unit {0}
HasIfFound P (Some a) = P a

first_has : {A : Type 0} (P : A → Type 0) (b : Bool) (x : A) (r : Option A) → P x → HasIfFound P r → HasIfFound P (cond b (Some x) r)
first_has P true x r p q = p
first_has P false x r p q = q

pub found_by_has : {A : Type 0} (P : A → Type 0) (test : A → Bool) (xs : List A) → All P xs → HasIfFound P (find_by test xs)
found_by_has P test [] h = tt
found_by_has P test (x ∷ xs) h = first_has P (test x) x (find_by test xs) (All-head P x xs h) (found_by_has P test xs (All-tail P x xs h))

pub found_has : {A K : Type 0} (P : A → Type 0) (cmp : K → K → Ordering) (key : A → K) (k : K) (xs : List A) → All P xs → HasIfFound P (find cmp key k xs)
found_has P cmp key k [] h = tt
found_has P cmp key k (x ∷ xs) h = first_has P (is_eq (cmp k (key x))) x (find cmp key k xs) (All-head P x xs h) (found_has P cmp key k xs (All-tail P x xs h))
