-- Laws of the difference of two lists that rise, for items and keys of any type and any total order.
use Rattle.std.specs.Prelude.{◌≡◌, ◌↔◌, ℕ, Bool, List, [], take, drop, Contains}
use Rattle.std.specs.declared.cmp.Ordering.{Ordering}
use Rattle.kz_types.specs.Order.{TotalOrder}
use Rattle.kz_types.specs.Ordered.{Rises}
use Rattle.kz_types.specs.Difference.{DecidesEqual, Edit, all_edited, difference}
use Rattle.kz_types.specs.Covering.{at_keys, Covers}
use Rattle.kz_types.specs.Edits.{IsDue, edit_key, DropsFallOthersRise}

-- The difference makes the second list of the first.
abbrev pub DifferenceLeads : (A K : Type 0) → Type 0
DifferenceLeads A K = (cmp : K → K → Ordering) (key : A → K) (same : A → A → Bool) → TotalOrder cmp → DecidesEqual key same → (a b : List A) → Rises cmp key a → Rises cmp key b
    → all_edited cmp key (difference cmp key same a b) a ≡ b

-- Once the first n edits are applied, for any n, the difference is the rest of the edits.
abbrev pub PartLeavesRest : (A K : Type 0) → Type 0
PartLeavesRest A K = (cmp : K → K → Ordering) (key : A → K) (same : A → A → Bool) → TotalOrder cmp → DecidesEqual key same → (n : ℕ) (a b : List A) → Rises cmp key a → Rises cmp key b
    → difference cmp key same (all_edited cmp key (take n (difference cmp key same a b)) a) b ≡ drop n (difference cmp key same a b)

-- There is no difference exactly where the lists are equal.
abbrev pub NoDifference : (A K : Type 0) → Type 0
NoDifference A K = (cmp : K → K → Ordering) (key : A → K) (same : A → A → Bool) → TotalOrder cmp → DecidesEqual key same → (a b : List A) → Rises cmp key a → Rises cmp key b
    → (difference cmp key same a b ≡ []) ↔ (a ≡ b)

-- The difference has exactly the edits that are due.
abbrev pub DueExactly : (A K : Type 0) → Type 0
DueExactly A K = (cmp : K → K → Ordering) (key : A → K) (same : A → A → Bool) → TotalOrder cmp → (a b : List A) (e : Edit A K) → Rises cmp key a → Rises cmp key b
    → Contains (difference cmp key same a b) e ↔ IsDue cmp key same a b e

-- The edits of a difference concern each key at most once.
abbrev pub DueOnce : (A K : Type 0) → Type 0
DueOnce A K = (cmp : K → K → Ordering) (key : A → K) (same : A → A → Bool) → TotalOrder cmp → (a b : List A) (e f : Edit A K) → IsDue cmp key same a b e → IsDue cmp key same a b f → edit_key key e ≡ edit_key key f → e ≡ f

-- Drops stand first and fall, and the others rise.
abbrev pub EditsInOrder : (A K : Type 0) → Type 0
EditsInOrder A K = (cmp : K → K → Ordering) (key : A → K) (same : A → A → Bool) → TotalOrder cmp → (a b : List A) → Rises cmp key a → Rises cmp key b
    → DropsFallOthersRise cmp key (difference cmp key same a b)

-- The difference of two lists is that of their items under keys that cover all keys at which the lists differ.
abbrev pub CoveredDifference : (A K : Type 0) → Type 0
CoveredDifference A K = (cmp : K → K → Ordering) (key : A → K) (same : A → A → Bool) → TotalOrder cmp → DecidesEqual key same → (ks : List K) (a b : List A) → Rises cmp (λ k. k) ks → Rises cmp key a → Rises cmp key b → Covers cmp key ks a b
    → difference cmp key same a b ≡ difference cmp key same (at_keys cmp key ks a) (at_keys cmp key ks b)
