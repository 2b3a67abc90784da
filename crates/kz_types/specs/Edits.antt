-- What the edits of a difference are, and in which order they stand.
use Rattle.std.specs.Prelude.{◌≡◌, Bool, false, List, ◌++◌, Some, None, All, ⊤}
use Rattle.std.specs.declared.cmp.Ordering.{Ordering}
use Rattle.std.specs.Ordering.{flip_args}
use Rattle.kz_types.specs.Ordered.{find, Rises}
use Rattle.kz_types.specs.Difference.{Edit, drop_key, make, alter}

-- This edit is due between two lists: a drop of a key that only the first has, a make of an item whose key only the second has, or an alter to an item of the second that differs from the first's item with its key.
abbrev pub IsDue : {A K : Type 0} → (K → K → Ordering) → (A → K) → (A → A → Bool) → List A → List A → Edit A K → Type 0
IsDue {A} cmp key same a b (drop_key k) = (y : A) × (find cmp key k a ≡ Some y) × (find cmp key k b ≡ None)
IsDue cmp key same a b (make x) = (find cmp key (key x) a ≡ None) × (find cmp key (key x) b ≡ Some x)
IsDue {A} cmp key same a b (alter x) = (y : A) × (find cmp key (key x) a ≡ Some y) × (find cmp key (key x) b ≡ Some x) × (same y x ≡ false)

-- the key that an edit concerns
abbrev pub edit_key : {A K : Type 0} → (A → K) → Edit A K → K
edit_key key (drop_key k) = k
edit_key key (make x) = key x
edit_key key (alter x) = key x

-- the edit is a drop
abbrev pub IsDrop : {A K : Type 0} → Edit A K → Type 0
IsDrop (drop_key k) = ⊤
IsDrop (make x) = ⊥
IsDrop (alter x) = ⊥

-- the edit makes or alters an item
abbrev pub IsNoDrop : {A K : Type 0} → Edit A K → Type 0
IsNoDrop (drop_key k) = ⊥
IsNoDrop (make x) = ⊤
IsNoDrop (alter x) = ⊤

-- The edits are drops whose keys fall, and after them others whose keys rise.
pub record DropsFallOthersRise {A K : Type 0} (cmp : K → K → Ordering) (key : A → K) (es : List (Edit A K)) : Type 0 where
  pub first : List (Edit A K)
  pub others : List (Edit A K)
  pub joined : es ≡ first ++ others
  pub drops : All IsDrop first
  pub fall : Rises (flip_args cmp) (edit_key key) first
  pub no_drops : All IsNoDrop others
  pub rise : Rises cmp (edit_key key) others
