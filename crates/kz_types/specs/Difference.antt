-- The difference of two lists: what makes the one of the other.
use Rattle.std.specs.Prelude.{◌≡◌, Bool, true, List, [], ◌∷◌, ◌++◌, Option, Some, None, if◌then◌else◌}
use Rattle.std.specs.declared.cmp.Ordering.{Ordering}
use Rattle.kz_types.specs.Ordered.{find, put, without}

-- Of two items with one key, the test finds them the same exactly where they are equal.
pub record DecidesEqual {A K : Type 0} (key : A → K) (same : A → A → Bool) : Type 0 where
  pub itself : (x : A) → same x x ≡ true
  pub equal : (x y : A) → key x ≡ key y → same x y ≡ true → x ≡ y

-- One edit of a list: the item with a key goes, a new item comes, or an item takes the place of the one with its key.
pub data Edit (A K : Type 0) : Type 0 where
  drop_key : K → Edit A K
  make : A → Edit A K
  alter : A → Edit A K

-- what an edit makes of a list
abbrev pub after_edit : {A K : Type 0} → (K → K → Ordering) → (A → K) → Edit A K → List A → List A
after_edit cmp key (drop_key k) xs = without cmp key k xs
after_edit cmp key (make x) xs = put cmp key x xs
after_edit cmp key (alter x) xs = put cmp key x xs

-- what edits make of a list, one after another
abbrev pub all_edited : {A K : Type 0} → (K → K → Ordering) → (A → K) → List (Edit A K) → List A → List A
all_edited cmp key [] xs = xs
all_edited cmp key (e ∷ es) xs = all_edited cmp key es (after_edit cmp key e xs)

-- a drop of the key, unless an item was found under it
abbrev pub drop_unless : {A K : Type 0} → K → Option A → List (Edit A K)
drop_unless k (Some y) = []
drop_unless k None = drop_key k ∷ []

-- a drop of each key of the first list that the second hasn't, in falling order
abbrev pub drops : {A K : Type 0} → (K → K → Ordering) → (A → K) → List A → List A → List (Edit A K)
drops cmp key [] b = []
drops cmp key (x ∷ a) b = drops cmp key a b ++ drop_unless (key x) (find cmp key (key x) b)

-- the edit that gives a list this item, where this was found under its key
abbrev pub make_or_alter : {A K : Type 0} → (A → A → Bool) → A → Option A → List (Edit A K)
make_or_alter same x None = make x ∷ []
make_or_alter same x (Some y) = if same y x then [] else alter x ∷ []

-- in rising order, each item of the second list that the first hasn't, made, and each that it has otherwise, altered
abbrev pub makes : {A K : Type 0} → (K → K → Ordering) → (A → K) → (A → A → Bool) → List A → List A → List (Edit A K)
makes cmp key same a [] = []
makes cmp key same a (x ∷ b) = make_or_alter same x (find cmp key (key x) a) ++ makes cmp key same a b

-- The edits that make the second list of the first: drops in falling order, then the others in rising order.
abbrev pub difference : {A K : Type 0} → (K → K → Ordering) → (A → K) → (A → A → Bool) → List A → List A → List (Edit A K)
difference cmp key same a b = drops cmp key a b ++ makes cmp key same a b
