-- A list that is kept as blocks: it is the items of all blocks, one block after another. `cmp` orders the keys, and `key` gives the key of an item.
-- A list of many blocks is kept as parts, each of which is a list of blocks: it is the items of all parts, one part after another.
use Rattle.std.specs.Prelude.{ℕ, Option, Some, None, ◌+◌, ◌<◌, ◌≤◌, List, [], ◌∷◌, ◌++◌, ◌≡◌, length, set, take, drop, All}
use Rattle.std.specs.declared.cmp.Ordering.{Ordering}
use Rattle.kz_types.specs.Ordered.{Rises, RisesAbove, AllBelow}
use Rattle.kz_sorted.specs.declared.limits.TheConstants.{MAX_BLOCK_ITEMS}

-- the items of all blocks, or of all parts
abbrev pub items_of : {A : Type 0} → List (List A) → List A
items_of [] = []
items_of (b ∷ bs) = b ++ items_of bs

-- the blocks or the parts that are held, and none where nothing is held
abbrev pub blocks_held : {A : Type 0} → Option (List (List A)) → List (List A)
blocks_held None = []
blocks_held (Some bs) = bs

-- the key of the first item of a block or a part, and `none` where it has no item
abbrev pub first_key : {A K : Type 0} → (A → K) → K → List A → K
first_key key none [] = none
first_key key none (x ∷ xs) = key x

-- a block has at least one item, and at most `MAX_BLOCK_ITEMS`
abbrev pub IsBlock : {A : Type 0} → List A → Type 0
IsBlock b = (0 < length b) × (length b ≤ MAX_BLOCK_ITEMS)

-- Each is a block, and the items of all of them rise by their keys.
pub record AreBlocks {A K : Type 0} (cmp : K → K → Ordering) (key : A → K) (bs : List (List A)) : Type 0 where
  pub rises : Rises cmp key (items_of bs)
  pub each : All IsBlock bs

-- a part has at least one item
abbrev pub IsPart : {A : Type 0} → List A → Type 0
IsPart p = 0 < length p

-- Each part has an item, and the items of all of them rise by their keys.
pub record AreParts {A K : Type 0} (cmp : K → K → Ordering) (key : A → K) (ps : List (List A)) : Type 0 where
  pub rises : Rises cmp key (items_of ps)
  pub each : All IsPart ps

-- The block at this place is the one for the key: the items of the blocks before it are below the key, and those of the blocks after it above. So it is of parts.
pub record IsBlockFor {A K : Type 0} (cmp : K → K → Ordering) (key : A → K) (k : K) (bs : List (List A)) (i : ℕ) : Type 0 where
  pub below : AllBelow cmp key (items_of (take i bs)) k
  pub above : RisesAbove cmp key k (items_of (drop (i + 1) bs))

-- Of these blocks, at most the one at this place has changed.
pub record IsOneChanged {A : Type 0} (i : ℕ) (old new : List (List A)) : Type 0 where
  pub block : List A
  pub made : new ≡ set old i block
