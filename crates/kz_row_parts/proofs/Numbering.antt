-- The numbers of znodes and of blocks after a change.
use Rattle.std.proofs.Common.{◌≡◌, ℕ, zero, suc, ◌+◌, ◌-◌, ◌^◌, ◌<◌, min, ℤ, ◌≤ℤ◌, Bool, true, false, cond, List, [], ◌∷◌, ◌++◌, length, get_or, set, take, drop, insert, remove, map, Option, Some, None, refl, sym, ap, ◌∙◌, subst, arith}
use Rattle.std.specs.Int.{int_max}
use Rattle.std.proofs.lemmas.Int.{ints, clamps}
use Rattle.std.proofs.lemmas.List.{append_cancel_left, append_cancel_right, map-append, map-set, set-get_or, get_or-set_same, take_more, take-map, drop-map}
use Rattle.kz_types.specs.Paths.{is_migrated}
use Rattle.kz_types.specs.declared.tree.Row.{Row}
use Rattle.kz_types.specs.Order.{bytes_cmp}
use Rattle.kz_types.proofs.Order.{below, equal, above, place, cmp_equal, cmp_greater, less_differs_back, bytes_order}
use Rattle.kz_types.proofs.Lookup.{some_is_none, same_some, find_here, find_skip, find_below_first, rest_rises}
use Rattle.kz_sorted.specs.BlockLists.{items_of, AreBlocks, IsBlockFor, IsOneChanged}
use Rattle.kz_sorted.proofs.ItemsOf.{items_of_split, items_of-set}
use Rattle.kz_sorted.proofs.BlockFor.{put-items_of}
use Rattle.kz_row_numbers.specs.declared.joined_numbers.Numbers.{Numbers}
use Rattle.kz_row_numbers.specs.Joins.{greater, no_numbers, joined, all_joined}
use Rattle.kz_row_numbers.proofs.Joining.{same_numbers, greater-assoc, greater-turned, joined-assoc, joined-turned, all_joined-append, all_joined_push}
use Rattle.kz_spec_data.specs.Tree.{path_of_row, row_at, put_row}
use Rattle.kz_row_parts.specs.Kept.{AreRows}
use Rattle.kz_row_parts.specs.Numbered.{latest_of, numbers_of_row, numbers_of, AreNumbered}
use Rattle.kz_row_parts.proofs.Sizes.{length_found}

-- ---- how many there are

pub rows_of_block : (rows : List Row) → (numbers_of rows).rows ≡ min (length rows) (2 ^ 64 - 1)
rows_of_block [] = omega arith
rows_of_block (r ∷ rs) = omega (arith, rows_of_block rs)

-- the numbers of several lists are those of the list of all their znodes
pub numbers_of_all : (bs : List (List Row)) → all_joined (map numbers_of bs) ≡ numbers_of (items_of bs)
numbers_of_all [] = refl
numbers_of_all (b ∷ bs) =
    ap (joined (numbers_of b)) (numbers_of_all bs) ∙ sym (ap all_joined (map-append numbers_of_row b (items_of bs)) ∙ all_joined-append (map numbers_of_row b) (map numbers_of_row (items_of bs)))

pub rows_of_all : (bs : List (List Row)) → (all_joined (map numbers_of bs)).rows ≡ min (length (items_of bs)) (2 ^ 64 - 1)
rows_of_all bs = ap (λ (n : Numbers). n.rows) (numbers_of_all bs) ∙ rows_of_block (items_of bs)

-- ---- one after another

pub numbers_more : (rows : List Row) (i : ℕ) (r : Row) (n m : Numbers) → i < length rows → r ≡ get_or rows i r → n ≡ numbers_of (take i rows) → m ≡ joined n (numbers_of_row r) → m ≡ numbers_of (take (i + 1) rows)
numbers_more rows i r n m within is was e =
    e ∙ ap (λ k. joined k (numbers_of_row r)) was
    ∙ sym (ap numbers_of (take_more rows i r within ∙ ap (λ z. take i rows ++ z ∷ []) (sym is)) ∙ ap all_joined (map-append numbers_of_row (take i rows) (r ∷ [])) ∙ all_joined_push (map numbers_of_row (take i rows)) (numbers_of_row r))

-- ---- a znode is put

-- a znode of a new path
pub numbers_put_new : (r : Row) (rows : List Row) → row_at r.path rows ≡ None → numbers_of (put_row r rows) ≡ joined (numbers_of rows) (numbers_of_row r)
numbers_put_new r [] none = joined-turned (numbers_of_row r) no_numbers
numbers_put_new r (s ∷ rows) none = elim (place bytes_order r.path s.path) [
  | below h ↦ rw h (joined-turned (numbers_of_row r) (numbers_of (s ∷ rows)))
  | equal h ↦ absurd (some_is_none (sym (find_here bytes_order path_of_row r.path s rows h) ∙ none))
  | above h ↦
      let rest = numbers_put_new r rows (sym (find_skip bytes_order path_of_row r.path s rows (less_differs_back bytes_order r.path s.path h)) ∙ none) in
      rw (cmp_greater bytes_order r.path s.path h) (ap (joined (numbers_of_row s)) rest ∙ sym (joined-assoc (numbers_of_row s) (numbers_of rows) (numbers_of_row r)))
]

-- a znode that is not before another of its path
greatest : (b c : Bool) (r s : Row) → b ≡ c → s.mzxid ≤ℤ r.mzxid → s.pzxid ≤ℤ r.pzxid
    → greater (cond b (Some (int_max s.mzxid s.pzxid)) None) (cond c (Some (int_max r.mzxid r.pzxid)) None) ≡ cond c (Some (int_max r.mzxid r.pzxid)) None
greatest true true r s e m p = let is : int_max (int_max s.mzxid s.pzxid) (int_max r.mzxid r.pzxid) ≡ int_max r.mzxid r.pzxid = omega (arith, ints, clamps, m, p) in ap Some is
greatest true false r s e m p = absurd (cc)
greatest false true r s e m p = absurd (cc)
greatest false false r s e m p = refl

over : (a b c : Option ℤ) → greater a c ≡ c → greater c b ≡ greater (greater a b) c
over a b c e = greater-turned c b ∙ ap (greater b) (sym e) ∙ sym (greater-assoc b a c) ∙ ap (λ l. greater l c) (greater-turned b a)

pub latest_put_found : (r s : Row) (rows : List Row) → AreRows rows → row_at r.path rows ≡ Some s → s.mzxid ≤ℤ r.mzxid → s.pzxid ≤ℤ r.pzxid
    → (numbers_of (put_row r rows)).latest ≡ greater (numbers_of rows).latest (latest_of r)
latest_put_found r s [] rises found m p = absurd (some_is_none (sym found))
latest_put_found r s (t ∷ rows) rises found m p = elim (place bytes_order r.path t.path) [
  | below h ↦ absurd (some_is_none (sym found ∙ find_below_first bytes_order path_of_row r.path t rows rises h))
  | equal h ↦
      let is : t ≡ s = same_some t s (sym (find_here bytes_order path_of_row r.path t rows h) ∙ found) in
      let m : t.mzxid ≤ℤ r.mzxid = subst (λ (x : Row). x.mzxid ≤ℤ r.mzxid) (sym is) m in
      let p : t.pzxid ≤ℤ r.pzxid = subst (λ (x : Row). x.pzxid ≤ℤ r.pzxid) (sym is) p in
      rw (cmp_equal bytes_order r.path t.path h)
      (over (latest_of t) (numbers_of rows).latest (latest_of r) (greatest (is_migrated t.path) (is_migrated r.path) r t (ap is_migrated (sym h)) m p))
  | above h ↦
      let rest = latest_put_found r s rows (rest_rises bytes_order path_of_row t rows rises) (sym (find_skip bytes_order path_of_row r.path t rows (less_differs_back bytes_order r.path t.path h)) ∙ found) m p in
      rw (cmp_greater bytes_order r.path t.path h) (ap (greater (latest_of t)) rest ∙ sym (greater-assoc (latest_of t) (numbers_of rows).latest (latest_of r)))
]

pub numbers_put_found : (r s : Row) (rows : List Row) (n : Numbers) → AreRows rows → n ≡ numbers_of rows → row_at r.path rows ≡ Some s → s.mzxid ≤ℤ r.mzxid → s.pzxid ≤ℤ r.pzxid
    → record { rows = n.rows; latest = (joined n (numbers_of_row r)).latest } ≡ numbers_of (put_row r rows)
numbers_put_found r s rows n rises is found m p =
    let same : (numbers_of rows).rows ≡ (numbers_of (put_row r rows)).rows = omega (arith, rows_of_block rows, rows_of_block (put_row r rows), length_found rows r s rises found) in
    rw is (same_numbers _ _ _ _ same (sym (latest_put_found r s rows rises found m p)))

-- ---- the blocks

pub numbers_at : (bs : List (List Row)) (ns : List Numbers) (i : ℕ) → ns ≡ map numbers_of bs → i < length bs → get_or ns i no_numbers ≡ numbers_of (get_or bs i [])
numbers_at bs ns i h within = ap (λ l. get_or l i no_numbers) h ∙ mapped bs i within
  where
    mapped : (bs : List (List Row)) (i : ℕ) → i < length bs → get_or (map numbers_of bs) i no_numbers ≡ numbers_of (get_or bs i [])
    mapped [] i h = absurd (omega arith)
    mapped (b ∷ bs) zero h = refl
    mapped (b ∷ bs) (suc i) h = mapped bs i (omega (arith, h))

-- one has changed, and it has these numbers
pub numbers_set : (bs : List (List Row)) (ns made : List Numbers) (i : ℕ) (b : List Row) → ns ≡ map numbers_of bs → made ≡ set ns i (numbers_of b) → made ≡ map numbers_of (set bs i b)
numbers_set bs ns made i b h is = is ∙ ap (λ l. set l i (numbers_of b)) h ∙ sym (map-set numbers_of bs i b)

-- at most one block has changed, and it has these numbers
pub numbered_one : (bs new : List (List Row)) (ns made : List Numbers) (i : ℕ) → AreNumbered bs ns → i < length bs → IsOneChanged i bs new → AreBlocks bytes_cmp path_of_row new → made ≡ set ns i (numbers_of (get_or new i [])) → AreNumbered new made
numbered_one bs new ns made i h within one blocks is =
    let at : get_or new i [] ≡ one.block = ap (λ l. get_or l i []) one.made ∙ get_or-set_same bs i one.block [] within in
    record {
      blocks = blocks;
      numbers = numbers_set bs ns made i one.block h.numbers (is ∙ ap (λ b. set ns i (numbers_of b)) at) ∙ ap (map numbers_of) (sym one.made);
    }

-- where the znodes of all blocks are the same, the block is
same_block : (bs : List (List Row)) (i : ℕ) (b c : List Row) → i < length bs → items_of (set bs i b) ≡ items_of (take i bs) ++ (c ++ items_of (drop (i + 1) bs)) → b ≡ c
same_block bs i b c within e =
    append_cancel_right b c (items_of (drop (i + 1) bs)) (append_cancel_left (items_of (take i bs)) (b ++ items_of (drop (i + 1) bs)) (c ++ items_of (drop (i + 1) bs)) (sym (items_of-set bs i b within) ∙ e))

pub all_same : (bs new : List (List Row)) (i : ℕ) → i < length bs → IsOneChanged i bs new → items_of new ≡ items_of bs → new ≡ bs
all_same bs new i within one same =
    let block : one.block ≡ get_or bs i [] = same_block bs i one.block (get_or bs i []) within (ap items_of (sym one.made) ∙ same ∙ items_of_split bs i [] within) in
    one.made ∙ ap (set bs i) block ∙ set-get_or bs i []

pub block_put : (r : Row) (bs new : List (List Row)) (i : ℕ) → i < length bs → IsOneChanged i bs new → IsBlockFor bytes_cmp path_of_row r.path bs i → items_of new ≡ put_row r (items_of bs) → get_or new i [] ≡ put_row r (get_or bs i [])
block_put r bs new i within one for_path is =
    ap (λ l. get_or l i []) one.made ∙ get_or-set_same bs i one.block [] within
    ∙ same_block bs i one.block (put_row r (get_or bs i [])) within (ap items_of (sym one.made) ∙ is ∙ put-items_of bytes_order path_of_row r bs i [] within for_path)

-- the block with the znode has these numbers
pub numbered_put : (r : Row) (bs new : List (List Row)) (ns made : List Numbers) (i : ℕ) (n : Numbers) → AreNumbered bs ns → i < length bs → IsBlockFor bytes_cmp path_of_row r.path bs i → IsOneChanged i bs new → AreBlocks bytes_cmp path_of_row new
    → items_of new ≡ put_row r (items_of bs) → n ≡ numbers_of (put_row r (get_or bs i [])) → made ≡ set ns i n → AreNumbered new made
numbered_put r bs new ns made i n h within for_path one blocks is number set_is =
    numbered_one bs new ns made i h within one blocks (set_is ∙ ap (set ns i) (number ∙ ap numbers_of (sym (block_put r bs new i within one for_path is))))

-- ---- blocks come and go

map-insert : {A B : Type 0} (f : A → B) (xs : List A) (i : ℕ) (x : A) → map f (insert xs i x) ≡ insert (map f xs) i (f x)
map-insert f xs i x = map-append f (take i xs) (x ∷ drop i xs) ∙ ap (λ l. l ++ f x ∷ map f (drop i xs)) (sym (take-map f i xs)) ∙ ap (λ l. take i (map f xs) ++ f x ∷ l) (sym (drop-map f i xs))

map-remove : {A B : Type 0} (f : A → B) (xs : List A) (i : ℕ) → map f (remove xs i) ≡ remove (map f xs) i
map-remove f xs i = map-append f (take i xs) (drop (suc i) xs) ∙ ap (λ l. l ++ map f (drop (suc i) xs)) (sym (take-map f i xs)) ∙ ap (λ l. take i (map f xs) ++ l) (sym (drop-map f (suc i) xs))

pub numbers_two : (bs : List (List Row)) (ns made : List Numbers) (i : ℕ) (b c : List Row) → ns ≡ map numbers_of bs → made ≡ set (insert ns i (numbers_of b)) (i + 1) (numbers_of c) → made ≡ map numbers_of (set (insert bs i b) (i + 1) c)
numbers_two bs ns made i b c is e =
    e ∙ ap (λ l. set (insert l i (numbers_of b)) (i + 1) (numbers_of c)) is ∙ ap (λ l. set l (i + 1) (numbers_of c)) (sym (map-insert numbers_of bs i b)) ∙ sym (map-set numbers_of (insert bs i b) (i + 1) c)

pub numbers_without : (bs : List (List Row)) (ns made : List Numbers) (i : ℕ) → ns ≡ map numbers_of bs → made ≡ remove ns i → made ≡ map numbers_of (remove bs i)
numbers_without bs ns made i is e = e ∙ ap (λ l. remove l i) is ∙ sym (map-remove numbers_of bs i)
