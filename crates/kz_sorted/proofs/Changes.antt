-- What a put and a without leave in the blocks. `b` is the block at the place, as it was read, and `c` what comes in its place.
use Rattle.std.proofs.Common.{◌≡◌, ◌≢◌, ℕ, suc, ◌+◌, ◌<◌, ◌≤◌, Bool, true, false, cond, List, [], ◌∷◌, ◌++◌, Some, None, Result, Ok, Err, OnOk, OnErr, Ordering, Less, Equal, Greater, is_eq, length, get_or, set, take, drop, insert, remove, refl, sym, ap, ◌∙◌, subst, arith}
use Rattle.std.specs.Ordering.{match_ordering}
use Rattle.std.proofs.lemmas.List.{take-append-drop, length-take, length-drop, get_or_read}
use Rattle.std.proofs.lemmas.List.Elements.{All-set, All-get_or}
use Rattle.kz_types.specs.Order.{TotalOrder}
use Rattle.kz_types.specs.Ordered.{find, put, without, Rises}
use Rattle.kz_types.proofs.Lookup.{Rises-put, Rises-without, find_below_first, find_skip, rest_rises}
use Rattle.kz_types.proofs.Order.{below, equal, above, place, cmp_equal, cmp_greater, less_differs_back}
use Rattle.kz_sorted.specs.BlockLists.{items_of, IsBlock, IsPart, AreBlocks, AreParts, IsBlockFor}
use Rattle.kz_sorted.specs.declared.limits.TheConstants.{HALF_BLOCK_ITEMS, MAX_BLOCK_ITEMS}
use Rattle.kz_sorted.proofs.ItemsOf.{are_parts, items_of_split, items_of-set, items_of-remove, items_of_two, All-insert, All-remove}
use Rattle.kz_sorted.proofs.BlockFor.{block_rises, find-items_of, put-items_of, without-items_of}

-- what follows at either outcome
pub at_either : {T E : Type 0} (r : Result T E) (P Q G : Type 0) → OnOk r P → OnErr r Q → (P → G) → (Q → G) → G
at_either (Ok x) P Q G ok err then or = then ok
at_either (Err e) P Q G ok err then or = or err

-- ---- how many items a put and a without leave

record PutLengths {A : Type 0} (old new : List A) : Type 0 where
  pub least : length old ≤ length new
  pub some : 0 < length new
  pub most : length new ≤ length old + 1

put_lengths_by : {A : Type 0} (r : Ordering) (x y : A) (ys zs : List A) → PutLengths ys zs → PutLengths (y ∷ ys) (match_ordering r (x ∷ y ∷ ys) (x ∷ ys) (y ∷ zs))
put_lengths_by Less x y ys zs h = record { least = omega arith; some = omega arith; most = omega arith }
put_lengths_by Equal x y ys zs h = record { least = omega arith; some = omega arith; most = omega arith }
put_lengths_by Greater x y ys zs h = record { least = omega (arith, h.least); some = omega arith; most = omega (arith, h.most) }

put_lengths : {A K : Type 0} (cmp : K → K → Ordering) (key : A → K) (x : A) (ys : List A) → PutLengths ys (put cmp key x ys)
put_lengths cmp key x [] = record { least = omega arith; some = omega arith; most = omega arith }
put_lengths cmp key x (y ∷ ys) = put_lengths_by (cmp (key x) (key y)) x y ys (put cmp key x ys) (put_lengths cmp key x ys)

without_lengths_by : {A : Type 0} (b : Bool) (x : A) (xs zs : List A) → (length xs ≤ length zs + 1) × (length zs ≤ length xs) → (length (x ∷ xs) ≤ length (cond b xs (x ∷ zs)) + 1) × (length (cond b xs (x ∷ zs)) ≤ length (x ∷ xs))
without_lengths_by true x xs zs h = (omega arith, omega arith)
without_lengths_by false x xs zs h = (omega (arith, h.0), omega (arith, h.1))

without_lengths : {A K : Type 0} (cmp : K → K → Ordering) (key : A → K) (k : K) (xs : List A) → (length xs ≤ length (without cmp key k xs) + 1) × (length (without cmp key k xs) ≤ length xs)
without_lengths cmp key k [] = (omega arith, omega arith)
without_lengths cmp key k (x ∷ xs) = without_lengths_by (is_eq (cmp k (key x))) x xs (without cmp key k xs) (without_lengths cmp key k xs)

nothing_left_by : {A : Type 0} (b : Bool) (x : A) → cond b (Some x) None ≢ None → cond b [] (x ∷ []) ≡ []
nothing_left_by true x found = refl
nothing_left_by false x found = absurd (found refl)

-- the only item is taken out
nothing_left : {A K : Type 0} (cmp : K → K → Ordering) (key : A → K) (k : K) (xs : List A) → length xs ≡ 1 → find cmp key k xs ≢ None → without cmp key k xs ≡ []
nothing_left cmp key k [] one found = absurd (omega arith)
nothing_left cmp key k (x ∷ []) one found = nothing_left_by (is_eq (cmp k (key x))) x found
nothing_left cmp key k (x ∷ y ∷ ys) one found = absurd (omega arith)

-- an item comes in place of the one with its key
put_same_length : {A K : Type 0} {cmp : K → K → Ordering} (o : TotalOrder cmp) (key : A → K) (x : A) (ys : List A) → Rises cmp key ys → find cmp key (key x) ys ≢ None → length (put cmp key x ys) ≡ length ys
put_same_length o key x [] h found = absurd (found refl)
put_same_length {cmp} o key x (y ∷ ys) h found = elim (place o (key x) (key y)) [
  | below lt ↦ absurd (found (find_below_first o key (key x) y ys h lt))
  | equal same ↦ ap (λ r. length (match_ordering r (x ∷ y ∷ ys) (x ∷ ys) (y ∷ put cmp key x ys))) (cmp_equal o (key x) (key y) same)
  | above lt ↦
      ap (λ r. length (match_ordering r (x ∷ y ∷ ys) (x ∷ ys) (y ∷ put cmp key x ys))) (cmp_greater o (key x) (key y) lt)
      ∙ ap suc (put_same_length o key x ys (rest_rises o key y ys h) (λ none. found (find_skip o key (key x) y ys (less_differs_back o (key x) (key y) lt) ∙ none)))
]

-- a full block with one more item, in two parts
both_halves : {A : Type 0} (xs ys : List A) → PutLengths xs ys → length xs ≡ MAX_BLOCK_ITEMS → IsBlock (take HALF_BLOCK_ITEMS ys) × IsBlock (drop HALF_BLOCK_ITEMS ys)
both_halves xs ys lengths full = ((omega (arith, length-take HALF_BLOCK_ITEMS ys, lengths.least, full), omega (arith, length-take HALF_BLOCK_ITEMS ys)), (omega (arith, length-drop HALF_BLOCK_ITEMS ys, lengths.least, full), omega (arith, length-drop HALF_BLOCK_ITEMS ys, lengths.most, full)))

module _ {A K : Type 0} {cmp : K → K → Ordering} (o : TotalOrder cmp) (key : A → K) where
  pub read_rises : (bs : List (List A)) (i : ℕ) (b : List A) → AreParts cmp key bs → i < length bs → b ≡ get_or bs i b → Rises cmp key b
  read_rises bs i b parts within is = subst (Rises cmp key) (sym is) (block_rises o key bs i b parts.rises within)

  pub read_found : (k : K) (bs : List (List A)) (i : ℕ) (b : List A) → i < length bs → b ≡ get_or bs i b → IsBlockFor cmp key k bs i → find cmp key k (items_of bs) ≡ find cmp key k b
  read_found k bs i b within is for_key = find-items_of o key k bs i b within for_key ∙ ap (find cmp key k) (sym is)

  read_length : (bs : List (List A)) (i : ℕ) (b : List A) → i < length bs → b ≡ get_or bs i b → length b ≡ length (get_or bs i [])
  read_length bs i b within is = ap length (get_or_read bs i b within is [])

  -- ---- a put

  pub put_in_set : (x : A) (bs : List (List A)) (i : ℕ) (b c : List A) → i < length bs → IsBlockFor cmp key (key x) bs i → b ≡ get_or bs i b → c ≡ put cmp key x b → items_of (set bs i c) ≡ put cmp key x (items_of bs)
  put_in_set x bs i b c within for_key is changed =
      items_of-set bs i c within ∙ ap (λ z. items_of (take i bs) ++ (z ++ items_of (drop (i + 1) bs))) (changed ∙ ap (put cmp key x) is) ∙ sym (put-items_of o key x bs i b within for_key)

  -- the block that comes in is one
  put_in_set_small : (x : A) (bs : List (List A)) (i : ℕ) (b c : List A) → AreBlocks cmp key bs → i < length bs → IsBlockFor cmp key (key x) bs i → b ≡ get_or bs i b → c ≡ put cmp key x b → PutLengths b c → length c ≤ MAX_BLOCK_ITEMS → AreBlocks cmp key (set bs i c)
  put_in_set_small x bs i b c blocks within for_key is changed lengths small = record {
    rises = subst (Rises cmp key) (sym (put_in_set x bs i b c within for_key is changed)) (Rises-put o key x (items_of bs) blocks.rises);
    each = All-set IsBlock bs i c (lengths.some, small) blocks.each;
  }

  pub put_in_set_kept : (x : A) (bs : List (List A)) (i : ℕ) (b c : List A) → AreBlocks cmp key bs → i < length bs → IsBlockFor cmp key (key x) bs i → length (get_or bs i []) < MAX_BLOCK_ITEMS → b ≡ get_or bs i b → c ≡ put cmp key x b → AreBlocks cmp key (set bs i c)
  put_in_set_kept x bs i b c blocks within for_key room is changed =
      let lengths : PutLengths b c = subst (PutLengths b) (sym changed) (put_lengths cmp key x b) in
      put_in_set_small x bs i b c blocks within for_key is changed lengths (omega (arith, lengths.most, room, read_length bs i b within is))

  pub replaced_kept : (x : A) (bs : List (List A)) (i : ℕ) (b c : List A) → AreBlocks cmp key bs → i < length bs → IsBlockFor cmp key (key x) bs i → find cmp key (key x) (get_or bs i []) ≢ None → b ≡ get_or bs i b → c ≡ put cmp key x b → AreBlocks cmp key (set bs i c)
  replaced_kept x bs i b c blocks within for_key found is changed =
      let lengths : PutLengths b c = subst (PutLengths b) (sym changed) (put_lengths cmp key x b) in
      let block : IsBlock (get_or bs i []) = All-get_or IsBlock bs i [] within blocks.each in
      let held : find cmp key (key x) b ≢ None = subst (λ z. find cmp key (key x) z ≢ None) (sym (get_or_read bs i b within is [])) found in
      let same : length c ≡ length b = ap length changed ∙ put_same_length o key x b (read_rises bs i b (are_parts bs blocks) within is) held in
      put_in_set_small x bs i b c blocks within for_key is changed lengths (omega (arith, same, block.1, read_length bs i b within is))

  pub put_in_part_kept : (x : A) (ps : List (List A)) (i : ℕ) (p c : List A) → AreParts cmp key ps → i < length ps → IsBlockFor cmp key (key x) ps i → p ≡ get_or ps i p → c ≡ put cmp key x p → AreParts cmp key (set ps i c)
  put_in_part_kept x ps i p c parts within for_key is changed = record {
    rises = subst (Rises cmp key) (sym (put_in_set x ps i p c within for_key is changed)) (Rises-put o key x (items_of ps) parts.rises);
    each = All-set IsPart ps i c (subst (λ (z : List A). IsPart z) (sym changed) (put_lengths cmp key x p).some) parts.each;
  }

  -- ---- nothing changed

  same_items : (bs : List (List A)) (i : ℕ) (b c : List A) → i < length bs → b ≡ get_or bs i b → c ≡ b → items_of (set bs i c) ≡ items_of bs
  same_items bs i b c within is same =
      items_of-set bs i c within ∙ ap (λ z. items_of (take i bs) ++ (z ++ items_of (drop (i + 1) bs))) (same ∙ is) ∙ sym (items_of_split bs i b within)

  pub same_part_kept : (ps : List (List A)) (i : ℕ) (p c : List A) → AreParts cmp key ps → i < length ps → p ≡ get_or ps i p → c ≡ p → AreParts cmp key (set ps i c)
  same_part_kept ps i p c parts within is same = record {
    rises = subst (Rises cmp key) (sym (same_items ps i p c within is same)) parts.rises;
    each = All-set IsPart ps i c (subst (λ (z : List A). IsPart z) (sym (same ∙ is)) (All-get_or IsPart ps i p within parts.each)) parts.each;
  }

  pub same_kept : (bs : List (List A)) (i : ℕ) (b c : List A) → AreBlocks cmp key bs → i < length bs → b ≡ get_or bs i b → c ≡ b → AreBlocks cmp key (set bs i c)
  same_kept bs i b c blocks within is same = record {
    rises = subst (Rises cmp key) (sym (same_items bs i b c within is same)) blocks.rises;
    each = All-set IsBlock bs i c (subst IsBlock (sym (same ∙ is)) (All-get_or IsBlock bs i b within blocks.each)) blocks.each;
  }

  -- ---- two in place of one

  -- a put into a full block: `c` is the block with the item
  pub put_in_two : (x : A) (bs : List (List A)) (i : ℕ) (b c : List A) → i < length bs → IsBlockFor cmp key (key x) bs i → b ≡ get_or bs i b → c ≡ put cmp key x b → items_of (set (insert bs i (take HALF_BLOCK_ITEMS c)) (i + 1) (drop HALF_BLOCK_ITEMS c)) ≡ put cmp key x (items_of bs)
  put_in_two x bs i b c within for_key is changed =
      items_of_two bs i (take HALF_BLOCK_ITEMS c) (drop HALF_BLOCK_ITEMS c) within
      ∙ ap (λ z. items_of (take i bs) ++ (z ++ items_of (drop (i + 1) bs))) (take-append-drop HALF_BLOCK_ITEMS c ∙ changed ∙ ap (put cmp key x) is) ∙ sym (put-items_of o key x bs i b within for_key)

  pub full_lengths : (x : A) (bs : List (List A)) (i : ℕ) (b c : List A) → i < length bs → length (get_or bs i []) ≡ MAX_BLOCK_ITEMS → b ≡ get_or bs i b → c ≡ put cmp key x b → MAX_BLOCK_ITEMS ≤ length c
  full_lengths x bs i b c within full is changed = subst (λ (z : List A). MAX_BLOCK_ITEMS ≤ length z) (sym changed) (omega (arith, (put_lengths cmp key x b).least, full, read_length bs i b within is))

  pub put_in_two_kept : (x : A) (bs : List (List A)) (i : ℕ) (b c : List A) → AreBlocks cmp key bs → i < length bs → IsBlockFor cmp key (key x) bs i → length (get_or bs i []) ≡ MAX_BLOCK_ITEMS → b ≡ get_or bs i b → c ≡ put cmp key x b → AreBlocks cmp key (set (insert bs i (take HALF_BLOCK_ITEMS c)) (i + 1) (drop HALF_BLOCK_ITEMS c))
  put_in_two_kept x bs i b c blocks within for_key full is changed =
      let parts = both_halves b c (subst (PutLengths b) (sym changed) (put_lengths cmp key x b)) (read_length bs i b within is ∙ full) in record {
        rises = subst (Rises cmp key) (sym (put_in_two x bs i b c within for_key is changed)) (Rises-put o key x (items_of bs) blocks.rises);
        each = All-set IsBlock (insert bs i (take HALF_BLOCK_ITEMS c)) (i + 1) (drop HALF_BLOCK_ITEMS c) parts.1 (All-insert IsBlock bs i (take HALF_BLOCK_ITEMS c) parts.0 blocks.each);
      }

  -- a part is cut
  pub part_in_two : (ps : List (List A)) (i : ℕ) (p a b : List A) → i < length ps → a ++ b ≡ get_or ps i p → items_of (set (insert ps i a) (i + 1) b) ≡ items_of ps
  part_in_two ps i p a b within joined =
      items_of_two ps i a b within ∙ ap (λ z. items_of (take i ps) ++ (z ++ items_of (drop (i + 1) ps))) joined ∙ sym (items_of_split ps i p within)

  pub part_in_two_kept : (ps : List (List A)) (i : ℕ) (p a b : List A) → AreParts cmp key ps → i < length ps → a ++ b ≡ get_or ps i p → 0 < length a → 0 < length b → AreParts cmp key (set (insert ps i a) (i + 1) b)
  part_in_two_kept ps i p a b parts within joined first second = record {
    rises = subst (Rises cmp key) (sym (part_in_two ps i p a b within joined)) parts.rises;
    each = All-set IsPart (insert ps i a) (i + 1) b second (All-insert IsPart ps i a first parts.each);
  }

  -- ---- a without

  pub without_in_set : (k : K) (bs : List (List A)) (i : ℕ) (b c : List A) → i < length bs → IsBlockFor cmp key k bs i → b ≡ get_or bs i b → c ≡ without cmp key k b → items_of (set bs i c) ≡ without cmp key k (items_of bs)
  without_in_set k bs i b c within for_key is changed =
      items_of-set bs i c within ∙ ap (λ z. items_of (take i bs) ++ (z ++ items_of (drop (i + 1) bs))) (changed ∙ ap (without cmp key k) is) ∙ sym (without-items_of o key k bs i b within for_key)

  pub without_in_set_kept : (k : K) (bs : List (List A)) (i : ℕ) (b c : List A) → AreBlocks cmp key bs → i < length bs → IsBlockFor cmp key k bs i → 1 < length (get_or bs i []) → b ≡ get_or bs i b → c ≡ without cmp key k b → AreBlocks cmp key (set bs i c)
  without_in_set_kept k bs i b c blocks within for_key several is changed =
      let lengths : (length b ≤ length c + 1) × (length c ≤ length b) = subst (λ z. (length b ≤ length z + 1) × (length z ≤ length b)) (sym changed) (without_lengths cmp key k b) in
      let size : IsBlock (get_or bs i []) = All-get_or IsBlock bs i [] within blocks.each in record {
        rises = subst (Rises cmp key) (sym (without_in_set k bs i b c within for_key is changed)) (Rises-without o key k (items_of bs) blocks.rises);
        each = All-set IsBlock bs i c (omega (arith, lengths.0, several, read_length bs i b within is), omega (arith, lengths.1, size.1, read_length bs i b within is)) blocks.each;
      }

  pub without_in_part_kept : (k : K) (ps : List (List A)) (i : ℕ) (p c : List A) → AreParts cmp key ps → i < length ps → IsBlockFor cmp key k ps i → p ≡ get_or ps i p → c ≡ without cmp key k p → 0 < length c → AreParts cmp key (set ps i c)
  without_in_part_kept k ps i p c parts within for_key is changed some = record {
    rises = subst (Rises cmp key) (sym (without_in_set k ps i p c within for_key is changed)) (Rises-without o key k (items_of ps) parts.rises);
    each = All-set IsPart ps i c some parts.each;
  }

  -- nothing is left of a part
  pub without_part : (k : K) (ps : List (List A)) (i : ℕ) (p c : List A) → i < length ps → IsBlockFor cmp key k ps i → p ≡ get_or ps i p → c ≡ without cmp key k p → c ≡ [] → items_of (remove ps i) ≡ without cmp key k (items_of ps)
  without_part k ps i p c within for_key is changed none =
      items_of-remove ps i
      ∙ sym (without-items_of o key k ps i p within for_key ∙ ap (λ z. items_of (take i ps) ++ (z ++ items_of (drop (i + 1) ps))) (ap (without cmp key k) (sym is) ∙ sym changed ∙ none))

  pub without_part_kept : (k : K) (ps : List (List A)) (i : ℕ) (p c : List A) → AreParts cmp key ps → i < length ps → IsBlockFor cmp key k ps i → p ≡ get_or ps i p → c ≡ without cmp key k p → c ≡ [] → AreParts cmp key (remove ps i)
  without_part_kept k ps i p c parts within for_key is changed none = record {
    rises = subst (Rises cmp key) (sym (without_part k ps i p c within for_key is changed none)) (Rises-without o key k (items_of ps) parts.rises);
    each = All-remove IsPart ps i parts.each;
  }

  pub without_block : (k : K) (bs : List (List A)) (i : ℕ) → i < length bs → IsBlockFor cmp key k bs i → length (get_or bs i []) ≡ 1 → find cmp key k (get_or bs i []) ≢ None → items_of (remove bs i) ≡ without cmp key k (items_of bs)
  without_block k bs i within for_key one found =
      items_of-remove bs i ∙ sym (without-items_of o key k bs i [] within for_key ∙ ap (λ z. items_of (take i bs) ++ (z ++ items_of (drop (i + 1) bs))) (nothing_left cmp key k (get_or bs i []) one found))

  pub without_block_kept : (k : K) (bs : List (List A)) (i : ℕ) → AreBlocks cmp key bs → i < length bs → IsBlockFor cmp key k bs i → length (get_or bs i []) ≡ 1 → find cmp key k (get_or bs i []) ≢ None → AreBlocks cmp key (remove bs i)
  without_block_kept k bs i blocks within for_key one found = record {
    rises = subst (Rises cmp key) (sym (without_block k bs i within for_key one found)) (Rises-without o key k (items_of bs) blocks.rises);
    each = All-remove IsBlock bs i blocks.each;
  }
