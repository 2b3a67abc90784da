-- The items of all blocks, and what a change of one block makes of them.
use Rattle.std.proofs.Common.{◌≡◌, ℕ, suc, ◌+◌, ◌-◌, ◌<◌, List, [], ◌∷◌, ◌++◌, length, get_or, set, take, drop, insert, remove, All, Ordering, refl, sym, ap, ◌∙◌, arith, append_assoc, add-one, length-append, subst, slice_get}
use Rattle.std.proofs.lemmas.List.{take-append-drop, append-nil, take_all, take_more, drop_more, set_split, set_at, length-take-le}
use Rattle.std.proofs.lemmas.List.Elements.{All-head, All-append, All-cons, All-take, All-drop, All-get_or, All-weaker}
use Rattle.kz_sorted.specs.BlockLists.{items_of, IsBlock, IsPart, AreBlocks, AreParts}

-- blocks are parts
pub are_parts : {A K : Type 0} {cmp : K → K → Ordering} {key : A → K} (bs : List (List A)) → AreBlocks cmp key bs → AreParts cmp key bs
are_parts bs blocks = record { rises = blocks.rises; each = All-weaker IsBlock IsPart (λ b block. block.0) bs blocks.each }

module _ {A : Type 0} where
  pub items_of-append : (xs ys : List (List A)) → items_of (xs ++ ys) ≡ items_of xs ++ items_of ys
  items_of-append [] ys = refl
  items_of-append (x ∷ xs) ys = ap (λ zs. x ++ zs) (items_of-append xs ys) ∙ sym (append_assoc x (items_of xs) (items_of ys))

  -- the items of the blocks before a place, of the block there, and of those after it
  pub items_of_split : (bs : List (List A)) (i : ℕ) (d : List A) → i < length bs → items_of bs ≡ items_of (take i bs) ++ (get_or bs i d ++ items_of (drop (i + 1) bs))
  items_of_split bs i d within = ap items_of (sym (take-append-drop i bs)) ∙ items_of-append (take i bs) (drop i bs) ∙ ap (λ zs. items_of (take i bs) ++ items_of zs) (drop_more bs i d within)

  -- the block at the place is changed
  pub items_of-set : (bs : List (List A)) (i : ℕ) (b : List A) → i < length bs → items_of (set bs i b) ≡ items_of (take i bs) ++ (b ++ items_of (drop (i + 1) bs))
  items_of-set bs i b within = ap items_of (set_split bs i b within) ∙ items_of-append (take i bs) (b ∷ drop (suc i) bs) ∙ ap (λ n. items_of (take i bs) ++ (b ++ items_of (drop n bs))) (sym (add-one i))

  -- the block at the place is gone
  pub items_of-remove : (bs : List (List A)) (i : ℕ) → items_of (remove bs i) ≡ items_of (take i bs) ++ items_of (drop (i + 1) bs)
  items_of-remove bs i = items_of-append (take i bs) (drop (suc i) bs) ∙ ap (λ n. items_of (take i bs) ++ items_of (drop n bs)) (sym (add-one i))

  -- two blocks in place of the one there
  set_after_insert : (bs : List (List A)) (i : ℕ) (b c : List A) → i < length bs → set (insert bs i b) (i + 1) c ≡ take i bs ++ (b ∷ c ∷ drop (i + 1) bs)
  set_after_insert bs i b c within =
      ap (λ zs. set (take i bs ++ (b ∷ zs)) (i + 1) c) (drop_more bs i b within)
      ∙ ap (λ zs. set zs (i + 1) c) (sym (append_assoc (take i bs) (b ∷ []) (get_or bs i b ∷ drop (i + 1) bs)))
      ∙ set_at (take i bs ++ b ∷ []) (get_or bs i b) (drop (i + 1) bs) c (i + 1) (omega (arith, length-append (take i bs) (b ∷ []), length-take-le i bs))
      ∙ append_assoc (take i bs) (b ∷ []) (c ∷ drop (i + 1) bs)

  pub items_of_two : (bs : List (List A)) (i : ℕ) (b c : List A) → i < length bs → items_of (set (insert bs i b) (i + 1) c) ≡ items_of (take i bs) ++ ((b ++ c) ++ items_of (drop (i + 1) bs))
  items_of_two bs i b c within = ap items_of (set_after_insert bs i b c within) ∙ items_of-append (take i bs) (b ∷ c ∷ drop (i + 1) bs) ∙ ap (λ zs. items_of (take i bs) ++ zs) (sym (append_assoc b c (items_of (drop (i + 1) bs))))

  -- ---- facts of each block

  pub All-insert : (P : List A → Type 0) (bs : List (List A)) (i : ℕ) (b : List A) → P b → All P bs → All P (insert bs i b)
  All-insert P bs i b is all = All-append P (take i bs) (b ∷ drop i bs) (All-take P i bs all) (All-cons P b (drop i bs) is (All-drop P i bs all))

  pub All-remove : (P : List A → Type 0) (bs : List (List A)) (i : ℕ) → All P bs → All P (remove bs i)
  All-remove P bs i all = All-append P (take i bs) (drop (suc i) bs) (All-take P i bs all) (All-drop P (suc i) bs all)

  -- where there is no item, there is no block
  pub items_of_nil : (bs : List (List A)) → All IsPart bs → items_of bs ≡ [] → bs ≡ []
  items_of_nil [] all e = refl
  items_of_nil ([] ∷ bs) all e = absurd (let size = All-head IsPart [] bs all in omega arith)
  items_of_nil ((x ∷ xs) ∷ bs) all e = absurd (let lengths = ap length e in omega arith)

  -- the items up to a place, and those of the block there
  pub items_of_more : (bs : List (List A)) (i : ℕ) (b : List A) → i < length bs → b ≡ get_or bs i b → items_of (take (i + 1) bs) ≡ items_of (take i bs) ++ b
  items_of_more bs i b within is =
      ap items_of (take_more bs i b within ∙ ap (λ z. take i bs ++ z ∷ []) (sym is)) ∙ items_of-append (take i bs) (b ∷ []) ∙ ap (λ z. items_of (take i bs) ++ z) (append-nil b)

  pub length-items_of_more : (bs : List (List A)) (i : ℕ) (b : List A) → i < length bs → b ≡ get_or bs i b → length (items_of (take (i + 1) bs)) ≡ length (items_of (take i bs)) + length b
  length-items_of_more bs i b within is = ap length (items_of_more bs i b within is) ∙ length-append (items_of (take i bs)) b

  -- ---- the last item

  slice_get-append : (xs ys : List A) (n : ℕ) → slice_get (xs ++ ys) (length xs + n) ≡ slice_get ys n
  slice_get-append [] ys n = ap (slice_get ys) (let e : 0 + n ≡ n = omega arith in e)
  slice_get-append (x ∷ xs) ys n = ap (slice_get (x ∷ (xs ++ ys))) (let e : length (x ∷ xs) + n ≡ suc (length xs + n) = omega arith in e) ∙ slice_get-append xs ys n

  -- of two lists joined, the second not empty
  last_of_second : (xs ys : List A) → 0 < length ys → slice_get (xs ++ ys) (length (xs ++ ys) - 1) ≡ slice_get ys (length ys - 1)
  last_of_second xs ys some = ap (slice_get (xs ++ ys)) (let e : length (xs ++ ys) - 1 ≡ length xs + (length ys - 1) = omega (arith, length-append xs ys, some) in e) ∙ slice_get-append xs ys (length ys - 1)

  -- the items before the last block, and those of it
  pub items_of_last : (bs : List (List A)) (i : ℕ) (b : List A) → i + 1 ≡ length bs → b ≡ get_or bs i b → items_of bs ≡ items_of (take i bs) ++ b
  items_of_last bs i b last is = ap items_of (sym (take_all (i + 1) bs (omega (arith, last)))) ∙ items_of_more bs i b (omega (arith, last)) is

  -- the last item of all is that of the last block
  pub last_of_blocks : (bs : List (List A)) (i : ℕ) (b : List A) → All IsPart bs → i + 1 ≡ length bs → b ≡ get_or bs i b → slice_get (items_of bs) (length (items_of bs) - 1) ≡ slice_get b (length b - 1)
  last_of_blocks bs i b all last is =
      let within : i < length bs = omega (arith, last) in
      let some : IsPart b = subst IsPart (sym is) (All-get_or IsPart bs i b within all) in
      ap (λ zs. slice_get zs (length zs - 1)) (items_of_last bs i b last is) ∙ last_of_second (items_of (take i bs)) b some
