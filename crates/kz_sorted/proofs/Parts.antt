-- A part of a list: its blocks, its first and its last item, and a part that comes or goes.
use Rattle.std.proofs.Common.{◌≡◌, ℕ, suc, ◌+◌, ◌-◌, ◌<◌, List, [], ◌∷◌, ◌++◌, Option, Some, None, IfSome, option_map, Ordering, Less, Equal, Greater, true, rules, length, get_or, set, take, drop, remove, slice_get, All, refl, sym, ap, ◌∙◌, subst, arith, length-append}
use Rattle.std.proofs.lemmas.List.{take-append-drop, append-nil, take-set, drop-set-lt}
use Rattle.std.proofs.lemmas.List.Elements.{All-head, All-nil, All-append, All-push, All-take, All-drop, All-from_all_within}
use Rattle.std.specs.List.{AllWithin}
use Rattle.std.specs.Ordering.{is_lt}
use Rattle.std.proofs.lemmas.Option.{slice_get_within, get_or_from_slice_get, slice_get-get_or}
use Rattle.kz_types.specs.Order.{TotalOrder}
use Rattle.kz_types.specs.Ordered.{put, Rises, AllBelow}
use Rattle.kz_types.proofs.Lookup.{some_is_none, Rises-put}
use Rattle.kz_types.proofs.Append.{put_last, Rises_left, Rises_right}
use Rattle.kz_sorted.specs.BlockLists.{items_of, IsBlock, IsPart, AreBlocks, AreParts, IsBlockFor}
use Rattle.kz_sorted.proofs.ItemsOf.{items_of-append, items_of_last}
use Rattle.kz_sorted.proofs.Halves.{under_more}

pub is_less : (r : Ordering) → is_lt r ≡ true → r ≡ Less
is_less Less e = refl
is_less Equal e = search rules
is_less Greater e = search rules

module _ {A : Type 0} where
  -- a list that isn't empty has an item
  pub not_nil : (xs : List A) → ¬ (xs ≡ []) → 0 < length xs
  not_nil [] h = absurd (h refl)
  not_nil (x ∷ xs) h = omega arith

  -- where there is a block, there is an item
  pub some_items : (bs : List (List A)) → All IsPart bs → 0 < length bs → 0 < length (items_of bs)
  some_items [] all some = absurd (omega arith)
  some_items (b ∷ bs) all some = let first : 0 < length b = All-head IsPart b bs all in omega (arith, first, length-append b (items_of bs))

  -- the blocks before a place, and those from it on
  pub items_of_both : (bs : List (List A)) (n : ℕ) → items_of (take n bs) ++ items_of (drop n bs) ≡ items_of bs
  items_of_both bs n = sym (items_of-append (take n bs) (drop n bs)) ∙ ap items_of (take-append-drop n bs)

  -- one goes that was changed before
  pub remove-set : (xs : List (List A)) (i : ℕ) (x : List A) → remove (set xs i x) i ≡ remove xs i
  remove-set xs i x = ap (λ zs. zs ++ drop (suc i) (set xs i x)) (take-set xs i x) ∙ ap (λ zs. take i xs ++ zs) (drop-set-lt (suc i) xs i x (omega arith))

module _ {A K : Type 0} {cmp : K → K → Ordering} (o : TotalOrder cmp) (key : A → K) where
  -- ---- a part is cut between two blocks

  pub front_blocks : (bs : List (List A)) (n : ℕ) → AreBlocks cmp key bs → AreBlocks cmp key (take n bs)
  front_blocks bs n blocks = record {
    rises = Rises_left o key (items_of (take n bs)) (items_of (drop n bs)) (subst (Rises cmp key) (sym (items_of_both bs n)) blocks.rises);
    each = All-take IsBlock n bs blocks.each;
  }

  pub back_blocks : (bs : List (List A)) (n : ℕ) → AreBlocks cmp key bs → AreBlocks cmp key (drop n bs)
  back_blocks bs n blocks = record {
    rises = Rises_right o key (items_of (take n bs)) (items_of (drop n bs)) (subst (Rises cmp key) (sym (items_of_both bs n)) blocks.rises);
    each = All-drop IsBlock n bs blocks.each;
  }

  -- ---- what comes after all items

  before_last : (k : K) (xs : List A) (x : A) → Rises cmp key xs → slice_get xs (length xs - 1) ≡ Some x → cmp (key x) k ≡ Less → AllBelow cmp key xs k
  before_last k xs x h last less =
      let within : length xs - 1 < length xs = slice_get_within xs (length xs - 1) x last in
      let whole : length xs - 1 + 1 ≡ length xs = omega (arith, within) in
      All-from_all_within (λ y. cmp (key y) k ≡ Less) xs
      (subst (λ n. AllWithin (λ y. cmp (key y) k ≡ Less) xs 0 n) whole (under_more o key k xs (length xs - 1) x h within (sym (get_or_from_slice_get xs (length xs - 1) x x last)) less))

  none_before : (k : K) (xs : List A) → slice_get xs (length xs - 1) ≡ None → AllBelow cmp key xs k
  none_before k [] e = All-nil (λ y. cmp (key y) k ≡ Less)
  none_before k (x ∷ xs) e = absurd (some_is_none (sym (slice_get-get_or (x ∷ xs) (length (x ∷ xs) - 1) x (omega arith)) ∙ e))

  -- where the last item is below a key, all are
  pub all_before : {B : Type 0} (f : B → A) (k : K) (xs : List A) (r : Option B) → Rises cmp key xs → option_map f r ≡ slice_get xs (length xs - 1) → IfSome r (λ b. cmp (key (f b)) k ≡ Less) → AllBelow cmp key xs k
  all_before f k xs None h last below = none_before k xs (sym last)
  all_before f k xs (Some b) h last below = before_last k xs (f b) h (sym last) below

  -- where all items are below a key, the last is
  pub last_is_before : {B : Type 0} (f : B → A) (k : K) (xs : List A) (r : Option B) → option_map f r ≡ slice_get xs (length xs - 1) → AllBelow cmp key xs k → IfSome r (λ b. cmp (key (f b)) k ≡ Less)
  last_is_before f k xs None last below = tt
  last_is_before f k xs (Some b) last below =
      subst (λ y. cmp (key y) k ≡ Less) (get_or_from_slice_get xs (length xs - 1) (f b) (f b) (sym last)) (below (length xs - 1) (f b) (slice_get_within xs (length xs - 1) (f b) (sym last)))

  -- where the last part is the one for a key, and its items are below it, all are
  pub all_before_last : (k : K) (ps : List (List A)) (i : ℕ) (p : List A) → i + 1 ≡ length ps → p ≡ get_or ps i p → IsBlockFor cmp key k ps i → AllBelow cmp key p k → AllBelow cmp key (items_of ps) k
  all_before_last k ps i p last is for_key below =
      subst (λ xs. AllBelow cmp key xs k) (sym (items_of_last ps i p last is)) (All-append (λ x. cmp (key x) k ≡ Less) (items_of (take i ps)) p for_key.below below)

  pub append_part : (x : A) (ps : List (List A)) (p : List A) → AllBelow cmp key (items_of ps) (key x) → p ≡ x ∷ [] → items_of (ps ++ p ∷ []) ≡ put cmp key x (items_of ps)
  append_part x ps p below is = items_of-append ps (p ∷ []) ∙ ap (λ z. items_of ps ++ z) (append-nil p ∙ is) ∙ sym (put_last o key x (items_of ps) below)

  pub append_block_kept : (x : A) (bs : List (List A)) (b : List A) → AreBlocks cmp key bs → AllBelow cmp key (items_of bs) (key x) → b ≡ x ∷ [] → AreBlocks cmp key (bs ++ b ∷ [])
  append_block_kept x bs b blocks below is = record {
    rises = subst (Rises cmp key) (sym (append_part x bs b below is)) (Rises-put o key x (items_of bs) blocks.rises);
    each = All-push IsBlock bs b blocks.each (let size = ap length is in (omega (arith, size), omega (arith, size)));
  }

  pub append_part_kept : (x : A) (ps : List (List A)) (p : List A) → AreParts cmp key ps → AllBelow cmp key (items_of ps) (key x) → p ≡ x ∷ [] → AreParts cmp key (ps ++ p ∷ [])
  append_part_kept x ps p parts below is = record {
    rises = subst (Rises cmp key) (sym (append_part x ps p below is)) (Rises-put o key x (items_of ps) parts.rises);
    each = All-push IsPart ps p parts.each (let size = ap length is in omega (arith, size));
  }
