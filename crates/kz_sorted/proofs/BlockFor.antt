-- The block for a key: what the list of all items finds there, and what a put and a without make of it.
use Rattle.std.proofs.Common.{◌≡◌, ℕ, zero, suc, ◌+◌, ◌-◌, ◌<◌, Bool, true, false, cond, List, [], ◌∷◌, ◌++◌, Option, Some, None, Ok, Err, Ordering, Less, Equal, Greater, is_eq, length, get_or, take, drop, All, refl, ap, ◌∙◌, subst, arith, add-one}
use Rattle.std.specs.List.{AllWithin}
use Rattle.std.specs.Option.{option_or}
use Rattle.std.specs.Ordering.{match_ordering}
use Rattle.std.proofs.lemmas.List.Elements.{All-nil, All-head, All-tail, All-get_or}
use Rattle.kz_types.specs.Order.{TotalOrder}
use Rattle.kz_types.specs.Ordered.{find, put, without, Rises, RisesAbove, AllBelow}
use Rattle.kz_types.specs.Spot.{IsSpot}
use Rattle.kz_types.proofs.Lookup.{find_at_bound, rises_above_smaller}
use Rattle.kz_types.proofs.Append.{find-append, find-append_right, put-append, put_first, without-append, without_absent, below_split, above_split, Rises_left, Rises_right}
use Rattle.kz_sorted.specs.BlockLists.{items_of, first_key, IsPart, AreParts, IsBlockFor}
use Rattle.kz_sorted.proofs.ItemsOf.{items_of_split}

or_none : {A : Type 0} (r : Option A) → option_or r None ≡ r
or_none None = refl
or_none (Some x) = refl

module _ {A K : Type 0} {cmp : K → K → Ordering} (o : TotalOrder cmp) (key : A → K) where
  pub RisesAbove_right : (k : K) (xs ys : List A) → RisesAbove cmp key k (xs ++ ys) → RisesAbove cmp key k ys
  RisesAbove_right k [] ys h = h
  RisesAbove_right k (x ∷ xs) ys h = rises_above_smaller o key k (key x) ys h.0 (RisesAbove_right (key x) xs ys h.1)

  -- ---- changes of the first of two lists, where all keys of the second are above the key

  put_before : (r : Ordering) (x y : A) (xs ys zs : List A) → zs ≡ put cmp key x xs ++ ys → match_ordering r (x ∷ y ∷ (xs ++ ys)) (x ∷ (xs ++ ys)) (y ∷ zs) ≡ match_ordering r (x ∷ y ∷ xs) (x ∷ xs) (y ∷ put cmp key x xs) ++ ys
  put_before Less x y xs ys zs e = refl
  put_before Equal x y xs ys zs e = refl
  put_before Greater x y xs ys zs e = ap (λ rest. y ∷ rest) e

  pub put-append_left : (x : A) (xs ys : List A) → RisesAbove cmp key (key x) ys → put cmp key x (xs ++ ys) ≡ put cmp key x xs ++ ys
  put-append_left x [] ys above = put_first o key x ys above
  put-append_left x (y ∷ xs) ys above = put_before (cmp (key x) (key y)) x y xs ys (put cmp key x (xs ++ ys)) (put-append_left x xs ys above)

  without_before : (b : Bool) (k : K) (x : A) (xs ys zs : List A) → zs ≡ without cmp key k xs ++ ys → cond b (xs ++ ys) (x ∷ zs) ≡ cond b xs (x ∷ without cmp key k xs) ++ ys
  without_before true k x xs ys zs e = refl
  without_before false k x xs ys zs e = ap (λ rest. x ∷ rest) e

  pub without-append_left : (k : K) (xs ys : List A) → RisesAbove cmp key k ys → without cmp key k (xs ++ ys) ≡ without cmp key k xs ++ ys
  without-append_left k [] ys above = without_absent o key k ys (find_at_bound o key k ys above)
  without-append_left k (x ∷ xs) ys above = without_before (is_eq (cmp k (key x))) k x xs ys (without cmp key k (xs ++ ys)) (without-append_left k xs ys above)

  -- ---- a block among the others

  pub block_rises : (bs : List (List A)) (i : ℕ) (d : List A) → Rises cmp key (items_of bs) → i < length bs → Rises cmp key (get_or bs i d)
  block_rises bs i d h within =
      Rises_left o key (get_or bs i d) (items_of (drop (i + 1) bs))
      (Rises_right o key (items_of (take i bs)) (get_or bs i d ++ items_of (drop (i + 1) bs)) (subst (Rises cmp key) (items_of_split bs i d within) h))

  pub find-items_of : (k : K) (bs : List (List A)) (i : ℕ) (d : List A) → i < length bs → IsBlockFor cmp key k bs i → find cmp key k (items_of bs) ≡ find cmp key k (get_or bs i d)
  find-items_of k bs i d within for_key =
      let back = items_of (drop (i + 1) bs) in
      ap (find cmp key k) (items_of_split bs i d within) ∙ find-append_right o key k (items_of (take i bs)) (get_or bs i d ++ back) for_key.below
      ∙ find-append cmp key k (get_or bs i d) back ∙ ap (option_or (find cmp key k (get_or bs i d))) (find_at_bound o key k back for_key.above) ∙ or_none (find cmp key k (get_or bs i d))

  pub put-items_of : (x : A) (bs : List (List A)) (i : ℕ) (d : List A) → i < length bs → IsBlockFor cmp key (key x) bs i → put cmp key x (items_of bs) ≡ items_of (take i bs) ++ (put cmp key x (get_or bs i d) ++ items_of (drop (i + 1) bs))
  put-items_of x bs i d within for_key =
      let back = items_of (drop (i + 1) bs) in
      ap (put cmp key x) (items_of_split bs i d within) ∙ put-append o key x (items_of (take i bs)) (get_or bs i d ++ back) for_key.below
      ∙ ap (λ zs. items_of (take i bs) ++ zs) (put-append_left x (get_or bs i d) back for_key.above)

  pub without-items_of : (k : K) (bs : List (List A)) (i : ℕ) (d : List A) → i < length bs → IsBlockFor cmp key k bs i → without cmp key k (items_of bs) ≡ items_of (take i bs) ++ (without cmp key k (get_or bs i d) ++ items_of (drop (i + 1) bs))
  without-items_of k bs i d within for_key =
      let back = items_of (drop (i + 1) bs) in
      ap (without cmp key k) (items_of_split bs i d within) ∙ without-append o key k (items_of (take i bs)) (get_or bs i d ++ back) for_key.below
      ∙ ap (λ zs. items_of (take i bs) ++ zs) (without-append_left k (get_or bs i d) back for_key.above)

  -- ---- the first keys of parts

  module _ (none : K) where
    first_keys_above : (k : K) (bs : List (List A)) → RisesAbove cmp key k (items_of bs) → All IsPart bs → RisesAbove cmp (first_key key none) k bs
    first_keys_above k [] h all = tt
    first_keys_above k ([] ∷ bs) h all = absurd (let size = All-head IsPart [] bs all in omega arith)
    first_keys_above k ((x ∷ xs) ∷ bs) h all = (h.0, first_keys_above (key x) bs (RisesAbove_right (key x) xs (items_of bs) h.1) (All-tail IsPart (x ∷ xs) bs all))

    pub first_keys_rise : (bs : List (List A)) → AreParts cmp key bs → Rises cmp (first_key key none) bs
    first_keys_rise [] parts = tt
    first_keys_rise ([] ∷ bs) parts = absurd (let size = All-head IsPart [] bs parts.each in omega arith)
    first_keys_rise ((x ∷ xs) ∷ bs) parts = first_keys_above (key x) bs (RisesAbove_right (key x) xs (items_of bs) parts.rises) (All-tail IsPart (x ∷ xs) bs parts.each)

    below_first : (front b back : List A) → 0 < length b → Rises cmp key (front ++ (b ++ back)) → AllBelow cmp key front (first_key key none b)
    below_first front [] back size h = absurd (omega arith)
    below_first front (x ∷ xs) back size h = below_split o key front x (xs ++ back) h

    above_first : (front b back : List A) → 0 < length b → Rises cmp key (front ++ (b ++ back)) → RisesAbove cmp key (first_key key none b) back
    above_first front [] back size h = absurd (omega arith)
    above_first front (x ∷ xs) back size h = RisesAbove_right (key x) xs back (above_split o key front x (xs ++ back) h)

    above_from_first : (k : K) (b back : List A) → 0 < length b → Rises cmp key (b ++ back) → cmp k (first_key key none b) ≡ Less → RisesAbove cmp key k (b ++ back)
    above_from_first k [] back size h lt = absurd (omega arith)
    above_from_first k (x ∷ xs) back size h lt = (lt, h)

    above_at : (k : K) (bs : List (List A)) (i : ℕ) → Rises cmp key (items_of bs) → All IsPart bs → AllWithin (λ b. cmp k (first_key key none b) ≡ Less) bs i (length bs) → RisesAbove cmp key k (items_of (drop i bs))
    above_at k [] zero h all above = tt
    above_at k [] (suc i) h all above = tt
    above_at k (b ∷ bs) zero h all above = above_from_first k b (items_of bs) (All-head IsPart b bs all) h (above 0 b (omega arith) (omega arith))
    above_at k (b ∷ bs) (suc i) h all above = above_at k bs i (Rises_right o key b (items_of bs) h) (All-tail IsPart b bs all) (λ j d from to. above (suc j) d (omega arith) (omega arith))

    pub block_at_first_key : (k : K) (bs : List (List A)) (i : ℕ) → AreParts cmp key bs → IsSpot cmp (first_key key none) k bs (Ok i) → IsBlockFor cmp key k bs i
    block_at_first_key k bs i parts spot =
        let b : List A = get_or bs i [] in
        let size : 0 < length b = All-get_or IsPart bs i [] spot.0 parts.each in
        let split : Rises cmp key (items_of (take i bs) ++ (b ++ items_of (drop (i + 1) bs))) = subst (Rises cmp key) (items_of_split bs i [] spot.0) parts.rises in
        record {
          below = subst (AllBelow cmp key (items_of (take i bs))) (spot.1 []) (below_first (items_of (take i bs)) b (items_of (drop (i + 1) bs)) size split);
          above = subst (λ q. RisesAbove cmp key q (items_of (drop (i + 1) bs))) (spot.1 []) (above_first (items_of (take i bs)) b (items_of (drop (i + 1) bs)) size split);
        }

    pub block_between_first_keys : (k : K) (bs : List (List A)) (i : ℕ) → AreParts cmp key bs → IsSpot cmp (first_key key none) k bs (Err i) → IsBlockFor cmp key k bs (i - 1)
    block_between_first_keys k bs zero parts spot = record {
      below = All-nil (λ x. cmp (key x) k ≡ Less);
      above = above_at k bs 1 parts.rises parts.each (λ j d from to. spot.2 j d (omega arith) to);
    }
    block_between_first_keys k bs (suc i) parts spot =
        let e : suc i - 1 ≡ i = omega arith in
        let b : List A = get_or bs i [] in
        let within : i < length bs = omega (arith, spot.0) in
        let size : 0 < length b = All-get_or IsPart bs i [] within parts.each in
        let split : Rises cmp key (items_of (take i bs) ++ (b ++ items_of (drop (i + 1) bs))) = subst (Rises cmp key) (items_of_split bs i [] within) parts.rises in
        let less : cmp (first_key key none b) k ≡ Less = spot.1 i [] (omega arith) (omega arith) in
        let below : AllBelow cmp key (items_of (take i bs)) (first_key key none b) = below_first (items_of (take i bs)) b (items_of (drop (i + 1) bs)) size split in
        rw e (record {
          below = λ j d before. o.chain (key (get_or (items_of (take i bs)) j d)) (first_key key none b) k (below j d before) less;
          above = rw add-one (above_at k bs (suc i) parts.rises parts.each spot.2);
        })
