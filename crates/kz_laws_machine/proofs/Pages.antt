-- The migrated area page by page.
use Rattle.std.proofs.Common.{◌≡◌, ◌⊎◌, ℕ, ◌≤◌, min, nat_lt, Bool, true, false, cond, List, [], ◌∷◌, ◌++◌, length, Some, None, Less, All, refl, ap, ◌∙◌, subst, inl, inr, filter, take, drop, arith, append_assoc, length-take}
use Rattle.std.specs.Ordering.{match_ordering}
use Rattle.std.proofs.lemmas.Bool.Decides.{nat_tests}
use Rattle.std.proofs.lemmas.List.{take_all, take-append-drop}
use Rattle.std.proofs.lemmas.List.Elements.{All-head, All-tail, filter-append}
use Rattle.kz_types.specs.declared.tree.Row.{Row}
use Rattle.kz_types.specs.Order.{bytes_cmp}
use Rattle.kz_types.specs.Ordered.{Rises}
use Rattle.kz_types.proofs.Order.{bytes_order, cmp_greater}
use Rattle.kz_types.proofs.Append.{below_split, above_split, all_from_rises_above}
use Rattle.kz_spec_data.specs.Tree.{path_of_row, is_after}
use Rattle.kz_spec_machine.specs.Driver.{last_path}

-- a list is empty or ends with an item
record EndsWith (xs : List Row) : Type 0 where
  front : List Row
  last : Row
  whole : xs ≡ front ++ last ∷ []

end_more : (x : Row) (xs : List Row) → (xs ≡ []) ⊎ EndsWith xs → EndsWith (x ∷ xs)
end_more x xs (inl none) = record { front = []; last = x; whole = ap (λ l. x ∷ l) none }
end_more x xs (inr e) = record { front = x ∷ e.front; last = e.last; whole = ap (λ l. x ∷ l) e.whole }

end_of_list : (xs : List Row) → (xs ≡ []) ⊎ EndsWith xs
end_of_list [] = inl refl
end_of_list (x ∷ xs) = inr (end_more x xs (end_of_list xs))

last_is : (front : List Row) (x : Row) → last_path (front ++ x ∷ []) ≡ Some x.path
last_is [] x = refl
last_is (y ∷ []) x = refl
last_is (y ∷ z ∷ zs) x = last_is (z ∷ zs) x

kept_all : (p : Row → Bool) (xs : List Row) → All (λ r. p r ≡ true) xs → filter p xs ≡ xs
kept_all p [] all = refl
kept_all p (x ∷ xs) all = ap (λ b. cond b (x ∷ filter p xs) (filter p xs)) (All-head (λ r. p r ≡ true) x xs all) ∙ ap (λ l. x ∷ l) (kept_all p xs (All-tail (λ r. p r ≡ true) x xs all))

kept_none : (p : Row → Bool) (xs : List Row) → All (λ r. p r ≡ false) xs → filter p xs ≡ []
kept_none p [] all = refl
kept_none p (x ∷ xs) all = ap (λ b. cond b (x ∷ filter p xs) (filter p xs)) (All-head (λ r. p r ≡ false) x xs all) ∙ kept_none p xs (All-tail (λ r. p r ≡ false) x xs all)

after_less : (p : List ℕ) (r : Row) → bytes_cmp p r.path ≡ Less → is_after (Some p) r ≡ true
after_less p r is = ap (λ o. match_ordering o true false false) is

not_after_itself : (r : Row) → is_after (Some r.path) r ≡ false
not_after_itself r = ap (λ o. match_ordering o true false false) (bytes_order.itself r.path)

not_after_below : (p : List ℕ) (r : Row) → bytes_cmp r.path p ≡ Less → is_after (Some p) r ≡ false
not_after_below p r is = ap (λ o. match_ordering o true false false) (cmp_greater bytes_order p r.path is)

all_weaker : (P Q : Row → Type 0) (xs : List Row) → ((r : Row) → P r → Q r) → All P xs → All Q xs
all_weaker P Q xs so all k d within = so _ (all k d within)

-- after the last of the first znodes stand the others
rest_after : (xs : List Row) (x : Row) (ys : List Row) → Rises bytes_cmp path_of_row (xs ++ x ∷ ys) → filter (is_after (Some x.path)) (xs ++ x ∷ ys) ≡ ys
rest_after xs x ys h =
    let test = is_after (Some x.path) in
    filter-append test xs (x ∷ ys)
    ∙ ap (λ l. l ++ filter test (x ∷ ys)) (kept_none test xs (all_weaker (λ z. bytes_cmp (path_of_row z) (path_of_row x) ≡ Less) (λ z. test z ≡ false) xs (λ z low. not_after_below x.path z low) (below_split bytes_order path_of_row xs x ys h)))
    ∙ ap (λ b. cond b (x ∷ filter test ys) (filter test ys)) (not_after_itself x)
    ∙ kept_all test ys (all_weaker (λ z. bytes_cmp (path_of_row x) (path_of_row z) ≡ Less) (λ z. test z ≡ true) ys (λ z high. after_less x.path z high) (all_from_rises_above bytes_order path_of_row (path_of_row x) ys (above_split bytes_order path_of_row xs x ys h)))

all_after : (ys : List Row) → filter (is_after None) ys ≡ ys
all_after [] = refl
all_after (y ∷ ys) = ap (λ l. y ∷ l) (all_after ys)

rest_later : (xs ys : List Row) → (xs ≡ []) ⊎ EndsWith xs → Rises bytes_cmp path_of_row (xs ++ ys) → filter (is_after (last_path xs)) (xs ++ ys) ≡ ys
rest_later xs ys (inl none) h = ap (λ l. filter (is_after (last_path l)) (l ++ ys)) none ∙ all_after ys
rest_later xs ys (inr e) h =
    let joined : (e.front ++ e.last ∷ []) ++ ys ≡ e.front ++ e.last ∷ ys = append_assoc e.front (e.last ∷ []) ys in
    ap (λ l. filter (is_after (last_path l)) (l ++ ys)) e.whole
    ∙ ap (λ p. filter (is_after p) ((e.front ++ e.last ∷ []) ++ ys)) (last_is e.front e.last)
    ∙ ap (filter (is_after (Some e.last.path))) joined
    ∙ rest_after e.front e.last ys (subst (Rises bytes_cmp path_of_row) (ap (λ l. l ++ ys) e.whole ∙ joined) h)

pub after_last : (xs ys : List Row) → Rises bytes_cmp path_of_row (xs ++ ys) → filter (is_after (last_path xs)) (xs ++ ys) ≡ ys
after_last xs ys h = rest_later xs ys (end_of_list xs) h

-- a page that isn't full is all that was left
pub short_page : (n : ℕ) (ys : List Row) → nat_lt (length (take n ys)) n ≡ true → take n ys ≡ ys
short_page n ys short = take_all n ys (few n (length ys) (length (take n ys)) (length-take n ys) short)
  where
    few : (n l t : ℕ) → t ≡ min n l → nat_lt t n ≡ true → l ≤ n
    few n l t is short = grind (arith, nat_tests)

pub one_page_more : (n : ℕ) (xs ys : List Row) → (xs ++ take n ys) ++ drop n ys ≡ xs ++ ys
one_page_more n xs ys = append_assoc xs (take n ys) (drop n ys) ∙ ap (λ l. xs ++ l) (take-append-drop n ys)
