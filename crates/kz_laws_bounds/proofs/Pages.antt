-- How many pages are left to be read.
use Rattle.std.proofs.Common.{◌≡◌, ◌⊎◌, inl, inr, ℕ, suc, ◌+◌, ◌-◌, ◌≤◌, nat_lt, min, Bool, true, false, cond, List, [], ◌∷◌, ◌++◌, length, filter, take, drop, Option, Some, None, Ordering, Less, Equal, Greater, All, refl, sym, ap, ◌∙◌, subst, arith, append_assoc, length-take, length-drop}
use Rattle.std.specs.Ordering.{match_ordering}
use Rattle.std.proofs.lemmas.Bool.Decides.{nat_tests}
use Rattle.std.proofs.lemmas.List.{take-append-drop}
use Rattle.std.proofs.lemmas.List.Elements.{All-nil, All-cons, All-head, All-tail, All-take}
use Rattle.kz_types.specs.declared.limits.TheConstants.{MAX_SCAN_ROWS}
use Rattle.kz_types.specs.declared.tree.Row.{Row}
use Rattle.kz_types.specs.Paths.{is_migrated}
use Rattle.kz_types.specs.Order.{bytes_cmp}
use Rattle.kz_types.specs.Ordered.{Rises}
use Rattle.kz_types.proofs.Order.{bytes_order}
use Rattle.kz_types.proofs.Maps.{Rises-filter}
use Rattle.kz_spec_data.specs.Tree.{Tree, path_of_row, is_after, scan, migrated_rows}
use Rattle.kz_spec_machine.specs.Driver.{last_path}
use Rattle.kz_spec_machine.specs.Sound.{TreeShape}
use Rattle.kz_laws_machine.proofs.Pages.{after_last}

-- the znodes of the area after a path
abbrev after : Tree → Option (List ℕ) → List Row
after t p = filter (is_after p) (migrated_rows t)

-- how many of them there are
abbrev pub behind : Tree → Option (List ℕ) → ℕ
behind t p = length (after t p)

kept_after : (rows : List Row) → filter (is_after None) rows ≡ rows
kept_after [] = refl
kept_after (r ∷ rows) = ap (λ (l : List Row). r ∷ l) (kept_after rows)

-- before the first page all are left
pub all_behind : (t : Tree) → behind t None ≡ length (migrated_rows t)
all_behind t = ap length (kept_after (migrated_rows t))

fewer_by : (b : Bool) (r : Row) (some rows : List Row) → length some ≤ length rows → length (cond b (r ∷ some) some) ≤ length (r ∷ rows)
fewer_by true r some rows low = omega (arith, low)
fewer_by false r some rows low = omega (arith, low)

fewer : (p : Row → Bool) (rows : List Row) → length (filter p rows) ≤ length rows
fewer p [] = omega arith
fewer p (r ∷ rows) = fewer_by (p r) r (filter p rows) rows (fewer p rows)

pub some_behind : (t : Tree) (p : Option (List ℕ)) → behind t p ≤ length (migrated_rows t)
some_behind t p = fewer (is_after p) (migrated_rows t)

-- ---- what passes one test passes another

narrow_by : (a b : Bool) (P : Row → Bool) (r : Row) (xs ys : List Row) → P r ≡ a → (a ≡ true → b ≡ true) → filter P xs ≡ ys → filter P (cond b (r ∷ xs) xs) ≡ cond a (r ∷ ys) ys
narrow_by true true P r xs ys is so rest = ap (λ (c : Bool). cond c (r ∷ filter P xs) (filter P xs)) is ∙ ap (λ (l : List Row). r ∷ l) rest
narrow_by true false P r xs ys is so rest = absurd (let no = so refl in cc)
narrow_by false true P r xs ys is so rest = ap (λ (c : Bool). cond c (r ∷ filter P xs) (filter P xs)) is ∙ rest
narrow_by false false P r xs ys is so rest = rest

narrow : (P Q : Row → Bool) → ((r : Row) → P r ≡ true → Q r ≡ true) → (rows : List Row) → filter P (filter Q rows) ≡ filter P rows
narrow P Q so [] = refl
narrow P Q so (r ∷ rows) = narrow_by (P r) (Q r) P r (filter Q rows) (filter P rows) refl (so r) (narrow P Q so rows)

passes_by : (b : Bool) (Q : Row → Bool) (r : Row) (rows : List Row) → Q r ≡ b → All (λ (x : Row). Q x ≡ true) rows → All (λ (x : Row). Q x ≡ true) (cond b (r ∷ rows) rows)
passes_by true Q r rows is all = All-cons (λ (x : Row). Q x ≡ true) r rows is all
passes_by false Q r rows is all = all

passes : (Q : Row → Bool) (rows : List Row) → All (λ (x : Row). Q x ≡ true) (filter Q rows)
passes Q [] = All-nil (λ (x : Row). Q x ≡ true)
passes Q (r ∷ rows) = passes_by (Q r) Q r (filter Q rows) refl (passes Q rows)

less_by : (o : Ordering) → match_ordering o true false false ≡ true → o ≡ Less
less_by Less is = refl
less_by Equal is = absurd (cc)
less_by Greater is = absurd (cc)

-- what is after a znode that is after a path is after the path
after_after : (p : Option (List ℕ)) (x r : Row) → is_after p x ≡ true → is_after (Some x.path) r ≡ true → is_after p r ≡ true
after_after None x r first second = refl
after_after (Some q) x r first second =
    ap (λ (o : Ordering). match_ordering o true false false) (bytes_order.chain q x.path r.path (less_by (bytes_cmp q x.path) first) (less_by (bytes_cmp x.path r.path) second))

-- ---- the last of a page

-- a list is empty or ends with an item
record EndsWith (xs : List Row) : Type 0 where
  front : List Row
  last : Row
  whole : xs ≡ front ++ last ∷ []

end_more : (x : Row) (xs : List Row) → (xs ≡ []) ⊎ EndsWith xs → EndsWith (x ∷ xs)
end_more x xs (inl none) = record { front = []; last = x; whole = ap (λ (l : List Row). x ∷ l) none }
end_more x xs (inr e) = record { front = x ∷ e.front; last = e.last; whole = ap (λ (l : List Row). x ∷ l) e.whole }

end_of_list : (xs : List Row) → (xs ≡ []) ⊎ EndsWith xs
end_of_list [] = inl refl
end_of_list (x ∷ xs) = inr (end_more x xs (end_of_list xs))

last_is : (front : List Row) (x : Row) → last_path (front ++ x ∷ []) ≡ Some x.path
last_is [] x = refl
last_is (y ∷ []) x = refl
last_is (y ∷ z ∷ zs) x = last_is (z ∷ zs) x

last_of_all : (P : Row → Type 0) (front : List Row) (x : Row) → All P (front ++ x ∷ []) → P x
last_of_all P [] x all = All-head P x [] all
last_of_all P (y ∷ front) x all = last_of_all P front x (All-tail P y (front ++ x ∷ []) all)

-- ---- the next page

parts_rise : (n : ℕ) (t : Tree) (p : Option (List ℕ)) → TreeShape t → Rises bytes_cmp path_of_row (take n (after t p) ++ drop n (after t p))
parts_rise n t p shape = subst (Rises bytes_cmp path_of_row) (sym (take-append-drop n (after t p)))
    (Rises-filter bytes_order path_of_row (is_after p) (migrated_rows t) (Rises-filter bytes_order path_of_row (λ (r : Row). is_migrated r.path) t.rows shape.rise))

next_by : (n : ℕ) (t : Tree) (rows : List Row) → TreeShape t → (e : EndsWith (take n (after t (last_path rows)))) → after t (last_path (rows ++ take n (after t (last_path rows)))) ≡ drop n (after t (last_path rows))
next_by n t rows shape e =
    let p = last_path rows in
    let page : List Row = take n (after t p) in
    let joined : rows ++ page ≡ (rows ++ e.front) ++ e.last ∷ [] = ap (λ (l : List Row). rows ++ l) e.whole ∙ sym (append_assoc rows e.front (e.last ∷ [])) in
    let same : last_path (rows ++ page) ≡ Some e.last.path = ap last_path joined ∙ last_is (rows ++ e.front) e.last in
    let own : last_path page ≡ Some e.last.path = ap last_path e.whole ∙ last_is e.front e.last in
    let is : is_after p e.last ≡ true = last_of_all (λ (x : Row). is_after p x ≡ true) e.front e.last (subst (All (λ (x : Row). is_after p x ≡ true)) e.whole (All-take (λ (x : Row). is_after p x ≡ true) n (after t p) (passes (is_after p) (migrated_rows t)))) in
    ap (after t) same
    ∙ sym (narrow (is_after (Some e.last.path)) (is_after p) (λ r second. after_after p e.last r is second) (migrated_rows t))
    ∙ ap (filter (is_after (Some e.last.path))) (sym (take-append-drop n (after t p)))
    ∙ ap (λ (q : Option (List ℕ)). filter (is_after q) (page ++ drop n (after t p))) (sym own)
    ∙ after_last page (drop n (after t p)) (parts_rise n t p shape)

at_least : (k n : ℕ) → nat_lt k n ≡ false → n ≤ k
at_least k n is = grind (arith, nat_tests)

none_full : (k n : ℕ) → k ≡ 0 → suc n ≤ k → ⊥
none_full k n none full = absurd (omega (arith, none, full))

full_page : (n : ℕ) (xs : List Row) → nat_lt (length xs) (suc n) ≡ false → (xs ≡ []) → ⊥
full_page n xs full none = absurd (none_full (length xs) n (ap length none) (at_least (length xs) (suc n) full))

next_at : (n : ℕ) (t : Tree) (rows : List Row) → TreeShape t → nat_lt (length (take (suc n) (after t (last_path rows)))) (suc n) ≡ false → (take (suc n) (after t (last_path rows)) ≡ []) ⊎ EndsWith (take (suc n) (after t (last_path rows)))
    → after t (last_path (rows ++ take (suc n) (after t (last_path rows)))) ≡ drop (suc n) (after t (last_path rows))
next_at n t rows shape full (inl none) = absurd (full_page n (take (suc n) (after t (last_path rows))) full none)
next_at n t rows shape full (inr e) = next_by (suc n) t rows shape e

-- after a full page so many are left
pub page_on : (t : Tree) (rows : List Row) → TreeShape t → nat_lt (length (scan t (last_path rows) MAX_SCAN_ROWS)) MAX_SCAN_ROWS ≡ false
    → behind t (last_path (rows ++ scan t (last_path rows) MAX_SCAN_ROWS)) + 256 ≤ behind t (last_path rows)
page_on t rows shape full =
    let page : List Row = scan t (last_path rows) MAX_SCAN_ROWS in
    let all : List Row = after t (last_path rows) in
    let left : behind t (last_path (rows ++ page)) ≡ length all - 256 = ap length (next_at 255 t rows shape full (end_of_list page)) ∙ length-drop 256 all in
    sums (behind t (last_path (rows ++ page))) (length all) (length page) left (length-take 256 all) full
  where
    sums : (n l k : ℕ) → n ≡ l - 256 → k ≡ min 256 l → nat_lt k 256 ≡ false → n + 256 ≤ l
    sums n l k is taken full = grind (arith, nat_tests)
