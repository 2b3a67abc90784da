-- One pass over records whose offsets rise hands out those that count.
use Rattle.std.proofs.Common.{◌≡◌, Bool, true, false, not, ◌&&◌, ◌||◌, cond, ℤ, int_le, int_lt, int_cmp, List, [], ◌∷◌, ◌++◌, Ordering, Less, Equal, Greater, refl, sym, ap, ◌∙◌, subst, append_assoc, append-nil, get_or}
use Rattle.std.specs.List.{filter, find, list_any, All}
use Rattle.std.proofs.lemmas.List.Elements.{All-nil, All-cons, All-head, All-tail}
use Rattle.kz_types.specs.declared.log.Entry.{Entry}
use Rattle.kz_types.specs.Ordered.{Rises}
use Rattle.kz_types.proofs.Order.{int_order, cmp_greater}
use Rattle.kz_types.proofs.Append.{all_from_rises_above, below_split, above_split, Rises_left}
use Rattle.kz_types.proofs.Lookup.{rest_rises}
use Rattle.kz_spec_data.specs.Settlement.{is_begin, closes, is_marker, is_closed_between, is_inside, first_close, is_ended_by, is_counted, counting_records}
use Rattle.kz_settle.specs.Settling.{offset_of, closes_entry, is_open_after, is_open_at_end, ends_by, records_of_pass}

-- ---- tests over lists

pub any_none : {A : Type 0} (p : A → Bool) (xs : List A) → All (λ x. p x ≡ false) xs → list_any p xs ≡ false
any_none p [] h = refl
any_none p (x ∷ xs) h = rw (All-head (λ y. p y ≡ false) x xs h) (any_none p xs (All-tail (λ y. p y ≡ false) x xs h))

pub any_same : {A : Type 0} (p q : A → Bool) (xs : List A) → All (λ x. p x ≡ q x) xs → list_any p xs ≡ list_any q xs
any_same p q [] h = refl
any_same p q (x ∷ xs) h = rw (All-head (λ y. p y ≡ q y) x xs h, any_same p q xs (All-tail (λ y. p y ≡ q y) x xs h)) refl

or_assoc : (a b c : Bool) → (a || b) || c ≡ a || (b || c)
or_assoc true b c = refl
or_assoc false b c = refl

pub or_false : (a : Bool) → a || false ≡ a
or_false true = refl
or_false false = refl

pub any-append : {A : Type 0} (p : A → Bool) (xs ys : List A) → list_any p (xs ++ ys) ≡ list_any p xs || list_any p ys
any-append p [] ys = refl
any-append p (x ∷ xs) ys = rw (any-append p xs ys) (sym (or_assoc (p x) (list_any p xs) (list_any p ys)))

-- what holds at no item of the second part is decided in the first
pub any_left : {A : Type 0} (p : A → Bool) (xs ys : List A) → All (λ y. p y ≡ false) ys → list_any p (xs ++ ys) ≡ list_any p xs
any_left p xs ys h = any-append p xs ys ∙ ap (λ b. list_any p xs || b) (any_none p ys h) ∙ or_false (list_any p xs)

pub find_right : {A : Type 0} (p : A → Bool) (xs ys : List A) → All (λ x. p x ≡ false) xs → find p (xs ++ ys) ≡ find p ys
find_right p [] ys h = refl
find_right p (x ∷ xs) ys h = rw (All-head (λ y. p y ≡ false) x xs h) (find_right p xs ys (All-tail (λ y. p y ≡ false) x xs h))

pub find_same : {A : Type 0} (p q : A → Bool) (xs : List A) → All (λ x. p x ≡ q x) xs → find p xs ≡ find q xs
find_same p q [] h = refl
find_same p q (x ∷ xs) h = rw (All-head (λ y. p y ≡ q y) x xs h, find_same p q xs (All-tail (λ y. p y ≡ q y) x xs h)) refl

-- ---- orders of numbers as tests

less_first : (a b : Bool) → cond a Less (cond b Greater Equal) ≡ Less → a ≡ true
less_first true b h = refl
less_first false true h = cc
less_first false false h = cc

not_less_first : (a b : Bool) (r : Ordering) → cond a Less (cond b Greater Equal) ≡ r → (r ≡ Less → ⊥) → a ≡ false
not_less_first true b r h ne = absurd (ne (sym h))
not_less_first false b r h ne = refl

pub lt_from_less : (x y : ℤ) → int_cmp x y ≡ Less → int_lt x y ≡ true
lt_from_less x y h = less_first (int_lt x y) (int_lt y x) h

pub lt_back : (x y : ℤ) → int_cmp x y ≡ Less → int_lt y x ≡ false
lt_back x y h = not_less_first (int_lt y x) (int_lt x y) Greater (cmp_greater int_order y x h) (λ e. cc)

pub lt_itself : (x : ℤ) → int_lt x x ≡ false
lt_itself x = not_less_first (int_lt x x) (int_lt x x) Equal (int_order.itself x) (λ e. cc)

-- ---- whether a transaction is open

abbrev pub any_close : List Entry → Bool
any_close es = list_any closes_entry es

-- an End or Abort after an offset
abbrev pub closed_after : List Entry → ℤ → Bool
closed_after es from = list_any (λ (e : Entry). closes e.item && int_lt from e.offset) es

-- a Begin of these records has no End or Abort after it
abbrev pub open_among : List Entry → Bool
open_among es = list_any (λ (b : Entry). is_begin b.item && not (closed_after es b.offset)) es

opens_or_stays : (b c inside closed later : Bool)
    → (cond b true (cond c false inside) && not closed) || later ≡ (inside && not (c || closed)) || ((cond b true (cond c false false) && not closed) || later)
opens_or_stays true true true closed later = refl
opens_or_stays true true false closed later = refl
opens_or_stays true false true true later = refl
opens_or_stays true false true false later = refl
opens_or_stays true false false closed later = refl
opens_or_stays false true true closed later = refl
opens_or_stays false true false closed later = refl
opens_or_stays false false true closed later = refl
opens_or_stays false false false closed later = refl

no_close_left : (inside : Bool) → inside ≡ (inside && not false) || false
no_close_left true = refl
no_close_left false = refl

-- what is open before the records stays so where none of them closes it
pub is_open_at_end-is : (inside : Bool) (es : List Entry) → is_open_at_end inside es ≡ (inside && not (any_close es)) || is_open_at_end false es
is_open_at_end-is inside [] = no_close_left inside
is_open_at_end-is inside (e ∷ es) =
    is_open_at_end-is (is_open_after inside e.item) es
    ∙ opens_or_stays (is_begin e.item) (closes e.item) inside (any_close es) (is_open_at_end false es)
    ∙ ap (λ x. (inside && not (closes e.item || any_close es)) || x) (sym (is_open_at_end-is (is_open_after false e.item) es))

pub and_true : (a b : Bool) → b ≡ true → (a && b) ≡ a
and_true true b h = h
and_true false b h = refl

pub and_false : (a b : Bool) → b ≡ false → (a && b) ≡ false
and_false true b h = h
and_false false b h = refl

-- after the first offset, every End or Abort of the rest stands
closed_after_first : (x : Entry) (es : List Entry) → All (λ (e : Entry). int_cmp x.offset e.offset ≡ Less) es → closed_after (x ∷ es) x.offset ≡ any_close es
closed_after_first x es h =
    rw (and_false (closes x.item) (int_lt x.offset x.offset) (lt_itself x.offset))
    (any_same (λ (e : Entry). closes e.item && int_lt x.offset e.offset) closes_entry es (λ k d lt. and_true (closes (get_or es k d).item) _ (lt_from_less x.offset (get_or es k d).offset (h k d lt))))

-- the first record closes nothing that begins after it
closed_after_later : (x : Entry) (es : List Entry) (b : Entry) → int_cmp x.offset b.offset ≡ Less → closed_after (x ∷ es) b.offset ≡ closed_after es b.offset
closed_after_later x es b h = rw (and_false (closes x.item) (int_lt b.offset x.offset) (lt_back x.offset b.offset h)) refl

begin_is : (b c closed : Bool) → (cond b true (cond c false false) && not closed) ≡ b && not closed
begin_is true c closed = refl
begin_is false true closed = refl
begin_is false false closed = refl

pub open_among_is : (es : List Entry) → Rises int_cmp offset_of es → open_among es ≡ is_open_at_end false es
open_among_is [] h = refl
open_among_is (x ∷ es) h =
    let above = all_from_rises_above int_order offset_of x.offset es h in
    let later : list_any (λ (b : Entry). is_begin b.item && not (closed_after (x ∷ es) b.offset)) es ≡ list_any (λ (b : Entry). is_begin b.item && not (closed_after es b.offset)) es
    = any_same (λ (b : Entry). is_begin b.item && not (closed_after (x ∷ es) b.offset)) (λ (b : Entry). is_begin b.item && not (closed_after es b.offset)) es
    (λ k d lt. ap (λ c. is_begin (get_or es k d).item && not c) (closed_after_later x es (get_or es k d) (above k d lt))) in
    ap (λ c. (is_begin x.item && not c) || list_any (λ (b : Entry). is_begin b.item && not (closed_after (x ∷ es) b.offset)) es) (closed_after_first x es above)
    ∙ ap (λ o. (is_begin x.item && not (any_close es)) || o) (later ∙ open_among_is es (rest_rises int_order offset_of x es h))
    ∙ ap (λ b. b || is_open_at_end false es) (sym (begin_is (is_begin x.item) (closes x.item) (any_close es)))
    ∙ sym (is_open_at_end-is (is_open_after false x.item) es)

-- ---- one record of a log

abbrev NotBelow : ℤ → List Entry → Type 0
NotBelow off es = All (λ (e : Entry). int_lt e.offset off ≡ false) es

-- of the records before an offset and those that aren't, the first decide whether it is inside a transaction
module _ (done rest : List Entry) (off : ℤ) (before : All (λ (e : Entry). int_lt e.offset off ≡ true) done) (after : NotBelow off rest) where
  closed_is : (from : ℤ) → is_closed_between (done ++ rest) from off ≡ closed_after done from
  closed_is from =
      any_left (λ (e : Entry). closes e.item && int_lt from e.offset && int_lt e.offset off) done rest (λ k d lt. and_false _ _ (after k d lt))
      ∙ any_same (λ (e : Entry). closes e.item && int_lt from e.offset && int_lt e.offset off) (λ (e : Entry). closes e.item && int_lt from e.offset) done (λ k d lt. and_true _ _ (before k d lt))

  begins_before : (b : Entry) → int_lt b.offset off ≡ true → (is_begin b.item && int_lt b.offset off && not (is_closed_between (done ++ rest) b.offset off)) ≡ (is_begin b.item && not (closed_after done b.offset))
  begins_before b h = ap (λ x. x && not (is_closed_between (done ++ rest) b.offset off)) (and_true (is_begin b.item) (int_lt b.offset off) h) ∙ ap (λ x. is_begin b.item && not x) (closed_is b.offset)

  begins_after : (b : Entry) → int_lt b.offset off ≡ false → (is_begin b.item && int_lt b.offset off && not (is_closed_between (done ++ rest) b.offset off)) ≡ false
  begins_after b h = ap (λ x. x && not (is_closed_between (done ++ rest) b.offset off)) (and_false (is_begin b.item) (int_lt b.offset off) h)

  inside_among : is_inside (done ++ rest) off ≡ open_among done
  inside_among =
      let test : Entry → Bool = λ (b : Entry). is_begin b.item && int_lt b.offset off && not (is_closed_between (done ++ rest) b.offset off) in
      any_left test done rest (λ k d lt. begins_after (get_or rest k d) (after k d lt))
      ∙ any_same test (λ (b : Entry). is_begin b.item && not (closed_after done b.offset)) done (λ k d lt. begins_before (get_or done k d) (before k d lt))

  pub inside_is : Rises int_cmp offset_of done → is_inside (done ++ rest) off ≡ is_open_at_end false done
  inside_is h = inside_among ∙ open_among_is done h

-- the first End or Abort after a record is the first of the records after it
first_close_is : (done : List Entry) (e : Entry) (rest : List Entry) → Rises int_cmp offset_of (done ++ e ∷ rest) → first_close (done ++ e ∷ rest) e.offset ≡ find closes_entry rest
first_close_is done e rest h =
    let test : Entry → Bool = λ (c : Entry). closes c.item && int_lt e.offset c.offset in
    let below = below_split int_order offset_of done e rest h in
    let above = all_from_rises_above int_order offset_of e.offset rest (above_split int_order offset_of done e rest h) in
    find_right test done (e ∷ rest) (λ k d lt. and_false (closes (get_or done k d).item) _ (lt_back (get_or done k d).offset e.offset (below k d lt)))
    ∙ rw (and_false (closes e.item) (int_lt e.offset e.offset) (lt_itself e.offset))
    (find_same test closes_entry rest (λ k d lt. and_true (closes (get_or rest k d).item) _ (lt_from_less e.offset (get_or rest k d).offset (above k d lt))))

pub record_inside : (done : List Entry) (e : Entry) (rest : List Entry) → Rises int_cmp offset_of (done ++ e ∷ rest) → is_inside (done ++ e ∷ rest) e.offset ≡ is_open_at_end false done
record_inside done e rest h =
    let below = below_split int_order offset_of done e rest h in
    let above = all_from_rises_above int_order offset_of e.offset rest (above_split int_order offset_of done e rest h) in
    inside_is done (e ∷ rest) e.offset (λ k d lt. lt_from_less (get_or done k d).offset e.offset (below k d lt))
    (All-cons (λ (x : Entry). int_lt x.offset e.offset ≡ false) e rest (lt_itself e.offset) (λ k d lt. lt_back e.offset (get_or rest k d).offset (above k d lt)))
    (Rises_left int_order offset_of done (e ∷ rest) h)

pub is_open_at_end-append : (inside : Bool) (xs ys : List Entry) → is_open_at_end inside (xs ++ ys) ≡ is_open_at_end (is_open_at_end inside xs) ys
is_open_at_end-append inside [] ys = refl
is_open_at_end-append inside (x ∷ xs) ys = is_open_at_end-append (is_open_after inside x.item) xs ys

-- ---- the pass

counts_is : (at : ℤ) (whole done : List Entry) (e : Entry) (rest : List Entry) → whole ≡ done ++ e ∷ rest → Rises int_cmp offset_of whole
    → is_counted whole at e ≡ int_le e.offset at && not (is_marker e.item) && (not (is_open_at_end false done) || ends_by at rest)
counts_is at whole done e rest is h =
    let rising = subst (λ es. Rises int_cmp offset_of es) is h in
    ap (λ es. is_counted es at e) is
    ∙ ap (λ i. int_le e.offset at && not (is_marker e.item) && (not i || is_ended_by at (first_close (done ++ e ∷ rest) e.offset))) (record_inside done e rest rising)
    ∙ ap (λ c. int_le e.offset at && not (is_marker e.item) && (not (is_open_at_end false done) || is_ended_by at c)) (first_close_is done e rest rising)

pass_from : (at : ℤ) (whole done rest : List Entry) → whole ≡ done ++ rest → Rises int_cmp offset_of whole → filter (is_counted whole at) rest ≡ records_of_pass at (is_open_at_end false done) rest
pass_from at whole done [] is h = refl
pass_from at whole done (e ∷ rest) is h =
    let next = pass_from at whole (done ++ e ∷ []) rest (is ∙ sym (append_assoc done (e ∷ []) rest)) h ∙ ap (λ o. records_of_pass at o rest) (is_open_at_end-append false done (e ∷ [])) in
    rw (counts_is at whole done e rest is h, next) refl

pub counted_is_pass : (es : List Entry) (at : ℤ) → Rises int_cmp offset_of es → counting_records es at ≡ records_of_pass at false es
counted_is_pass es at h = pass_from at es [] es refl h

-- ---- what is open at the end

pub is_inside_after : (es : List Entry) (off : ℤ) → Rises int_cmp offset_of es → All (λ (e : Entry). int_lt e.offset off ≡ true) es → is_inside es off ≡ is_open_at_end false es
is_inside_after es off h before = ap (λ xs. is_inside xs off) (sym (append-nil es)) ∙ inside_is es [] off before (All-nil (λ (e : Entry). int_lt e.offset off ≡ false)) h
