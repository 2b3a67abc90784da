-- What one more entry makes of the records that count and of those that wait for their transaction's end.
use Rattle.std.proofs.Common.{◌≡◌, Bool, true, false, not, ◌&&◌, ◌||◌, cond, ℤ, ◌≤ℤ◌, int_le, int_lt, int_cmp, List, [], ◌∷◌, ◌++◌, Option, Some, None, Result, Ok, Err, IfOk, is_some, option_map, get_or, refl, sym, ap, ◌∙◌, subst, append_assoc, append-nil, arith}
use Rattle.std.specs.Option.{option_or}
use Rattle.std.specs.List.{filter, find, list_any, All}
use Rattle.std.proofs.lemmas.Int.{ints}
use Rattle.std.proofs.lemmas.List.Elements.{All-nil, All-cons, All-head, All-tail}
use Rattle.kz_types.specs.declared.log.Entry.{Entry}
use Rattle.kz_types.specs.Ordered.{Rises}
use Rattle.kz_types.proofs.Order.{int_order}
use Rattle.kz_types.proofs.Append.{all_from_rises_above, below_split, above_split, Rises_left}
use Rattle.kz_spec_data.specs.Settlement.{is_begin, is_end, closes, is_marker, is_inside, is_ended_by, open_begin, records_of_open}
use Rattle.kz_settle.specs.Settling.{offset_of, closes_entry, is_open_after, is_open_at_end, ends_by, records_of_pass}
use Rattle.kz_types.specs.declared.record.MetaRecord.{MetaRecord}
use Rattle.kz_types.specs.declared.record.MetaRecord.TheVariants as meta
use Rattle.kz_settle.specs.declared.settled.Settled.{Settled}
use Rattle.kz_settle.specs.declared.settled.Settled.TheVariants as settled
use Rattle.kz_settle.specs.declared.marks.Marker.{Marker}
use Rattle.kz_settle.specs.declared.marks.Marker.TheVariants as marker
use Rattle.kz_settle.specs.Steps.{IsMarkerOf, after_close, answer_to_close, after_begin, after_plain, answer_to_plain, after_marker, answer_to_marker}
use Rattle.kz_settle.specs.Stands.{SettlerState, IsStateAfter, AllBy, entries_of_answer}
use Rattle.kz_settle.proofs.Passing.{counted_is_pass, any_close, closed_after, open_among_is, is_open_at_end-is, record_inside, lt_from_less, lt_back, lt_itself, any_none, any_same, any-append, find_same, or_false, and_true, and_false, is_open_at_end-append}

-- ---- one more entry, and the first End or Abort

find_plain : (p : Entry → Bool) (xs : List Entry) (e : Entry) → p e ≡ false → find p (xs ++ e ∷ []) ≡ find p xs
find_plain p [] e h = rw h refl
find_plain p (x ∷ xs) e h = rw (find_plain p xs e h) refl

any_plain : (xs : List Entry) (e : Entry) → closes e.item ≡ false → any_close (xs ++ e ∷ []) ≡ any_close xs
any_plain xs e h = any-append closes_entry xs (e ∷ []) ∙ rw h (or_false (any_close xs))

or_true : (a b : Bool) → b ≡ true → a || b ≡ true
or_true true b h = refl
or_true false b h = h

any_closing : (xs : List Entry) (e : Entry) → closes e.item ≡ true → any_close (xs ++ e ∷ []) ≡ true
any_closing xs e h = any-append closes_entry xs (e ∷ []) ∙ or_true (any_close xs) (closes e.item || false) (rw h refl)

ends_plain : (at : ℤ) (xs : List Entry) (e : Entry) → closes e.item ≡ false → ends_by at (xs ++ e ∷ []) ≡ ends_by at xs
ends_plain at xs e h = ap (is_ended_by at) (find_plain closes_entry xs e h)

closing_by : (c : Bool) (at : ℤ) (x : Entry) (e : Entry) (xs : List Entry) → ends_by at (xs ++ e ∷ []) ≡ cond (any_close xs) (ends_by at xs) (is_end e.item)
    → is_ended_by at (cond c (Some x) (find closes_entry (xs ++ e ∷ []))) ≡ cond (c || any_close xs) (is_ended_by at (cond c (Some x) (find closes_entry xs))) (is_end e.item)
closing_by true at x e xs h = refl
closing_by false at x e xs h = h

ends_closing : (at : ℤ) (xs : List Entry) (e : Entry) → closes e.item ≡ true → int_le e.offset at ≡ true → ends_by at (xs ++ e ∷ []) ≡ cond (any_close xs) (ends_by at xs) (is_end e.item)
ends_closing at [] e h under = rw h (and_true (is_end e.item) (int_le e.offset at) under)
ends_closing at (x ∷ xs) e h under = closing_by (closes x.item) at x e xs (ends_closing at xs e h under)

none_by : (c a : Bool) (at : ℤ) (x : Entry) (r : Option Entry) → c || a ≡ false → (a ≡ false → is_ended_by at r ≡ false) → is_ended_by at (cond c (Some x) r) ≡ false
none_by true a at x r h k = cc
none_by false a at x r h k = k h

ends_without : (at : ℤ) (xs : List Entry) → any_close xs ≡ false → ends_by at xs ≡ false
ends_without at [] h = refl
ends_without at (x ∷ xs) h = none_by (closes x.item) (any_close xs) at x (find closes_entry xs) h (ends_without at xs)

-- ---- the records that wait

-- Of these records, and with a transaction open before them or not, those of the transaction that is open after them.
pending : Bool → List Entry → List Entry
pending inside [] = []
pending inside (e ∷ es) =
    cond (inside && not (is_marker e.item) && not (any_close es)) (e ∷ pending (is_open_after inside e.item) es) (pending (is_open_after inside e.item) es)

cond_append : (t : Bool) (x : Entry) (xs ys zs : List Entry) → xs ≡ ys ++ zs → cond t (x ∷ xs) xs ≡ cond t (x ∷ ys) ys ++ zs
cond_append true x xs ys zs h = ap (λ es. x ∷ es) h
cond_append false x xs ys zs h = h

cond_none : (t : Bool) (x : Entry) (xs : List Entry) → t ≡ false → xs ≡ [] → cond t (x ∷ xs) xs ≡ []
cond_none true x xs h k = cc
cond_none false x xs h k = k

marker_of_close : (b c : Bool) → c ≡ true → b || c ≡ true
marker_of_close true c h = refl
marker_of_close false c h = h

no_marker : (a m k : Bool) → m ≡ true → (a && not m && k) ≡ false
no_marker true true k h = refl
no_marker false m k h = refl
no_marker true false k h = cc

pending_plain : (inside : Bool) (xs : List Entry) (e : Entry) → closes e.item ≡ false
    → pending inside (xs ++ e ∷ []) ≡ pending inside xs ++ cond (is_open_at_end inside xs && not (is_marker e.item)) (e ∷ []) []
unfolding pending
pending_plain inside [] e h = ap (λ t. cond t (e ∷ []) []) (and_true (inside && not (is_marker e.item)) true refl)
pending_plain inside (x ∷ xs) e h =
    ap (λ a. cond (inside && not (is_marker x.item) && not a) (x ∷ pending (is_open_after inside x.item) (xs ++ e ∷ [])) (pending (is_open_after inside x.item) (xs ++ e ∷ []))) (any_plain xs e h)
    ∙ cond_append (inside && not (is_marker x.item) && not (any_close xs)) x (pending (is_open_after inside x.item) (xs ++ e ∷ [])) (pending (is_open_after inside x.item) xs)
    (cond (is_open_at_end (is_open_after inside x.item) xs && not (is_marker e.item)) (e ∷ []) []) (pending_plain (is_open_after inside x.item) xs e h)

pending_closing : (inside : Bool) (xs : List Entry) (e : Entry) → closes e.item ≡ true → pending inside (xs ++ e ∷ []) ≡ []
unfolding pending
pending_closing inside [] e h = cond_none (inside && not (is_marker e.item) && true) e [] (no_marker inside (is_marker e.item) true (marker_of_close (is_begin e.item) (closes e.item) h)) refl
pending_closing inside (x ∷ xs) e h =
    cond_none (inside && not (is_marker x.item) && not (any_close (xs ++ e ∷ []))) x (pending (is_open_after inside x.item) (xs ++ e ∷ []))
    (and_false (inside && not (is_marker x.item)) (not (any_close (xs ++ e ∷ []))) (ap not (any_closing xs e h))) (pending_closing (is_open_after inside x.item) xs e h)

-- ---- the records that count

pass_plain : (at : ℤ) (inside : Bool) (xs : List Entry) (e : Entry) → closes e.item ≡ false
    → records_of_pass at inside (xs ++ e ∷ []) ≡ records_of_pass at inside xs ++ cond (int_le e.offset at && not (is_marker e.item) && not (is_open_at_end inside xs)) (e ∷ []) []
pass_plain at inside [] e h = ap (λ t. cond (int_le e.offset at && not (is_marker e.item) && t) (e ∷ []) []) (or_false (not inside))
pass_plain at inside (x ∷ xs) e h =
    ap (λ a. cond (int_le x.offset at && not (is_marker x.item) && (not inside || a)) (x ∷ records_of_pass at (is_open_after inside x.item) (xs ++ e ∷ [])) (records_of_pass at (is_open_after inside x.item) (xs ++ e ∷ []))) (ends_plain at xs e h)
    ∙ cond_append (int_le x.offset at && not (is_marker x.item) && (not inside || ends_by at xs)) x (records_of_pass at (is_open_after inside x.item) (xs ++ e ∷ [])) (records_of_pass at (is_open_after inside x.item) xs)
    (cond (int_le e.offset at && not (is_marker e.item) && not (is_open_at_end (is_open_after inside x.item) xs)) (e ∷ []) []) (pass_plain at (is_open_after inside x.item) xs e h)

same_ends : (a ends : Bool) → (a ≡ false → ends ≡ false) → cond a ends false ≡ ends
same_ends true ends h = refl
same_ends false ends h = sym (h refl)

pass_abort : (at : ℤ) (inside : Bool) (xs : List Entry) (e : Entry) → closes e.item ≡ true → is_end e.item ≡ false → int_le e.offset at ≡ true → records_of_pass at inside (xs ++ e ∷ []) ≡ records_of_pass at inside xs
pass_abort at inside [] e h quiet under =
    cond_none (int_le e.offset at && not (is_marker e.item) && (not inside || false)) e [] (no_marker (int_le e.offset at) (is_marker e.item) (not inside || false) (marker_of_close (is_begin e.item) (closes e.item) h)) refl
pass_abort at inside (x ∷ xs) e h quiet under =
    let ends : ends_by at (xs ++ e ∷ []) ≡ ends_by at xs =
    ends_closing at xs e h under ∙ ap (λ b. cond (any_close xs) (ends_by at xs) b) quiet ∙ same_ends (any_close xs) (ends_by at xs) (ends_without at xs) in
    rw (ends, pass_abort at (is_open_after inside x.item) xs e h quiet under) refl

or_parts : (a b : Bool) → a || b ≡ false → (a ≡ false) × (b ≡ false)
or_parts true b h = absurd (cc)
or_parts false b h = (refl, h)

stays_open : (b c : Bool) → c ≡ false → cond b true (cond c false true) ≡ true
stays_open true c h = refl
stays_open false true h = cc
stays_open false false h = refl

last_false : (a k : Bool) → k ≡ false → (a && k) ≡ false
last_false a k h = and_false a k h

-- inside a transaction that doesn't end nothing counts
pass_unended : (at : ℤ) (xs : List Entry) → any_close xs ≡ false → records_of_pass at true xs ≡ []
pass_unended at [] h = refl
pass_unended at (x ∷ xs) h =
    let parts = or_parts (closes x.item) (any_close xs) h in
    let stays : is_open_after true x.item ≡ true = stays_open (is_begin x.item) (closes x.item) parts.0 in
    cond_none (int_le x.offset at && not (is_marker x.item) && ends_by at xs) x (records_of_pass at (is_open_after true x.item) xs)
    (last_false (int_le x.offset at && not (is_marker x.item)) (ends_by at xs) (ends_without at xs parts.1))
    (ap (λ o. records_of_pass at o xs) stays ∙ pass_unended at xs parts.1)

-- the tests of one record at the End of a transaction: whether it counts then, counted before, and waited
released_by : (inside m a ends : Bool) (x : Entry) (rest counts waits : List Entry) → rest ≡ counts ++ waits → (a ≡ false → ends ≡ false) → (inside ≡ true → m ≡ false → a ≡ false → counts ≡ [])
    → cond (not m && (not inside || cond a ends true)) (x ∷ rest) rest ≡ cond (not m && (not inside || ends)) (x ∷ counts) counts ++ cond (inside && not m && not a) (x ∷ waits) waits
released_by inside true a ends x rest counts waits h none empties = h ∙ ap (λ t. counts ++ cond t (x ∷ waits) waits) (sym (no_marker inside true (not a) refl))
released_by false false a ends x rest counts waits h none empties = ap (λ es. x ∷ es) h
released_by true false true ends x rest counts waits h none empties = cond_append ends x rest counts waits h
released_by true false false ends x rest counts waits h none empties =
    let empty : counts ≡ [] = empties refl refl refl in
    ap (λ es. x ∷ es) (h ∙ ap (λ es. es ++ waits) empty)
    ∙ ap (λ es. es ++ x ∷ waits) (sym empty)
    ∙ ap (λ t. cond t (x ∷ counts) counts ++ x ∷ waits) (sym (none refl))

plain_stays : (b c : Bool) → b || c ≡ false → cond b true (cond c false true) ≡ true
plain_stays true c h = cc
plain_stays false c h = stays_open false c h

pass_end : (at : ℤ) (inside : Bool) (xs : List Entry) (e : Entry) → closes e.item ≡ true → is_end e.item ≡ true → int_le e.offset at ≡ true → All (λ (x : Entry). int_le x.offset at ≡ true) xs
    → records_of_pass at inside (xs ++ e ∷ []) ≡ records_of_pass at inside xs ++ pending inside xs
unfolding pending
pass_end at inside [] e h ended under all =
    cond_none (int_le e.offset at && not (is_marker e.item) && (not inside || false)) e [] (no_marker (int_le e.offset at) (is_marker e.item) (not inside || false) (marker_of_close (is_begin e.item) (closes e.item) h)) refl
pass_end at inside (x ∷ xs) e h ended under all =
    let o = is_open_after inside x.item in
    let ends : ends_by at (xs ++ e ∷ []) ≡ cond (any_close xs) (ends_by at xs) true = ends_closing at xs e h under ∙ ap (λ b. cond (any_close xs) (ends_by at xs) b) ended in
    let le = All-head (λ (y : Entry). int_le y.offset at ≡ true) x xs all in
    ap (λ a. cond (int_le x.offset at && not (is_marker x.item) && (not inside || a)) (x ∷ records_of_pass at o (xs ++ e ∷ [])) (records_of_pass at o (xs ++ e ∷ []))) ends
    ∙ ap (λ t. cond (t && not (is_marker x.item) && (not inside || cond (any_close xs) (ends_by at xs) true)) (x ∷ records_of_pass at o (xs ++ e ∷ [])) (records_of_pass at o (xs ++ e ∷ []))) le
    ∙ released_by inside (is_marker x.item) (any_close xs) (ends_by at xs) x (records_of_pass at o (xs ++ e ∷ [])) (records_of_pass at o xs) (pending o xs)
    (pass_end at o xs e h ended under (All-tail (λ (y : Entry). int_le y.offset at ≡ true) x xs all)) (ends_without at xs)
    (λ i m a. ap (λ b. records_of_pass at (is_open_after b x.item) xs) i ∙ ap (λ b. records_of_pass at b xs) (plain_stays (is_begin x.item) (closes x.item) m) ∙ pass_unended at xs a)
    ∙ ap (λ t. cond (t && not (is_marker x.item) && (not inside || ends_by at xs)) (x ∷ records_of_pass at o xs) (records_of_pass at o xs) ++ cond (inside && not (is_marker x.item) && not (any_close xs)) (x ∷ pending o xs) (pending o xs)) (sym le)

-- ---- the records that wait, by offsets

-- after a record of a log whose offsets rise, the End and Abort records are those of the records after it
closed_after_record : (done : List Entry) (e : Entry) (rest : List Entry) → Rises int_cmp offset_of (done ++ e ∷ rest) → closed_after (done ++ e ∷ rest) e.offset ≡ any_close rest
closed_after_record done e rest h =
    let test : Entry → Bool = λ (c : Entry). closes c.item && int_lt e.offset c.offset in
    let under = below_split int_order offset_of done e rest h in
    let over = all_from_rises_above int_order offset_of e.offset rest (above_split int_order offset_of done e rest h) in
    any-append test done (e ∷ rest)
    ∙ ap (λ b. b || ((closes e.item && int_lt e.offset e.offset) || list_any test rest)) (any_none test done (λ k d lt. and_false (closes (get_or done k d).item) _ (lt_back (get_or done k d).offset e.offset (under k d lt))))
    ∙ ap (λ b. b || list_any test rest) (and_false (closes e.item) (int_lt e.offset e.offset) (lt_itself e.offset))
    ∙ any_same test closes_entry rest (λ k d lt. and_true (closes (get_or rest k d).item) _ (lt_from_less e.offset (get_or rest k d).offset (over k d lt)))

kept_from : (whole done rest : List Entry) → whole ≡ done ++ rest → Rises int_cmp offset_of whole
    → filter (λ (e : Entry). is_inside whole e.offset && not (is_marker e.item) && not (closed_after whole e.offset)) rest ≡ pending (is_open_at_end false done) rest
unfolding pending
kept_from whole done [] is h = refl
kept_from whole done (e ∷ rest) is h =
    let rising = subst (λ es. Rises int_cmp offset_of es) is h in
    let inside : is_inside whole e.offset ≡ is_open_at_end false done = ap (λ es. is_inside es e.offset) is ∙ record_inside done e rest rising in
    let after : closed_after whole e.offset ≡ any_close rest = ap (λ es. closed_after es e.offset) is ∙ closed_after_record done e rest rising in
    let next = kept_from whole (done ++ e ∷ []) rest (is ∙ sym (append_assoc done (e ∷ []) rest)) h ∙ ap (λ o. pending o rest) (is_open_at_end-append false done (e ∷ [])) in
    rw (inside, after, next) refl

kept_is_pending : (es : List Entry) → Rises int_cmp offset_of es → records_of_open es ≡ pending false es
kept_is_pending es h = kept_from es [] es refl h

-- ---- the Begin of the open transaction

some_by : (t : Bool) (x : Entry) (r : Option Entry) (b : Bool) → is_some r ≡ b → is_some (cond t (Some x) r) ≡ t || b
some_by true x r b h = refl
some_by false x r b h = h

found_any : (p : Entry → Bool) (xs : List Entry) → is_some (find p xs) ≡ list_any p xs
found_any p [] = refl
found_any p (x ∷ xs) = some_by (p x) x (find p xs) (list_any p xs) (found_any p xs)

is_some-map : (r : Option Entry) → is_some (option_map (λ (e : Entry). e.offset) r) ≡ is_some r
is_some-map None = refl
is_some-map (Some e) = refl

pub is_begun : (es : List Entry) → Rises int_cmp offset_of es → is_some (open_begin es) ≡ is_open_at_end false es
is_begun es h =
    let test : Entry → Bool = λ (b : Entry). is_begin b.item && not (closed_after es b.offset) in
    is_some-map (find test es) ∙ found_any test es ∙ open_among_is es h

find_or_by : (t : Bool) (x : Entry) (a b c : Option Entry) → a ≡ option_or b c → cond t (Some x) a ≡ option_or (cond t (Some x) b) c
find_or_by true x a b c h = refl
find_or_by false x a b c h = h

find_or : (p : Entry → Bool) (xs : List Entry) (e : Entry) → find p (xs ++ e ∷ []) ≡ option_or (find p xs) (cond (p e) (Some e) None)
find_or p [] e = refl
find_or p (x ∷ xs) e = find_or_by (p x) x (find p (xs ++ e ∷ [])) (find p xs) (cond (p e) (Some e) None) (find_or p xs e)

closed_more : (es : List Entry) (e : Entry) (off : ℤ) → closed_after (es ++ e ∷ []) off ≡ closed_after es off || (closes e.item && int_lt off e.offset)
closed_more es e off =
    let test : Entry → Bool = λ (c : Entry). closes c.item && int_lt off c.offset in
    any-append test es (e ∷ []) ∙ ap (λ b. list_any test es || b) (or_false (closes e.item && int_lt off e.offset))

closed_more_plain : (es : List Entry) (e : Entry) (off : ℤ) → closes e.item ≡ false → closed_after (es ++ e ∷ []) off ≡ closed_after es off
closed_more_plain es e off h = closed_more es e off ∙ ap (λ c. closed_after es off || (c && int_lt off e.offset)) h ∙ or_false (closed_after es off)

map_or : (r : Option Entry) (e : Entry) → option_map (λ (x : Entry). x.offset) (option_or r (Some e)) ≡ option_or (option_map (λ (x : Entry). x.offset) r) (Some e.offset)
map_or None e = refl
map_or (Some x) e = refl

or_none : {A : Type 0} (r : Option A) → option_or r None ≡ r
or_none None = refl
or_none (Some x) = refl

begun_plain_found : (es : List Entry) (e : Entry) → closes e.item ≡ false
    → find (λ (b : Entry). is_begin b.item && not (closed_after (es ++ e ∷ []) b.offset)) es ≡ find (λ (b : Entry). is_begin b.item && not (closed_after es b.offset)) es
begun_plain_found es e h =
    find_same (λ (b : Entry). is_begin b.item && not (closed_after (es ++ e ∷ []) b.offset)) (λ (b : Entry). is_begin b.item && not (closed_after es b.offset)) es
    (λ k d lt. ap (λ c. is_begin (get_or es k d).item && not c) (closed_more_plain es e (get_or es k d).offset h))

pub begun_begin : (es : List Entry) (e : Entry) → Rises int_cmp offset_of (es ++ e ∷ []) → is_begin e.item ≡ true → closes e.item ≡ false → open_begin (es ++ e ∷ []) ≡ option_or (open_begin es) (Some e.offset)
begun_begin es e h begins plain =
    let test : Entry → Bool = λ (b : Entry). is_begin b.item && not (closed_after (es ++ e ∷ []) b.offset) in
    let old : Option Entry = find (λ (b : Entry). is_begin b.item && not (closed_after es b.offset)) es in
    let here : test e ≡ true = rw (begins, closed_after_record es e [] h) refl in
    ap (option_map (λ (x : Entry). x.offset)) (find_or test es e ∙ ap (λ r. option_or r (cond (test e) (Some e) None)) (begun_plain_found es e plain) ∙ ap (λ t. option_or old (cond t (Some e) None)) here)
    ∙ map_or old e

pub begun_plain : (es : List Entry) (e : Entry) → is_begin e.item ≡ false → closes e.item ≡ false → open_begin (es ++ e ∷ []) ≡ open_begin es
begun_plain es e quiet plain =
    let test : Entry → Bool = λ (b : Entry). is_begin b.item && not (closed_after (es ++ e ∷ []) b.offset) in
    let here : test e ≡ false = ap (λ b. b && not (closed_after (es ++ e ∷ []) e.offset)) quiet in
    ap (option_map (λ (x : Entry). x.offset)) (find_or test es e ∙ ap (λ r. option_or r (cond (test e) (Some e) None)) (begun_plain_found es e plain)
    ∙ ap (λ t. option_or (find (λ (b : Entry). is_begin b.item && not (closed_after es b.offset)) es) (cond t (Some e) None)) here
    ∙ or_none (find (λ (b : Entry). is_begin b.item && not (closed_after es b.offset)) es))

find_none : (p : Entry → Bool) (xs : List Entry) → All (λ x. p x ≡ false) xs → find p xs ≡ None
find_none p [] h = refl
find_none p (x ∷ xs) h = rw (All-head (λ y. p y ≡ false) x xs h) (find_none p xs (All-tail (λ y. p y ≡ false) x xs h))

pub begun_closing : (es : List Entry) (e : Entry) → Rises int_cmp offset_of (es ++ e ∷ []) → is_begin e.item ≡ false → closes e.item ≡ true → open_begin (es ++ e ∷ []) ≡ None
begun_closing es e h quiet closing =
    let test : Entry → Bool = λ (b : Entry). is_begin b.item && not (closed_after (es ++ e ∷ []) b.offset) in
    let under = below_split int_order offset_of es e [] h in
    let here : test e ≡ false = ap (λ b. b && not (closed_after (es ++ e ∷ []) e.offset)) quiet in
    let all : find test es ≡ None = find_none test es (λ k d lt.
    let b : Entry = get_or es k d in
    and_false (is_begin b.item) (not (closed_after (es ++ e ∷ []) b.offset))
    (ap not (closed_more es e b.offset ∙ or_true (closed_after es b.offset) (closes e.item && int_lt b.offset e.offset) (rw closing (lt_from_less b.offset e.offset (under k d lt)))))) in
    ap (option_map (λ (x : Entry). x.offset)) (find_or test es e ∙ ap (λ r. option_or r (cond (test e) (Some e) None)) all ∙ ap (λ t. cond t (Some e) None) here)

-- ---- a settler after one more entry

all_left : {A : Type 0} (P : A → Type 0) (xs ys : List A) → All P (xs ++ ys) → All P xs
all_left P [] ys h = All-nil P
all_left P (x ∷ xs) ys h = All-cons P x xs (All-head P x (xs ++ ys) h) (all_left P xs ys (All-tail P x (xs ++ ys) h))

all_last : {A : Type 0} (P : A → Type 0) (xs : List A) (y : A) → All P (xs ++ y ∷ []) → P y
all_last P [] y h = All-head P y [] h
all_last P (x ∷ xs) y h = all_last P xs y (All-tail P x (xs ++ y ∷ []) h)

le_test : (x y : ℤ) → x ≤ℤ y → int_le x y ≡ true
le_test x y h = grind (arith, ints)

shut_by : (inside b c a later : Bool) → (inside && not (c || a)) || later ≡ false → (inside && not (b || c) && not a) ≡ false
shut_by true true c a later h = refl
shut_by true false true a later h = refl
shut_by true false false true later h = refl
shut_by true false false false later h = cc
shut_by false b c a later h = refl

-- where no transaction is open after the records, none waits
pending_shut : (inside : Bool) (xs : List Entry) → is_open_at_end inside xs ≡ false → pending inside xs ≡ []
unfolding pending
pending_shut inside [] h = refl
pending_shut inside (x ∷ xs) h =
    cond_none (inside && not (is_marker x.item) && not (any_close xs)) x (pending (is_open_after inside x.item) xs)
    (shut_by inside (is_begin x.item) (closes x.item) (any_close xs) (is_open_at_end false (x ∷ xs)) (sym (is_open_at_end-is inside (x ∷ xs)) ∙ h))
    (pending_shut (is_open_after inside x.item) xs h)

marker_plain : (b c : Bool) → b ≡ false → c ≡ false → b || c ≡ false
marker_plain b c h k = rw h k

marker_of_begin : (b c : Bool) → b ≡ true → b || c ≡ true
marker_of_begin true c h = refl
marker_of_begin false c h = cc

cond_empty : (t : Bool) → ◌≡◌ {A = List Entry} (cond t [] []) []
cond_empty true = refl
cond_empty false = refl

counts_by : (a m o : Bool) → a ≡ true → m ≡ false → o ≡ false → (a && not m && not o) ≡ true
counts_by a m o h k g = rw (h, k, g) refl

waits_by : (o m : Bool) → o ≡ true → m ≡ false → (o && not m) ≡ true
waits_by o m h k = rw (h, k) refl

module _ (pushed given : List Entry) (e : Entry) (old : SettlerState) (h : Rises int_cmp offset_of (pushed ++ e ∷ [])) (s : IsStateAfter pushed given old) (popped : old.released ≡ []) where
  rises : Rises int_cmp offset_of pushed
  rises = Rises_left int_order offset_of pushed (e ∷ []) h

  inside : is_open_at_end false pushed ≡ is_some old.begun
  inside = sym (is_begun pushed rises) ∙ ap is_some (sym s.begun)

  waits : old.kept ≡ pending false pushed
  waits = s.kept ∙ kept_is_pending pushed rises

  count : (at : ℤ) → AllBy at (pushed ++ e ∷ []) → given ≡ records_of_pass at false pushed
  count at by =
      sym (append-nil given) ∙ ap (λ r. given ++ r) (sym popped) ∙ s.counted at (all_left (λ (x : Entry). x.offset ≤ℤ at) pushed (e ∷ []) by) ∙ counted_is_pass pushed at rises

  -- from the records that wait and those that count, as one pass finds them
  stands_by : (more : List Entry) (new : SettlerState) → new.begun ≡ open_begin (pushed ++ e ∷ []) → new.kept ≡ pending false (pushed ++ e ∷ [])
      → ((at : ℤ) → AllBy at (pushed ++ e ∷ []) → (given ++ more) ++ new.released ≡ records_of_pass at false (pushed ++ e ∷ [])) → IsStateAfter (pushed ++ e ∷ []) (given ++ more) new
  stands_by more new b k c = record {
    begun = b;
    kept = k ∙ sym (kept_is_pending (pushed ++ e ∷ []) h);
    counted = λ at by. c at by ∙ sym (counted_is_pass (pushed ++ e ∷ []) at h);
  }

  nothing_more : (rest : List Entry) → (given ++ []) ++ rest ≡ given ++ rest
  nothing_more rest = ap (λ g. g ++ rest) (append-nil given)

  none_added : (t : Bool) (xs : List Entry) → t ≡ false → xs ++ cond t (e ∷ []) [] ≡ xs
  none_added t xs k = ap (λ b. xs ++ cond b (e ∷ []) []) k ∙ append-nil xs

  marker_not : (a b : Bool) → b ≡ true → (a && not b) ≡ false
  marker_not a b k = and_false a (not b) (ap not k)

  pub stands_begin : is_begin e.item ≡ true → closes e.item ≡ false → IsStateAfter (pushed ++ e ∷ []) (given ++ []) (record old { begun = option_or old.begun (Some e.offset) })
  stands_begin begins plain =
      let m = marker_of_begin (is_begin e.item) (closes e.item) begins in
      stands_by [] (record old { begun = option_or old.begun (Some e.offset) })
      (ap (λ r. option_or r (Some e.offset)) s.begun ∙ sym (begun_begin pushed e h begins plain))
      (waits ∙ sym (pending_plain false pushed e plain ∙ none_added (is_open_at_end false pushed && not (is_marker e.item)) (pending false pushed) (marker_not (is_open_at_end false pushed) (is_marker e.item) m)))
      (λ at by. nothing_more old.released ∙ ap (λ r. given ++ r) popped ∙ append-nil given ∙ count at by
      ∙ sym (pass_plain at false pushed e plain ∙ none_added (int_le e.offset at && not (is_marker e.item) && not (is_open_at_end false pushed)) (records_of_pass at false pushed)
      (no_marker (int_le e.offset at) (is_marker e.item) (not (is_open_at_end false pushed)) m)))

  closing_pass : (at : ℤ) (t : Bool) → is_end e.item ≡ t → closes e.item ≡ true → AllBy at (pushed ++ e ∷ []) → records_of_pass at false (pushed ++ e ∷ []) ≡ records_of_pass at false pushed ++ cond t (pending false pushed) []
  closing_pass at true ended closing by =
      pass_end at false pushed e closing ended (le_test e.offset at (all_last (λ (x : Entry). x.offset ≤ℤ at) pushed e by))
      (λ k d lt. le_test (get_or pushed k d).offset at (all_left (λ (x : Entry). x.offset ≤ℤ at) pushed (e ∷ []) by k d lt))
  closing_pass at false ended closing by =
      pass_abort at false pushed e closing ended (le_test e.offset at (all_last (λ (x : Entry). x.offset ≤ℤ at) pushed e by)) ∙ sym (append-nil (records_of_pass at false pushed))

  -- an End or Abort of the open transaction
  pub stands_finish : (t : Bool) → is_begin e.item ≡ false → closes e.item ≡ true → is_end e.item ≡ t → IsStateAfter (pushed ++ e ∷ []) (given ++ []) (record { begun = None; kept = []; released = cond t old.kept [] })
  stands_finish t quiet closing ended =
      stands_by [] (record { begun = None; kept = []; released = cond t old.kept [] })
      (sym (begun_closing pushed e h quiet closing)) (sym (pending_closing false pushed e closing))
      (λ at by. nothing_more (cond t old.kept []) ∙ ap (λ g. g ++ cond t old.kept []) (count at by) ∙ ap (λ w. records_of_pass at false pushed ++ cond t w []) waits ∙ sym (closing_pass at t ended closing by))

  -- one outside every transaction
  pub stands_outside : (t : Bool) → is_begin e.item ≡ false → closes e.item ≡ true → is_end e.item ≡ t → old.begun ≡ None → IsStateAfter (pushed ++ e ∷ []) (given ++ []) old
  stands_outside t quiet closing ended none =
      let shut : pending false pushed ≡ [] = pending_shut false pushed (inside ∙ ap is_some none) in
      stands_by [] old
      (none ∙ sym (begun_closing pushed e h quiet closing)) (waits ∙ shut ∙ sym (pending_closing false pushed e closing))
      (λ at by. nothing_more old.released ∙ ap (λ r. given ++ r) popped ∙ append-nil given ∙ count at by
      ∙ sym (append-nil (records_of_pass at false pushed)) ∙ ap (λ w. records_of_pass at false pushed ++ w) (sym (cond_empty t)) ∙ ap (λ w. records_of_pass at false pushed ++ cond t w []) (sym shut) ∙ sym (closing_pass at t ended closing by))

  -- a record that is no marker
  pub stands_now : is_begin e.item ≡ false → closes e.item ≡ false → old.begun ≡ None → IsStateAfter (pushed ++ e ∷ []) (given ++ e ∷ []) old
  stands_now quiet plain none =
      let shut : is_open_at_end false pushed ≡ false = inside ∙ ap is_some none in
      stands_by (e ∷ []) old
      (s.begun ∙ sym (begun_plain pushed e quiet plain))
      (waits ∙ sym (pending_plain false pushed e plain ∙ none_added (is_open_at_end false pushed && not (is_marker e.item)) (pending false pushed) (ap (λ o. o && not (is_marker e.item)) shut)))
      (λ at by. ap (λ r. (given ++ e ∷ []) ++ r) popped ∙ append-nil (given ++ e ∷ []) ∙ ap (λ g. g ++ e ∷ []) (count at by)
      ∙ ap (λ t. records_of_pass at false pushed ++ cond t (e ∷ []) []) (sym (counts_by (int_le e.offset at) (is_marker e.item) (is_open_at_end false pushed)
      (le_test e.offset at (all_last (λ (x : Entry). x.offset ≤ℤ at) pushed e by)) (marker_plain (is_begin e.item) (closes e.item) quiet plain) shut))
      ∙ sym (pass_plain at false pushed e plain))

  pub stands_kept : is_begin e.item ≡ false → closes e.item ≡ false → is_some old.begun ≡ true → IsStateAfter (pushed ++ e ∷ []) (given ++ []) (record old { kept = old.kept ++ e ∷ [] })
  stands_kept quiet plain some =
      let still : is_open_at_end false pushed ≡ true = inside ∙ some in
      stands_by [] (record old { kept = old.kept ++ e ∷ [] })
      (s.begun ∙ sym (begun_plain pushed e quiet plain))
      (ap (λ w. w ++ e ∷ []) waits ∙ ap (λ t. pending false pushed ++ cond t (e ∷ []) []) (sym (waits_by (is_open_at_end false pushed) (is_marker e.item) still (marker_plain (is_begin e.item) (closes e.item) quiet plain)))
      ∙ sym (pending_plain false pushed e plain))
      (λ at by. nothing_more old.released ∙ ap (λ r. given ++ r) popped ∙ append-nil given ∙ count at by
      ∙ sym (pass_plain at false pushed e plain ∙ none_added (int_le e.offset at && not (is_marker e.item) && not (is_open_at_end false pushed)) (records_of_pass at false pushed)
      (and_false (int_le e.offset at && not (is_marker e.item)) (not (is_open_at_end false pushed)) (ap not still))))

-- ---- what the parts of the settler do

false_is_true : {A : Type 0} → false ≡ true → A
false_is_true h = cc

-- a Begin is no End or Abort
pub begin_does_not_close : (r : MetaRecord) → is_begin r ≡ true → closes r ≡ false
begin_does_not_close (meta.BeginTransaction name) h = refl
begin_does_not_close meta.EndTransaction h = false_is_true h
begin_does_not_close (meta.AbortTransaction reason) h = false_is_true h
begin_does_not_close r h = refl

module _ (pushed given : List Entry) (e : Entry) (old new : SettlerState) (a : Settled) (h : Rises int_cmp offset_of (pushed ++ e ∷ [])) (s : IsStateAfter pushed given old) (popped : old.released ≡ []) where
  stands_same : (b : Settled) (n : SettlerState) → a ≡ b → new ≡ n → IsStateAfter (pushed ++ e ∷ []) (given ++ entries_of_answer b) n → IsStateAfter (pushed ++ e ∷ []) (given ++ entries_of_answer a) new
  stands_same b n is made t =
      subst (λ x. IsStateAfter (pushed ++ e ∷ []) (given ++ entries_of_answer x) new) (sym is) (subst (λ x. IsStateAfter (pushed ++ e ∷ []) (given ++ entries_of_answer b) x) (sym made) t)

  keep_by : (offset : Option ℤ) → old.begun ≡ offset → is_begin e.item ≡ false → closes e.item ≡ false → a ≡ answer_to_plain (is_some old.begun) e → new ≡ after_plain e old
      → IsStateAfter (pushed ++ e ∷ []) (given ++ entries_of_answer a) new
  keep_by None was quiet plain is made =
      let i : is_some old.begun ≡ false = ap is_some was in
      stands_same (settled.Now e) old (is ∙ ap (λ t. answer_to_plain t e) i) (made ∙ ap (λ t. cond t (record old { kept = old.kept ++ e ∷ [] }) old) i) (stands_now pushed given e old h s popped quiet plain was)
  keep_by (Some o) was quiet plain is made =
      let i : is_some old.begun ≡ true = ap is_some was in
      let n : SettlerState = record old { kept = old.kept ++ e ∷ [] } in
      stands_same settled.Kept n (is ∙ ap (λ t. answer_to_plain t e) i) (made ∙ ap (λ t. cond t n old) i) (stands_kept pushed given e old h s popped quiet plain i)

  pub stands_keep : is_begin e.item ≡ false → closes e.item ≡ false → a ≡ answer_to_plain (is_some old.begun) e → new ≡ after_plain e old → IsStateAfter (pushed ++ e ∷ []) (given ++ entries_of_answer a) new
  stands_keep = keep_by old.begun refl

  none_of_answer : (t : Bool) → entries_of_answer (cond t settled.Released settled.Dropped) ≡ []
  none_of_answer true = refl
  none_of_answer false = refl

  finish_by : (offset : Option ℤ) (t : Bool) → old.begun ≡ offset → is_begin e.item ≡ false → closes e.item ≡ true → is_end e.item ≡ t → a ≡ answer_to_close (is_some old.begun) t → new ≡ after_close t old
      → IsStateAfter (pushed ++ e ∷ []) (given ++ entries_of_answer a) new
  finish_by None t was quiet closing ended is made =
      let i : is_some old.begun ≡ false = ap is_some was in
      stands_same settled.Dropped old (is ∙ ap (λ b. answer_to_close b t) i) (made ∙ ap (λ b. cond b (record { begun = None; kept = []; released = cond t old.kept [] }) old) i)
      (stands_outside pushed given e old h s popped t quiet closing ended was)
  finish_by (Some o) t was quiet closing ended is made =
      let i : is_some old.begun ≡ true = ap is_some was in
      let n : SettlerState = record { begun = None; kept = []; released = cond t old.kept [] } in
      stands_same (answer_to_close true t) n (is ∙ ap (λ b. answer_to_close b t) i) (made ∙ ap (λ b. cond b n old) i)
      (subst (λ g. IsStateAfter (pushed ++ e ∷ []) (given ++ g) n) (sym (none_of_answer t)) (stands_finish pushed given e old h s popped t quiet closing ended))

  pub stands_turn : (m : Marker) (offset : ℤ) → offset ≡ e.offset → IsMarkerOf e.item (Some m) → a ≡ answer_to_marker m (is_some old.begun) → new ≡ after_marker m offset old → IsStateAfter (pushed ++ e ∷ []) (given ++ entries_of_answer a) new
  stands_turn marker.Begin offset at m is made =
      stands_same settled.Kept (after_begin e.offset old) is (made ∙ ap (λ o. after_begin o old) at) (stands_begin pushed given e old h s popped m (begin_does_not_close e.item m))
  stands_turn marker.End offset at m is made = finish_by old.begun true refl m.0 m.1 m.2 is made
  stands_turn marker.Abort offset at m is made = finish_by old.begun false refl m.0 m.1 m.2 is made

pub if_ok_both : {A E : Type 0} (r : Result A E) (P Q R : A → Type 0) → IfOk r P → IfOk r Q → ((x : A) → P x → Q x → R x) → IfOk r R
if_ok_both (Ok x) P Q R p q f = f x p q
if_ok_both (Err y) P Q R p q f = tt
