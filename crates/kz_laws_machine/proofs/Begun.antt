-- The first Begin that is still open, found from the first record on.
use Rattle.std.proofs.Common.{◌≡◌, ℤ, pos, ◌+ℤ◌, ◌≤ℤ◌, int_lt, Bool, true, false, not, ◌&&◌, ◌||◌, if◌then◌else◌, cond, List, [], ◌∷◌, ◌++◌, Option, Some, None, is_some, option_map, refl, sym, ap, ◌∙◌, arith}
use Rattle.std.specs.Prelude.{◌<ℤ◌}
use Rattle.std.specs.List.{list_any, find}
use Rattle.std.proofs.lemmas.Int.{ints}
use Rattle.kz_types.specs.declared.log.Entry.{Entry}
use Rattle.kz_spec_data.specs.Settlement.{is_begin, closes, is_closed_between, is_inside, is_open, open_begin}
use Rattle.kz_spec_data.specs.Log.{Log, end_of, entries, is_open_log, begun_of}
use Rattle.kz_spec_machine.specs.Sound.{LogShape}
use Rattle.kz_laws_machine.proofs.LogBatches.{AllAfter, and_second, and_third, and_last, any_same, any_agree, opens}
use Rattle.kz_laws_machine.proofs.Migration.{up_to_end}
use Rattle.kz_laws_machine.proofs.Rising.{RisesAfter, AllBefore, log_rises, all_after, all_before}

-- whether any of these ends a transaction, by its End or its Abort
abbrev pub any_closes : List Entry → Bool
any_closes es = list_any (λ (e : Entry). closes e.item) es

-- the offset of the first Begin that none of the later records ends
abbrev pub begin_in : List Entry → Option ℤ
begin_in [] = None
begin_in (e ∷ es) = if is_begin e.item && not (any_closes es) then Some e.offset else begin_in es

-- ---- tests

pub less_is : (a b : ℤ) → a <ℤ b → int_lt a b ≡ true
less_is a b less = grind (arith, ints)

pub not_later : (a b : ℤ) → a <ℤ b → int_lt b a ≡ false
not_later a b less = grind (arith, ints)

pub not_itself : (a : ℤ) → int_lt a a ≡ false
not_itself a = grind (arith, ints)

and_true : (b : Bool) → (b && true) ≡ b
and_true true = refl
and_true false = refl

pub or_false : (b : Bool) → (b || false) ≡ b
or_false true = refl
or_false false = refl

pub or_true : (b : Bool) → (b || true) ≡ true
or_true true = refl
or_true false = refl

or_or : (a b c : Bool) → (a || (b || c)) ≡ ((a || b) || c)
or_or true b c = refl
or_or false b c = refl

both_true : (a b c : Bool) → b ≡ true → c ≡ true → (a && b && c) ≡ a
both_true true b c x y = ap (λ (t : Bool). t && c) x ∙ y
both_true false b c x y = refl

any_after : (at : ℤ) (p q : Entry → Bool) (es : List Entry) → AllAfter at es → ((e : Entry) → at <ℤ e.offset → p e ≡ q e) → list_any p es ≡ list_any q es
any_after at p q [] after agree = refl
any_after at p q (e ∷ es) after agree = ap (λ (b : Bool). b || list_any p es) (agree e after.0) ∙ ap (λ (b : Bool). q e || b) (any_after at p q es after.1 agree)

pub find_after : (at : ℤ) (p q : Entry → Bool) (es : List Entry) → AllAfter at es → ((e : Entry) → at <ℤ e.offset → p e ≡ q e) → find p es ≡ find q es
find_after at p q [] after agree = refl
find_after at p q (e ∷ es) after agree = ap (λ (b : Bool). cond b (Some e) (find p es)) (agree e after.0) ∙ ap (λ (m : Option Entry). cond (q e) (Some e) m) (find_after at p q es after.1 agree)

-- ---- it is the open Begin

abbrev is_unclosed : List Entry → Entry → Bool
is_unclosed all b = is_begin b.item && not (list_any (λ (e : Entry). closes e.item && int_lt b.offset e.offset) all)

offset_found : (b : Bool) (e : Entry) (m : Option Entry) → option_map (λ (x : Entry). x.offset) (cond b (Some e) m) ≡ cond b (Some e.offset) (option_map (λ (x : Entry). x.offset) m)
offset_found true e m = refl
offset_found false e m = refl

unclosed_first : (e : Entry) (es : List Entry) → AllAfter e.offset es → is_unclosed (e ∷ es) e ≡ (is_begin e.item && not (any_closes es))
unclosed_first e es after =
    ap (λ (b : Bool). is_begin e.item && not (b || list_any (λ (x : Entry). closes x.item && int_lt e.offset x.offset) es)) (and_last (closes e.item) (int_lt e.offset e.offset) (not_itself e.offset))
    ∙ ap (λ (b : Bool). is_begin e.item && not b) (any_after e.offset (λ (x : Entry). closes x.item && int_lt e.offset x.offset) (λ (x : Entry). closes x.item) es after
    (λ x later. ap (λ (b : Bool). closes x.item && b) (less_is e.offset x.offset later) ∙ and_true (closes x.item)))

unclosed_later : (e b : Entry) (es : List Entry) → e.offset <ℤ b.offset → is_unclosed (e ∷ es) b ≡ is_unclosed es b
unclosed_later e b es later =
    ap (λ (c : Bool). is_begin b.item && not (c || list_any (λ (x : Entry). closes x.item && int_lt b.offset x.offset) es)) (and_last (closes e.item) (int_lt b.offset e.offset) (not_later e.offset b.offset later))

pub begun_is : (at : ℤ) (es : List Entry) → RisesAfter at es → open_begin es ≡ begin_in es
begun_is at [] rises = refl
begun_is at (e ∷ es) rises =
    let after = all_after e.offset es rises.1 in
    let test = is_unclosed (e ∷ es) e in
    ap (option_map (λ (x : Entry). x.offset)) (ap (λ (m : Option Entry). cond test (Some e) m) (find_after e.offset (is_unclosed (e ∷ es)) (is_unclosed es) es after (λ b later. unclosed_later e b es later)))
    ∙ offset_found test e (find (is_unclosed es) es)
    ∙ ap (λ (m : Option ℤ). cond test (Some e.offset) m) (begun_is e.offset es rises.1)
    ∙ ap (λ (b : Bool). cond b (Some e.offset) (begin_in es)) (unclosed_first e es after)

-- ---- an offset is inside a transaction where one is open before it

between_all : (from o : ℤ) (es : List Entry) → AllAfter from es → AllBefore o es → is_closed_between es from o ≡ any_closes es
between_all from o [] after before = refl
between_all from o (e ∷ es) after before =
    ap (λ (b : Bool). b || is_closed_between es from o) (both_true (closes e.item) (int_lt from e.offset) (int_lt e.offset o) (less_is from e.offset after.0) (less_is e.offset o before.0))
    ∙ ap (λ (b : Bool). closes e.item || b) (between_all from o es after.1 before.1)

opens_first : (o : ℤ) (e : Entry) (es : List Entry) → AllAfter e.offset es → e.offset <ℤ o → AllBefore o es → opens (e ∷ es) o e ≡ (is_begin e.item && not (any_closes es))
opens_first o e es after less before =
    ap (λ (b : Bool). is_begin e.item && b && not (is_closed_between (e ∷ es) e.offset o)) (less_is e.offset o less)
    ∙ ap (λ (b : Bool). b && not (is_closed_between (e ∷ es) e.offset o)) (and_true (is_begin e.item))
    ∙ ap (λ (b : Bool). is_begin e.item && not (b || is_closed_between es e.offset o)) (and_second (closes e.item) (int_lt e.offset e.offset) (int_lt e.offset o) (not_itself e.offset))
    ∙ ap (λ (b : Bool). is_begin e.item && not b) (between_all e.offset o es after before)

opens_later : (o : ℤ) (e b : Entry) (es : List Entry) → e.offset <ℤ b.offset → opens (e ∷ es) o b ≡ opens es o b
opens_later o e b es later =
    ap (λ (c : Bool). is_begin b.item && int_lt b.offset o && not (c || is_closed_between es b.offset o)) (and_second (closes e.item) (int_lt b.offset e.offset) (int_lt e.offset o) (not_later e.offset b.offset later))

some_or : (b : Bool) (o : ℤ) (m : Option ℤ) → (b || is_some m) ≡ is_some (cond b (Some o) m)
some_or true o m = refl
some_or false o m = refl

pub inside_begun : (at o : ℤ) (es : List Entry) → RisesAfter at es → AllBefore o es → is_inside es o ≡ is_some (begin_in es)
inside_begun at o [] rises before = refl
inside_begun at o (e ∷ es) rises before =
    let after = all_after e.offset es rises.1 in
    ap (λ (b : Bool). b || list_any (opens (e ∷ es) o) es) (opens_first o e es after before.0 before.1)
    ∙ ap (λ (b : Bool). (is_begin e.item && not (any_closes es)) || b) (any_after e.offset (opens (e ∷ es) o) (opens es o) es after (λ b later. opens_later o e b es later) ∙ inside_begun e.offset o es rises.1 before.1)
    ∙ some_or (is_begin e.item && not (any_closes es)) e.offset (begin_in es)

-- ---- a log

pub begun_log : (l : Log) → LogShape l → begun_of l ≡ begin_in (entries l.batches)
begun_log l shape = begun_is l.base (entries l.batches) (log_rises l shape)

pub open_log : (l : Log) → LogShape l → is_open_log l ≡ is_some (begin_in (entries l.batches))
open_log l shape = inside_begun l.base (end_of l +ℤ pos 1) (entries l.batches) (log_rises l shape) (all_before (end_of l) (entries l.batches) (up_to_end l shape))

none_by : (m : Option ℤ) → is_some m ≡ false → m ≡ None
none_by None is = refl
none_by (Some o) is = absurd (cc)

-- a log in which no transaction is open has no open Begin
pub none_begun : (l : Log) → LogShape l → is_open_log l ≡ false → begun_of l ≡ None
none_begun l shape settled = none_by (begun_of l) (ap is_some (begun_log l shape) ∙ sym (open_log l shape) ∙ settled)

-- ---- more records

abbrev pub first_begin : Option ℤ → Option ℤ → Option ℤ
first_begin None m = m
first_begin (Some o) m = Some o

pub closes_append : (xs ys : List Entry) → any_closes (xs ++ ys) ≡ (any_closes xs || any_closes ys)
closes_append [] ys = refl
closes_append (x ∷ xs) ys = ap (λ (b : Bool). closes x.item || b) (closes_append xs ys) ∙ or_or (closes x.item) (any_closes xs) (any_closes ys)

-- those that end a transaction leave none of the earlier ones open
pub begun_past : (xs ys : List Entry) → any_closes ys ≡ true → begin_in (xs ++ ys) ≡ begin_in ys
begun_past [] ys closed = refl
begun_past (x ∷ xs) ys closed =
    let all : any_closes (xs ++ ys) ≡ true = closes_append xs ys ∙ ap (λ (b : Bool). any_closes xs || b) closed ∙ or_true (any_closes xs) in
    ap (λ (b : Bool). cond b (Some x.offset) (begin_in (xs ++ ys))) (and_last (is_begin x.item) (not (any_closes (xs ++ ys))) (ap not all)) ∙ begun_past xs ys closed

first_cond : (b : Bool) (o : ℤ) (m n : Option ℤ) → cond b (Some o) (first_begin m n) ≡ first_begin (cond b (Some o) m) n
first_cond true o m n = refl
first_cond false o m n = refl

-- those that end none leave them
pub begun_kept : (xs ys : List Entry) → any_closes ys ≡ false → begin_in (xs ++ ys) ≡ first_begin (begin_in xs) (begin_in ys)
begun_kept [] ys none = refl
begun_kept (x ∷ xs) ys none =
    let all : any_closes (xs ++ ys) ≡ any_closes xs = closes_append xs ys ∙ ap (λ (b : Bool). any_closes xs || b) none ∙ or_false (any_closes xs) in
    ap (λ (b : Bool). cond (is_begin x.item && not b) (Some x.offset) (begin_in (xs ++ ys))) all
    ∙ ap (λ (m : Option ℤ). cond (is_begin x.item && not (any_closes xs)) (Some x.offset) m) (begun_kept xs ys none)
    ∙ first_cond (is_begin x.item && not (any_closes xs)) x.offset (begin_in xs) (begin_in ys)

-- ---- records after an offset don't matter to it

not_less : (a b : ℤ) → a ≤ℤ b → int_lt b a ≡ false
not_less a b low = grind (arith, ints)

not_before : (at o x : ℤ) → o ≡ at +ℤ pos 1 → at <ℤ x → int_lt x o ≡ false
not_before at o x is less = not_less o x (omega (arith, ints, is, less))

pub inside_from : (at o : ℤ) (es new : List Entry) → o ≡ at +ℤ pos 1 → AllAfter at new → is_inside (es ++ new) o ≡ is_inside es o
inside_from at o es new is after =
    any_same at (opens (es ++ new) o) es new (λ e later. and_second (is_begin e.item) (int_lt e.offset o) (not (is_closed_between (es ++ new) e.offset o)) (not_before at o e.offset is later)) after
    ∙ any_agree (opens (es ++ new) o) (opens es o) es (λ b. ap (λ (x : Bool). is_begin b.item && int_lt b.offset o && not x)
    (any_same at (λ (e : Entry). closes e.item && int_lt b.offset e.offset && int_lt e.offset o) es new (λ e later. and_third (closes e.item) (int_lt b.offset e.offset) (int_lt e.offset o) (not_before at o e.offset is later)) after))

-- what is open at an offset stays so
pub open_kept : (at : ℤ) (es new : List Entry) → AllAfter at new → is_open (es ++ new) at ≡ is_open es at
open_kept at es new after = inside_from at (at +ℤ pos 1) es new refl after
