-- The partitions of an assignment are read from the members that are written for them.
use Rattle.std.proofs.Common.{◌≡◌, ◌≢◌, ℕ, ◌≤◌, ℤ, pos, negsuc, Bool, true, false, List, [], ◌∷◌, Option, Some, None, refl, sym, ap, subst, ◌∙◌, arith}
use Rattle.std.specs.Prelude.{⊤, ◌<ℤ◌, int_le, map, option_map, option_and_then, if◌then◌else◌}
use Rattle.std.specs.Fmt.{signed_decimal}
use Rattle.std.proofs.lemmas.Int.{ints}
use Rattle.std.proofs.lemmas.Str.{is_utf8-from_IsUtf8}
use Rattle.serde_json.specs.Data.{Data, object, Members, no_members, member, put}
use Rattle.kz_types.specs.Numbers.{number_in}
use Rattle.kz_types.proofs.NumberLemmas.{canonical_complete}
use Rattle.kz_types.specs.declared.bodies.AssignmentRow.{AssignmentRow}
use Rattle.kz_spec_data.specs.Bodies.{brokers_of, brokers_data, are_replicas, place_row, row_of, rows_onto, rows_of, with_list, replicas_members}
use Rattle.kz_laws_values.proofs.ReadsBack.{signed_is_utf8}
use Rattle.kz_laws_values.specs.Readable.{IsText, IsWhole, IsBefore, AreInOrder, IsPartition, ArePartitions}
use Rattle.kz_laws_values.proofs.States.{whole_long, brokers_read}
use Rattle.kz_laws_values.proofs.Members.{by_order}

-- ---- numbers

pub some_same : {A : Type 0} (a b : A) → Some a ≡ Some b → a ≡ b
some_same a b e = cc e

pub less_other : (a b : ℤ) → a <ℤ b → a ≢ b
less_other a b less e = let same : b <ℤ b = subst (λ x. x <ℤ b) e less in omega (arith, ints, same)

is_before : (a b : ℤ) → a <ℤ b → int_le a b ≡ true
is_before a b less = grind (arith, ints)

is_above : (a b : ℤ) → a <ℤ b → int_le b a ≡ false
is_above a b less = grind (arith, ints)

is_before_chain : (a b c : ℤ) → a <ℤ b → int_le b c ≡ true → int_le a c ≡ true
is_before_chain a b c less le = grind (arith, ints)

number_below : (n : ℕ) → IsWhole (pos n) → n ≤ 2147483647
number_below n h = omega (arith, ints, h.1)

pub number_read : (z : ℤ) → IsWhole z → number_in (signed_decimal z) ≡ Some z
number_read (pos n) h = ap (option_map (λ m. pos m)) (canonical_complete n (number_below n h))
number_read (negsuc n) h = absurd (omega (arith, ints, h.0))

pub number_text_is : (z : ℤ) → IsWhole z → IsText (signed_decimal z)
number_text_is z h = is_utf8-from_IsUtf8 (signed_decimal z) (signed_is_utf8 z (whole_long z h))

pub texts_differ : (a b : ℤ) → IsWhole a → IsWhole b → a ≢ b → signed_decimal a ≢ signed_decimal b
texts_differ a b h k ne e = ne (some_same a b (sym (number_read a h) ∙ ap number_in e ∙ number_read b k))

-- ---- placing a partition

goes_before : (row other : AssignmentRow) (rows : List AssignmentRow) → int_le row.number other.number ≡ true → place_row row (other ∷ rows) ≡ row ∷ other ∷ rows
goes_before row other rows e i = if e i then row ∷ other ∷ rows else other ∷ place_row row rows

goes_after : (row other : AssignmentRow) (rows : List AssignmentRow) → int_le row.number other.number ≡ false → place_row row (other ∷ rows) ≡ other ∷ place_row row rows
goes_after row other rows e i = if e i then row ∷ other ∷ rows else other ∷ place_row row rows

both_placed : (a b : AssignmentRow) (rows : List AssignmentRow) → a.number <ℤ b.number → place_row a (place_row b rows) ≡ place_row b (place_row a rows)
both_placed a b [] less = goes_before a b [] (is_before a.number b.number less) ∙ sym (goes_after b a [] (is_above a.number b.number less))
both_placed a b (c ∷ rows) less = by (int_le a.number c.number) (int_le b.number c.number) refl refl (both_placed a b rows less)
  where
    first : int_le a.number b.number ≡ true
    first = is_before a.number b.number less

    second : int_le b.number a.number ≡ false
    second = is_above a.number b.number less

    by : (one other : Bool) → int_le a.number c.number ≡ one → int_le b.number c.number ≡ other → place_row a (place_row b rows) ≡ place_row b (place_row a rows)
        → place_row a (place_row b (c ∷ rows)) ≡ place_row b (place_row a (c ∷ rows))
    by true true e f rest =
        ap (place_row a) (goes_before b c rows f) ∙ goes_before a b (c ∷ rows) first
        ∙ sym (ap (place_row b) (goes_before a c rows e) ∙ goes_after b a (c ∷ rows) second ∙ ap (λ rs. a ∷ rs) (goes_before b c rows f))
    by true false e f rest =
        ap (place_row a) (goes_after b c rows f) ∙ goes_before a c (place_row b rows) e
        ∙ sym (ap (place_row b) (goes_before a c rows e) ∙ goes_after b a (c ∷ rows) second ∙ ap (λ rs. a ∷ rs) (goes_after b c rows f))
    by false true e f rest = let le = is_before_chain a.number b.number c.number less f in absurd (cc)
    by false false e f rest =
        ap (place_row a) (goes_after b c rows f) ∙ goes_after a c (place_row b rows) e ∙ ap (λ rs. c ∷ rs) rest
        ∙ sym (ap (place_row b) (goes_after a c rows e) ∙ goes_after b c (place_row a rows) f)

two_cases : (a b : ℤ) → a ≢ b → {P : Type 0} → (a <ℤ b → P) → (b <ℤ a → P) → P
two_cases a b ne {P} first second = by (int_le a b) refl
  where
    less : int_le a b ≡ true → a <ℤ b
    less e = grind (arith, ints)

    more : int_le a b ≡ false → b <ℤ a
    more e = grind (arith, ints)

    by : (t : Bool) → int_le a b ≡ t → P
    by true e = first (less e)
    by false e = second (more e)

in_any_order : (a b : AssignmentRow) (rows : List AssignmentRow) → a.number ≢ b.number → place_row a (place_row b rows) ≡ place_row b (place_row a rows)
in_any_order a b rows ne = two_cases a.number b.number ne (λ less. both_placed a b rows less) (λ more. sym (both_placed b a rows more))

-- ---- a member that is put

-- no member of this number
abbrev pub HasNone : ℤ → Members → Type 0
HasNone n no_members = ⊤
HasNone n (member l e ms) = (number_in l ≢ Some n) × HasNone n ms

none_put : (n z : ℤ) (k : List ℕ) (d : Data) (ms : Members) → number_in k ≡ Some z → z ≢ n → HasNone n ms → HasNone n (put k d ms)
none_put n z k d no_members is ne h = (λ e. ne (some_same z n (sym is ∙ e)), tt)
none_put n z k d (member l e ms) is ne h =
    by_order (HasNone n) k l (member k d (member l e ms)) (member l d ms) (member l e (put k d ms))
    (λ less. (λ e. ne (some_same z n (sym is ∙ e)), h)) (λ same. h) (λ more. (h.0, none_put n z k d ms is ne h.1))

-- the row that is read has its member's number
row_number : (found : Option ℤ) (ids : Option (List ℤ)) (row : AssignmentRow) → row_of found ids ≡ Some row → found ≡ Some row.number
row_number None ids row h = cc h
row_number (Some n) None row h = cc h
row_number (Some n) (Some ids) row h = by (are_replicas ids) h
  where
    by : (t : Bool) → (if t then Some (record { number = n; replicas = ids; adding = []; removing = [] }) else None) ≡ Some row → Some n ≡ Some row.number
    by true e = ap (λ r. Some r.number) (some_same (record { number = n; replicas = ids; adding = []; removing = [] }) row e)
    by false e = cc e

past_row : (row : AssignmentRow) (acc : List AssignmentRow) (put_in ms : Members) (found : Option AssignmentRow) → ((other : AssignmentRow) → found ≡ Some other → row.number ≢ other.number)
    → ((rows : List AssignmentRow) → rows_onto rows put_in ≡ rows_onto (place_row row rows) ms)
    → option_and_then (λ r. rows_onto (place_row r acc) put_in) found ≡ option_and_then (λ r. rows_onto (place_row r (place_row row acc)) ms) found
past_row row acc put_in ms None ne rest = refl
past_row row acc put_in ms (Some other) ne rest = rest (place_row other acc) ∙ ap (λ rs. rows_onto rs ms) (in_any_order row other acc (ne other refl))

pub rows_put : (k : List ℕ) (d : Data) (row : AssignmentRow) → row_of (number_in k) (brokers_of d) ≡ Some row → number_in k ≡ Some row.number
    → (ms : Members) (acc : List AssignmentRow) → HasNone row.number ms → rows_onto acc (put k d ms) ≡ rows_onto (place_row row acc) ms
rows_put k d row is num no_members acc h = ap (option_and_then (λ r. rows_onto (place_row r acc) no_members)) is
rows_put k d row is num (member l e ms) acc h =
    by_order (λ m. rows_onto acc m ≡ rows_onto (place_row row acc) (member l e ms)) k l (member k d (member l e ms)) (member l d ms) (member l e (put k d ms))
    (λ less. ap (option_and_then (λ r. rows_onto (place_row r acc) (member l e ms))) is)
    (λ same. absurd (h.0 (ap number_in (sym same) ∙ num)))
    (λ more. past_row row acc (put k d ms) ms (row_of (number_in l) (brokers_of e))
    (λ other found same. h.0 (row_number (number_in l) (brokers_of e) other found ∙ ap (λ n. Some n) (sym same)))
    (λ rows. rows_put k d row is num ms rows h.1))

-- ---- the partitions that are written

-- a partition with nothing added or removed
abbrev pub bare : AssignmentRow → AssignmentRow
bare row = record { number = row.number; replicas = row.replicas; adding = []; removing = [] }

-- no member of the number of one of these
abbrev AreAbsent : Members → List AssignmentRow → Type 0
AreAbsent ms [] = ⊤
AreAbsent ms (row ∷ rows) = HasNone row.number ms × AreAbsent ms rows

absent_put : (z : ℤ) (k : List ℕ) (d : Data) (ms : Members) (rows : List AssignmentRow) → number_in k ≡ Some z → IsBefore z rows → AreAbsent ms rows → AreAbsent (put k d ms) rows
absent_put z k d ms [] is less h = tt
absent_put z k d ms (row ∷ rows) is less h =
    (none_put row.number z k d ms is (less_other z row.number less.0) h.0, absent_put z k d ms rows is less.1 h.1)

none_absent : (rows : List AssignmentRow) → AreAbsent no_members rows
none_absent [] = tt
none_absent (row ∷ rows) = (tt, none_absent rows)

abbrev placed : List AssignmentRow → List AssignmentRow → List AssignmentRow
placed [] acc = acc
placed (row ∷ rows) acc = place_row (bare row) (placed rows acc)

own_row : (row : AssignmentRow) → IsPartition row → row_of (number_in (signed_decimal row.number)) (brokers_of (brokers_data row.replicas)) ≡ Some (bare row)
own_row row h =
    (λ i. row_of (number_read row.number h.number_is i) (brokers_read row.replicas h.brokers_are i))
    ∙ (λ i. if h.replicas_are i then Some (bare row) else None)

members_rows : (rows : List AssignmentRow) (ms : Members) (acc : List AssignmentRow) → ArePartitions rows → AreInOrder rows → AreAbsent ms rows
    → rows_onto acc (replicas_members ms rows) ≡ rows_onto (placed rows acc) ms
members_rows [] ms acc p o h = refl
members_rows (row ∷ rows) ms acc p o h =
    let num = number_read row.number p.0.number_is in
    members_rows rows (with_list row row.replicas ms) acc p.1 o.1 (absent_put row.number (signed_decimal row.number) (brokers_data row.replicas) ms rows num o.0 h.1)
    ∙ rows_put (signed_decimal row.number) (brokers_data row.replicas) (bare row) (own_row row p.0) num ms (placed rows acc) h.0

placed_same : (rows : List AssignmentRow) → AreInOrder rows → placed rows [] ≡ map bare rows
placed_same [] o = refl
placed_same (row ∷ []) o = refl
placed_same (row ∷ other ∷ rows) o =
    ap (place_row (bare row)) (placed_same (other ∷ rows) o.1) ∙ goes_before (bare row) (bare other) (map bare rows) (is_before row.number other.number o.0.0)

pub rows_read : (rows : List AssignmentRow) → ArePartitions rows → AreInOrder rows → rows_of (object (replicas_members no_members rows)) ≡ Some (map bare rows)
rows_read rows p o = members_rows rows no_members [] p o (none_absent rows) ∙ ap (λ rs. Some rs) (placed_same rows o)
