-- What is added and removed is read from the members that are written for it.
use Rattle.std.proofs.Common.{◌≡◌, ◌≢◌, ℕ, suc, ℤ, Bool, true, false, ◌||◌, List, [], ◌∷◌, Option, Some, None, refl, sym, ap, subst, ◌∙◌, arith, ◌&&◌}
use Rattle.std.specs.Prelude.{⊤, map, option_and_then, unwrap_or, if◌then◌else◌}
use Rattle.std.specs.Fmt.{signed_decimal}
use Rattle.std.specs.List.{list_all}
use Rattle.std.specs.Ordering.{int_eq}
use Rattle.std.proofs.lemmas.Bool.{and_parts, and_from}
use Rattle.std.proofs.lemmas.Int.{ints}
use Rattle.serde_json.specs.Data.{Data, object, Members, no_members, member, put}
use Rattle.serde_json.specs.Find.{get_member}
use Rattle.kz_types.specs.Numbers.{number_in}
use Rattle.kz_types.specs.declared.bodies.AssignmentRow.{AssignmentRow}
use Rattle.kz_types.specs.Numbers.{is_in, are_distinct}
use Rattle.kz_spec_data.specs.Bodies.{brokers_of, brokers_data, are_some_of, is_there, are_lists, list_at, fit, lists_for, with_some, adding_members, removing_members}
use Rattle.kz_laws_values.specs.Readable.{IsWhole, AreBrokers, IsBefore, AreInOrder, IsPartition, ArePartitions}
use Rattle.kz_laws_values.proofs.Plain.{ArePlainMembers}
use Rattle.kz_laws_values.proofs.States.{brokers_plain, brokers_read}
use Rattle.kz_laws_values.proofs.Members.{by_order, put_plain, Rise, put_rises, get_put, get_put_other}
use Rattle.kz_laws_values.proofs.Rows.{bare, less_other, number_read, number_text_is, texts_differ}

-- ---- brokers among others

same_number : (a b : ℤ) → int_eq a b ≡ true → a ≡ b
same_number a b e = grind (arith, ints)

in_whole : (replicas : List ℤ) (id : ℤ) → AreBrokers replicas → is_in replicas id ≡ true → IsWhole id
in_whole [] id h is = absurd (cc)
in_whole (other ∷ replicas) id h is = by (int_eq id other) refl is (in_whole replicas id h.1)
  where
    by : (t : Bool) → int_eq id other ≡ t → t || is_in replicas id ≡ true → (is_in replicas id ≡ true → IsWhole id) → IsWhole id
    by true e k rest = subst IsWhole (sym (same_number id other e)) h.0
    by false e k rest = rest k

all_whole : (replicas ids : List ℤ) → AreBrokers replicas → list_all (is_in replicas) ids ≡ true → AreBrokers ids
all_whole replicas [] h is = tt
all_whole replicas (id ∷ ids) h is =
    let k = and_parts (is_in replicas id) (list_all (is_in replicas) ids) is in (in_whole replicas id h k.0, all_whole replicas ids h k.1)

some_whole : (replicas ids : List ℤ) → AreBrokers replicas → are_some_of replicas ids ≡ true → AreBrokers ids
some_whole replicas ids h is = all_whole replicas ids h (and_parts (are_distinct ids) (list_all (is_in replicas) ids) is).1

-- ---- the lists of one kind

-- which of a partition's lists is written
abbrev pub IsPick : (AssignmentRow → List ℤ) → Type 0
IsPick pick = (row : AssignmentRow) → IsPartition row → are_some_of row.replicas (pick row) ≡ true

pick_whole : (pick : AssignmentRow → List ℤ) → IsPick pick → (row : AssignmentRow) → IsPartition row → AreBrokers (pick row)
pick_whole pick is row h = some_whole row.replicas (pick row) h.brokers_are (is row h)

abbrev pub lists_members : (AssignmentRow → List ℤ) → Members → List AssignmentRow → Members
lists_members pick ms [] = ms
lists_members pick ms (row ∷ rows) = lists_members pick (with_some row (pick row) ms) rows

pub adding_lists : (rows : List AssignmentRow) (ms : Members) → adding_members ms rows ≡ lists_members (λ row. row.adding) ms rows
adding_lists [] ms = refl
adding_lists (row ∷ rows) ms = adding_lists rows (with_some row row.adding ms)

pub removing_lists : (rows : List AssignmentRow) (ms : Members) → removing_members ms rows ≡ lists_members (λ row. row.removing) ms rows
removing_lists [] ms = refl
removing_lists (row ∷ rows) ms = removing_lists rows (with_some row row.removing ms)

-- what holds of members that are put holds of these
each_put : (P : Members → Type 0) (row : AssignmentRow) (ids : List ℤ) (ms : Members) → AreBrokers ids
    → ((some : List ℤ) → AreBrokers some → P (put (signed_decimal row.number) (brokers_data some) ms)) → P ms → P (with_some row ids ms)
each_put P row [] ms h more none = none
each_put P row (id ∷ ids) ms h more none = more (id ∷ ids) h

all_put : (P : Members → Type 0) (pick : AssignmentRow → List ℤ) → IsPick pick
    → ((row : AssignmentRow) (ids : List ℤ) (ms : Members) → IsWhole row.number → AreBrokers ids → P ms → P (put (signed_decimal row.number) (brokers_data ids) ms))
    → (rows : List AssignmentRow) (ms : Members) → ArePartitions rows → P ms → P (lists_members pick ms rows)
all_put P pick is more [] ms h p = p
all_put P pick is more (row ∷ rows) ms h p =
    all_put P pick is more rows (with_some row (pick row) ms) h.1
    (each_put P row (pick row) ms (pick_whole pick is row h.0) (λ some brokers. more row some ms h.0.number_is brokers p) p)

pub lists_plain : (n : ℕ) (pick : AssignmentRow → List ℤ) → IsPick pick → (rows : List AssignmentRow) (ms : Members) → ArePartitions rows → ArePlainMembers (suc n) ms
    → ArePlainMembers (suc n) (lists_members pick ms rows)
lists_plain n pick is rows ms h p =
    all_put (ArePlainMembers (suc n)) pick is
    (λ row ids found number brokers plain. put_plain (suc n) (signed_decimal row.number) (brokers_data ids) found (number_text_is row.number number) (brokers_plain n ids brokers) plain)
    rows ms h p

pub lists_rise : (pick : AssignmentRow → List ℤ) → IsPick pick → (rows : List AssignmentRow) (ms : Members) → ArePartitions rows → Rise ms → Rise (lists_members pick ms rows)
lists_rise pick is rows ms h r =
    all_put Rise pick is (λ row ids found number brokers rise. put_rises (signed_decimal row.number) (brokers_data ids) found rise) rows ms h r

-- ---- they are lists

abbrev AreLists : Members → Type 0
AreLists ms = are_lists ms ≡ true

there : {A : Type 0} (o : Option A) (a : A) → o ≡ Some a → is_there o ≡ true
there o a e = ap is_there e

put_lists : (k : List ℕ) (d : Data) (ms : Members) → is_there (number_in k) ≡ true → is_there (brokers_of d) ≡ true → AreLists ms → AreLists (put k d ms)
put_lists k d no_members one other h = and_from (is_there (number_in k) && is_there (brokers_of d)) true (and_from (is_there (number_in k)) (is_there (brokers_of d)) one other) refl
put_lists k d (member l e ms) one other h =
    let rest = and_parts (is_there (number_in l) && is_there (brokers_of e)) (are_lists ms) h in
    let named = and_parts (is_there (number_in l)) (is_there (brokers_of e)) rest.0 in
    by_order AreLists k l (member k d (member l e ms)) (member l d ms) (member l e (put k d ms))
    (λ less. and_from _ _ (and_from _ _ one other) h)
    (λ same. and_from _ _ (and_from _ _ named.0 other) rest.1)
    (λ more. and_from _ _ rest.0 (put_lists k d ms one other rest.1))

lists_are : (pick : AssignmentRow → List ℤ) → IsPick pick → (rows : List AssignmentRow) (ms : Members) → ArePartitions rows → AreLists ms → AreLists (lists_members pick ms rows)
lists_are pick is rows ms h r =
    all_put AreLists pick is
    (λ row ids found number brokers lists. put_lists (signed_decimal row.number) (brokers_data ids) found
    (there (number_in (signed_decimal row.number)) row.number (number_read row.number number)) (there (brokers_of (brokers_data ids)) ids (brokers_read ids brokers)) lists)
    rows ms h r

-- ---- each is found at its number

-- the name of no partition
abbrev IsOther : List ℕ → List AssignmentRow → Type 0
IsOther k [] = ⊤
IsOther k (row ∷ rows) = (k ≢ signed_decimal row.number) × IsOther k rows

is_other : (n : ℤ) (rows : List AssignmentRow) → IsWhole n → ArePartitions rows → IsBefore n rows → IsOther (signed_decimal n) rows
is_other n [] whole h less = tt
is_other n (row ∷ rows) whole h less =
    (texts_differ n row.number whole h.0.number_is (less_other n row.number less.0), is_other n rows whole h.1 less.1)

get_some_past : (k : List ℕ) (row : AssignmentRow) (ids : List ℤ) (ms : Members) → k ≢ signed_decimal row.number → get_member k (with_some row ids ms) ≡ get_member k ms
get_some_past k row [] ms ne = refl
get_some_past k row (id ∷ ids) ms ne = get_put_other k (signed_decimal row.number) (brokers_data (id ∷ ids)) ms ne

get_lists_past : (pick : AssignmentRow → List ℤ) (k : List ℕ) (rows : List AssignmentRow) (ms : Members) → IsOther k rows → get_member k (lists_members pick ms rows) ≡ get_member k ms
get_lists_past pick k [] ms ne = refl
get_lists_past pick k (row ∷ rows) ms ne = get_lists_past pick k rows (with_some row (pick row) ms) ne.1 ∙ get_some_past k row (pick row) ms ne.0

-- no member of these partitions
abbrev AreMissing : Members → List AssignmentRow → Type 0
AreMissing ms [] = ⊤
AreMissing ms (row ∷ rows) = (get_member (signed_decimal row.number) ms ≡ None) × AreMissing ms rows

none_missing : (rows : List AssignmentRow) → AreMissing no_members rows
none_missing [] = tt
none_missing (row ∷ rows) = (refl, none_missing rows)

still_missing : (row : AssignmentRow) (ids : List ℤ) (ms : Members) (rows : List AssignmentRow) → IsOther (signed_decimal row.number) rows → AreMissing ms rows → AreMissing (with_some row ids ms) rows
still_missing row ids ms [] ne h = tt
still_missing row ids ms (other ∷ rows) ne h =
    (get_some_past (signed_decimal other.number) row ids ms (λ e. ne.0 (sym e)) ∙ h.0, still_missing row ids ms rows ne.1 h.1)

-- the brokers of a member, where it is there
abbrev brokers_or_none : Option Data → List ℤ
brokers_or_none o = unwrap_or (option_and_then brokers_of o) []

own_list : (row : AssignmentRow) (ids : List ℤ) (ms : Members) → AreBrokers ids → get_member (signed_decimal row.number) ms ≡ None
    → brokers_or_none (get_member (signed_decimal row.number) (with_some row ids ms)) ≡ ids
own_list row [] ms h none = ap brokers_or_none none
own_list row (id ∷ ids) ms h none =
    ap brokers_or_none (get_put (signed_decimal row.number) (brokers_data (id ∷ ids)) ms) ∙ ap (λ o. unwrap_or o []) (brokers_read (id ∷ ids) h)

-- each partition's list is found
abbrev pub AreListed : (AssignmentRow → List ℤ) → Members → List AssignmentRow → Type 0
AreListed pick ms [] = ⊤
AreListed pick ms (row ∷ rows) = (list_at (Some (object ms)) row.number ≡ pick row) × AreListed pick ms rows

listed_from : (pick : AssignmentRow → List ℤ) → IsPick pick → (rows : List AssignmentRow) (ms : Members) → ArePartitions rows → AreInOrder rows → AreMissing ms rows
    → AreListed pick (lists_members pick ms rows) rows
listed_from pick is [] ms h o none = tt
listed_from pick is (row ∷ rows) ms h o none =
    let other = is_other row.number rows h.0.number_is h.1 o.0 in (
      ap brokers_or_none (get_lists_past pick (signed_decimal row.number) rows (with_some row (pick row) ms) other) ∙ own_list row (pick row) ms (pick_whole pick is row h.0) none.0,
      listed_from pick is rows (with_some row (pick row) ms) h.1 o.1 (still_missing row (pick row) ms rows other none.1),
    )

pub listed : (pick : AssignmentRow → List ℤ) → IsPick pick → (rows : List AssignmentRow) → ArePartitions rows → AreInOrder rows → AreListed pick (lists_members pick no_members rows) rows
listed pick is rows h o = listed_from pick is rows no_members h o (none_missing rows)

fits : (pick : AssignmentRow → List ℤ) → IsPick pick → (ms : Members) (rows : List AssignmentRow) → ArePartitions rows → AreListed pick ms rows → fit (map bare rows) (object ms) ≡ true
fits pick is ms [] h l = refl
fits pick is ms (row ∷ rows) h l = and_from _ _ (ap (are_some_of row.replicas) l.0 ∙ is row h.0) (fits pick is ms rows h.1 l.1)

-- what is read of the lists
pub lists_read : (pick : AssignmentRow → List ℤ) → IsPick pick → (rows : List AssignmentRow) → ArePartitions rows → AreInOrder rows
    → lists_for (map bare rows) (object (lists_members pick no_members rows)) ≡ Some (Some (object (lists_members pick no_members rows)))
lists_read pick is rows h o =
    let ms : Members = lists_members pick no_members rows in
    λ i. if and_from (are_lists ms) (fit (map bare rows) (object ms)) (lists_are pick is rows no_members h refl) (fits pick is ms rows h (listed pick is rows h o)) i
    then Some (Some (object ms)) else None
