-- The topics that are read: partitions by rising number, with values in range.
use Rattle.std.proofs.Common.{◌≡◌, ◌≢◌, ℕ, ℤ, pos, Bool, true, false, ◌&&◌, List, [], ◌∷◌, map, Option, Some, None, Ok, Err, Ordering, Less, Greater, refl, sym, ap, ◌∙◌, subst, arith}
use Rattle.std.specs.Prelude.{⊤, IfSome, int_le, option_map, option_and_then, if◌then◌else◌, bytes_eq}
use Rattle.std.specs.Ordering.{int_cmp, match_ordering}
use Rattle.std.specs.List.{list_all}
use Rattle.std.specs.Fmt.{signed_decimal}
use Rattle.std.proofs.lemmas.Bool.{and_parts}
use Rattle.std.proofs.lemmas.Int.{ints}
use Rattle.serde_json.specs.Data.{Data, null, boolean, number, string, array, object, Members, no_members, member}
use Rattle.serde_json.specs.Find.{as_str, as_object}
use Rattle.kz_types.specs.Numbers.{canonical, number_in}
use Rattle.kz_types.specs.Ids.{id_of, zero_id}
use Rattle.kz_types.proofs.NumberLemmas.{canonical_sound}
use Rattle.kz_types.specs.declared.id.Id.{Id}
use Rattle.kz_types.specs.declared.bodies.AssignmentRow.{AssignmentRow}
use Rattle.kz_types.specs.declared.fault.BodyFault.TheVariants as fault
use Rattle.kz_types.specs.Ordered.{put, Rises}
use Rattle.kz_types.proofs.Order.{int_order, bytes_order, less_differs}
use Rattle.kz_types.proofs.Lookup.{Rises-put}
use Rattle.kz_spec_data.specs.Bodies.{brokers_of, are_replicas, are_some_of, place_row, row_of, rows_onto, rows_of, are_lists, list_at, fit, lists_for, with_lists, topic_id_of, topic_id_in}
use Rattle.kz_spec_data.specs.Translation.{number_of_assignment}
use Rattle.kz_laws_values.specs.Readable.{IsWhole, AreBrokers, ArePartitions}
use Rattle.kz_laws_values.proofs.Members.{Rise, IsUnder}
use Rattle.kz_laws_znodes.proofs.Sorted.{IsSorted, if_chained, if_any}
use Rattle.kz_laws_znodes.proofs.ReadForms.{Holds, if_test, brokers_of_holds}

-- A partition that is read, without what is added and removed.
pub record IsBare (row : AssignmentRow) : Type 0 where
  pub number_is : IsWhole row.number
  pub brokers_are : AreBrokers row.replicas
  pub replicas_are : are_replicas row.replicas ≡ true

-- such partitions
abbrev AreBare : List AssignmentRow → Type 0
AreBare [] = ⊤
AreBare (row ∷ rows) = IsBare row × AreBare rows

-- none of the partitions has this name
abbrev IsNew : List ℕ → List AssignmentRow → Type 0
IsNew k [] = ⊤
IsNew k (row ∷ rows) = (signed_decimal row.number ≢ k) × IsNew k rows

-- none has one of these names
abbrev AreNew : Members → List AssignmentRow → Type 0
AreNew no_members rows = ⊤
AreNew (member k d ms) rows = IsNew k rows × AreNew ms rows

placed_by : (P : List AssignmentRow → Type 0) (row other : AssignmentRow) (rows : List AssignmentRow) → P (row ∷ other ∷ rows) → P (other ∷ place_row row rows) → P (place_row row (other ∷ rows))
placed_by P row other rows first second = by (int_le row.number other.number)
  where
    by : (t : Bool) → P (if t then row ∷ other ∷ rows else other ∷ place_row row rows)
    by true = first
    by false = second

placed_bare : (row : AssignmentRow) (rows : List AssignmentRow) → IsBare row → AreBare rows → AreBare (place_row row rows)
placed_bare row [] h all = (h, tt)
placed_bare row (other ∷ rows) h all = placed_by AreBare row other rows (h, all) (all.0, placed_bare row rows h all.1)

placed_new : (k : List ℕ) (row : AssignmentRow) (rows : List AssignmentRow) → signed_decimal row.number ≢ k → IsNew k rows → IsNew k (place_row row rows)
placed_new k row [] ne all = (ne, tt)
placed_new k row (other ∷ rows) ne all = placed_by (IsNew k) row other rows (ne, all) (all.0, placed_new k row rows ne all.1)

-- a partition of a new number is put at its place
placed_is_put : (row : AssignmentRow) (rows : List AssignmentRow) → IsNew (signed_decimal row.number) rows → place_row row rows ≡ put int_cmp number_of_assignment row rows
placed_is_put row [] new = refl
placed_is_put row (other ∷ rows) new = by (int_le row.number other.number) (int_cmp row.number other.number) refl refl (placed_is_put row rows new.1)
  where
    differ : row.number ≢ other.number
    differ e = new.0 (ap signed_decimal (sym e))

    less : int_le row.number other.number ≡ true → int_cmp row.number other.number ≡ Less
    less e = grind (arith, ints, differ)

    more : int_le row.number other.number ≡ false → int_cmp row.number other.number ≡ Greater
    more e = grind (arith, ints)

    by : (t : Bool) (r : Ordering) → int_le row.number other.number ≡ t → int_cmp row.number other.number ≡ r → place_row row rows ≡ put int_cmp number_of_assignment row rows
        → (if t then row ∷ other ∷ rows else other ∷ place_row row rows) ≡ match_ordering r (row ∷ other ∷ rows) (row ∷ rows) (other ∷ put int_cmp number_of_assignment row rows)
    by true r e f rest = ap (λ o. match_ordering o (row ∷ other ∷ rows) (row ∷ rows) (other ∷ put int_cmp number_of_assignment row rows)) (sym (less e) ∙ f)
    by false r e f rest = ap (λ os. other ∷ os) rest ∙ ap (λ o. match_ordering o (row ∷ other ∷ rows) (row ∷ rows) (other ∷ put int_cmp number_of_assignment row rows)) (sym (more e) ∙ f)

placed_rises : (row : AssignmentRow) (rows : List AssignmentRow) → IsNew (signed_decimal row.number) rows → Rises int_cmp number_of_assignment rows → Rises int_cmp number_of_assignment (place_row row rows)
placed_rises row rows new h = subst (Rises int_cmp number_of_assignment) (sym (placed_is_put row rows new)) (Rises-put int_order number_of_assignment row rows h)

-- Partitions that are read.
pub record AreFound (rows : List AssignmentRow) : Type 0 where
  pub bare : AreBare rows
  pub rise : Rises int_cmp number_of_assignment rows

number_named : (k : List ℕ) (n : ℤ) → number_in k ≡ Some n → (signed_decimal n ≡ k) × IsWhole n
number_named k n is = by (canonical k) refl is
  where
    by : (o : Option ℕ) → canonical k ≡ o → option_map (λ m. pos m) o ≡ Some n → (signed_decimal n ≡ k) × IsWhole n
    by None e f = absurd (cc)
    by (Some m) e f =
        let sound = canonical_sound k m e in
        let whole : IsWhole (pos m) = (omega (arith, ints), omega (arith, ints, sound.1)) in
        subst (λ z. (signed_decimal z ≡ k) × IsWhole z) {x = pos m} {y = n} (cc) (sym sound.0, whole)

names_new : (k : List ℕ) (row : AssignmentRow) (ms : Members) (rows : List AssignmentRow) → signed_decimal row.number ≡ k → IsUnder k ms → AreNew ms rows → AreNew ms (place_row row rows)
names_new k row no_members rows is u new = tt
names_new k row (member l d ms) rows is u new = (placed_new l row rows (λ e. less_differs bytes_order k l u.0 (sym is ∙ e)) new.0, names_new k row ms rows is u.1 new.1)

-- a partition of this name
abbrev IsNamed : List ℕ → AssignmentRow → Type 0
IsNamed k row = (signed_decimal row.number ≡ k) × IsBare row

if_is : {A B : Type 0} (Q : B → Type 0) (f : A → Option B) (o : Option A) → ((a : A) → o ≡ Some a → IfSome (f a) Q) → IfSome (option_and_then f o) Q
if_is Q f None so = tt
if_is Q f (Some a) so = so a refl

row_holds : (k : List ℕ) (d : Data) → IfSome (row_of (number_in k) (brokers_of d)) (IsNamed k)
row_holds k d = if_is (IsNamed k) (λ n. option_and_then (λ ids. if are_replicas ids then Some (record { number = n; replicas = ids; adding = []; removing = [] }) else None) (brokers_of d)) (number_in k)
    (λ n is. if_chained AreBrokers (IsNamed k) (λ ids. if are_replicas ids then Some (record { number = n; replicas = ids; adding = []; removing = [] }) else None) (brokers_of d)
    (λ ids brokers. if_test (IsNamed k) (are_replicas ids) (record { number = n; replicas = ids; adding = []; removing = [] })
    (λ some. let m = number_named k n is in (m.0, record { number_is = m.1; brokers_are = brokers; replicas_are = some }))) (brokers_of_holds d))

rows_hold : (rows : List AssignmentRow) (ms : Members) → Rise ms → AreNew ms rows → AreFound rows → IfSome (rows_onto rows ms) AreFound
rows_hold rows no_members r new h = h
rows_hold rows (member name d ms) r new h =
    if_chained (IsNamed name) AreFound (λ row. rows_onto (place_row row rows) ms) (row_of (number_in name) (brokers_of d))
    (λ row is. rows_hold (place_row row rows) ms r.1 (names_new name row ms rows is.0 r.0 new.1) (record {
      bare = placed_bare row rows is.1 h.bare;
      rise = placed_rises row rows (subst (λ k. IsNew k rows) (sym is.0) new.0) h.rise;
    })) (row_holds name d)

none_new : (ms : Members) → AreNew ms []
none_new no_members = tt
none_new (member k d ms) = (tt, none_new ms)

pub found_rows : (d : Data) → IsSorted d → IfSome (rows_of d) AreFound
found_rows null s = tt
found_rows (boolean b) s = tt
found_rows (number n) s = tt
found_rows (string t) s = tt
found_rows (array ds) s = tt
found_rows (object ms) s = rows_hold [] ms s.0 (none_new ms) (record { bare = tt; rise = tt })

-- these lists fit the partitions
abbrev pub DoFit : List AssignmentRow → Option Data → Type 0
DoFit rows lists = list_all (λ (row : AssignmentRow). are_some_of row.replicas (list_at lists row.number)) rows ≡ true

pub none_fit : (rows : List AssignmentRow) → DoFit rows None
none_fit [] = refl
none_fit (row ∷ rows) = none_fit rows

pub lists_hold : (rows : List AssignmentRow) (d : Data) → IfSome (lists_for rows d) (DoFit rows)
lists_hold rows d = if_any (DoFit rows) (λ ms. if are_lists ms && fit rows d then Some (Some d) else None) (as_object d)
    (λ ms. if_test (DoFit rows) (are_lists ms && fit rows d) (Some d) (λ e. (and_parts (are_lists ms) (fit rows d) e).1))

-- A topic: an id that isn't zero, and partitions by rising number.
pub record IsTopicBody (id : Id) (rows : List AssignmentRow) : Type 0 where
  pub id_is : bytes_eq id.bytes zero_id ≡ false
  pub order : Rises int_cmp number_of_assignment rows
  pub rows_are : ArePartitions rows

pub partitions_hold : (adding removing : Option Data) (rows : List AssignmentRow) → AreBare rows → DoFit rows adding → DoFit rows removing → ArePartitions (map (with_lists adding removing) rows)
partitions_hold adding removing [] h a r = tt
partitions_hold adding removing (row ∷ rows) h a r =
    let one = and_parts (are_some_of row.replicas (list_at adding row.number)) (list_all (λ (other : AssignmentRow). are_some_of other.replicas (list_at adding other.number)) rows) a in
    let two = and_parts (are_some_of row.replicas (list_at removing row.number)) (list_all (λ (other : AssignmentRow). are_some_of other.replicas (list_at removing other.number)) rows) r in (
      record { number_is = h.0.number_is; brokers_are = h.0.brokers_are; replicas_are = h.0.replicas_are; adding_are = one.0; removing_are = two.0 },
      partitions_hold adding removing rows h.1 one.1 two.1,
    )

pub id_holds : (o : Option Data) → Holds (λ (id : Id). bytes_eq id.bytes zero_id ≡ false) (topic_id_in o)
id_holds None = tt
id_holds (Some d) = by (option_and_then id_of (as_str d))
  where
    one : (bytes : List ℕ) (t : Bool) → bytes_eq bytes zero_id ≡ t → Holds (λ (id : Id). bytes_eq id.bytes zero_id ≡ false) (if t then Err fault.NoTopicId else Ok (record { bytes = bytes }))
    one bytes true e = tt
    one bytes false e = e

    by : (o : Option (List ℕ)) → Holds (λ (id : Id). bytes_eq id.bytes zero_id ≡ false) (topic_id_of o)
    by None = tt
    by (Some bytes) = one bytes (bytes_eq bytes zero_id) refl
