-- The partitions that a topic's znode and the states below it make have values that they may have.
use Rattle.std.proofs.Common.{◌≡◌, ℤ, ◌≤ℤ◌, pos, negsuc, Bool, true, false, not, ◌||◌, List, [], ◌∷◌, Option, Some, None, refl, ap, arith}
use Rattle.std.specs.Prelude.{Ok, Err, int_le, int_lt, if◌then◌else◌}
use Rattle.std.specs.Ordering.{int_eq}
use Rattle.std.specs.List.{list_all}
use Rattle.std.proofs.lemmas.Bool.{and_parts, and_from}
use Rattle.std.proofs.lemmas.Int.{ints}
use Rattle.kz_types.specs.declared.id.Id.{Id}
use Rattle.kz_types.specs.declared.bodies.AssignmentRow.{AssignmentRow}
use Rattle.kz_types.specs.declared.bodies.Body.{Body}
use Rattle.kz_types.specs.declared.bodies.Body.TheVariants as body
use Rattle.kz_types.specs.declared.fault.ReadWhy.{ReadWhy}
use Rattle.kz_types.specs.declared.row.PartitionRow.{PartitionRow}
use Rattle.kz_types.specs.declared.record.MetaRecord.{MetaRecord}
use Rattle.kz_types.specs.Numbers.{is_in, are_distinct}
use Rattle.kz_spec_data.specs.Bodies.{are_replicas, are_some_of}
use Rattle.kz_spec_data.specs.ImageRules.{is_epoch, is_replica, is_recovery, new_row, is_row}
use Rattle.kz_spec_data.specs.Translation.{RowRecords, leader_of, first_replica, new_partition, partition_with, may_lead, records_of_state}
use Rattle.kz_laws_values.specs.Ranges.{IsBetween}
use Rattle.kz_laws_values.specs.Readable.{IsWhole, AreBrokers, IsState, IsPartition}
use Rattle.kz_laws_znodes.proofs.TopicSteps.{IsMade}

-- ---- numbers

pub le_holds : (a b : ℤ) → a ≤ℤ b → int_le a b ≡ true
le_holds a b h = grind (arith, ints)

pub lt_fails : (a b : ℤ) → b ≤ℤ a → int_lt a b ≡ false
lt_fails a b h = grind (arith, ints)

pub whole_is_epoch : (z : ℤ) → IsWhole z → is_epoch z ≡ true
whole_is_epoch z h = and_from (int_le (pos 0) z) (int_le z (pos 2147483647)) (le_holds (pos 0) z h.0) (le_holds z (pos 2147483647) h.1)

recovery_holds : (z : ℤ) → IsBetween (pos 0) (pos 1) z → is_recovery z ≡ true
recovery_holds z h = grind (arith, ints)

all_replicas : (ids : List ℤ) → AreBrokers ids → list_all is_replica ids ≡ true
all_replicas [] h = refl
all_replicas (id ∷ ids) h = and_from (is_replica id) (list_all is_replica ids) (le_holds (pos 0) id h.0.0) (all_replicas ids h.1)

same_int : (z : ℤ) → int_eq z z ≡ true
same_int z = grind (arith, ints)

-- ---- replicas among themselves

still_in : (id : ℤ) (ids more : List ℤ) → list_all (is_in ids) more ≡ true → list_all (is_in (id ∷ ids)) more ≡ true
still_in id ids [] h = refl
still_in id ids (x ∷ more) h =
    let k = and_parts (is_in ids x) (list_all (is_in ids) more) h in
    and_from (is_in (id ∷ ids) x) (list_all (is_in (id ∷ ids)) more) (or_right (int_eq x id) (is_in ids x) k.0) (still_in id ids more k.1)
  where
    or_right : (a b : Bool) → b ≡ true → a || b ≡ true
    or_right true b e = refl
    or_right false b e = e

all_in : (ids : List ℤ) → list_all (is_in ids) ids ≡ true
all_in [] = refl
all_in (id ∷ ids) = and_from (is_in (id ∷ ids) id) (list_all (is_in (id ∷ ids)) ids) (ap (λ b. b || is_in ids id) (same_int id)) (still_in id ids ids (all_in ids))

first_leads : (ids : List ℤ) → may_lead ids (first_replica ids) ≡ true
first_leads [] = refl
first_leads (id ∷ ids) = by (int_eq id (negsuc 0)) (ap (λ b. b || is_in ids id) (same_int id))
  where
    by : (t : Bool) → is_in (id ∷ ids) id ≡ true → t || is_in (id ∷ ids) id ≡ true
    by true e = refl
    by false e = e

-- ---- a partition

row_holds : (row : PartitionRow) → are_replicas row.replicas ≡ true → list_all is_replica row.replicas ≡ true → are_some_of row.replicas row.isr ≡ true → are_some_of row.replicas row.adding ≡ true → are_some_of row.replicas row.removing ≡ true
    → may_lead row.replicas row.leader ≡ true → is_recovery row.recovery ≡ true → is_epoch row.leader_epoch ≡ true → is_epoch row.partition_epoch ≡ true → is_row row ≡ true
row_holds row a b c d e f g h k = rw (a, b, c, d, e, f, g, h, k) refl

number_is_legal : (a : AssignmentRow) → IsPartition a → int_lt a.number (pos 0) ≡ false
number_is_legal a h = lt_fails a.number (pos 0) h.number_is.0

pub new_is_made : (id : Id) (a : AssignmentRow) → IsPartition a → IsMade id (new_partition id a)
new_is_made id a h = record {
  topic = refl;
  number = number_is_legal a h;
  row = row_holds (new_row (pos 0) (new_partition id a)) h.replicas_are (all_replicas a.replicas h.brokers_are)
      (and_from (are_distinct a.replicas) (list_all (is_in a.replicas) a.replicas) (and_parts _ (are_distinct a.replicas) h.replicas_are).1 (all_in a.replicas))
      h.adding_are h.removing_are (first_leads a.replicas) refl refl refl;
}

-- what is tested of a state whose partition is assigned
not_err : (w : ReadWhy) (one : List MetaRecord) → ◌≡◌ {A = RowRecords} (Err w) (Ok one) → ⊥
not_err w one e = cc

tested : (t : Bool) (w : ReadWhy) (rest : RowRecords) (one : List MetaRecord) → (if not t then Err w else rest) ≡ Ok one → (t ≡ true) × (rest ≡ Ok one)
tested true w rest one e = (refl, e)
tested false w rest one e = absurd (not_err w one e)

pub state_is_made : (id : Id) (a : AssignmentRow) (version leader leader_epoch controller_epoch : ℤ) (isr : List ℤ) (recovery : ℤ) (one : List MetaRecord)
    → IsPartition a → is_epoch version ≡ true → IsState leader leader_epoch controller_epoch isr recovery → records_of_state a.replicas (Ok (body.State leader leader_epoch controller_epoch isr recovery)) ≡ Ok one
    → IsMade id (partition_with id a version (Some (body.State leader leader_epoch controller_epoch isr recovery)))
state_is_made id a version leader leader_epoch controller_epoch isr recovery one h epoch s is =
    let first = tested (are_some_of a.replicas isr) _ _ one is in
    let second = tested (may_lead a.replicas (leader_of leader)) _ _ one first.1 in record {
      topic = refl;
      number = number_is_legal a h;
      row = row_holds (new_row (pos 0) (partition_with id a version (Some (body.State leader leader_epoch controller_epoch isr recovery)))) h.replicas_are (all_replicas a.replicas h.brokers_are)
          first.0 h.adding_are h.removing_are second.0 (recovery_holds recovery s.recovery_is) (whole_is_epoch leader_epoch s.leader_epoch_is) epoch;
    }

-- whatever is said of its state, a partition has its number
pub number_kept : (id : Id) (a : AssignmentRow) (version : ℤ) (b : Option Body) → (partition_with id a version b).partition_id ≡ a.number
number_kept id a version None = refl
number_kept id a version (Some (body.Topic other rows)) = refl
number_kept id a version (Some (body.State leader leader_epoch controller_epoch isr recovery)) = refl
number_kept id a version (Some (body.Config pairs)) = refl
number_kept id a version (Some (body.Quota quotas scrams)) = refl
number_kept id a version (Some (body.Acls rows)) = refl
number_kept id a version (Some (body.Producer broker start end)) = refl
number_kept id a version (Some body.Blank) = refl
