-- What is written for the metadata may be read.
use Rattle.std.proofs.Common.{◌≡◌, ℕ, ℤ, ◌≤ℤ◌, pos, negsuc, Bool, true, false, ◌||◌, List, [], ◌∷◌, map, Less, Contains, All, refl, sym, subst, arith}
use Rattle.std.specs.Prelude.{◌<ℤ◌, int_le}
use Rattle.std.specs.Ordering.{int_cmp, int_eq}
use Rattle.std.specs.List.{list_all}
use Rattle.std.proofs.lemmas.Bool.{and_parts}
use Rattle.std.proofs.lemmas.Int.{ints}
use Rattle.std.proofs.lemmas.List.Elements.{All-head, All-tail}
use Rattle.kz_types.specs.declared.row.PartitionRow.{PartitionRow}
use Rattle.kz_types.specs.declared.bodies.Pair.{Pair}
use Rattle.kz_types.specs.declared.image.PartitionEntry.{PartitionEntry}
use Rattle.kz_types.specs.Order.{bytes_cmp}
use Rattle.kz_types.specs.Ordered.{Rises, RisesAbove}
use Rattle.std.proofs.lemmas.Cmp.{int_ranked}
use Rattle.kz_types.proofs.Order.{bytes_order, int_order}
use Rattle.kz_types.proofs.Lookup.{rest_rises, rises_above_smaller, Contains-head, Contains-tail}
use Rattle.kz_types.specs.Numbers.{is_in, are_distinct}
use Rattle.kz_spec_data.specs.Bodies.{are_replicas, are_some_of}
use Rattle.kz_spec_data.specs.Metadata.{number_of_partition, name_of_pair}
use Rattle.kz_spec_data.specs.ImageRules.{is_epoch, is_replica, is_assigned, is_recovery, is_row}
use Rattle.kz_spec_data.specs.Rendering.{assignment_of}
use Rattle.kz_spec_data.specs.Translation.{may_lead}
use Rattle.kz_laws_values.specs.Ranges.{IsBetween}
use Rattle.kz_laws_values.specs.Readable.{IsWhole, AreBrokers, IsState, IsBefore, AreInOrder, ArePartitions, AreTexts, IsBelow, AreRising, IsConfiguration}
use Rattle.kz_laws_values.specs.Readable as readable
use Rattle.kz_laws_znodes.specs.RoundTrip.{FitsInt, IsMemberWritable}
use Rattle.kz_laws_znodes.proofs.Shown.{PartitionFacts}

-- ---- numbers

pub holds_le : (a b : ℤ) → int_le a b ≡ true → a ≤ℤ b
holds_le a b e = grind (arith, ints)

pub epoch_is_whole : (z : ℤ) → is_epoch z ≡ true → IsWhole z
epoch_is_whole z h = let k = and_parts (int_le (pos 0) z) (int_le z (pos 2147483647)) h in (holds_le (pos 0) z k.0, holds_le z (pos 2147483647) k.1)

pub recovery_between : (z : ℤ) → is_recovery z ≡ true → IsBetween (pos 0) (pos 1) z
recovery_between z h = (low z h, high z h)
  where
    low : (z : ℤ) → is_recovery z ≡ true → pos 0 ≤ℤ z
    low z h = grind (arith, ints)

    high : (z : ℤ) → is_recovery z ≡ true → z ≤ℤ pos 1
    high z h = grind (arith, ints)

-- ---- partitions

-- What is known of a partition's values.
pub record RowFacts (row : PartitionRow) : Type 0 where
  pub replicas : are_replicas row.replicas ≡ true
  pub brokers : list_all is_replica row.replicas ≡ true
  pub isr : are_some_of row.replicas row.isr ≡ true
  pub adding : are_some_of row.replicas row.adding ≡ true
  pub removing : are_some_of row.replicas row.removing ≡ true
  pub leader : may_lead row.replicas row.leader ≡ true
  pub recovery : is_recovery row.recovery ≡ true
  pub leader_epoch : is_epoch row.leader_epoch ≡ true

pub row_facts : (row : PartitionRow) → is_row row ≡ true → RowFacts row
row_facts row h =
    let a = and_parts _ (is_epoch row.partition_epoch) h in
    let b = and_parts _ (is_epoch row.leader_epoch) a.0 in
    let c = and_parts (is_assigned row) (is_recovery row.recovery) b.0 in
    let d = and_parts _ (may_lead row.replicas row.leader) c.0 in
    let e = and_parts _ (are_some_of row.replicas row.removing) d.0 in
    let f = and_parts _ (are_some_of row.replicas row.adding) e.0 in
    let g = and_parts _ (are_some_of row.replicas row.isr) f.0 in
    let k = and_parts (are_replicas row.replicas) (list_all is_replica row.replicas) g.0 in
    record { replicas = k.0; brokers = k.1; isr = g.1; adding = f.1; removing = e.1; leader = d.1; recovery = c.1; leader_epoch = b.1 }

pub replicas_are : (ids : List ℤ) → list_all is_replica ids ≡ true → All FitsInt ids → AreBrokers ids
replicas_are [] h fits = tt
replicas_are (id ∷ ids) h fits =
    let k = and_parts (is_replica id) (list_all is_replica ids) h in
    ((holds_le (pos 0) id k.0, All-head FitsInt id ids fits), replicas_are ids k.1 (All-tail FitsInt id ids fits))

same_number : (a b : ℤ) → int_eq a b ≡ true → a ≡ b
same_number a b e = grind (arith, ints)

in_whole : (replicas : List ℤ) (id : ℤ) → AreBrokers replicas → is_in replicas id ≡ true → IsWhole id
in_whole [] id h is = absurd (cc)
in_whole (other ∷ replicas) id h is = by (int_eq id other) refl is (in_whole replicas id h.1)
  where
    by : (t : Bool) → int_eq id other ≡ t → t || is_in replicas id ≡ true → (is_in replicas id ≡ true → IsWhole id) → IsWhole id
    by true e k rest = subst IsWhole (sym (same_number id other e)) h.0
    by false e k rest = rest k

all_whole : (replicas ids : List ℤ) → AreBrokers replicas → list_all (is_in replicas) ids ≡ true → AreBrokers ids
all_whole replicas [] h is = tt
all_whole replicas (id ∷ ids) h is =
    let k = and_parts (is_in replicas id) (list_all (is_in replicas) ids) is in (in_whole replicas id h k.0, all_whole replicas ids h k.1)

leader_between : (replicas : List ℤ) (leader : ℤ) → AreBrokers replicas → may_lead replicas leader ≡ true → IsBetween (negsuc 1) (pos 2147483647) leader
leader_between replicas leader h is = by (int_eq leader (negsuc 0)) refl is
  where
    wider : IsWhole leader → IsBetween (negsuc 1) (pos 2147483647) leader
    wider k = (omega (arith, ints, k.0), k.1)

    none : leader ≡ negsuc 0 → IsBetween (negsuc 1) (pos 2147483647) leader
    none e = subst (IsBetween (negsuc 1) (pos 2147483647)) (sym e) (omega (arith, ints), omega (arith, ints))

    by : (t : Bool) → int_eq leader (negsuc 0) ≡ t → t || is_in replicas leader ≡ true → IsBetween (negsuc 1) (pos 2147483647) leader
    by true e k = none (same_number leader (negsuc 0) e)
    by false e k = wider (in_whole replicas leader h k)

module _ (p : PartitionEntry) (f : PartitionFacts p) where
  pub facts : RowFacts p.row
  facts = row_facts p.row f.legal.1

  pub brokers : AreBrokers p.row.replicas
  brokers = replicas_are p.row.replicas facts.brokers f.writable.brokers

  pub number_whole : IsWhole p.number
  number_whole = (holds_le (pos 0) p.number f.legal.0, f.writable.number)

  pub partition_is : readable.IsPartition (assignment_of p)
  partition_is = record { number_is = number_whole; brokers_are = brokers; replicas_are = facts.replicas; adding_are = facts.adding; removing_are = facts.removing }

  pub state_is : pos 0 ≤ℤ p.row.controller_epoch → IsState p.row.leader p.row.leader_epoch p.row.controller_epoch p.row.isr p.row.recovery
  state_is low = record {
    leader_is = leader_between p.row.replicas p.row.leader brokers facts.leader;
    leader_epoch_is = epoch_is_whole p.row.leader_epoch facts.leader_epoch;
    controller_epoch_is = (low, f.writable.epoch);
    isr_is = all_whole p.row.replicas p.row.isr brokers (and_parts (are_distinct p.row.isr) (list_all (is_in p.row.replicas) p.row.isr) facts.isr).1;
    recovery_is = recovery_between p.row.recovery facts.recovery;
  }

int_less : (a b : ℤ) → int_cmp a b ≡ Less → a <ℤ b
int_less a b e = int_ranked a b Less (sym e)

before : (n : ℤ) (ps : List PartitionEntry) → RisesAbove int_cmp number_of_partition n ps → IsBefore n (map assignment_of ps)
before n [] h = tt
before n (p ∷ ps) h = (int_less n p.number h.0, before n ps (rises_above_smaller int_order number_of_partition n p.number ps h.0 h.1))

pub assignments_in_order : (ps : List PartitionEntry) → Rises int_cmp number_of_partition ps → AreInOrder (map assignment_of ps)
assignments_in_order [] h = tt
assignments_in_order (p ∷ ps) h = (before p.number ps h, assignments_in_order ps (rest_rises int_order number_of_partition p ps h))

pub assignments_are : (ps : List PartitionEntry) → ((p : PartitionEntry) → Contains ps p → PartitionFacts p) → ArePartitions (map assignment_of ps)
assignments_are [] f = tt
assignments_are (p ∷ ps) f = (partition_is p (f p (Contains-head p ps)), assignments_are ps (λ q has. f q (Contains-tail p ps q has)))

-- ---- configurations

texts : (pairs : List Pair) → All IsMemberWritable pairs → AreTexts pairs
texts [] h = tt
texts (p ∷ ps) h = let k = All-head IsMemberWritable p ps h in (k.0, k.1, texts ps (All-tail IsMemberWritable p ps h))

below : (name : List ℕ) (pairs : List Pair) → RisesAbove bytes_cmp name_of_pair name pairs → IsBelow name pairs
below name [] h = tt
below name (p ∷ ps) h = (h.0, below name ps (rises_above_smaller bytes_order name_of_pair name p.name ps h.0 h.1))

pub rising : (pairs : List Pair) → Rises bytes_cmp name_of_pair pairs → AreRising pairs
rising [] h = tt
rising (p ∷ ps) h = (below p.name ps h, rising ps (rest_rises bytes_order name_of_pair p ps h))

pub configuration_is : (pairs : List Pair) → All IsMemberWritable pairs → Rises bytes_cmp name_of_pair pairs → IsConfiguration pairs
configuration_is pairs h rise = record { texts = texts pairs h; rising = rising pairs rise }
