-- What a record has that breaks no rule.
use Rattle.std.proofs.Common.{◌≡◌, Bool, true, false, not, ◌&&◌, ◌||◌, ℤ, pos, negsuc, arith, [], ◌∷◌, Option, Some, None, refl}
use Rattle.std.specs.Prelude.{is_some, int_le, int_lt}
use Rattle.std.proofs.lemmas.Bool.Decides.{nat_tests}
use Rattle.kz_types.specs.declared.row.PartitionRow.{PartitionRow}
use Rattle.kz_types.specs.declared.image_fault.ImageRule.TheVariants.{Exists, Absent, BadName, BadValue}
use Rattle.kz_types.specs.declared.record.MetaRecord.{MetaRecord}
use Rattle.kz_types.specs.declared.record.MetaRecord.TheVariants as meta
use Rattle.kz_types.specs.declared.record.ClientQuotaRecord.{ClientQuotaRecord}
use Rattle.kz_types.specs.declared.record.PartitionChangeRecord.{PartitionChangeRecord}
use Rattle.kz_types.proofs.PathRules.{both_hold}
use Rattle.kz_spec_data.specs.Metadata.{Image, partition_of}
use Rattle.kz_spec_data.specs.ImageRules.{is_misnamed, lacks, repeats, is_misvalued, first_broken, broken_rule, is_assigned, is_recovery, is_epoch, is_row, leaves_row, quota_key, has_quota}

none_broken : (misnamed lacking repeated misvalued : Bool) → first_broken ((misnamed, BadName) ∷ (lacking, Absent) ∷ (repeated, Exists) ∷ (misvalued, BadValue) ∷ []) ≡ None → (misnamed ≡ false) × (repeated ≡ false) × (misvalued ≡ false)
none_broken true lacking repeated misvalued e = cc
none_broken false true repeated misvalued e = cc
none_broken false false true misvalued e = cc
none_broken false false false true e = cc
none_broken false false false false e = (refl, refl, refl)

-- it names nothing that can't be, makes nothing that is there, and has no value that it can't have
pub unbroken : (i : Image) (r : MetaRecord) → broken_rule i r ≡ None → (is_misnamed r ≡ false) × (repeats i r ≡ false) × (is_misvalued i r ≡ false)
unfolding broken_rule
unbroken i r e = none_broken (is_misnamed r) (lacks i r) (repeats i r) (is_misvalued i r) e

-- ---- tests

pub holds_by : (b : Bool) → not b ≡ false → b ≡ true
holds_by true e = refl
holds_by false e = cc

pub neither_holds : (a b : Bool) → a || b ≡ false → (a ≡ false) × (b ≡ false)
neither_holds true b e = cc
neither_holds false b e = (refl, e)

pub absent_by : {A : Type 0} (found : Option A) → is_some found ≡ false → found ≡ None
absent_by None e = refl
absent_by (Some a) e = cc

pub not_less : (a b : ℤ) → int_lt a b ≡ false → int_le b a ≡ true
not_less (pos a) (pos b) e = grind (arith, nat_tests)
not_less (pos a) (negsuc b) e = cc
not_less (negsuc a) (pos b) e = cc
not_less (negsuc a) (negsuc b) e = grind (arith, nat_tests)

-- ---- what some records have

pub quota_unbroken : (i : Image) (r : ClientQuotaRecord) → broken_rule i (meta.ClientQuota r) ≡ None → has_quota (quota_key r.entity) r.key ≡ true
quota_unbroken i r e = holds_by (has_quota (quota_key r.entity) r.key) (unbroken i (meta.ClientQuota r) e).0

pub change_unbroken : (i : Image) (r : PartitionChangeRecord) → broken_rule i (meta.PartitionChange r) ≡ None → leaves_row r (partition_of r.topic_id r.partition_id i) ≡ true
change_unbroken i r e = holds_by (leaves_row r (partition_of r.topic_id r.partition_id i)) (unbroken i (meta.PartitionChange r) e).2

-- the epochs of a partition
pub row_epochs : (row : PartitionRow) → is_row row ≡ true → (is_epoch row.leader_epoch ≡ true) × (is_epoch row.partition_epoch ≡ true)
row_epochs row h =
    let last = both_hold (is_assigned row && is_recovery row.recovery && is_epoch row.leader_epoch) (is_epoch row.partition_epoch) h in
    ((both_hold (is_assigned row && is_recovery row.recovery) (is_epoch row.leader_epoch) last.0).1, last.1)

none_lacking : (misnamed lacking repeated misvalued : Bool) → first_broken ((misnamed, BadName) ∷ (lacking, Absent) ∷ (repeated, Exists) ∷ (misvalued, BadValue) ∷ []) ≡ None → lacking ≡ false
none_lacking true lacking repeated misvalued e = cc
none_lacking false true repeated misvalued e = cc
none_lacking false false repeated misvalued e = refl

-- it speaks of nothing that isn't there
pub lacks_none : (i : Image) (r : MetaRecord) → broken_rule i r ≡ None → lacks i r ≡ false
unfolding broken_rule
lacks_none i r e = none_lacking (is_misnamed r) (lacks i r) (repeats i r) (is_misvalued i r) e
