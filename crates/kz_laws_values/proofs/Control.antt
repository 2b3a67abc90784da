-- What is written for a control znode is read as it was.
use Rattle.std.proofs.Common.{◌≡◌, ◌≤◌, ℕ, ℤ, pos, negsuc, Bool, true, Some, None, Ok, cond, ◌&&◌, nat_le, decimal, refl, ap, ◌∙◌, arith, rules, le-leb}
use Rattle.std.specs.Prelude.{◌≤ℤ◌, codes}
use Rattle.std.specs.Str.{bytes_eq, all_ascii_digits}
use Rattle.std.specs.Str.Parse.{digits_value}
use Rattle.std.proofs.lemmas.Int.{ints}
use Rattle.std.proofs.lemmas.Fmt.{digits_value-decimal}
use Rattle.std.proofs.lemmas.Str.Parse.{IsNumeralModel, numerals_by_value}
use Rattle.std.proofs.lemmas.Slice.Eq.{bytes_eq-Decides}
use Rattle.json.specs.Tree.{HasNumbers}
use Rattle.json.proofs.Printed.Utf8.{IsUtf8-are_ascii}
use Rattle.serde_json.specs.Read.{of_json}
use Rattle.serde_json.specs.Written.{outline}
use Rattle.kz_types.specs.Numbers.{canonical}
use Rattle.kz_types.specs.declared.machine.Recorded.{Recorded}
use Rattle.kz_spec_data.specs.Bodies.{greatest}
use Rattle.kz_spec_data.specs.Control.{written_control, control_data, shown_epoch, shown_in, written_recorded, recorded_data, read_recorded, recorded_or_fault, recorded_in, written_epoch, read_epoch}
use Rattle.kz_laws_values.specs.Ranges.{IsBetween, IsLong, IsEpoch, IsRecorded}
use Rattle.kz_laws_values.proofs.ReadsBack.{HasUtf8, json_of_compact, decimal_is_utf8, whole_is_utf8, signed_is_utf8, whole_is_number, whole_reads, whole_in_range}

long_epoch : (z : ℤ) → IsEpoch z → IsLong z
long_epoch z b = (omega (arith, ints, b.0), omega (arith, ints, b.1))

long_epoch_or_none : (z : ℤ) → IsBetween (negsuc 0) (pos 2147483647) z → IsLong z
long_epoch_or_none z b = (omega (arith, ints, b.0), omega (arith, ints, b.1))

long_offset : (z : ℤ) → IsBetween (negsuc 0) (pos 9223372036854775807) z → IsLong z
long_offset z b = (omega (arith, ints, b.0), omega (arith, ints, b.1))

-- ---- /migration

recorded_texts : (r : Recorded) → IsRecorded r → HasUtf8 (recorded_data r)
recorded_texts r h = (
  IsUtf8-are_ascii (codes "kraft_controller_epoch") refl,
  whole_is_utf8 r.controller_epoch (long_epoch r.controller_epoch h.controller_epoch),
  (
    IsUtf8-are_ascii (codes "kraft_controller_id") refl,
    whole_is_utf8 r.id (long_epoch r.id h.id),
    (
      IsUtf8-are_ascii (codes "kraft_metadata_epoch") refl,
      whole_is_utf8 r.epoch (long_epoch_or_none r.epoch h.epoch),
      (
        IsUtf8-are_ascii (codes "kraft_metadata_offset") refl,
        whole_is_utf8 r.offset (long_offset r.offset h.offset),
        (IsUtf8-are_ascii (codes "version") refl, decimal_is_utf8 0 (omega arith), tt),
      ),
    ),
  ),
)

recorded_numbers : (r : Recorded) → IsRecorded r → HasNumbers (outline (recorded_data r))
recorded_numbers r h = (
  whole_is_number r.controller_epoch (long_epoch r.controller_epoch h.controller_epoch),
  (
    whole_is_number r.id (long_epoch r.id h.id),
    (
      whole_is_number r.epoch (long_epoch_or_none r.epoch h.epoch),
      (
        whole_is_number r.offset (long_offset r.offset h.offset),
        (whole_is_number (pos 0) (omega (arith, ints), omega (arith, ints)), tt),
      ),
    ),
  ),
)

recorded_same : (r : Recorded) → IsRecorded r → of_json (outline (recorded_data r)) ≡ Some (recorded_data r)
recorded_same r h =
    rw (
      whole_reads r.controller_epoch (long_epoch r.controller_epoch h.controller_epoch),
      whole_reads r.id (long_epoch r.id h.id),
      whole_reads r.epoch (long_epoch_or_none r.epoch h.epoch),
      whole_reads r.offset (long_offset r.offset h.offset),
      whole_reads (pos 0) (omega (arith, ints), omega (arith, ints)),
    ) refl

recorded_fields : (r : Recorded) → IsRecorded r → recorded_in (recorded_data r) ≡ Ok r
recorded_fields r h =
    rw (
      whole_in_range (pos 0) greatest r.controller_epoch (long_epoch r.controller_epoch h.controller_epoch) h.controller_epoch.0 h.controller_epoch.1,
      whole_in_range (pos 0) greatest r.id (long_epoch r.id h.id) h.id.0 h.id.1,
      whole_in_range (negsuc 0) greatest r.epoch (long_epoch_or_none r.epoch h.epoch) h.epoch.0 h.epoch.1,
      whole_in_range (negsuc 0) (pos 9223372036854775807) r.offset (long_offset r.offset h.offset) h.offset.0 h.offset.1,
    ) refl

pub recorded_is_read : (r : Recorded) → IsRecorded r → read_recorded (written_recorded r) ≡ Ok r
unfolding read_recorded written_recorded
recorded_is_read r h =
    ap recorded_or_fault (json_of_compact (recorded_data r) (recorded_texts r h) (recorded_numbers r h) (omega arith) (recorded_same r h)) ∙ recorded_fields r h

-- ---- /controller

-- what a controller of this id and epoch writes at this time
pub record IsWritten (id epoch now : ℤ) : Type 0 where
  pub id_is : IsLong id
  pub epoch_is : IsEpoch epoch
  pub now_is : IsLong now

control_texts : (id epoch now : ℤ) → IsWritten id epoch now → HasUtf8 (control_data id epoch now)
control_texts id epoch now h = (
  IsUtf8-are_ascii (codes "brokerid") refl,
  whole_is_utf8 id h.id_is,
  (
    IsUtf8-are_ascii (codes "kraftControllerEpoch") refl,
    whole_is_utf8 epoch (long_epoch epoch h.epoch_is),
    (
      IsUtf8-are_ascii (codes "timestamp") refl,
      signed_is_utf8 now h.now_is,
      (IsUtf8-are_ascii (codes "version") refl, decimal_is_utf8 2 (omega arith), tt),
    ),
  ),
)

control_numbers : (id epoch now : ℤ) → IsWritten id epoch now → HasNumbers (outline (control_data id epoch now))
control_numbers id epoch now h = (
  whole_is_number id h.id_is,
  (
    whole_is_number epoch (long_epoch epoch h.epoch_is),
    (
      tt,
      (whole_is_number (pos 2) (omega (arith, ints), omega (arith, ints)), tt),
    ),
  ),
)

control_same : (id epoch now : ℤ) → IsWritten id epoch now → of_json (outline (control_data id epoch now)) ≡ Some (control_data id epoch now)
control_same id epoch now h =
    rw (whole_reads id h.id_is, whole_reads epoch (long_epoch epoch h.epoch_is), whole_reads (pos 2) (omega (arith, ints), omega (arith, ints))) refl

pub control_is_read : (id epoch now : ℤ) → IsWritten id epoch now → shown_epoch (written_control id epoch now) ≡ Some epoch
unfolding shown_epoch written_control
control_is_read id epoch now h =
    ap shown_in (json_of_compact (control_data id epoch now) (control_texts id epoch now h) (control_numbers id epoch now h) (omega arith) (control_same id epoch now h))
    ∙ whole_in_range (pos 0) greatest epoch (long_epoch epoch h.epoch_is) h.epoch_is.0 h.epoch_is.1

-- ---- /controller_epoch

own : IsNumeralModel (λ ds. all_ascii_digits ds ≡ true) (digits_value 10)
own = numerals_by_value _ (search rules)

both_true : (a b : Bool) (n : ℕ) → a ≡ true → b ≡ true → cond (a && b) (Some n) None ≡ Some n
both_true a b n h k = rw (h, k) refl

canonical_decimal : (n : ℕ) → n ≤ 2147483647 → canonical (decimal n) ≡ Some n
unfolding canonical
canonical_decimal n h =
    let e : digits_value 10 (decimal n) ≡ n = digits_value-decimal own n (omega arith) in
    rw e (both_true (bytes_eq (decimal n) (decimal n)) (nat_le n 2147483647) n ((bytes_eq-Decides (decimal n) (decimal n)).1 refl) (le-leb n 2147483647 h))

at_most : (n : ℕ) → pos n ≤ℤ pos 2147483647 → n ≤ 2147483647
at_most n h = omega (arith, ints)

pub epoch_is_read : (e : ℤ) → IsEpoch e → read_epoch (written_epoch e) ≡ Ok e
epoch_is_read (pos n) h = rw (canonical_decimal n (at_most n h.1)) refl
epoch_is_read (negsuc n) h = absurd (omega (arith, ints, h.0))
