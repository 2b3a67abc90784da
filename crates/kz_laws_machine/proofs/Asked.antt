-- The records that a controller may be asked for are plain.
use Rattle.std.proofs.Common.{◌≡◌, ℕ, ◌+◌, pos, Bool, true, false, if◌then◌else◌, List, [], ◌∷◌, Option, Some, None, All, refl}
use Rattle.std.proofs.lemmas.List.Elements.{All-nil, All-cons}
use Rattle.kz_types.specs.declared.image_fault.ImageRule.{ImageRule}
use Rattle.kz_types.specs.declared.image_fault.ImageRule.TheVariants.{NotAllowed}
use Rattle.kz_types.specs.declared.record.MetaRecord.{MetaRecord}
use Rattle.kz_types.specs.declared.record.MetaRecord.TheVariants as meta
use Rattle.kz_spec_data.specs.ImageRules.{is_kept_back}
use Rattle.kz_spec_data.specs.Image.{Image, image_with, broken_rule, rule_against, Bad, unless_bad, first_bad}
use Rattle.kz_laws_machine.specs.LogLaws.{IsPlain}

not_kept_back : (b : Bool) (rest : Option ImageRule) → (if b then Some NotAllowed else rest) ≡ None → b ≡ false
not_kept_back true rest none = absurd (cc)
not_kept_back false rest none = refl

-- what isn't kept back is plain
others_plain : (r : MetaRecord) → is_kept_back r ≡ false → IsPlain r
others_plain meta.EndTransaction is = absurd (cc)
others_plain (meta.ZkMigrationState s) is = absurd (cc)
others_plain r is = tt

neither_bad : (index : ℕ) (why : Option ImageRule) (rest : Option Bad) → unless_bad index why rest ≡ None → (why ≡ None) × (rest ≡ None)
neither_bad index None rest none = (refl, none)
neither_bad index (Some why) rest none = absurd (cc)

-- what is true of each record that isn't kept back is true of all records of which none breaks a rule
pub asked_all : (P : MetaRecord → Type 0) → ((r : MetaRecord) → is_kept_back r ≡ false → P r) → (index : ℕ) (records : List MetaRecord) (i : Image) → first_bad index records i ≡ None → All P records
asked_all P each index [] i none = All-nil P
asked_all P each index (r ∷ rs) i none =
    let both = neither_bad index (rule_against i r) (first_bad (index + 1) rs (image_with (pos 0) r i)) none in
    All-cons P r rs (each r (not_kept_back (is_kept_back r) (broken_rule i r) both.0)) (asked_all P each (index + 1) rs (image_with (pos 0) r i) both.1)

-- records of which none breaks a rule are plain
pub asked_plain : (index : ℕ) (records : List MetaRecord) (i : Image) → first_bad index records i ≡ None → All IsPlain records
asked_plain index records i none = asked_all IsPlain others_plain index records i none
