-- The records of the next batch are the first ones.
use Rattle.std.proofs.Common.{◌≡◌, ℕ, ◌<◌, List, [], ◌∷◌, length, take, min, arith}
use Rattle.std.proofs.lemmas.Grind.{common_steps}
use Rattle.kz_types.specs.declared.limits.TheConstants.{MAX_APPEND_RECORDS}
use Rattle.kz_types.specs.declared.record.MetaRecord.{MetaRecord}
use Rattle.kz_spec_machine.specs.Driver.{next_records}

as_many : (rs : List MetaRecord) (most : ℕ) → take (min (length rs) most) rs ≡ take most rs
as_many rs most = grind (arith, common_steps)

pub first_batch : (rs : List MetaRecord) → 0 < length rs → take (min (length rs) MAX_APPEND_RECORDS) rs ≡ next_records rs
first_batch [] some = absurd (omega arith)
first_batch (r ∷ rs) some = as_many (r ∷ rs) MAX_APPEND_RECORDS
