-- That a log is one has one proof at most, so it may be a ghost field.
use Rattle.std.specs.Prelude.{ℤ, pos, List, [], ◌∷◌, refl}
use Rattle.std.specs.Coded.{Coded, Coded-set, code_by}
use Rattle.std.proofs.Props.{props}
use Rattle.kz_types.specs.declared.log.BatchRow.{BatchRow}
use Rattle.kz_spec_data.specs.Image.{Image}
use Rattle.kz_spec_data.specs.Log.{Log, IsLog, Follow, EpochsNeverFall, empty_log, last_of}

Follow-prop : (from : ℤ) (bs : List BatchRow) → IsProp (Follow from bs)
Follow-prop from [] = Prim.hlevel props
Follow-prop from (b ∷ bs) = Prim.hlevel (Follow-prop (last_of b) bs, props)

EpochsNeverFall-prop : (least most : ℤ) (bs : List BatchRow) → IsProp (EpochsNeverFall least most bs)
EpochsNeverFall-prop least most [] = Prim.hlevel props
EpochsNeverFall-prop least most (b ∷ bs) = Prim.hlevel (EpochsNeverFall-prop b.epoch most bs, props)

image_code : Coded Log → Coded Image
image_code c = code_by Log c (λ i. record empty_log { base_image = i }) (λ l. l.base_image) (λ i. refl)

pub IsLog-prop : Coded Log → (l : Log) → IsProp (IsLog l)
IsLog-prop c l = Prim.hlevel (Follow-prop l.base l.batches, EpochsNeverFall-prop (pos 1) l.epoch l.batches, Coded-set (image_code c), props)
