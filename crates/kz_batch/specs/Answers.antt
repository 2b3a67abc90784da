-- What calls on batches answer, against what reading says.
use Rattle.std.specs.Prelude.{◌≡◌, ℕ, List, [], map, Bool, Option, Result, Ok, Err, is_ok, true}
use Rattle.kz_types.specs.declared.record.BatchFault.{BatchFault}
use Rattle.kz_spec_data.specs.Fields.{Reading}
use Rattle.kz_spec_data.specs.Forms.{items_at}
use Rattle.kz_spec_data.specs.Batches.{Content, entry, value_of}

-- What a call answers is what reading says, and the reader stands after it.
abbrev pub Says : {X Y : Type 0} → (X → Y) → Result X BatchFault → Reading → Result (Y × Reading) BatchFault → Type 0
Says view (Ok x) new said = said ≡ Ok (view x, new)
Says view (Err e) new said = said ≡ Err e

-- The same for an answer that keeps a part of what is read.
abbrev pub Finds : {X Y : Type 0} → (X → Y → Type 0) → Result X BatchFault → Reading → Result (Y × Reading) BatchFault → Type 0
Finds {X} {Y} part (Ok x) new said = (y : Y) × part x y × (said ≡ Ok (y, new))
Finds part (Err e) new said = said ≡ Err e

-- the values of so many records
abbrev pub values_read : Result (List Content × Reading) BatchFault → List (List ℕ)
values_read (Ok x) = map value_of x.0
values_read (Err e) = []

abbrev pub values_in : ℕ → Reading → List (List ℕ)
values_in count r = values_read (items_at entry.read count r)

-- So many records stand at a place, and their values are these.
abbrev pub HasValues : ℕ → Result (List (List ℕ)) BatchFault → Reading → Type 0
HasValues count values r = (is_ok (items_at entry.read count r) ≡ true) × (values ≡ Ok (values_in count r))
