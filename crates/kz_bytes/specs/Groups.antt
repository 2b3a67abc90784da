-- How numbers of variable size are read and written, group by group.
use Rattle.std.specs.Prelude.{◌≡◌, ℕ, zero, suc, ◌*◌, List, Result, Ok, Err}
use Rattle.kz_types.specs.declared.record.ByteFault.{ByteFault}
use Rattle.kz_spec_data.specs.Fields.{Reading}

-- what a number of so many groups from 128 on and a last one below `last` stays below
unfoldable pub limit : ℕ → ℕ → ℕ
limit zero last = last
limit (suc more) last = 128 * limit more last

-- A number that was read, the place after it and the bytes from there on; or the fault.
abbrev pub Says : Result (ℕ × (ℕ × List ℕ)) ByteFault → Result (ℕ × Reading) ByteFault → Type 0
Says (Ok x) read = read ≡ Ok (x.0, record { at = x.1.0; left = x.1.1 })
Says (Err e) read = read ≡ Err e
