-- What an append says.
use Rattle.std.specs.Prelude.{◌≡◌, ℤ, Result, Ok, Err}
use Rattle.kz_types.specs.declared.fault.LogFault.{LogFault}
use Rattle.kz_spec_data.specs.Log.{Log, end_of}

-- the last offset of the log that it makes, or its fault
abbrev pub IsAppendAnswer : Result Log LogFault → Result ℤ LogFault → Type 0
IsAppendAnswer r (Ok end) = (l : Log) × (r ≡ Ok l) × (end ≡ end_of l)
IsAppendAnswer r (Err f) = r ≡ Err f

-- the log after an append
abbrev pub log_after : Result Log LogFault → Log → Log
log_after (Ok new) l = new
log_after (Err f) l = l
