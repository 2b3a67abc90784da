-- How a run tells how it ended.
use Rattle.std.specs.Prelude.{ℕ, ◌+◌, ◌-◌, ◌/◌, ◌%◌, nat_lt, List, [], ◌∷◌, ◌++◌, codes, decimal, if◌then◌else◌}
use Rattle.std.specs.Int.{w32, to_be_bytes}
use Rattle.std.specs.List.{flat_map}
use Rattle.kz_types.specs.declared.fault.LogWhy.{LogWhy}
use Rattle.kz_types.specs.declared.fault.LogWhy.TheVariants as why
use Rattle.kz_types.specs.declared.record.BatchFault.{BatchFault}
use Rattle.kz_types.specs.declared.record.BatchFault.TheVariants.{BadCrc}
use Rattle.kz_types.specs.declared.outside.Status.{Status}
use Rattle.kz_types.specs.declared.outside.Status.TheVariants as status
use Rattle.kz_spec_data.specs.Replies.{word_and_text, numbers}

-- the exit code of the process
abbrev pub status_code : Status → ℕ
status_code status.Done = 0
status_code status.Usage = 1
status_code (status.Script line) = 2
status_code status.ReadFault = 3
status_code status.WriteFault = 4
status_code status.TreeFault = 5
status_code status.LogFault = 6
status_code (status.TreeDamaged at) = 7
status_code (status.LogDamaged at why) = 8
status_code (status.Disagrees path) = 9
status_code status.NoMemory = 10
status_code (status.Limit which number) = 11
status_code status.NotEmpty = 12
status_code (status.NoOffset base end) = 13

-- ---- why a log's file is damaged

abbrev pub hex_digit : ℕ → ℕ
hex_digit n = if nat_lt n 10 then 48 + n else 97 + (n - 10)

abbrev pub hex_byte : ℕ → List ℕ
hex_byte b = hex_digit (b / 16) ∷ hex_digit (b % 16) ∷ []

-- a sum, as eight lower-case hexadecimal digits
abbrev pub hex_sum : ℕ → List ℕ
hex_sum sum = flat_map hex_byte (to_be_bytes w32 sum)

abbrev pub batch_fault_text : BatchFault → List ℕ
batch_fault_text (BadCrc stored computed) = codes "crc " ++ (hex_sum stored ++ (codes " " ++ hex_sum computed))
batch_fault_text other = codes "batch"

abbrev pub log_why_text : LogWhy → List ℕ
log_why_text why.Header = codes "header"
log_why_text why.Malformed = codes "malformed"
log_why_text (why.Batch fault) = batch_fault_text fault
log_why_text (why.Value fault) = codes "value"
log_why_text why.Sequence = codes "sequence"
log_why_text why.Sum = codes "sum"

-- the text on standard error, without the line's end; a run that is done has none
abbrev pub status_text : Status → List ℕ
status_text status.Done = []
status_text status.Usage = codes "usage"
status_text (status.Script line) = codes "script line " ++ decimal line
status_text status.ReadFault = codes "read fault"
status_text status.WriteFault = codes "write fault"
status_text status.TreeFault = codes "tree fault"
status_text status.LogFault = codes "log fault"
status_text (status.TreeDamaged at) = codes "tree damaged at " ++ decimal at
status_text (status.LogDamaged at why) = codes "log damaged at " ++ (decimal at ++ (codes " " ++ log_why_text why))
status_text (status.Disagrees path) = word_and_text (codes "disagrees") path
status_text status.NoMemory = codes "no memory"
status_text (status.Limit which number) = codes "limit " ++ decimal which
status_text status.NotEmpty = codes "not empty"
status_text (status.NoOffset base end) = numbers (codes "no offset") base end
