-- Outcomes, as the code holds them.
use Rattle.std.specs.Prelude.{option_map, string_bytes}
use Rattle.kz_cases.specs.declared.judged.Judged.{Judged}
use Rattle.kz_cases.specs.Tables.{Outcome}

abbrev pub outcome_of : Judged → Outcome
outcome_of j = record { expected = j.expected.items; came = option_map string_bytes j.came }
