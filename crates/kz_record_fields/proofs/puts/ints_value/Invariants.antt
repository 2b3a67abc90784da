use Rattle.std.proofs.Common.{◌≡◌, map, take}
use Rattle.serde_json.specs.View.{view}
use Rattle.kz_spec_data.specs.Members.{whole_data}
use Rattle.kz_record_fields.proofs.puts.ints_value.Given as goal

abbrev pub invariant-loop-number : goal.invariant-loop-number
invariant-loop-number l = map view l.values.items ≡ map whole_data (take l.number-index l.numbers)
