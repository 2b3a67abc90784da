use Rattle.std.proofs.Common.{◌≡◌, ◌++◌, drop}
use Rattle.std.specs.Prelude.{option_map}
use Rattle.serde_json.specs.View.{items_view}
use Rattle.kz_spec_data.specs.LineFields.{int32, all_of}
use Rattle.kz_record_fields.proofs.fields.ints_in.Given as goal

abbrev pub invariant-loop-value : goal.invariant-loop-value
invariant-loop-value l = all_of int32 (items_view l.values) ≡ option_map (λ more. l.ints ++ more) (all_of int32 (items_view (drop l.value-index l.values)))
