use Rattle.std.proofs.Common.{◌≡◌, ◌++◌, drop}
use Rattle.std.specs.Prelude.{option_map}
use Rattle.serde_json.specs.View.{items_view}
use Rattle.kz_spec_data.specs.Bodies.{entries_in}
use Rattle.kz_json.proofs.acls.entries_in.Given as goal

abbrev pub invariant-loop-value : goal.invariant-loop-value
invariant-loop-value l = entries_in l.resource.pattern l.resource.kind l.resource.name.now (items_view l.values) ≡ option_map (λ more. l.rows ++ more) (entries_in l.resource.pattern l.resource.kind l.resource.name.now (items_view (drop l.value-index l.values)))
