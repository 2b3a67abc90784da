use Rattle.std.proofs.Common.{◌≡◌, map, take}
use Rattle.serde_json.specs.View.{view}
use Rattle.kz_spec_data.specs.Bodies.{acl_data}
use Rattle.kz_body_texts.proofs.written.rows_value.Given as goal

abbrev pub invariant-loop-row : goal.invariant-loop-row
invariant-loop-row l = map view l.values.items ≡ map acl_data (take l.row-index l.rows)
