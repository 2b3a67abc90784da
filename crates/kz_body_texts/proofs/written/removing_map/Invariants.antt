use Rattle.std.proofs.Common.{◌≡◌, drop}
use Rattle.serde_json.specs.View.{members_view}
use Rattle.serde_json.specs.Data.{no_members}
use Rattle.kz_spec_data.specs.Bodies.{removing_members}
use Rattle.kz_body_texts.proofs.written.removing_map.Given as goal

abbrev pub invariant-loop-row : goal.invariant-loop-row
invariant-loop-row l = removing_members (members_view l.members.entries) (drop l.row-index l.rows) ≡ removing_members no_members l.rows
