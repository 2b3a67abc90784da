use Rattle.std.proofs.Common.{◌≡◌, drop}
use Rattle.serde_json.specs.View.{members_view}
use Rattle.serde_json.specs.Data.{no_members}
use Rattle.kz_spec_data.specs.Bodies.{replicas_members}
use Rattle.kz_body_texts.proofs.written.replicas_map.Given as goal

abbrev pub invariant-loop-row : goal.invariant-loop-row
invariant-loop-row l = replicas_members (members_view l.members.entries) (drop l.row-index l.rows) ≡ replicas_members no_members l.rows
