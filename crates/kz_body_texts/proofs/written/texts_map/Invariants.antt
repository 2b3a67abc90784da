use Rattle.std.proofs.Common.{◌≡◌, drop}
use Rattle.serde_json.specs.View.{members_view}
use Rattle.serde_json.specs.Data.{no_members}
use Rattle.kz_spec_data.specs.Bodies.{with_texts}
use Rattle.kz_body_texts.proofs.written.texts_map.Given as goal

abbrev pub invariant-loop-pair : goal.invariant-loop-pair
invariant-loop-pair l = with_texts (members_view l.members.entries) (drop l.pair-index l.pairs) ≡ with_texts no_members l.pairs
