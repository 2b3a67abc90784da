use Rattle.std.proofs.Common.{◌≡◌, map, take}
use Rattle.serde_json.specs.View.{view}
use Rattle.kz_spec_data.specs.Members.{whole_data}
use Rattle.kz_dump.proofs.lines.session_values.Given as goal

abbrev pub invariant-loop-session : goal.invariant-loop-session
invariant-loop-session l = map view l.values.items ≡ map whole_data (take l.session-index l.sessions)
