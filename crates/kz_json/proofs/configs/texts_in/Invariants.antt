use Rattle.std.proofs.Common.{◌≡◌, ◌++◌}
use Rattle.std.specs.Prelude.{option_map}
use Rattle.serde_json.specs.View.{members_view}
use Rattle.kz_spec_data.specs.Bodies.{texts_in}
use Rattle.kz_json.proofs.configs.texts_in.Given as goal

abbrev pub invariant-loop-name : goal.invariant-loop-name
invariant-loop-name l = texts_in (members_view l.members.entries) ≡ option_map (λ more. l.pairs ++ more) (texts_in (members_view l.name-iterator))
