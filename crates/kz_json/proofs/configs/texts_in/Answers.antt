use Rattle.std.proofs.Common.{◌∙◌, ◌++◌, ap}
use Rattle.std.specs.Prelude.{option_map}
use Rattle.std.specs.String.{string_bytes}
use Rattle.serde_json.specs.View.{view, members_view}
use Rattle.kz_spec_data.specs.Bodies.{texts_in}
use Rattle.kz_json.proofs.JsonLemmas.{next_text}
use Rattle.kz_json.proofs.configs.texts_in.Goals as goal

pub loop-name-preserved : goal.loop-name-preserved
loop-name-preserved c =
    next_text (texts_in (members_view c.args.members.now.entries)) c.loop-name.pairs c.push.new.self (string_bytes c.in-Some.name.now) c.in-Some-as_str.text.now
    (view c.in-Some.member.now) (members_view c.next.new.self) (record { name = c.in_ok-name.name; value = c.in_ok-value.value })
    (c.loop-name.invariant ∙ ap (λ es. option_map (λ m. c.loop-name.pairs ++ m) (texts_in (members_view es))) c.in-Some.ensures.steps)
    c.in-Some-as_str.ensures (λ i. record { name = (c.in_ok-name.ensures ∙ c.deref.ensures) i; value = c.in_ok-value.ensures i }) c.in_ok-push.ensures.ok
