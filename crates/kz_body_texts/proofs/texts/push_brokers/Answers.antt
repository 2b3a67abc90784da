use Rattle.std.proofs.Common.{◌++◌, ◌∷◌, [], map, string_bytes, false, arith, ap, sym, ◌∙◌}
use Rattle.std.proofs.lemmas.List.{drop_all}
use Rattle.serde_json.specs.View.{items_of}
use Rattle.serde_json.specs.Written.{items_text}
use Rattle.kz_spec_data.specs.Bodies.{whole_data}
use Rattle.kz_body_texts.proofs.TextLemmas.{added, closed}
use Rattle.kz_body_texts.proofs.texts.push_brokers.Goals as goal

pub loop-id-init : goal.loop-id-init
loop-id-init c = added (string_bytes c.args.text.now) (string_bytes c.push_sign.new.text) (91 ∷ []) (items_text false (items_of (map whole_data c.args.ids.now))) c.in_ok-push_sign.ensures

pub returns : goal.returns
returns c =
    closed c.push_sign-2.result (string_bytes c.push_sign-2.new.text) (string_bytes c.loop-id.text) (93 ∷ []) _ c.push_sign-2.ensures
    (ap (λ rest. string_bytes c.loop-id.text ++ items_text c.loop-id.later (items_of (map whole_data rest))) (sym (drop_all c.loop-id.id-index c.args.ids.now (omega arith))) ∙ c.loop-id.invariant)
