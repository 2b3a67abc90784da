use Rattle.std.proofs.Common.{◌++◌, ◌∷◌, [], string_bytes, false, arith, ap, sym, ◌∙◌}
use Rattle.std.proofs.lemmas.List.{drop_all}
use Rattle.json.specs.Print.{quoted}
use Rattle.serde_json.specs.Written.{comma_if, members_text}
use Rattle.kz_body_texts.specs.Texts.{texts_in_order}
use Rattle.kz_body_texts.proofs.ConfigLemmas.{pair_added}
use Rattle.kz_body_texts.proofs.TextLemmas.{added, closed}
use Rattle.kz_body_texts.proofs.pairs.push_pairs.Goals as goal

pub loop-pair-init : goal.loop-pair-init
loop-pair-init c = added (string_bytes c.args.text.now) (string_bytes c.push_sign.new.text) (123 ∷ []) (members_text false (texts_in_order c.args.pairs.now)) c.in_ok-push_sign.ensures

pub loop-pair-preserved : goal.loop-pair-preserved
loop-pair-preserved c =
    pair_added c.args.pairs.now c.pair-item.result c.loop-pair.pair-index (string_bytes c.loop-pair.text) (string_bytes c.push_name.new.text) (string_bytes c.push_quoted.new.text) _ c.loop-pair.later
    c.loop-pair-test.true c.pair-item.is
    (c.in_ok-push_name.ensures ∙ ap (λ name. string_bytes c.loop-pair.text ++ (comma_if c.loop-pair.later ++ (quoted name ++ 58 ∷ []))) c.as_str-name.ensures)
    (c.in_ok-push_quoted.ensures ∙ ap (λ value. string_bytes c.push_name.new.text ++ quoted value) c.as_str-value.ensures) c.loop-pair.invariant

pub returns : goal.returns
returns c =
    closed c.push_sign-2.result (string_bytes c.push_sign-2.new.text) (string_bytes c.loop-pair.text) (125 ∷ []) _ c.push_sign-2.ensures
    (ap (λ rest. string_bytes c.loop-pair.text ++ members_text c.loop-pair.later (texts_in_order rest)) (sym (drop_all c.loop-pair.pair-index c.args.pairs.now (omega arith))) ∙ c.loop-pair.invariant)
