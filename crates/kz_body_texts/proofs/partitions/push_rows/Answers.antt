use Rattle.std.proofs.Common.{◌++◌, ◌∷◌, [], string_bytes, false, arith, rules, ap, sym, ◌∙◌}
use Rattle.std.proofs.lemmas.List.{drop_all}
use Rattle.serde_json.specs.Written.{compact_text, members_text}
use Rattle.kz_spec_data.specs.Bodies.{brokers_data}
use Rattle.kz_body_texts.specs.Texts.{in_order}
use Rattle.kz_body_texts.proofs.TextLemmas.{added, closed}
use Rattle.kz_body_texts.proofs.TopicLemmas.{row_added}
use Rattle.kz_body_texts.proofs.partitions.push_rows.Goals as goal

pub loop-row-init : goal.loop-row-init
loop-row-init c = added (string_bytes c.args.text.now) (string_bytes c.push_sign.new.text) (123 ∷ []) (members_text false (in_order c.args.rows.now)) c.in_ok-push_sign.ensures

pub loop-row-preserved : goal.loop-row-preserved
loop-row-preserved c =
    row_added c.args.rows.now c.row-item.result c.loop-row.row-index (string_bytes c.loop-row.text) (string_bytes c.push_name.new.text) (string_bytes c.push_brokers.new.text) _ c.loop-row.later
    c.loop-row-test.true c.row-item.is (search (rules, c.in_ok-push_name.ensures))
    (c.in_ok-push_brokers.ensures ∙ ap (λ ids. string_bytes c.push_name.new.text ++ compact_text (brokers_data ids)) c.as_slice.ensures) c.loop-row.invariant

pub returns : goal.returns
returns c =
    closed c.push_sign-2.result (string_bytes c.push_sign-2.new.text) (string_bytes c.loop-row.text) (125 ∷ []) _ c.push_sign-2.ensures
    (ap (λ rest. string_bytes c.loop-row.text ++ members_text c.loop-row.later (in_order rest)) (sym (drop_all c.loop-row.row-index c.args.rows.now (omega arith))) ∙ c.loop-row.invariant)
