use Rattle.std.proofs.Common.{◌++◌, ◌∙◌, ap, refl, codes, string_bytes}
use Rattle.serde_json.specs.Data.{object, no_members}
use Rattle.serde_json.specs.View.{members_view}
use Rattle.serde_json.specs.Written.{compact_text, members_have_float}
use Rattle.kz_body_texts.proofs.TextLemmas.{added, closed}
use Rattle.kz_body_texts.proofs.WrittenLemmas.{removing_no_float}
use Rattle.kz_body_texts.proofs.written.push_removing.Goals as goal

pub push_object-requires : goal.push_object-requires
push_object-requires c = ap members_have_float c.in_ok-members.ensures ∙ removing_no_float no_members c.args.rows.now refl

pub returns : goal.returns
returns c =
    let before = codes ",\"removing_replicas\":" in
    let written = compact_text (object (members_view c.in_ok-members.members.entries)) in
    closed c.push_object.result (string_bytes c.push_object.new.text) (string_bytes c.push_str.new.self) written _ c.push_object.ensures
    (added (string_bytes c.args.text.now) (string_bytes c.push_str.new.self) before written c.in_ok-push_str.ensures.bytes
    ∙ ap (λ ms. string_bytes c.args.text.now ++ (before ++ compact_text (object ms))) c.in_ok-members.ensures)
