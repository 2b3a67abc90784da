use Rattle.std.proofs.Common.{◌++◌, ◌∷◌, [], ◌∙◌, ap, sym, string_bytes}
use Rattle.kz_body_texts.proofs.Plain.{plain_text}
use Rattle.kz_body_texts.proofs.TextLemmas.{thrice_added}
use Rattle.kz_body_texts.proofs.pairs.push_plain.Goals as goal

pub returns : goal.returns
returns c =
    thrice_added (string_bytes c.args.text.now) (string_bytes c.push_sign.new.text) (string_bytes c.push_str.new.self) (string_bytes c.push_str-2.new.self) (34 ∷ []) c.args.value.now (34 ∷ [])
    c.in_ok-push_sign.ensures c.in_ok-push_str.ensures.bytes c.in_ok-push_str-2.ensures.bytes
    ∙ ap (λ l. string_bytes c.args.text.now ++ 34 ∷ (l ++ 34 ∷ [])) (sym (plain_text c.args.value.now c.requires))
