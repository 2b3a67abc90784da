use Rattle.std.proofs.Common.{drop, sym, ap, ◌∙◌, subst}
use Rattle.std.specs.Str.{IsValidUpTo}
use Rattle.std.specs.Str.Lossy.{utf8_error_len}
use Rattle.kz_types.proofs.TextPlaces.{whole_text, end_place, lead_place, other_place}
use Rattle.kz_types.proofs.path_rule.text_place.Goals as goal

pub returns-in-Ok : goal.returns-in-Ok
returns-in-Ok c = whole_text c.args.bytes.now c.in-Ok.ensures.cases.1

pub returns-in-None : goal.returns-in-None
returns-in-None c = end_place c.args.bytes.now c.in-Err.error.valid_up_to c.in-Err.ensures.cases.1 (sym c.in-Err.ensures.fault ∙ sym c.error_len.ensures ∙ c.in-None.is)

pub returns-then-begins_character : goal.returns-then-begins_character
returns-then-begins_character c =
    let valid = c.valid_up_to-valid.ensures in
    lead_place c.args.bytes.now c.valid_up_to-valid.result c.in-Some.count (subst (IsValidUpTo c.args.bytes.now) (sym valid) c.in-Err.ensures.cases.1)
    (ap (λ n. utf8_error_len (drop n c.args.bytes.now)) valid ∙ sym c.in-Err.ensures.fault ∙ sym c.error_len.ensures ∙ c.in-Some.is) (sym c.begins_character.ensures ∙ c.if-begins_character.true)

pub returns-else-begins_character : goal.returns-else-begins_character
returns-else-begins_character c =
    let valid = c.valid_up_to-valid.ensures in
    other_place c.args.bytes.now c.valid_up_to-valid.result (subst (IsValidUpTo c.args.bytes.now) (sym valid) c.in-Err.ensures.cases.1) (sym c.begins_character.ensures ∙ c.if-begins_character.false)
