use Rattle.std.proofs.Common.{◌≡◌, ◌+◌, drop, ap, ◌∙◌}
use Rattle.std.proofs.lemmas.Str.{is_utf8-from_IsUtf8}
use Rattle.std.specs.Str.Lossy.{utf8_valid_len}
use Rattle.kz_spec_data.specs.Fields.{text_beginning_length}
use Rattle.kz_bytes.proofs.Facts.{not_utf8}
use Rattle.kz_bytes.proofs.text.text_fault.Goals as goal

pub returns-in-Ok-clause-place : goal.returns-in-Ok-clause-place
returns-in-Ok-clause-place c = (c.in-Ok.ensures.cases.1, is_utf8-from_IsUtf8 c.args.bytes.now c.in-Ok.ensures.cases.1)

pub returns-in-Err-clause-place : goal.returns-in-Err-clause-place
returns-in-Err-clause-place c =
    let more = c.possible-more.ensures.value in
    let rest : c.split_at.result.1.now ≡ drop c.valid_up_to-valid.result c.args.bytes.now = c.split_at.ensures.back in
    let valid : c.valid_up_to-valid.result ≡ utf8_valid_len c.args.bytes.now = c.valid_up_to-valid.ensures ∙ c.in-Err.ensures.valid_len in
    (not_utf8 c.args.bytes.now c.in-Err.ensures.cases.0, ap (λ n. c.valid_up_to-valid.result + n) (more ∙ ap text_beginning_length rest) ∙ ap (λ n. n + text_beginning_length (drop n c.args.bytes.now)) valid)
