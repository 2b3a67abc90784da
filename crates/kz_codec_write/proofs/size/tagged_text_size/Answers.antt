use Rattle.std.proofs.Common.{◌≡◌, ◌+◌, length, ap, ◌∙◌, arith}
use Rattle.kz_spec_data.specs.Fields.{groups_of}
use Rattle.kz_spec_data.specs.Records.{string}
use Rattle.kz_codec_write.proofs.Appends.{no_tags_length, one_tag_length}
use Rattle.kz_codec_write.proofs.size.tagged_text_size.Goals as goal

pub returns-in-None-clause-size : goal.returns-in-None-clause-size
returns-in-None-clause-size c = rw c.in-None.is (omega (arith, no_tags_length, c.no_tags_size.ensures.one))

pub returns-in-Some-clause-size : goal.returns-in-Some-clause-size
returns-in-Some-clause-size c =
    let w = string.written c.in-Some.text in
    let size : c.string_size.result ≡ length w = c.string_size.ensures.size in
    let field : c.field_size.result ≡ length (groups_of 9 (length w)) + length w = c.field_size.ensures.size ∙ ap (λ n. length (groups_of 9 n) + n) size in
    rw c.in-Some.is (omega (arith, field, one_tag_length w))
