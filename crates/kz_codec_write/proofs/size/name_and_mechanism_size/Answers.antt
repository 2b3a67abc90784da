use Rattle.std.proofs.Common.{◌≡◌, ◌++◌, length, arith}
use Rattle.std.proofs.lemmas.List.{length-append}
use Rattle.kz_spec_data.specs.Forms.{nothing, section}
use Rattle.kz_spec_data.specs.Records.{int8, string}
use Rattle.kz_codec_write.proofs.Appends.{no_tags_length}
use Rattle.kz_codec_write.proofs.size.name_and_mechanism_size.Goals as goal

pub returns-clause-size : goal.returns-clause-size
returns-clause-size c =
    let b1 = string.written c.args.name.now in
    let b2 = int8.written c.args.mechanism in
    let s1 : c.string_size.result ≡ length b1 = c.string_size.ensures.size in
    omega (arith, length-append b1 (b2), length-append (b1 ++ (b2)) ((section nothing).written tt), no_tags_length)
