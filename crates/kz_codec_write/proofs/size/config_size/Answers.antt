use Rattle.std.proofs.Common.{◌≡◌, ◌++◌, length, arith}
use Rattle.std.proofs.lemmas.List.{length-append}
use Rattle.kz_spec_data.specs.Forms.{nothing, section}
use Rattle.kz_spec_data.specs.Records.{int8, nullable_string, string}
use Rattle.kz_codec_write.proofs.Appends.{no_tags_length}
use Rattle.kz_codec_write.proofs.size.config_size.Goals as goal

pub returns-clause-size : goal.returns-clause-size
returns-clause-size c =
    let b1 = int8.written c.args.r.now.resource_type in
    let b2 = string.written c.args.r.now.resource_name in
    let b3 = string.written c.args.r.now.name in
    let b4 = nullable_string.written c.args.r.now.value in
    let s2 : c.string_size.result ≡ length b2 = c.string_size.ensures.size in
    let s3 : c.string_size-2.result ≡ length b3 = c.string_size-2.ensures.size in
    let s4 : c.nullable_string_size.result ≡ length b4 = c.nullable_string_size.ensures.size in
    omega (arith, length-append b3 (b4), length-append b2 (b3 ++ (b4)), length-append b1 (b2 ++ (b3 ++ (b4))), length-append (b1 ++ (b2 ++ (b3 ++ (b4)))) ((section nothing).written tt), no_tags_length)
