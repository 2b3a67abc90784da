use Rattle.std.proofs.Common.{◌≡◌, ◌++◌, length, ap, ◌∙◌, arith}
use Rattle.std.proofs.lemmas.List.{length-append}
use Rattle.kz_spec_data.specs.Forms.{nothing, section}
use Rattle.kz_spec_data.specs.Records.{bytes, int32, int8, string}
use Rattle.kz_codec_write.proofs.Appends.{no_tags_length}
use Rattle.kz_codec_write.proofs.size.user_scram_credential_size.Goals as goal

pub returns-clause-size : goal.returns-clause-size
returns-clause-size c =
    let b1 = string.written c.args.r.now.name in
    let b2 = int8.written c.args.r.now.mechanism in
    let b3 = bytes.written c.args.r.now.salt in
    let b4 = bytes.written c.args.r.now.stored_key in
    let b5 = bytes.written c.args.r.now.server_key in
    let b6 = int32.written c.args.r.now.iterations in
    let s1 : c.string_size.result ≡ length b1 = c.string_size.ensures.size in
    let s3 : c.bytes_size.result ≡ length b3 = c.bytes_size.ensures.size ∙ ap (λ y. length (bytes.written y)) c.as_slice.ensures in
    let s4 : c.bytes_size-2.result ≡ length b4 = c.bytes_size-2.ensures.size ∙ ap (λ y. length (bytes.written y)) c.as_slice-2.ensures in
    let s5 : c.bytes_size-3.result ≡ length b5 = c.bytes_size-3.ensures.size ∙ ap (λ y. length (bytes.written y)) c.as_slice-3.ensures in
    omega (arith, length-append b5 (b6), length-append b4 (b5 ++ (b6)), length-append b3 (b4 ++ (b5 ++ (b6))), length-append b2 (b3 ++ (b4 ++ (b5 ++ (b6)))), length-append b1 (b2 ++ (b3 ++ (b4 ++ (b5 ++ (b6))))), length-append (b1 ++ (b2 ++ (b3 ++ (b4 ++ (b5 ++ (b6)))))) ((section nothing).written tt), no_tags_length)
