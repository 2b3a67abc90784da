use Rattle.std.proofs.Common.{◌≡◌, ◌++◌, length, arith}
use Rattle.std.proofs.lemmas.List.{length-append}
use Rattle.kz_spec_data.specs.Forms.{nothing, section}
use Rattle.kz_spec_data.specs.Records.{int8, string, uuid}
use Rattle.kz_codec_write.proofs.Appends.{no_tags_length}
use Rattle.kz_codec_write.proofs.size.access_control_entry_size.Goals as goal

pub returns-clause-size : goal.returns-clause-size
returns-clause-size c =
    let b1 = uuid.written c.args.r.now.id in
    let b2 = int8.written c.args.r.now.resource_type in
    let b3 = string.written c.args.r.now.resource_name in
    let b4 = int8.written c.args.r.now.pattern_type in
    let b5 = string.written c.args.r.now.principal in
    let b6 = string.written c.args.r.now.host in
    let b7 = int8.written c.args.r.now.operation in
    let b8 = int8.written c.args.r.now.permission in
    let s1 : c.id_size.result ≡ length b1 = c.id_size.ensures.size in
    let s3 : c.string_size.result ≡ length b3 = c.string_size.ensures.size in
    let s5 : c.string_size-2.result ≡ length b5 = c.string_size-2.ensures.size in
    let s6 : c.string_size-3.result ≡ length b6 = c.string_size-3.ensures.size in
    omega (arith, length-append b7 (b8), length-append b6 (b7 ++ (b8)), length-append b5 (b6 ++ (b7 ++ (b8))), length-append b4 (b5 ++ (b6 ++ (b7 ++ (b8)))), length-append b3 (b4 ++ (b5 ++ (b6 ++ (b7 ++ (b8))))), length-append b2 (b3 ++ (b4 ++ (b5 ++ (b6 ++ (b7 ++ (b8)))))), length-append b1 (b2 ++ (b3 ++ (b4 ++ (b5 ++ (b6 ++ (b7 ++ (b8))))))), length-append (b1 ++ (b2 ++ (b3 ++ (b4 ++ (b5 ++ (b6 ++ (b7 ++ (b8)))))))) ((section nothing).written tt), no_tags_length)
