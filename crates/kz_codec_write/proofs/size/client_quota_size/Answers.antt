use Rattle.std.proofs.Common.{◌≡◌, ◌++◌, length, ap, ◌∙◌, arith}
use Rattle.std.proofs.lemmas.List.{length-append}
use Rattle.kz_spec_data.specs.Forms.{flag, list_of, nothing, section}
use Rattle.kz_spec_data.specs.Records.{int32, int64, quota_entity, string}
use Rattle.kz_codec_write.proofs.Appends.{no_tags_length}
use Rattle.kz_codec_write.proofs.size.client_quota_size.Goals as goal

pub returns-clause-size : goal.returns-clause-size
returns-clause-size c =
    let b1 = (list_of quota_entity).written c.args.r.now.entity in
    let b2 = string.written c.args.r.now.key in
    let b3 = int64.written c.args.r.now.value.whole in
    let b4 = int32.written c.args.r.now.value.micros in
    let b5 = flag.written c.args.r.now.remove in
    let s1 : c.entities_size.result ≡ length b1 = c.entities_size.ensures.size ∙ ap (λ y. length ((list_of quota_entity).written y)) c.as_slice.ensures.value in
    let s2 : c.string_size.result ≡ length b2 = c.string_size.ensures.size in
    omega (arith, length-append b4 (b5), length-append b3 (b4 ++ (b5)), length-append b2 (b3 ++ (b4 ++ (b5))), length-append b1 (b2 ++ (b3 ++ (b4 ++ (b5)))), length-append (b1 ++ (b2 ++ (b3 ++ (b4 ++ (b5))))) ((section nothing).written tt), no_tags_length)
