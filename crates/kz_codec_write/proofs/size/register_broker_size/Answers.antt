use Rattle.std.proofs.Common.{◌≡◌, ◌++◌, length, ap, ◌∙◌, arith}
use Rattle.std.proofs.lemmas.List.{length-append}
use Rattle.kz_spec_data.specs.Forms.{flag, list_of, nothing, section}
use Rattle.kz_spec_data.specs.Records.{endpoint, feature, int32, int64, nullable_string, uuid}
use Rattle.kz_codec_write.proofs.Appends.{no_tags_length}
use Rattle.kz_codec_write.proofs.size.register_broker_size.Goals as goal

pub returns-clause-size : goal.returns-clause-size
returns-clause-size c =
    let b1 = int32.written c.args.r.now.broker_id in
    let b2 = flag.written c.args.r.now.migrating in
    let b3 = uuid.written c.args.r.now.incarnation in
    let b4 = int64.written c.args.r.now.broker_epoch in
    let b5 = (list_of endpoint).written c.args.r.now.endpoints in
    let b6 = (list_of feature).written c.args.r.now.features in
    let b7 = nullable_string.written c.args.r.now.rack in
    let b8 = flag.written c.args.r.now.fenced in
    let b9 = flag.written c.args.r.now.in_shutdown in
    let s3 : c.id_size.result ≡ length b3 = c.id_size.ensures.size in
    let s5 : c.endpoints_size.result ≡ length b5 = c.endpoints_size.ensures.size ∙ ap (λ y. length ((list_of endpoint).written y)) c.as_slice.ensures in
    let s6 : c.features_size.result ≡ length b6 = c.features_size.ensures.size ∙ ap (λ y. length ((list_of feature).written y)) c.as_slice-2.ensures in
    let s7 : c.nullable_string_size.result ≡ length b7 = c.nullable_string_size.ensures.size in
    omega (arith, length-append b8 (b9), length-append b7 (b8 ++ (b9)), length-append b6 (b7 ++ (b8 ++ (b9))), length-append b5 (b6 ++ (b7 ++ (b8 ++ (b9)))), length-append b4 (b5 ++ (b6 ++ (b7 ++ (b8 ++ (b9))))), length-append b3 (b4 ++ (b5 ++ (b6 ++ (b7 ++ (b8 ++ (b9)))))), length-append b2 (b3 ++ (b4 ++ (b5 ++ (b6 ++ (b7 ++ (b8 ++ (b9))))))), length-append b1 (b2 ++ (b3 ++ (b4 ++ (b5 ++ (b6 ++ (b7 ++ (b8 ++ (b9)))))))), length-append (b1 ++ (b2 ++ (b3 ++ (b4 ++ (b5 ++ (b6 ++ (b7 ++ (b8 ++ (b9))))))))) ((section nothing).written tt), no_tags_length)
