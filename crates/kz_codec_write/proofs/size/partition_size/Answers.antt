use Rattle.std.proofs.Common.{◌≡◌, ◌++◌, ℤ, length, ap, ◌∙◌, arith, rules, SFits, to_z-of_z}
use Rattle.std.specs.Int.{w8}
use Rattle.std.proofs.lemmas.List.{length-append}
use Rattle.kz_spec_data.specs.Forms.{section}
use Rattle.kz_spec_data.specs.Records.{int32, ints, partition_tags, uuid}
use Rattle.kz_codec_write.proofs.size.partition_size.Goals as goal

pub returns-clause-size : goal.returns-clause-size
returns-clause-size c =
    let b1 = int32.written c.args.r.now.partition_id in
    let b2 = uuid.written c.args.r.now.topic_id in
    let b3 = ints.written c.args.r.now.replicas in
    let b4 = ints.written c.args.r.now.isr in
    let b5 = ints.written c.args.r.now.removing in
    let b6 = ints.written c.args.r.now.adding in
    let b7 = int32.written c.args.r.now.leader in
    let b8 = int32.written c.args.r.now.leader_epoch in
    let b9 = int32.written c.args.r.now.partition_epoch in
    let b10 = (section partition_tags).written c.args.r.now.recovery in
    let s2 : c.id_size.result ≡ length b2 = c.id_size.ensures.size in
    let s3 : c.ints_size.result ≡ length b3 = c.ints_size.ensures.size in
    let s4 : c.ints_size-2.result ≡ length b4 = c.ints_size-2.ensures.size in
    let s5 : c.ints_size-3.result ≡ length b5 = c.ints_size-3.ensures.size in
    let s6 : c.ints_size-4.result ≡ length b6 = c.ints_size-4.ensures.size in
    let f10 : SFits w8 c.args.r.now.recovery = search rules in
    let s10 : c.recovery_size.result ≡ length b10 = c.recovery_size.ensures.size ∙ ap (λ (y : ℤ). length ((section partition_tags).written y)) (to_z-of_z f10) in
    omega (arith, length-append b9 (b10), length-append b8 (b9 ++ (b10)), length-append b7 (b8 ++ (b9 ++ (b10))), length-append b6 (b7 ++ (b8 ++ (b9 ++ (b10)))), length-append b5 (b6 ++ (b7 ++ (b8 ++ (b9 ++ (b10))))), length-append b4 (b5 ++ (b6 ++ (b7 ++ (b8 ++ (b9 ++ (b10)))))), length-append b3 (b4 ++ (b5 ++ (b6 ++ (b7 ++ (b8 ++ (b9 ++ (b10))))))), length-append b2 (b3 ++ (b4 ++ (b5 ++ (b6 ++ (b7 ++ (b8 ++ (b9 ++ (b10)))))))), length-append b1 (b2 ++ (b3 ++ (b4 ++ (b5 ++ (b6 ++ (b7 ++ (b8 ++ (b9 ++ (b10))))))))))
