use Rattle.std.proofs.Common.{◌≡◌, ◌++◌, ℤ, length, ap, ◌∙◌, arith, rules, SFits, to_z-of_z}
use Rattle.std.specs.Int.{w8, w32}
use Rattle.std.proofs.lemmas.List.{length-append}
use Rattle.kz_spec_data.specs.Forms.{tags_written}
use Rattle.kz_spec_data.specs.Records.{ints_tag, leader_tag, stated_recovery_tag}
use Rattle.kz_codec_write.proofs.Appends.{tags_six}
use Rattle.kz_codec_write.proofs.size.change_tags_size.Goals as goal

pub returns-clause-size : goal.returns-clause-size
returns-clause-size c =
    let t0 = (ints_tag 0).tags c.args.r.now.isr in
    let b0 = tags_written t0 in
    let t1 = leader_tag.tags c.args.r.now.leader in
    let b1 = tags_written t1 in
    let t2 = (ints_tag 2).tags c.args.r.now.replicas in
    let b2 = tags_written t2 in
    let t3 = (ints_tag 3).tags c.args.r.now.removing in
    let b3 = tags_written t3 in
    let t4 = (ints_tag 4).tags c.args.r.now.adding in
    let b4 = tags_written t4 in
    let t5 = stated_recovery_tag.tags c.args.r.now.recovery in
    let b5 = tags_written t5 in
    let s0 : c.ints_tag_size.result ≡ length b0 = c.ints_tag_size.ensures.size in
    let f1 : SFits w32 c.args.r.now.leader = search rules in
    let s1 : c.leader_tag_size.result ≡ length b1 = c.leader_tag_size.ensures.size ∙ ap (λ (y : ℤ). length (tags_written (leader_tag.tags y))) (to_z-of_z f1) in
    let s2 : c.ints_tag_size-2.result ≡ length b2 = c.ints_tag_size-2.ensures.size in
    let s3 : c.ints_tag_size-3.result ≡ length b3 = c.ints_tag_size-3.ensures.size in
    let s4 : c.ints_tag_size-4.result ≡ length b4 = c.ints_tag_size-4.ensures.size in
    let f5 : SFits w8 c.args.r.now.recovery = search rules in
    let s5 : c.state_tag_size.result ≡ length b5 = c.state_tag_size.ensures.size ∙ ap (λ (y : ℤ). length (tags_written (stated_recovery_tag.tags y))) (to_z-of_z f5) in
    let all = ap length (tags_six t0 t1 t2 t3 t4 t5) in
    omega (arith, all, length-append b4 (b5), length-append b3 (b4 ++ (b5)), length-append b2 (b3 ++ (b4 ++ (b5))), length-append b1 (b2 ++ (b3 ++ (b4 ++ (b5)))), length-append b0 (b1 ++ (b2 ++ (b3 ++ (b4 ++ (b5))))))
