use Rattle.std.proofs.Common.{◌≡◌, ◌++◌, ℤ, ap, ◌∙◌, rules, SFits, to_z-of_z}
use Rattle.std.specs.Int.{w8, w32}
use Rattle.kz_spec_data.specs.Forms.{section}
use Rattle.kz_spec_data.specs.Records.{int32, ints, partition_tags, uuid}
use Rattle.kz_codec_write.proofs.Appends.{seq}
use Rattle.kz_codec_write.proofs.write.put_partition.Goals as goal

pub returns : goal.returns
returns c =
    let b1 = int32.written c.args.r.now.partition_id in
    let b2 = uuid.written c.args.r.now.topic_id in
    let b3 = ints.written c.args.r.now.replicas in
    let b4 = ints.written c.args.r.now.isr in
    let b5 = ints.written c.args.r.now.removing in
    let b6 = ints.written c.args.r.now.adding in
    let b7 = int32.written c.args.r.now.leader in
    let b8 = int32.written c.args.r.now.leader_epoch in
    let b9 = int32.written c.args.r.now.partition_epoch in
    let b10 = (section partition_tags).written c.args.r.now.recovery in
    let f1 : SFits w32 c.args.r.now.partition_id = search rules in
    let e1 : c.put_i32.new.out.items ≡ c.args.out.now.items ++ b1 = c.in_ok-put_i32.ensures ∙ ap (λ (y : ℤ). c.args.out.now.items ++ int32.written y) (to_z-of_z f1) in
    let f7 : SFits w32 c.args.r.now.leader = search rules in
    let e7 : c.put_i32-2.new.out.items ≡ c.put_list-4.new.out.items ++ b7 = c.in_ok-put_i32-2.ensures ∙ ap (λ (y : ℤ). c.put_list-4.new.out.items ++ int32.written y) (to_z-of_z f7) in
    let f8 : SFits w32 c.args.r.now.leader_epoch = search rules in
    let e8 : c.put_i32-3.new.out.items ≡ c.put_i32-2.new.out.items ++ b8 = c.in_ok-put_i32-3.ensures ∙ ap (λ (y : ℤ). c.put_i32-2.new.out.items ++ int32.written y) (to_z-of_z f8) in
    let f9 : SFits w32 c.args.r.now.partition_epoch = search rules in
    let e9 : c.put_i32-4.new.out.items ≡ c.put_i32-3.new.out.items ++ b9 = c.in_ok-put_i32-4.ensures ∙ ap (λ (y : ℤ). c.put_i32-3.new.out.items ++ int32.written y) (to_z-of_z f9) in
    let f10 : SFits w8 c.args.r.now.recovery = search rules in
    let e10 : c.put_recovery.new.out.items ≡ c.put_i32-4.new.out.items ++ b10 = c.in_ok-put_recovery.ensures ∙ ap (λ (y : ℤ). c.put_i32-4.new.out.items ++ (section partition_tags).written y) (to_z-of_z f10) in
    let k9 : c.put_recovery.new.out.items ≡ c.put_i32-3.new.out.items ++ (b9 ++ (b10)) = seq c.put_i32-3.new.out.items b9 c.put_i32-4.new.out.items (b10) c.put_recovery.new.out.items e9 e10 in
    let k8 : c.put_recovery.new.out.items ≡ c.put_i32-2.new.out.items ++ (b8 ++ (b9 ++ (b10))) = seq c.put_i32-2.new.out.items b8 c.put_i32-3.new.out.items (b9 ++ (b10)) c.put_recovery.new.out.items e8 k9 in
    let k7 : c.put_recovery.new.out.items ≡ c.put_list-4.new.out.items ++ (b7 ++ (b8 ++ (b9 ++ (b10)))) = seq c.put_list-4.new.out.items b7 c.put_i32-2.new.out.items (b8 ++ (b9 ++ (b10))) c.put_recovery.new.out.items e7 k8 in
    let k6 : c.put_recovery.new.out.items ≡ c.put_list-3.new.out.items ++ (b6 ++ (b7 ++ (b8 ++ (b9 ++ (b10))))) = seq c.put_list-3.new.out.items b6 c.put_list-4.new.out.items (b7 ++ (b8 ++ (b9 ++ (b10)))) c.put_recovery.new.out.items c.in_ok-put_list-4.ensures k7 in
    let k5 : c.put_recovery.new.out.items ≡ c.put_list-2.new.out.items ++ (b5 ++ (b6 ++ (b7 ++ (b8 ++ (b9 ++ (b10)))))) = seq c.put_list-2.new.out.items b5 c.put_list-3.new.out.items (b6 ++ (b7 ++ (b8 ++ (b9 ++ (b10))))) c.put_recovery.new.out.items c.in_ok-put_list-3.ensures k6 in
    let k4 : c.put_recovery.new.out.items ≡ c.put_list.new.out.items ++ (b4 ++ (b5 ++ (b6 ++ (b7 ++ (b8 ++ (b9 ++ (b10))))))) = seq c.put_list.new.out.items b4 c.put_list-2.new.out.items (b5 ++ (b6 ++ (b7 ++ (b8 ++ (b9 ++ (b10)))))) c.put_recovery.new.out.items c.in_ok-put_list-2.ensures k5 in
    let k3 : c.put_recovery.new.out.items ≡ c.put_id.new.out.items ++ (b3 ++ (b4 ++ (b5 ++ (b6 ++ (b7 ++ (b8 ++ (b9 ++ (b10)))))))) = seq c.put_id.new.out.items b3 c.put_list.new.out.items (b4 ++ (b5 ++ (b6 ++ (b7 ++ (b8 ++ (b9 ++ (b10))))))) c.put_recovery.new.out.items c.in_ok-put_list.ensures k4 in
    let k2 : c.put_recovery.new.out.items ≡ c.put_i32.new.out.items ++ (b2 ++ (b3 ++ (b4 ++ (b5 ++ (b6 ++ (b7 ++ (b8 ++ (b9 ++ (b10))))))))) = seq c.put_i32.new.out.items b2 c.put_id.new.out.items (b3 ++ (b4 ++ (b5 ++ (b6 ++ (b7 ++ (b8 ++ (b9 ++ (b10)))))))) c.put_recovery.new.out.items c.in_ok-put_id.ensures k3 in
    let k1 : c.put_recovery.new.out.items ≡ c.args.out.now.items ++ (b1 ++ (b2 ++ (b3 ++ (b4 ++ (b5 ++ (b6 ++ (b7 ++ (b8 ++ (b9 ++ (b10)))))))))) = seq c.args.out.now.items b1 c.put_i32.new.out.items (b2 ++ (b3 ++ (b4 ++ (b5 ++ (b6 ++ (b7 ++ (b8 ++ (b9 ++ (b10))))))))) c.put_recovery.new.out.items e1 k2 in
    k1
