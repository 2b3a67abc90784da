use Rattle.std.proofs.Common.{◌≡◌, ◌++◌, ℤ, ap, ◌∙◌, rules, SFits, to_z-of_z}
use Rattle.std.specs.Int.{w32, w64}
use Rattle.kz_spec_data.specs.Forms.{nothing, section}
use Rattle.kz_spec_data.specs.Records.{int32, int64}
use Rattle.kz_codec_write.proofs.Appends.{seq}
use Rattle.kz_codec_write.proofs.write.put_producer_ids.Goals as goal

pub returns : goal.returns
returns c =
    let b1 = int32.written c.args.r.now.broker_id in
    let b2 = int64.written c.args.r.now.broker_epoch in
    let b3 = int64.written c.args.r.now.next in
    let f1 : SFits w32 c.args.r.now.broker_id = search rules in
    let e1 : c.put_i32.new.out.items ≡ c.args.out.now.items ++ b1 = c.in_ok-put_i32.ensures ∙ ap (λ (y : ℤ). c.args.out.now.items ++ int32.written y) (to_z-of_z f1) in
    let f2 : SFits w64 c.args.r.now.broker_epoch = search rules in
    let e2 : c.put_i64.new.out.items ≡ c.put_i32.new.out.items ++ b2 = c.in_ok-put_i64.ensures ∙ ap (λ (y : ℤ). c.put_i32.new.out.items ++ int64.written y) (to_z-of_z f2) in
    let f3 : SFits w64 c.args.r.now.next = search rules in
    let e3 : c.put_i64-2.new.out.items ≡ c.put_i64.new.out.items ++ b3 = c.in_ok-put_i64-2.ensures ∙ ap (λ (y : ℤ). c.put_i64.new.out.items ++ int64.written y) (to_z-of_z f3) in
    let k2 : c.put_i64-2.new.out.items ≡ c.put_i32.new.out.items ++ (b2 ++ (b3)) = seq c.put_i32.new.out.items b2 c.put_i64.new.out.items (b3) c.put_i64-2.new.out.items e2 e3 in
    let k1 : c.put_i64-2.new.out.items ≡ c.args.out.now.items ++ (b1 ++ (b2 ++ (b3))) = seq c.args.out.now.items b1 c.put_i32.new.out.items (b2 ++ (b3)) c.put_i64-2.new.out.items e1 k2 in
    seq c.args.out.now.items (b1 ++ (b2 ++ (b3))) c.put_i64-2.new.out.items ((section nothing).written tt) c.put_no_tags.new.out.items k1 c.in_ok-put_no_tags.ensures
