use Rattle.std.proofs.Common.{◌≡◌, ◌++◌, ℤ, ap, ◌∙◌, rules, SFits, to_z-of_z}
use Rattle.std.specs.Int.{w32, w64}
use Rattle.kz_spec_data.specs.Forms.{flag, list_of, nothing, section}
use Rattle.kz_spec_data.specs.Records.{int32, int64, quota_entity, string}
use Rattle.kz_codec_write.proofs.Appends.{seq}
use Rattle.kz_codec_write.proofs.write.put_client_quota.Goals as goal

pub returns : goal.returns
returns c =
    let b1 = (list_of quota_entity).written c.args.r.now.entity in
    let b2 = string.written c.args.r.now.key in
    let b3 = int64.written c.args.r.now.value.whole in
    let b4 = int32.written c.args.r.now.value.micros in
    let b5 = flag.written c.args.r.now.remove in
    let e1 : c.put_entities.new.out.items ≡ c.args.out.now.items ++ b1 = c.in_ok-put_entities.ensures ∙ ap (λ y. c.args.out.now.items ++ (list_of quota_entity).written y) c.as_slice.ensures.value in
    let f3 : SFits w64 c.args.r.now.value.whole = search rules in
    let e3 : c.put_i64.new.out.items ≡ c.put_string.new.out.items ++ b3 = c.in_ok-put_i64.ensures ∙ ap (λ (y : ℤ). c.put_string.new.out.items ++ int64.written y) (to_z-of_z f3) in
    let f4 : SFits w32 c.args.r.now.value.micros = search rules in
    let e4 : c.put_i32.new.out.items ≡ c.put_i64.new.out.items ++ b4 = c.in_ok-put_i32.ensures ∙ ap (λ (y : ℤ). c.put_i64.new.out.items ++ int32.written y) (to_z-of_z f4) in
    let k4 : c.put_flag.new.out.items ≡ c.put_i64.new.out.items ++ (b4 ++ (b5)) = seq c.put_i64.new.out.items b4 c.put_i32.new.out.items (b5) c.put_flag.new.out.items e4 c.in_ok-put_flag.ensures in
    let k3 : c.put_flag.new.out.items ≡ c.put_string.new.out.items ++ (b3 ++ (b4 ++ (b5))) = seq c.put_string.new.out.items b3 c.put_i64.new.out.items (b4 ++ (b5)) c.put_flag.new.out.items e3 k4 in
    let k2 : c.put_flag.new.out.items ≡ c.put_entities.new.out.items ++ (b2 ++ (b3 ++ (b4 ++ (b5)))) = seq c.put_entities.new.out.items b2 c.put_string.new.out.items (b3 ++ (b4 ++ (b5))) c.put_flag.new.out.items c.in_ok-put_string.ensures k3 in
    let k1 : c.put_flag.new.out.items ≡ c.args.out.now.items ++ (b1 ++ (b2 ++ (b3 ++ (b4 ++ (b5))))) = seq c.args.out.now.items b1 c.put_entities.new.out.items (b2 ++ (b3 ++ (b4 ++ (b5)))) c.put_flag.new.out.items e1 k2 in
    seq c.args.out.now.items (b1 ++ (b2 ++ (b3 ++ (b4 ++ (b5))))) c.put_flag.new.out.items ((section nothing).written tt) c.put_no_tags.new.out.items k1 c.in_ok-put_no_tags.ensures
