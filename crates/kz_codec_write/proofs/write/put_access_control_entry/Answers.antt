use Rattle.std.proofs.Common.{◌≡◌, ◌++◌, ℤ, ap, ◌∙◌, rules, SFits, to_z-of_z}
use Rattle.std.specs.Int.{w8}
use Rattle.kz_spec_data.specs.Forms.{nothing, section}
use Rattle.kz_spec_data.specs.Records.{int8, string, uuid}
use Rattle.kz_codec_write.proofs.Appends.{seq}
use Rattle.kz_codec_write.proofs.write.put_access_control_entry.Goals as goal

pub returns : goal.returns
returns c =
    let b1 = uuid.written c.args.r.now.id in
    let b2 = int8.written c.args.r.now.resource_type in
    let b3 = string.written c.args.r.now.resource_name in
    let b4 = int8.written c.args.r.now.pattern_type in
    let b5 = string.written c.args.r.now.principal in
    let b6 = string.written c.args.r.now.host in
    let b7 = int8.written c.args.r.now.operation in
    let b8 = int8.written c.args.r.now.permission in
    let f2 : SFits w8 c.args.r.now.resource_type = search rules in
    let e2 : c.put_i8.new.out.items ≡ c.put_id.new.out.items ++ b2 = c.in_ok-put_i8.ensures ∙ ap (λ (y : ℤ). c.put_id.new.out.items ++ int8.written y) (to_z-of_z f2) in
    let f4 : SFits w8 c.args.r.now.pattern_type = search rules in
    let e4 : c.put_i8-2.new.out.items ≡ c.put_string.new.out.items ++ b4 = c.in_ok-put_i8-2.ensures ∙ ap (λ (y : ℤ). c.put_string.new.out.items ++ int8.written y) (to_z-of_z f4) in
    let f7 : SFits w8 c.args.r.now.operation = search rules in
    let e7 : c.put_i8-3.new.out.items ≡ c.put_string-3.new.out.items ++ b7 = c.in_ok-put_i8-3.ensures ∙ ap (λ (y : ℤ). c.put_string-3.new.out.items ++ int8.written y) (to_z-of_z f7) in
    let f8 : SFits w8 c.args.r.now.permission = search rules in
    let e8 : c.put_i8-4.new.out.items ≡ c.put_i8-3.new.out.items ++ b8 = c.in_ok-put_i8-4.ensures ∙ ap (λ (y : ℤ). c.put_i8-3.new.out.items ++ int8.written y) (to_z-of_z f8) in
    let k7 : c.put_i8-4.new.out.items ≡ c.put_string-3.new.out.items ++ (b7 ++ (b8)) = seq c.put_string-3.new.out.items b7 c.put_i8-3.new.out.items (b8) c.put_i8-4.new.out.items e7 e8 in
    let k6 : c.put_i8-4.new.out.items ≡ c.put_string-2.new.out.items ++ (b6 ++ (b7 ++ (b8))) = seq c.put_string-2.new.out.items b6 c.put_string-3.new.out.items (b7 ++ (b8)) c.put_i8-4.new.out.items c.in_ok-put_string-3.ensures k7 in
    let k5 : c.put_i8-4.new.out.items ≡ c.put_i8-2.new.out.items ++ (b5 ++ (b6 ++ (b7 ++ (b8)))) = seq c.put_i8-2.new.out.items b5 c.put_string-2.new.out.items (b6 ++ (b7 ++ (b8))) c.put_i8-4.new.out.items c.in_ok-put_string-2.ensures k6 in
    let k4 : c.put_i8-4.new.out.items ≡ c.put_string.new.out.items ++ (b4 ++ (b5 ++ (b6 ++ (b7 ++ (b8))))) = seq c.put_string.new.out.items b4 c.put_i8-2.new.out.items (b5 ++ (b6 ++ (b7 ++ (b8)))) c.put_i8-4.new.out.items e4 k5 in
    let k3 : c.put_i8-4.new.out.items ≡ c.put_i8.new.out.items ++ (b3 ++ (b4 ++ (b5 ++ (b6 ++ (b7 ++ (b8)))))) = seq c.put_i8.new.out.items b3 c.put_string.new.out.items (b4 ++ (b5 ++ (b6 ++ (b7 ++ (b8))))) c.put_i8-4.new.out.items c.in_ok-put_string.ensures k4 in
    let k2 : c.put_i8-4.new.out.items ≡ c.put_id.new.out.items ++ (b2 ++ (b3 ++ (b4 ++ (b5 ++ (b6 ++ (b7 ++ (b8))))))) = seq c.put_id.new.out.items b2 c.put_i8.new.out.items (b3 ++ (b4 ++ (b5 ++ (b6 ++ (b7 ++ (b8)))))) c.put_i8-4.new.out.items e2 k3 in
    let k1 : c.put_i8-4.new.out.items ≡ c.args.out.now.items ++ (b1 ++ (b2 ++ (b3 ++ (b4 ++ (b5 ++ (b6 ++ (b7 ++ (b8)))))))) = seq c.args.out.now.items b1 c.put_id.new.out.items (b2 ++ (b3 ++ (b4 ++ (b5 ++ (b6 ++ (b7 ++ (b8))))))) c.put_i8-4.new.out.items c.in_ok-put_id.ensures k2 in
    seq c.args.out.now.items (b1 ++ (b2 ++ (b3 ++ (b4 ++ (b5 ++ (b6 ++ (b7 ++ (b8)))))))) c.put_i8-4.new.out.items ((section nothing).written tt) c.put_no_tags.new.out.items k1 c.in_ok-put_no_tags.ensures
