use Rattle.std.proofs.Common.{◌≡◌, ◌++◌, ℤ, ap, ◌∙◌, rules, SFits, to_z-of_z}
use Rattle.std.specs.Int.{w8, w32}
use Rattle.kz_spec_data.specs.Forms.{nothing, section}
use Rattle.kz_spec_data.specs.Records.{bytes, int32, int8, string}
use Rattle.kz_codec_write.proofs.Appends.{seq}
use Rattle.kz_codec_write.proofs.write.put_user_scram_credential.Goals as goal

pub returns : goal.returns
returns c =
    let b1 = string.written c.args.r.now.name in
    let b2 = int8.written c.args.r.now.mechanism in
    let b3 = bytes.written c.args.r.now.salt in
    let b4 = bytes.written c.args.r.now.stored_key in
    let b5 = bytes.written c.args.r.now.server_key in
    let b6 = int32.written c.args.r.now.iterations in
    let f2 : SFits w8 c.args.r.now.mechanism = search rules in
    let e2 : c.put_i8.new.out.items ≡ c.put_string.new.out.items ++ b2 = c.in_ok-put_i8.ensures ∙ ap (λ (y : ℤ). c.put_string.new.out.items ++ int8.written y) (to_z-of_z f2) in
    let e3 : c.put_byte_field.new.out.items ≡ c.put_i8.new.out.items ++ b3 = c.in_ok-put_byte_field.ensures ∙ ap (λ y. c.put_i8.new.out.items ++ bytes.written y) c.as_slice.ensures in
    let e4 : c.put_byte_field-2.new.out.items ≡ c.put_byte_field.new.out.items ++ b4 = c.in_ok-put_byte_field-2.ensures ∙ ap (λ y. c.put_byte_field.new.out.items ++ bytes.written y) c.as_slice-2.ensures in
    let e5 : c.put_byte_field-3.new.out.items ≡ c.put_byte_field-2.new.out.items ++ b5 = c.in_ok-put_byte_field-3.ensures ∙ ap (λ y. c.put_byte_field-2.new.out.items ++ bytes.written y) c.as_slice-3.ensures in
    let f6 : SFits w32 c.args.r.now.iterations = search rules in
    let e6 : c.put_i32.new.out.items ≡ c.put_byte_field-3.new.out.items ++ b6 = c.in_ok-put_i32.ensures ∙ ap (λ (y : ℤ). c.put_byte_field-3.new.out.items ++ int32.written y) (to_z-of_z f6) in
    let k5 : c.put_i32.new.out.items ≡ c.put_byte_field-2.new.out.items ++ (b5 ++ (b6)) = seq c.put_byte_field-2.new.out.items b5 c.put_byte_field-3.new.out.items (b6) c.put_i32.new.out.items e5 e6 in
    let k4 : c.put_i32.new.out.items ≡ c.put_byte_field.new.out.items ++ (b4 ++ (b5 ++ (b6))) = seq c.put_byte_field.new.out.items b4 c.put_byte_field-2.new.out.items (b5 ++ (b6)) c.put_i32.new.out.items e4 k5 in
    let k3 : c.put_i32.new.out.items ≡ c.put_i8.new.out.items ++ (b3 ++ (b4 ++ (b5 ++ (b6)))) = seq c.put_i8.new.out.items b3 c.put_byte_field.new.out.items (b4 ++ (b5 ++ (b6))) c.put_i32.new.out.items e3 k4 in
    let k2 : c.put_i32.new.out.items ≡ c.put_string.new.out.items ++ (b2 ++ (b3 ++ (b4 ++ (b5 ++ (b6))))) = seq c.put_string.new.out.items b2 c.put_i8.new.out.items (b3 ++ (b4 ++ (b5 ++ (b6)))) c.put_i32.new.out.items e2 k3 in
    let k1 : c.put_i32.new.out.items ≡ c.args.out.now.items ++ (b1 ++ (b2 ++ (b3 ++ (b4 ++ (b5 ++ (b6)))))) = seq c.args.out.now.items b1 c.put_string.new.out.items (b2 ++ (b3 ++ (b4 ++ (b5 ++ (b6))))) c.put_i32.new.out.items c.in_ok-put_string.ensures k2 in
    seq c.args.out.now.items (b1 ++ (b2 ++ (b3 ++ (b4 ++ (b5 ++ (b6)))))) c.put_i32.new.out.items ((section nothing).written tt) c.put_no_tags.new.out.items k1 c.in_ok-put_no_tags.ensures
