use Rattle.std.proofs.Common.{◌≡◌, ◌++◌, ℤ, ap, ◌∙◌, rules, SFits, to_z-of_z}
use Rattle.std.specs.Int.{w32, w64}
use Rattle.kz_spec_data.specs.Forms.{flag, list_of, nothing, section}
use Rattle.kz_spec_data.specs.Records.{endpoint, feature, int32, int64, nullable_string, uuid}
use Rattle.kz_codec_write.proofs.Appends.{seq}
use Rattle.kz_codec_write.proofs.write.put_register_broker.Goals as goal

pub returns : goal.returns
returns c =
    let b1 = int32.written c.args.r.now.broker_id in
    let b2 = flag.written c.args.r.now.migrating in
    let b3 = uuid.written c.args.r.now.incarnation in
    let b4 = int64.written c.args.r.now.broker_epoch in
    let b5 = (list_of endpoint).written c.args.r.now.endpoints in
    let b6 = (list_of feature).written c.args.r.now.features in
    let b7 = nullable_string.written c.args.r.now.rack in
    let b8 = flag.written c.args.r.now.fenced in
    let b9 = flag.written c.args.r.now.in_shutdown in
    let f1 : SFits w32 c.args.r.now.broker_id = search rules in
    let e1 : c.put_i32.new.out.items ≡ c.args.out.now.items ++ b1 = c.in_ok-put_i32.ensures ∙ ap (λ (y : ℤ). c.args.out.now.items ++ int32.written y) (to_z-of_z f1) in
    let f4 : SFits w64 c.args.r.now.broker_epoch = search rules in
    let e4 : c.put_i64.new.out.items ≡ c.put_id.new.out.items ++ b4 = c.in_ok-put_i64.ensures ∙ ap (λ (y : ℤ). c.put_id.new.out.items ++ int64.written y) (to_z-of_z f4) in
    let e5 : c.put_endpoints.new.out.items ≡ c.put_i64.new.out.items ++ b5 = c.in_ok-put_endpoints.ensures ∙ ap (λ y. c.put_i64.new.out.items ++ (list_of endpoint).written y) c.as_slice.ensures in
    let e6 : c.put_features.new.out.items ≡ c.put_endpoints.new.out.items ++ b6 = c.in_ok-put_features.ensures ∙ ap (λ y. c.put_endpoints.new.out.items ++ (list_of feature).written y) c.as_slice-2.ensures in
    let k8 : c.put_flag-3.new.out.items ≡ c.put_nullable_string.new.out.items ++ (b8 ++ (b9)) = seq c.put_nullable_string.new.out.items b8 c.put_flag-2.new.out.items (b9) c.put_flag-3.new.out.items c.in_ok-put_flag-2.ensures c.in_ok-put_flag-3.ensures in
    let k7 : c.put_flag-3.new.out.items ≡ c.put_features.new.out.items ++ (b7 ++ (b8 ++ (b9))) = seq c.put_features.new.out.items b7 c.put_nullable_string.new.out.items (b8 ++ (b9)) c.put_flag-3.new.out.items c.in_ok-put_nullable_string.ensures k8 in
    let k6 : c.put_flag-3.new.out.items ≡ c.put_endpoints.new.out.items ++ (b6 ++ (b7 ++ (b8 ++ (b9)))) = seq c.put_endpoints.new.out.items b6 c.put_features.new.out.items (b7 ++ (b8 ++ (b9))) c.put_flag-3.new.out.items e6 k7 in
    let k5 : c.put_flag-3.new.out.items ≡ c.put_i64.new.out.items ++ (b5 ++ (b6 ++ (b7 ++ (b8 ++ (b9))))) = seq c.put_i64.new.out.items b5 c.put_endpoints.new.out.items (b6 ++ (b7 ++ (b8 ++ (b9)))) c.put_flag-3.new.out.items e5 k6 in
    let k4 : c.put_flag-3.new.out.items ≡ c.put_id.new.out.items ++ (b4 ++ (b5 ++ (b6 ++ (b7 ++ (b8 ++ (b9)))))) = seq c.put_id.new.out.items b4 c.put_i64.new.out.items (b5 ++ (b6 ++ (b7 ++ (b8 ++ (b9))))) c.put_flag-3.new.out.items e4 k5 in
    let k3 : c.put_flag-3.new.out.items ≡ c.put_flag.new.out.items ++ (b3 ++ (b4 ++ (b5 ++ (b6 ++ (b7 ++ (b8 ++ (b9))))))) = seq c.put_flag.new.out.items b3 c.put_id.new.out.items (b4 ++ (b5 ++ (b6 ++ (b7 ++ (b8 ++ (b9)))))) c.put_flag-3.new.out.items c.in_ok-put_id.ensures k4 in
    let k2 : c.put_flag-3.new.out.items ≡ c.put_i32.new.out.items ++ (b2 ++ (b3 ++ (b4 ++ (b5 ++ (b6 ++ (b7 ++ (b8 ++ (b9)))))))) = seq c.put_i32.new.out.items b2 c.put_flag.new.out.items (b3 ++ (b4 ++ (b5 ++ (b6 ++ (b7 ++ (b8 ++ (b9))))))) c.put_flag-3.new.out.items c.in_ok-put_flag.ensures k3 in
    let k1 : c.put_flag-3.new.out.items ≡ c.args.out.now.items ++ (b1 ++ (b2 ++ (b3 ++ (b4 ++ (b5 ++ (b6 ++ (b7 ++ (b8 ++ (b9))))))))) = seq c.args.out.now.items b1 c.put_i32.new.out.items (b2 ++ (b3 ++ (b4 ++ (b5 ++ (b6 ++ (b7 ++ (b8 ++ (b9)))))))) c.put_flag-3.new.out.items e1 k2 in
    seq c.args.out.now.items (b1 ++ (b2 ++ (b3 ++ (b4 ++ (b5 ++ (b6 ++ (b7 ++ (b8 ++ (b9))))))))) c.put_flag-3.new.out.items ((section nothing).written tt) c.put_no_tags.new.out.items k1 c.in_ok-put_no_tags.ensures
