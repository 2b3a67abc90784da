use Rattle.std.proofs.Common.{◌≡◌, ◌++◌, ℤ, List, ℕ, ap, ◌∙◌, rules, SFits, to_z-of_z}
use Rattle.std.specs.Int.{w32, w64}
use Rattle.kz_spec_data.specs.Transactions.{byte_field, int, owner, path}
use Rattle.kz_txn.proofs.Appends.{seq}
use Rattle.kz_txn.proofs.write.put_row.Goals as goal

pub returns : goal.returns
returns c =
    let b1 = path.written c.args.r.now.path in
    let b2 = byte_field.written c.args.r.now.body in
    let b3 = (int w32).written c.args.r.now.version in
    let b4 = owner.written c.args.r.now.owner in
    let b5 = (int w64).written c.args.r.now.czxid in
    let b6 = (int w64).written c.args.r.now.mzxid in
    let b7 = (int w64).written c.args.r.now.pzxid in
    let e2 : c.put_bytes.new.out.items ≡ c.put_path.new.out.items ++ b2 = c.in_ok-put_bytes.ensures ∙ ap (λ (y : List ℕ). c.put_path.new.out.items ++ byte_field.written y) c.as_slice.ensures in
    let f3 : SFits w32 c.args.r.now.version = search rules in
    let e3 : c.put_i32.new.out.items ≡ c.put_bytes.new.out.items ++ b3 = c.in_ok-put_i32.ensures ∙ ap (λ (y : ℤ). c.put_bytes.new.out.items ++ (int w32).written y) (to_z-of_z f3) in
    let f5 : SFits w64 c.args.r.now.czxid = search rules in
    let e5 : c.put_i64.new.out.items ≡ c.put_owner.new.out.items ++ b5 = c.in_ok-put_i64.ensures ∙ ap (λ (y : ℤ). c.put_owner.new.out.items ++ (int w64).written y) (to_z-of_z f5) in
    let f6 : SFits w64 c.args.r.now.mzxid = search rules in
    let e6 : c.put_i64-2.new.out.items ≡ c.put_i64.new.out.items ++ b6 = c.in_ok-put_i64-2.ensures ∙ ap (λ (y : ℤ). c.put_i64.new.out.items ++ (int w64).written y) (to_z-of_z f6) in
    let f7 : SFits w64 c.args.r.now.pzxid = search rules in
    let e7 : c.put_i64-3.new.out.items ≡ c.put_i64-2.new.out.items ++ b7 = c.in_ok-put_i64-3.ensures ∙ ap (λ (y : ℤ). c.put_i64-2.new.out.items ++ (int w64).written y) (to_z-of_z f7) in
    let k6 : c.put_i64-3.new.out.items ≡ c.put_i64.new.out.items ++ (b6 ++ b7) = seq c.put_i64.new.out.items b6 c.put_i64-2.new.out.items b7 c.put_i64-3.new.out.items e6 e7 in
    let k5 : c.put_i64-3.new.out.items ≡ c.put_owner.new.out.items ++ (b5 ++ (b6 ++ b7)) = seq c.put_owner.new.out.items b5 c.put_i64.new.out.items (b6 ++ b7) c.put_i64-3.new.out.items e5 k6 in
    let k4 : c.put_i64-3.new.out.items ≡ c.put_i32.new.out.items ++ (b4 ++ (b5 ++ (b6 ++ b7))) = seq c.put_i32.new.out.items b4 c.put_owner.new.out.items (b5 ++ (b6 ++ b7)) c.put_i64-3.new.out.items c.in_ok-put_owner.ensures k5 in
    let k3 : c.put_i64-3.new.out.items ≡ c.put_bytes.new.out.items ++ (b3 ++ (b4 ++ (b5 ++ (b6 ++ b7)))) = seq c.put_bytes.new.out.items b3 c.put_i32.new.out.items (b4 ++ (b5 ++ (b6 ++ b7))) c.put_i64-3.new.out.items e3 k4 in
    let k2 : c.put_i64-3.new.out.items ≡ c.put_path.new.out.items ++ (b2 ++ (b3 ++ (b4 ++ (b5 ++ (b6 ++ b7))))) = seq c.put_path.new.out.items b2 c.put_bytes.new.out.items (b3 ++ (b4 ++ (b5 ++ (b6 ++ b7)))) c.put_i64-3.new.out.items e2 k3 in
    seq c.args.out.now.items b1 c.put_path.new.out.items (b2 ++ (b3 ++ (b4 ++ (b5 ++ (b6 ++ b7))))) c.put_i64-3.new.out.items c.in_ok-put_path.ensures k2
