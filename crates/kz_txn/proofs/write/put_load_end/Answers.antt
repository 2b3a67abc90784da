use Rattle.std.proofs.Common.{◌≡◌, ◌++◌, ◌∷◌, [], ℤ, ap, ◌∙◌, rules, SFits, to_z-of_z}
use Rattle.std.specs.Int.{w64}
use Rattle.kz_spec_data.specs.Transactions.{int, sessions}
use Rattle.kz_txn.proofs.Appends.{seq}
use Rattle.kz_txn.proofs.write.put_load_end.Goals as goal

pub returns : goal.returns
returns c =
    let old = c.args.out.now.items in
    let first = c.put_byte.new.out.items in
    let second = c.put_i64.new.out.items in
    let last = c.put_sessions.new.out.items in
    let b2 = (int w64).written c.args.zxid in
    let b3 = sessions.written c.args.live.now in
    let fits : SFits w64 c.args.zxid = search rules in
    let e2 : second ≡ first ++ b2 = c.in_ok-put_i64.ensures ∙ ap (λ (y : ℤ). first ++ (int w64).written y) (to_z-of_z fits) in
    let both : last ≡ first ++ (b2 ++ b3) = seq first b2 second b3 last e2 c.in_ok-put_sessions.ensures in
    seq old (3 ∷ []) first (b2 ++ b3) last c.in_ok-put_byte.ensures both
