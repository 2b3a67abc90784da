use Rattle.std.proofs.Common.{◌≡◌, ◌++◌, ◌∷◌, [], ℤ, pos, ap, ◌∙◌, rules, SFits, to_z, of_z, to_z-of_z}
use Rattle.std.specs.Int.{w64}
use Rattle.std.proofs.lemmas.Result.{err_from_is_err_and}
use Rattle.kz_spec_data.specs.Transactions.{sessions_at}
use Rattle.kz_txn.proofs.Loops.{sessions_step, sessions_fault, sessions_done}
use Rattle.kz_txn.proofs.read.read_sessions.Goals as goal

pub returns-in_err-number : goal.returns-in_err-number
returns-in_err-number c =
    let p = err_from_is_err_and c.from_residual.result c.from_residual.ensures.1 in
    rw (p.1, p.2) (sessions_fault c.in_err-number.field-0.0 c.loop-i.items.items c.args.count c.loop-i.i c.loop-i.least c.loop-i.reader (sessions_at c.args.count 1 c.args.reader.now) c.loop-i-test.true c.in_err-number.ensures.read c.loop-i.invariant)

pub loop-i-preserved : goal.loop-i-preserved
loop-i-preserved c =
    let front = c.loop-i.items.items in
    let fits : SFits w64 c.held.result = search rules in
    let same : to_z w64 (of_z w64 c.held.result) ≡ c.held.result = to_z-of_z fits in
    let items : c.push.new.self.items ≡ front ++ pos c.in_ok-number.number ∷ [] = c.in-Ok.ensures.items ∙ ap (λ (y : ℤ). front ++ y ∷ []) (same ∙ c.held.ensures) in
    rw items (sessions_step front c.args.count c.loop-i.i c.loop-i.least c.in_ok-number.number c.loop-i.reader c.within.new.reader (sessions_at c.args.count 1 c.args.reader.now) c.loop-i-test.true c.in_ok-number.ensures.read c.loop-i.invariant)

pub returns : goal.returns
returns c = rw c.from_vec.ensures (sessions_done c.loop-i.items.items c.args.count c.loop-i.i c.loop-i.least c.loop-i.reader (sessions_at c.args.count 1 c.args.reader.now) c.loop-i-test.false c.loop-i.invariant)
