use Rattle.std.proofs.Common.{pos, get_or, w64, rules, arith}
use Rattle.std.specs.Int.RustNames.{FitsSigned}
use Rattle.kz_tree_store.proofs.Lists.{all_more_at, all_taken}
use Rattle.kz_tree_store.proofs.payload.are_sessions_held.Goals as goal

pub loop-session-preserved : goal.loop-session-preserved
loop-session-preserved c =
    let fits : FitsSigned w64 (get_or c.args.sessions.now c.loop-session.session-index (pos 0)) = search rules in
    all_more_at (FitsSigned w64) c.args.sessions.now c.loop-session.session-index (pos 0) c.loop-session-test.true fits c.loop-session.invariant

pub returns : goal.returns
returns c = all_taken (FitsSigned w64) c.args.sessions.now c.loop-session.session-index (omega arith) c.loop-session.invariant
