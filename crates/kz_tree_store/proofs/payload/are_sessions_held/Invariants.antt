use Rattle.std.proofs.Common.{take, w64}
use Rattle.std.specs.Int.RustNames.{FitsSigned}
use Rattle.kz_spec_data.specs.Forms.{AllFit}
use Rattle.kz_tree_store.proofs.payload.are_sessions_held.Given as goal

abbrev pub invariant-loop-session : goal.invariant-loop-session
invariant-loop-session l = AllFit (FitsSigned w64) (take l.session-index l.sessions)
