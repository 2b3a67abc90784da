use Rattle.std.proofs.Common.{◌≡◌, pos, ◌+ℤ◌, drop}
use Rattle.kz_spec_data.specs.Loads.{rise_from}
use Rattle.kz_tree.proofs.load_rules.do_rise.Given as goal

abbrev pub invariant-loop-session : goal.invariant-loop-session
invariant-loop-session l = rise_from (l.last +ℤ pos 1) (drop l.session-index l.sessions) ≡ rise_from (pos 1) l.sessions
