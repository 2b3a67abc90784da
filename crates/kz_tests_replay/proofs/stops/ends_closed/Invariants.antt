use denote.Text.{Utf8}
use denote.Shadow.{shadow}
use Rattle.kz_tests_replay.proofs.stops.ends_closed.Given as goal

abbrev pub invariant-loop-line : goal.invariant-loop-line
invariant-loop-line g l = shadow (Utf8 l.reply) × shadow (Utf8 l.end)
