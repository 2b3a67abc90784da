use Rattle.kz_laws_events.proofs.Fenced.{fenced_turn}
use Rattle.kz_laws_events.proofs.events.fenced_turns_leave.Goals as goal

pub returns : goal.returns
returns c = λ n s running now d time kept fine fenced. (fenced_turn n s running now d time kept fine fenced).0
