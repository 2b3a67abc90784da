use Rattle.kz_laws_lines.proofs.Read.{event_is_read}
use Rattle.kz_laws_lines.proofs.held.held_event_is_read.Goals as goal

pub returns : goal.returns
returns c = event_is_read c.args.e.now c.event.ensures
