use Rattle.kz_laws_machine.proofs.Leads.{feed_touches}
use Rattle.kz_laws_machine.proofs.feeds.feed_touches.Goals as goal

pub returns : goal.returns
returns c = feed_touches
