use Rattle.kz_laws_machine.proofs.Leads.{feed_leads}
use Rattle.kz_laws_machine.proofs.feeds.feed_leads.Goals as goal

pub returns : goal.returns
returns c = feed_leads
