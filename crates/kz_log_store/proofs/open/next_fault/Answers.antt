use Rattle.std.proofs.Common.{ap, sym, ◌∙◌}
use Rattle.kz_log_store.specs.declared.fault.LogOpenFault.TheVariants.{Damaged}
use Rattle.kz_log_store.specs.Opened.{next_fault_of}
use Rattle.kz_log_store.proofs.open.next_fault.Goals as goal

pub returns-in-Damaged : goal.returns-in-Damaged
returns-in-Damaged c = ap (Damaged c.in-Damaged.at) c.why_at.ensures ∙ ap next_fault_of (sym c.in-Damaged.is)
