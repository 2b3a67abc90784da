use Rattle.std.proofs.Common.{ℕ, List, Err, refl, ap, ◌∙◌}
use Rattle.kz_types.specs.declared.record.ByteFault.{ByteFault}
use Rattle.kz_spec_data.specs.Fields.{Reading}
use Rattle.kz_spec_data.specs.Transactions.{at_byte, field_or_flaw}
use Rattle.kz_txn.proofs.fields.part.Goals as goal

pub returns-in-Err-Short-clause-read : goal.returns-in-Err-Short-clause-read
returns-in-Err-Short-clause-read c = (
  at_byte c.in-Err-Short.at,
  ap field_or_flaw c.in-Err-Short.ensures.0 ∙ ap (λ (e : ByteFault). field_or_flaw {A = List ℕ × Reading} (Err e)) c.in-Err-Short.field-0-is,
  refl,
)
