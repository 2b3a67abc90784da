use Rattle.std.proofs.Common.{ℕ, ◌+◌, ◌-◌, Bool, cond, length, Ok, Err, ap, ◌∙◌, subst}
use Rattle.kz_types.specs.PathRule.{IsPathFault}
use Rattle.kz_types.specs.declared.value_fault.PathFault.TheVariants.{BadName}
use Rattle.kz_spec_data.specs.Fields.{◌>>=◌}
use Rattle.kz_spec_data.specs.Transactions.{in_path, path_or_flaw}
use Rattle.kz_txn.proofs.fields.path.Goals as goal

pub returns-in-Err-BadName : goal.returns-in-Err-BadName
returns-in-Err-BadName c =
    let text = c.in_ok-lent.lent.now in
    let r = c.lent_bytes.new.reader in
    let fault : IsPathFault text (BadName c.in-Err-BadName.at) = subst (IsPathFault text) c.in-Err-BadName.field-0-is c.in-Err-BadName.ensures in (
      in_path (r.at - length text) text,
      ap (λ m. m >>= path_or_flaw) c.in_ok-lent.ensures.read ∙ ap (λ (b : Bool). cond b (Ok (text, r)) (Err (in_path (r.at - length text) text))) fault.0,
      (c.in-Err-BadName.at, ap (λ (k : ℕ). k - length text + c.in-Err-BadName.at) c.at.ensures, fault.1),
    )
