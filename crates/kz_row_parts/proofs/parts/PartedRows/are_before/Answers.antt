use Rattle.std.proofs.Common.{◌≡◌, ◌-◌, Some, option_map, length, slice_get, sym, ap, ◌∙◌}
use Rattle.kz_spec_data.specs.Loads.{is_before}
use Rattle.kz_row_parts.proofs.Ends.{before_by_last, before_none}
use Rattle.kz_row_parts.proofs.parts.PartedRows.are_before.Goals as goal

pub returns-in-Some : goal.returns-in-Some
returns-in-Some c =
    let there : Some c.in-Some.row.now ≡ slice_get c.args.self.now (length c.args.self.now - 1) = sym (ap (option_map (λ r. r.now)) c.in-Some.is) ∙ c.last.ensures.last in
    c.is_before.ensures ∙ ap (λ p. is_before c.args.path.now (record c.in-Some.row.now { path = p })) c.bytes.ensures.value ∙ before_by_last c.args.path.now c.args.self.now c.in-Some.row.now c.last.ensures.rise there

pub returns-in-None : goal.returns-in-None
returns-in-None c = before_none c.args.path.now c.args.self.now (sym (ap (option_map (λ r. r.now)) c.in-None.is) ∙ c.last.ensures.last)
