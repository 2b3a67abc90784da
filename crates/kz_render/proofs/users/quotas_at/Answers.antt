use Rattle.std.proofs.Common.{rules, ◌≡◌, true, sym, subst}
use Rattle.kz_types.specs.Order.{bytes_cmp}
use Rattle.kz_types.specs.Ordered.{find}
use Rattle.kz_json.specs.Entries.{are_quotas}
use Rattle.kz_spec_data.specs.Metadata.{path_of_quotas}
use Rattle.kz_spec_data.specs.Image.{quotas_in}
use Rattle.kz_render.proofs.QuotaLists.{found_quotas}
use Rattle.kz_render.proofs.users.quotas_at.Goals as goal

pub returns-in-Some-clause-range : goal.returns-in-Some-clause-range
returns-in-Some-clause-range c =
    let is : c.as_slice.result.now ≡ quotas_in (find bytes_cmp path_of_quotas c.args.path.now c.args.entries.now) = search rules in
    subst (λ qs. are_quotas qs ≡ true) (sym is) (found_quotas c.args.path.now c.args.entries.now c.requires)
