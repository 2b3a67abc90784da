use Rattle.std.proofs.Common.{sym, subst}
use Rattle.kz_types.specs.Order.{bytes_cmp}
use Rattle.kz_types.specs.Ordered.{find, Rises}
use Rattle.kz_spec_data.specs.Metadata.{key_of_quota, path_of_quotas}
use Rattle.kz_spec_data.specs.InOrder.{IsQuotaFilled}
use Rattle.kz_laws_znodes.proofs.Entries.{found_has}
use Rattle.kz_laws_znodes.proofs.QuotaLists.{found_rows_rise}
use Rattle.kz_image.proofs.quotas.change_under.Goals as goal

pub change_rows-requires : goal.change_rows-requires
change_rows-requires c =
    let entries = c.args.entries.now in
    let found = find bytes_cmp path_of_quotas c.args.path.now entries in
    subst (Rises bytes_cmp key_of_quota) (sym c.in_ok-rows.ensures) (found_rows_rise found (found_has IsQuotaFilled bytes_cmp path_of_quotas c.args.path.now entries c.requires.order.filled))
