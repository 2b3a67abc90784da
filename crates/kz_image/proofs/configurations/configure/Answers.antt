use Rattle.std.proofs.Common.{sym, subst}
use Rattle.kz_types.specs.Order.{bytes_cmp}
use Rattle.kz_types.specs.Ordered.{Rises}
use Rattle.kz_spec_data.specs.Metadata.{name_of_pair}
use Rattle.kz_laws_znodes.proofs.Lists.{pairs_rise}
use Rattle.kz_image.proofs.configurations.configure.Goals as goal

pub change_pairs-requires : goal.change_pairs-requires
change_pairs-requires c = subst (Rises bytes_cmp name_of_pair) (sym c.in_ok-pairs.ensures) (pairs_rise c.args.change.now.resource_name c.args.configs.now c.requires.filled)
