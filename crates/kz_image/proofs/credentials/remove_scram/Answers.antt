use Rattle.std.proofs.Common.{sym, subst}
use Rattle.std.specs.Ordering.{int_cmp}
use Rattle.kz_types.specs.Ordered.{Rises}
use Rattle.kz_spec_data.specs.Metadata.{mechanism_of_pair}
use Rattle.kz_laws_znodes.proofs.UserLists.{scrams_rise}
use Rattle.kz_image.proofs.credentials.remove_scram.Goals as goal

pub drop_scram-requires : goal.drop_scram-requires
drop_scram-requires c = subst (Rises int_cmp mechanism_of_pair) (sym c.in_ok-scrams.ensures) (scrams_rise c.args.name.now c.args.users.now c.requires)
