use Rattle.std.proofs.Common.{subst, sym}
use Rattle.kz_types.specs.Order.{bytes_cmp}
use Rattle.kz_spec_data.specs.Metadata.{name_of_user}
use Rattle.kz_spec_data.specs.InOrder.{IsUserFilled}
use Rattle.kz_laws_znodes.proofs.Entries.{HasIfFound, found_has}
use Rattle.kz_image.proofs.image.Image.scram.Goals as goal

pub scram_at-requires : goal.scram_at-requires
scram_at-requires c =
    rw c.as_slice.ensures (subst (HasIfFound IsUserFilled) (sym c.in-Some.ensures) (found_has IsUserFilled bytes_cmp name_of_user c.bytes.result.now c.self.inside.users c.self.invariant.order.users.filled)).1
