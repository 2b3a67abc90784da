use Rattle.std.proofs.Common.{subst}
use Rattle.std.specs.Prelude.{All}
use Rattle.kz_spec_data.specs.Metadata.{Image}
use Rattle.kz_spec_data.specs.Legal.{IsScramEntry}
use Rattle.kz_image.proofs.image.Image.users.Goals as goal

pub returns-clause-legal : goal.returns-clause-legal
returns-clause-legal c = subst (λ (i : Image). All IsScramEntry i.users) c.self.view_is c.self.invariant.order.legal.users
