use Rattle.std.proofs.Common.{subst}
use Rattle.kz_types.specs.declared.key.EntityKey.{EntityKey}
use Rattle.kz_delta.specs.Placed.{AreLegalOnes}
use Rattle.kz_delta.proofs.feed.touched.Goals as goal

pub returns : goal.returns
returns c =
    let made = c.in_ok-keys.keys.items in
    let ones = subst (λ ks. AreLegalOnes ks made) c.in_ok-spoken_of.ensures c.in_ok-keys.ensures in
    record { rise = ones.rise; legal = ones.legal; all = ones.all; only = ones.only }
