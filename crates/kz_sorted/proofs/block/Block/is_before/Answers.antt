use Rattle.kz_types.proofs.Order.{bytes_order}
use Rattle.kz_sorted.proofs.Parts.{all_before, last_is_before}
use Rattle.kz_sorted.proofs.block.Block.is_before.Goals as goal

pub returns : goal.returns
returns g c = (
  λ yes. all_before bytes_order g.T.Keyed.key (λ item. item.now) c.args.key.now c.args.self.now c.last.result c.requires c.last.ensures (c.ends_before.ensures.0 yes),
  λ below. c.ends_before.ensures.1 (last_is_before bytes_order g.T.Keyed.key (λ item. item.now) c.args.key.now c.args.self.now c.last.result c.last.ensures below),
)
