use Rattle.std.proofs.Common.{sym, ◌∙◌}
use Rattle.kz_types.specs.Order.{bytes_cmp}
use Rattle.kz_sorted.proofs.AfterLemmas.{items_after-none}
use Rattle.kz_sorted.proofs.blocks.Blocks.items_after.Goals as goal

pub returns-in-None : goal.returns-in-None
returns-in-None g c = rw c.in-None.is (c.items.ensures.items ∙ sym (items_after-none bytes_cmp g.T.Keyed.key c.args.self.now))
