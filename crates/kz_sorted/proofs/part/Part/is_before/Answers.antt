use Rattle.std.proofs.Common.{List, subst}
use Rattle.kz_types.specs.Order.{bytes_cmp}
use Rattle.kz_types.specs.Ordered.{Rises}
use Rattle.kz_types.proofs.Order.{bytes_order}
use Rattle.kz_sorted.proofs.Parts.{all_before, last_is_before}
use Rattle.kz_sorted.proofs.part.Part.is_before.Goals as goal

pub returns : goal.returns
returns g c = (
  λ yes.
      let rises : Rises bytes_cmp g.T.Keyed.key c.args.self.now = subst (λ (xs : List g.row.T.Denot). Rises bytes_cmp g.T.Keyed.key xs) c.self.view_is c.self.invariant.rises in
      all_before bytes_order g.T.Keyed.key (λ item. item.now) c.args.key.now c.args.self.now c.last.result rises c.last.ensures (c.ends_before.ensures.0 yes),
  λ below. c.ends_before.ensures.1 (last_is_before bytes_order g.T.Keyed.key (λ item. item.now) c.args.key.now c.args.self.now c.last.result c.last.ensures below),
)
