use Rattle.std.proofs.Common.{List, filter, map, option_map, ap, ◌∙◌}
use Rattle.std.proofs.lemmas.Iterator.{YieldsList-from_take, items_from_drains}
use Rattle.std.proofs.lemmas.Iterator.Consumers.{YieldsList-from_first}
use Rattle.kz_types.specs.Order.{bytes_cmp}
use Rattle.kz_sorted.specs.After.{is_after}
use Rattle.kz_sorted.proofs.blocks.Blocks.page.Goals as goal

pub returns : goal.returns
returns g c =
    let items : List g.row.T.Denot = filter (is_after bytes_cmp g.T.Keyed.key (option_map (λ k. k.now) c.args.after)) c.args.self.now in
    let source = YieldsList-from_first (λ x. x.now) (λ s. s) items (c.take.ensures.source ∙ c.items_after.ensures) in
    let ran = c.in_ok-collect.ensures.ran in
    ap (map (λ x. x.now)) ran.2.0 ∙ items_from_drains ran.0 ran.1 (YieldsList-from_take c.args.limit source c.take.ensures.count)
