use Rattle.std.proofs.Common.{◌≡◌, ◌<◌, Equal, Greater, length, arith}
use Rattle.kz_types.specs.Order.{bytes_cmp}
use Rattle.kz_types.proofs.Order.{bytes_order}
use Rattle.kz_sorted.proofs.Halves.{over_more, holds_here}
use Rattle.kz_sorted.proofs.sorted.spot_from.Goals as goal

pub returns-in-Equal : goal.returns-in-Equal
returns-in-Equal g c =
    let within : c.args.from < length c.args.items.now = omega (arith, c.requires.within, c.if-from-items.false) in
    let is : bytes_cmp (g.T.Keyed.key c.index-items-from.result) c.args.key.now ≡ Equal = cc in
    (within, holds_here bytes_order g.T.Keyed.key c.args.key.now c.args.items.now c.args.from c.index-items-from.result within c.index-items-from.is is)

pub returns-in-Greater : goal.returns-in-Greater
returns-in-Greater g c =
    let within : c.args.from < length c.args.items.now = omega (arith, c.requires.within, c.if-from-items.false) in
    let is : bytes_cmp (g.T.Keyed.key c.index-items-from.result) c.args.key.now ≡ Greater = cc in
    (c.requires.within, c.requires.below, over_more bytes_order g.T.Keyed.key c.args.key.now c.args.items.now c.args.from c.index-items-from.result c.requires.rises within c.index-items-from.is is)
