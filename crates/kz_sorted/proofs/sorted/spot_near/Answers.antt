use Rattle.std.proofs.Common.{◌≡◌, ◌<◌, Less, Equal, Greater, length, arith}
use Rattle.kz_types.specs.Order.{bytes_cmp}
use Rattle.kz_types.proofs.Order.{bytes_order}
use Rattle.kz_sorted.proofs.Halves.{under_more, over_more, holds_here}
use Rattle.kz_sorted.proofs.sorted.spot_near.Goals as goal

pub spot_from-requires-clause-below : goal.spot_from-requires-clause-below
spot_from-requires-clause-below g c =
    let within : c.args.guess < length c.args.items.now = omega (arith, c.if-items-guess.false) in
    let is : bytes_cmp (g.T.Keyed.key c.index-items-guess.result) c.args.key.now ≡ Less = cc in
    under_more bytes_order g.T.Keyed.key c.args.key.now c.args.items.now c.args.guess c.index-items-guess.result c.requires within c.index-items-guess.is is

pub spot_between-requires-in-Greater-clause-above : goal.spot_between-requires-in-Greater-clause-above
spot_between-requires-in-Greater-clause-above g c =
    let within : c.args.guess < length c.args.items.now = omega (arith, c.if-items-guess.false) in
    let is : bytes_cmp (g.T.Keyed.key c.index-items-guess.result) c.args.key.now ≡ Greater = cc in
    over_more bytes_order g.T.Keyed.key c.args.key.now c.args.items.now c.args.guess c.index-items-guess.result c.requires within c.index-items-guess.is is

pub returns-in-Equal : goal.returns-in-Equal
returns-in-Equal g c =
    let within : c.args.guess < length c.args.items.now = omega (arith, c.if-items-guess.false) in
    let is : bytes_cmp (g.T.Keyed.key c.index-items-guess.result) c.args.key.now ≡ Equal = cc in
    (within, holds_here bytes_order g.T.Keyed.key c.args.key.now c.args.items.now c.args.guess c.index-items-guess.result within c.index-items-guess.is is)
