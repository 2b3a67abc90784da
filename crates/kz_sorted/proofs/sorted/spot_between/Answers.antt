use Rattle.std.proofs.Common.{◌≡◌, ◌+◌, ◌-◌, ◌/◌, ◌<◌, Less, Equal, Greater, length, arith}
use Rattle.kz_types.specs.Order.{bytes_cmp}
use Rattle.kz_types.proofs.Order.{bytes_order}
use Rattle.kz_sorted.proofs.Halves.{under_more, over_more, holds_here}
use Rattle.kz_sorted.proofs.sorted.spot_between.Goals as goal

pub loop-low-preserved-in-Less : goal.loop-low-preserved-in-Less
loop-low-preserved-in-Less g c =
    let i = c.loop-low.low + (c.loop-low.high - c.loop-low.low) / 2 in
    let within : i < length c.args.items.now = omega arith in
    let is : bytes_cmp (g.T.Keyed.key c.index-items-middle.result) c.args.key.now ≡ Less = cc in record {
      low_bound = omega arith;
      high_bound = c.loop-low.invariant.high_bound;
      under = under_more bytes_order g.T.Keyed.key c.args.key.now c.args.items.now i c.index-items-middle.result c.requires.rises within c.index-items-middle.is is;
      over = c.loop-low.invariant.over;
    }

pub returns-in-Equal : goal.returns-in-Equal
returns-in-Equal g c =
    let i = c.loop-low.low + (c.loop-low.high - c.loop-low.low) / 2 in
    let within : i < length c.args.items.now = omega arith in
    let is : bytes_cmp (g.T.Keyed.key c.index-items-middle.result) c.args.key.now ≡ Equal = cc in
    (within, holds_here bytes_order g.T.Keyed.key c.args.key.now c.args.items.now i c.index-items-middle.result within c.index-items-middle.is is)

pub loop-low-preserved : goal.loop-low-preserved
loop-low-preserved g c =
    let i = c.loop-low.low + (c.loop-low.high - c.loop-low.low) / 2 in
    let within : i < length c.args.items.now = omega arith in
    let is : bytes_cmp (g.T.Keyed.key c.index-items-middle.result) c.args.key.now ≡ Greater = cc in record {
      low_bound = omega arith;
      high_bound = omega arith;
      under = c.loop-low.invariant.under;
      over = over_more bytes_order g.T.Keyed.key c.args.key.now c.args.items.now i c.index-items-middle.result c.requires.rises within c.index-items-middle.is is;
    }
