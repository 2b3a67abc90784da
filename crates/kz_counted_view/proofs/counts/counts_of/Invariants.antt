use Rattle.std.proofs.Common.{◌≡◌, take}
use Rattle.kz_counted_view.specs.Counting.{counts_of}
use Rattle.kz_counted_view.proofs.counts.counts_of.Given as goal

abbrev pub invariant-loop-znode : goal.invariant-loop-znode
invariant-loop-znode l = l.counts ≡ counts_of (take l.znode-index l.znodes)
