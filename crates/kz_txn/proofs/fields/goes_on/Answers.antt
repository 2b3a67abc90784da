use Rattle.std.proofs.Common.{◌/◌, ◌∙◌, arith}
use Rattle.std.proofs.lemmas.Bool.{lt-leb}
use Rattle.kz_txn.proofs.Numbers.{scale_fits, scale_some, goes_on_by, goes_on_not}
use Rattle.kz_txn.proofs.fields.goes_on.Goals as goal

pub pow-scale-requires : goal.pow-scale-requires
pow-scale-requires c = scale_fits c.args.size c.requires

pub nonzero_div-least : goal.nonzero_div-least
nonzero_div-least c = let some = scale_some c.args.size in omega (arith, some, c.pow-scale.ensures)

pub nonzero_div-result : goal.nonzero_div-result
nonzero_div-result c = let some = scale_some c.args.size in omega (arith, some, c.pow-scale.ensures)

pub returns-then-least-scale : goal.returns-then-least-scale
returns-then-least-scale c = goes_on_by c.args.size c.args.so_far c.pow-scale.result c.args.least c.args.most c.pow-scale.ensures c.if-least-scale.true

pub returns-else-least-scale : goal.returns-else-least-scale
returns-else-least-scale c = lt-leb (c.args.least / c.pow-scale.result) c.args.so_far c.if-least-scale.false ∙ goes_on_not c.args.size c.args.so_far c.pow-scale.result c.args.least c.args.most c.pow-scale.ensures c.if-least-scale.false
