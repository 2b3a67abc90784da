use Rattle.std.proofs.lemmas.Result.{err_from_is_err_and}
use Rattle.kz_spec_data.specs.Forms.{items_at}
use Rattle.kz_spec_data.specs.Records.{feature}
use Rattle.kz_codec_read.proofs.Loops.{items_step, items_fault, items_done}
use Rattle.kz_codec_read.proofs.records.read_features.Goals as goal

pub returns-in_err-item : goal.returns-in_err-item
returns-in_err-item c =
    let p = err_from_is_err_and c.from_residual.result c.from_residual.ensures.1 in
    rw (p.1, p.2) (items_fault c.in_err-item.field-0.0 feature.read c.loop.items.items c.args.count c.loop.counter c.loop.reader (items_at feature.read c.args.count c.args.reader.now) c.loop-test.true c.in_err-item.ensures c.loop.invariant)

pub loop-preserved : goal.loop-preserved
loop-preserved c = rw c.in-Ok.ensures.items (items_step feature.read c.loop.items.items c.args.count c.loop.counter c.loop.reader c.in_ok-item.item c.read_feature.new.reader (items_at feature.read c.args.count c.args.reader.now) c.loop-test.true c.in_ok-item.ensures c.loop.invariant)

pub returns : goal.returns
returns c = rw c.from_vec.ensures (items_done feature.read c.loop.items.items c.args.count c.loop.counter c.loop.reader (items_at feature.read c.args.count c.args.reader.now) c.loop-test.false c.loop.invariant)
