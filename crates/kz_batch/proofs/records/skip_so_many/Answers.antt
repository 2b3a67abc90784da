use Rattle.std.proofs.Common.{◌≡◌, ◌++◌, ◌∷◌, []}
use Rattle.std.proofs.lemmas.Result.{err_from_is_err_and}
use Rattle.kz_spec_data.specs.Forms.{items_at}
use Rattle.kz_spec_data.specs.Batches.{header}
use Rattle.kz_batch.proofs.Loops.{from_none, items_step, items_fault, items_done}
use Rattle.kz_batch.proofs.records.skip_so_many.Goals as goal

pub loop-init : goal.loop-init
loop-init c = ([], from_none header.read c.args.count c.args.reader.now)

pub returns-in_err-skip_header : goal.returns-in_err-skip_header
returns-in_err-skip_header c =
    let p = err_from_is_err_and c.from_residual.result c.from_residual.ensures.1 in
    rw (p.1, p.2) (items_fault c.in_err-skip_header.field-0.0 header.read c.loop.invariant.0 c.args.count c.loop.counter c.loop.reader (items_at header.read c.args.count c.args.reader.now) c.loop-test.true c.in_err-skip_header.ensures c.loop.invariant.1)

pub loop-preserved : goal.loop-preserved
loop-preserved c =
    let found = c.in_ok-skip_header.ensures in
    (c.loop.invariant.0 ++ found.0 ∷ [], items_step header.read c.loop.invariant.0 c.args.count c.loop.counter c.loop.reader found.0 c.skip_header.new.reader (items_at header.read c.args.count c.args.reader.now) c.loop-test.true found.2 c.loop.invariant.1)

pub returns : goal.returns
returns c = (c.loop.invariant.0, tt, items_done header.read c.loop.invariant.0 c.args.count c.loop.counter c.loop.reader (items_at header.read c.args.count c.args.reader.now) c.loop-test.false c.loop.invariant.1)
