use Rattle.kz_writer.proofs.RenderedPaths.{differ_at_paths}
use Rattle.kz_writer.proofs.rendered.renderings_differ_at_paths.Goals as goal

pub returns : goal.returns
returns c =
    let had = c.is_held.ensures in
    let has = c.is_held-2.ensures in
    differ_at_paths c.args.old.now c.args.new.now had.order had.writable has.order has.writable
