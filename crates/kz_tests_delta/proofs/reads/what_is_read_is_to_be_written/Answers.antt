use Rattle.std.proofs.lemmas.Result.{IfOk-at_ok}
use Rattle.kz_spec_data.specs.Log.{IsViewOf}
use Rattle.kz_tests_delta.proofs.reads.what_is_read_is_to_be_written.Goals as goal

pub read_to_end-requires-2-clause-view : goal.read_to_end-requires-2-clause-view
read_to_end-requires-2-clause-view g c =
    c.append.ensures.views c.made-first.result.0 (IfOk-at_ok (λ made. IsViewOf c.read_to_end.new.log.inner.rows made.0) c.made-first.ensures c.read_to_end.ensures.view)

pub read_to_end-requires-2-clause-latest : goal.read_to_end-requires-2-clause-latest
read_to_end-requires-2-clause-latest g c =
    c.append.ensures.views c.made-first.result.0 (IfOk-at_ok (λ made. IsViewOf c.read_to_end.new.log.inner.rows made.0) c.made-first.ensures c.read_to_end.ensures.view)
