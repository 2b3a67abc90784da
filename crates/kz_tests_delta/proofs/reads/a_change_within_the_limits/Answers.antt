use Rattle.std.proofs.Common.{sym, subst}
use Rattle.kz_spec_data.specs.Log.{View, IsViewOf}
use Rattle.kz_tests_delta.proofs.reads.a_change_within_the_limits.Goals as goal

pub read_on_and_count-requires-2 : goal.read_on_and_count-requires-2
read_on_and_count-requires-2 g c =
    c.append.ensures.views c.limit_after.new.view (subst (λ (v : View). IsViewOf c.read_on_and_count.new.log.inner.rows v) (sym c.limit_after.ensures) c.read_on_and_count.ensures)
