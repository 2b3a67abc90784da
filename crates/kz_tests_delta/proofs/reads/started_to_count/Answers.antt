use Rattle.std.proofs.Common.{sym, subst}
use Rattle.kz_spec_data.specs.Log.{View, IsViewOf}
use Rattle.kz_log.proofs.Views.{new_is_view}
use Rattle.kz_tests_delta.proofs.reads.started_to_count.Goals as goal

pub returns : goal.returns
returns g c =
    let log = c.new.result.inner in
    subst (λ (v : View). IsViewOf log.rows v) (sym c.new-2.ensures) (new_is_view log.rows log.is_log)
