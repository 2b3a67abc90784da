use Rattle.std.proofs.Common.{sym, subst}
use Rattle.kz_spec_data.specs.Log.{View, IsViewOf}
use Rattle.kz_log.proofs.Views.{new_is_view}
use Rattle.kz_tests_delta.proofs.reads.read_anew.Goals as goal

pub read_to_end-requires : goal.read_to_end-requires
read_to_end-requires g c =
    let log = c.inner_mut.result.now in
    subst (λ (v : View). IsViewOf log.rows v) (sym c.new-view.ensures) (new_is_view log.rows log.is_log)
