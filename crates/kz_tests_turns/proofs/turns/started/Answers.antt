use Rattle.std.proofs.Common.{sym, ap, subst}
use Rattle.kz_spec_data.specs.Log.{View, IsViewOf}
use Rattle.kz_spec_machine.specs.Driver.{Driver}
use Rattle.kz_log.proofs.Views.{new_is_view}
use Rattle.kz_tests_turns.proofs.turns.started.Goals as goal

pub returns-clause-view : goal.returns-clause-view
returns-clause-view c =
    let log = c.new-4.result.inner in
    subst (λ (v : View). IsViewOf log.rows v) (sym (ap (λ (d : Driver). d.view) c.new-5.ensures)) (new_is_view log.rows log.is_log)

pub returns-clause-first : goal.returns-clause-first
returns-clause-first c =
    let log = c.new-4.result.inner in
    new_is_view log.rows log.is_log
