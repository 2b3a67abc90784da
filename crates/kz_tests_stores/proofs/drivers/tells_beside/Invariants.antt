use Rattle.kz_spec_data.specs.Log.{IsViewOf}
use Rattle.kz_tests_stores.proofs.drivers.tells_beside.Given as goal

abbrev pub invariant-loop : goal.invariant-loop
invariant-loop g l = IsViewOf l.stores.log.inner.rows l.driver.view × IsViewOf l.stores.log.inner.rows l.latest
