use Rattle.kz_spec_data.specs.Log.{View, IsViewOf}
use Rattle.kz_tests_stores.proofs.drivers.tells.Given as goal

abbrev pub invariant-loop : goal.invariant-loop
invariant-loop g l = IsViewOf l.stores.log.inner.rows l.driver.view × ((v : View) → IsViewOf l.fn.stores.log.inner.rows v → IsViewOf l.stores.log.inner.rows v)
