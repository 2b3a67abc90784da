use Rattle.std.proofs.Common.{pos, sym, subst}
use Rattle.kz_log.specs.declared.memory.MemoryLog.{MemoryLog}
use Rattle.kz_spec_data.specs.Log.{IsViewOf}
use Rattle.kz_tests_stores.proofs.drivers.append_all.Goals as goal

pub returns : goal.returns
returns g c = λ v h.
    let log = c.inner_mut-log.result.now in
    c.views_stay.ensures.append _ _ v (pos 1) (pos 8) c.args.items.now log.is_log (subst (λ (l : MemoryLog). IsViewOf l.rows v) (sym c.inner_mut-log.ensures.lent) h) c.in-Ok.ensures.ok.0
