use Rattle.std.proofs.Common.{List, sym, ap, subst}
use Rattle.kz_spec_data.specs.Log.{IsViewOf}
use Rattle.kz_spec_machine.specs.Driver.{Driver}
use Rattle.kz_spec_machine.specs.Machine.{running_ids}
use Rattle.kz_world_parts.specs.Worlds.{AreDistinct, AreViews}
use Rattle.kz_log.proofs.Views.{new_is_view}
use Rattle.kz_world.proofs.machine.World.new.Goals as goal

pub invariant_of-result : goal.invariant_of-result
invariant_of-result g c =
    let log = g.L.MetaLog.log in
    let l = log c.new-3.result.inner in
    record {
      tree_delivers = ap (λ x. x.plan) c.new-2.ensures;
      log_delivers = ap (λ x. x.plan) c.new-3.ensures;
      distinct = subst (λ (ds : List Driver). AreDistinct (running_ids ds)) (sym c.new-5.ensures.items) tt;
      own = subst (IsViewOf l) (sym c.new-4.ensures) (new_is_view l (g.met.L.MetaLog.is_log c.new-3.result.inner));
      each = subst (AreViews l) (sym c.new-5.ensures.items) tt;
    }
