use Rattle.std.proofs.Common.{w32, to_z, of_z, arith}
use Rattle.kz_world_parts.proofs.Listings.{elected_more}
use Rattle.kz_world_parts.proofs.drivers.elect_driver.Goals as goal

pub loop-at-preserved : goal.loop-at-preserved
loop-at-preserved c = elected_more (to_z w32 (of_z w32 c.args.id)) (to_z w32 (of_z w32 c.args.epoch)) c.args.drivers.now.items c.loop-at.drivers.items c.loop-at.at c.index_mut.result.now c.elect_if.new.driver
    (omega (arith, c.loop-at-test.true, c.len-at-end.ensures, c.args.drivers.now.ok.0)) c.loop-at.invariant c.index_mut.ensures.value c.elect_if.ensures
