use Rattle.kz_render.proofs.Entities.{rendered}
use Rattle.kz_render.proofs.znodes.render.Goals as goal

pub returns-clause-znodes : goal.returns-clause-znodes
returns-clause-znodes c =
    rendered c.args.image.now c.in_ok-znodes.znodes.items c.push_entities.new.znodes.items c.in_ok-znodes-2.znodes.items c.in_ok-znodes.ensures.roots c.in_ok-znodes.ensures.rising
    c.in_ok-push_entities.ensures c.in_ok-znodes-2.ensures.put
