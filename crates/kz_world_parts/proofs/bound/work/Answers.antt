use Rattle.std.proofs.Common.{ap, ◌∙◌}
use Rattle.kz_driver.specs.Drivers.{shared_of}
use Rattle.kz_world_parts.specs.Starts.{most_from, start_of}
use Rattle.kz_world_parts.proofs.Starts.{most_is_work}
use Rattle.kz_world_parts.proofs.bound.work.Goals as goal

pub returns-in-Ok-clause-ok : goal.returns-in-Ok-clause-ok
returns-in-Ok-clause-ok g c = λ ids.
    let s = shared_of c.args.tree.now (g.L.MetaLog.log c.args.log.now) ids in
    let d = c.args.driver.now in
    c.in-Ok.ensures ∙ ap (λ x. most_from x c.args.image.now) (c.in_ok-start.ensures.ok ids) ∙ ap (most_from (start_of s d)) c.requires.image ∙ most_is_work s d
