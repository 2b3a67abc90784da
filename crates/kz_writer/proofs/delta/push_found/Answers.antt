use Rattle.std.proofs.Common.{ℕ, option_map, sym, ap, ◌∙◌}
use Rattle.std.specs.Prelude.{Vec}
use Rattle.std.specs.declared.alloc.Global.{Global}
use Rattle.kz_writer.proofs.PathLists.{pushed_znode}
use Rattle.kz_writer.proofs.delta.push_found.Goals as goal

pub returns-in_ok-push-in-Some-clause-ok : goal.returns-in_ok-push-in-Some-clause-ok
returns-in_ok-push-in-Some-clause-ok g c =
    pushed_znode c.args.znodes.now.items c.push.new.self.items c.args.path.now c.in_ok-copy-in-Some.field-0 (g.B.Bodies.znodes c.args.bodies.now) c.in-Some.body.items c.from_vec.result
    (ap (option_map (λ (b : Vec ℕ Global). b.items)) (sym c.in-Some.is) ∙ c.in_ok-body.ensures.ok) c.in_ok-copy-in-Some.ensures c.from_vec.ensures c.in_ok-push-in-Some.ensures.items
