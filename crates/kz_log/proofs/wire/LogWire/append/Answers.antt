use Rattle.std.proofs.Common.{◌∙◌, ap, sym, w32, w64, rules}
use Rattle.std.proofs.lemmas.Int.{to_z-of_z}
use mir.Val.{SFits}
use Rattle.kz_log.proofs.Wires.{same_append}
use Rattle.kz_log.proofs.wire.LogWire.append.Goals.{in-Ok, in-Err}
use Rattle.kz_log.proofs.wire.LogWire.append.Goals as goal

pub returns-after-append-clause-ok : goal.returns-after-append-clause-ok
returns-after-append-clause-ok g c =
    let log = ap (g.L.MetaLog.log) (c.inner_mut.ensures.lent ∙ ap (λ w. w.inner) (c.take_plan.ensures.spent) ∙ ap (λ w. w.inner) c.self.view_is) in
    let said = same_append log (to_z-of_z w32 c.args.epoch c.ranges.epoch) (to_z-of_z w64 c.args.now c.ranges.now) c.args.items.now in
    elim c.match-append.branch [
      | in-Ok w ↦
          let fits : SFits w64 w.in-Ok.end = search rules in
          rw w.result-is (sym said ∙ w.in-Ok.ensures.ok.0, to_z-of_z w64 w.in-Ok.end fits ∙ w.in-Ok.ensures.ok.1)
      | in-Err w ↦ rw w.result-is tt
    ]
