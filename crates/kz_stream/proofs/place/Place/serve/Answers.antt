use Rattle.std.proofs.Common.{◌+◌, Option, sym, ap, subst}
use Rattle.kz_spec_machine.specs.Sound.{Sound}
use Rattle.kz_spec_machine.specs.Output.{Place}
use Rattle.kz_stream.specs.Machines.{PlaceOver, plain_place}
use Rattle.kz_stream.specs.Lines.{effect_of_event, Prints}
use Rattle.kz_stream.proofs.CutOff.{prints_event}
use Rattle.kz_stream.specs.declared.failure.Failure.{Failure}
use Rattle.kz_stream.specs.FailureDisks.{AnswerDisks}
use Rattle.kz_stream.specs.Disks.{OverSound}
use Rattle.kz_stream.specs.Moments.{EventKeepsUp}
use Rattle.kz_stream.proofs.Moments.{event_keeps_up}
use Rattle.kz_stream.proofs.Quiet.{stays_up}
use Rattle.kz_stream.proofs.place.Place.serve.Goals as goal

pub returns-clause-prints : goal.returns-clause-prints
returns-clause-prints g c = λ sound.
    let i = c.self.inside in
    let world = g.M.Machine.world in
    let p : Place = record { lines = i.lines; events = i.events; steps = i.steps; world = world i.machine } in
    let new = world c.event-answer.new.self in
    let made = c.event-answer.ensures in
    let q : Place = record { lines = i.lines + 1; events = i.events + 1; steps = i.steps + c.steps_of.result; world = new } in
    let here : Sound (world i.machine) = subst (λ (o : PlaceOver _). Sound (world o.machine)) (sym c.self.view_is) sound in
    subst (λ (o : PlaceOver _). Prints (effect_of_event (plain_place world o) c.args.event.now) c.printed.result.text.items c.printed.result.next q) c.self.view_is
    (prints_event p q c.args.event.now c.event-answer.result new c.printed.result.text.items c.printed.result.next c.printed.ensures
    (ap (λ n. record p { lines = i.lines + 1; events = i.events + 1; steps = i.steps + n; world = new }) c.steps_of.ensures)
    (made.next here) (made.failed here))

pub returns-clause-stop : goal.returns-clause-stop
returns-clause-stop g c =
    let i = c.self.inside in
    let world = g.M.Machine.world in
    let disks = g.M.Machine.disks in
    let p : Place = record { lines = i.lines; events = i.events; steps = i.steps; world = world i.machine } in
    let m = c.event-answer.new.self in
    let made = c.event-answer.ensures in
    let text = c.printed.result.text.items in
    let tree_left = g.M.Machine.tree_left m in
    let log_left = g.M.Machine.log_left m in
    subst (λ (o : PlaceOver _). OverSound (world o.machine) (disks o.machine) (EventKeepsUp (plain_place world o) c.args.event.now text tree_left log_left)) c.self.view_is (λ sound up.
    event_keeps_up p c.args.event.now c.event-answer.result (world m) text c.printed.result.next tree_left log_left c.printed.ensures (made.next sound) (made.failed sound) (made.stop sound up)
    (λ calm. g.met.M.Machine.settled m (stays_up (disks i.machine) (disks m) (subst (λ (f : Option Failure). AnswerDisks f (disks i.machine) (disks m)) calm (made.disks sound up)))))
