use Rattle.std.proofs.Common.{[], ◌∷◌, refl, sym, ◌∙◌, subst}
use Rattle.kz_spec_data.specs.Lines.{line}
use Rattle.kz_spec_machine.specs.Output.{Place}
use Rattle.kz_stream.specs.Disks.{OverSound}
use Rattle.kz_stream.specs.Machines.{PlaceOver, plain_place}
use Rattle.kz_stream.specs.Moments.{LineKeepsUp}
use Rattle.kz_stream.proofs.Moments.{keeps_up_here, event_line_keeps_up}
use Rattle.kz_stream.proofs.place.Place.advance.Goals as goal

pub returns-then-is_passed_over-clause-stop : goal.returns-then-is_passed_over-clause-stop
returns-then-is_passed_over-clause-stop g c =
    let i = c.self.inside in
    let m = i.machine in
    let world = g.M.Machine.world in
    let disks = g.M.Machine.disks in
    let p : Place = record { lines = i.lines; events = i.events; steps = i.steps; world = world m } in
    let text = c.nothing.result.text.items in
    subst (λ (o : PlaceOver _). OverSound (world o.machine) (disks o.machine) (LineKeepsUp (plain_place world o) c.args.line.now text (g.M.Machine.tree_left m) (g.M.Machine.log_left m))) c.self.view_is (λ sound up is.
    keeps_up_here p (line c.args.line.now ∷ is) text (g.M.Machine.tree_left m) (g.M.Machine.log_left m) c.nothing.ensures.text (g.met.M.Machine.settled m up))

pub returns-in-Ok-clause-stop : goal.returns-in-Ok-clause-stop
returns-in-Ok-clause-stop g c = λ sound up.
    let m = c.serve.new.self.machine in
    event_line_keeps_up (plain_place g.M.Machine.world c.args.self.now) c.args.line.now c.in-Ok.event c.serve.result.text.items (g.M.Machine.tree_left m) (g.M.Machine.log_left m) (sym c.is_passed_over.ensures ∙ c.if-is_passed_over.false) c.in-Ok.ensures.ok (c.serve.ensures.stop sound up)

pub returns-in-Err-BadLine-clause-stop : goal.returns-in-Err-BadLine-clause-stop
returns-in-Err-BadLine-clause-stop g c = λ sound up is.
    let m = c.args.self.now.machine in
    keeps_up_here (plain_place g.M.Machine.world c.args.self.now) (line c.args.line.now ∷ is) c.nothing-in-Err-BadLine.result.text.items (g.M.Machine.tree_left m) (g.M.Machine.log_left m) c.nothing-in-Err-BadLine.ensures.text (g.met.M.Machine.settled m up)

pub returns-in-Err-NoMemory-clause-stop : goal.returns-in-Err-NoMemory-clause-stop
returns-in-Err-NoMemory-clause-stop g c = λ sound up is.
    let m = c.args.self.now.machine in
    keeps_up_here (plain_place g.M.Machine.world c.args.self.now) (line c.args.line.now ∷ is) [] (g.M.Machine.tree_left m) (g.M.Machine.log_left m) refl (g.met.M.Machine.settled m up)
