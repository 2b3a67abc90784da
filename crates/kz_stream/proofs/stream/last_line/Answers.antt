use Rattle.std.proofs.Common.{◌≡◌, ℕ, List, [], Contains, IfOk, sym, subst}
use Rattle.std.proofs.lemmas.Result.{IfOk-weaker}
use Rattle.kz_spec_data.specs.Lines.{Item, with_front}
use Rattle.kz_spec_machine.specs.Output.{outcome}
use Rattle.kz_spec_machine.specs.Moments.{Moment, moment_after, moments}
use Rattle.kz_stream.specs.declared.ending.Next.TheVariants as next_is
use Rattle.kz_stream.specs.declared.ending.Printed.{Printed}
use Rattle.kz_stream.specs.Machines.{plain_place}
use Rattle.kz_stream.specs.Endings.{Begins}
use Rattle.kz_stream.specs.Moments.{KeepsUp, text_of}
use Rattle.kz_laws_values.proofs.CutLines.{last_item, no_item, some_bytes, no_bytes}
use Rattle.kz_stream.proofs.Moments.{keeps_up_here, line_goes}
use Rattle.kz_stream.proofs.Outcomes.{begins_line}
use Rattle.kz_stream.proofs.stream.last_line.Goals as goal

pub returns-else-is_empty-clause-begins : goal.returns-else-is_empty-clause-begins
returns-else-is_empty-clause-begins g c = λ sound.
    let world = g.M.Machine.world in
    let old = plain_place world c.args.place.now in
    let new = plain_place world c.advance.new.self in
    let one = last_item c.args.line.now (some_bytes c.args.line.now c.is_empty.result c.is_empty.ensures c.if-is_empty.false) in
    subst (λ (is : List Item). IfOk c.advance.result (λ (p : Printed). Begins p.text.items p.next (world c.advance.new.self.machine) (outcome old is) (outcome new []))) (sym one)
    (IfOk-weaker c.advance.result _ _ (λ (p : Printed) h. begins_line old new c.args.line.now p.text.items p.next h []) (c.advance.ensures.prints sound))

pub returns-then-is_empty-clause-stop : goal.returns-then-is_empty-clause-stop
returns-then-is_empty-clause-stop g c = λ sound up.
    let m = c.args.place.now.machine in
    keeps_up_here (plain_place g.M.Machine.world c.args.place.now) (with_front c.args.line.now []) c.nothing.result.text.items (g.M.Machine.tree_left m) (g.M.Machine.log_left m) c.nothing.ensures.text (g.met.M.Machine.settled m up)

pub returns-then-is_empty-clause-moments : goal.returns-then-is_empty-clause-moments
returns-then-is_empty-clause-moments g c = λ sound goes m among.
    let p = plain_place g.M.Machine.world c.args.place.now in
    subst (λ (is : List Item). Contains (moments p is) (moment_after c.nothing.result.text.items m)) (sym (no_item c.args.line.now (no_bytes c.args.line.now c.is_empty.result c.is_empty.ensures c.if-is_empty.true)))
    (subst (λ (t : List ℕ). Contains (moments p []) (moment_after t m)) (sym c.nothing.ensures.text) among)

pub returns-else-is_empty-clause-stop : goal.returns-else-is_empty-clause-stop
returns-else-is_empty-clause-stop g c = λ sound up.
    let m = c.advance.new.self.machine in
    let one = last_item c.args.line.now (some_bytes c.args.line.now c.is_empty.result c.is_empty.ensures c.if-is_empty.false) in
    subst (λ (is : List Item). KeepsUp (moments (plain_place g.M.Machine.world c.args.place.now) is) (text_of c.advance.result) (g.M.Machine.tree_left m) (g.M.Machine.log_left m)) (sym one) (c.advance.ensures.stop sound up [])

pub returns-else-is_empty-clause-moments : goal.returns-else-is_empty-clause-moments
returns-else-is_empty-clause-moments g c = λ sound.
    let world = g.M.Machine.world in
    let old = plain_place world c.args.place.now in
    let new = plain_place world c.advance.new.self in
    let one = last_item c.args.line.now (some_bytes c.args.line.now c.is_empty.result c.is_empty.ensures c.if-is_empty.false) in
    subst (λ (is : List Item). IfOk c.advance.result (λ (p : Printed). p.next ≡ next_is.GoesOn → (m : Moment) → Contains (moments new []) m → Contains (moments old is) (moment_after p.text.items m))) (sym one)
    (IfOk-weaker c.advance.result _ _ (λ (p : Printed) h goes m among. line_goes old new c.args.line.now p.text.items p.next [] h goes m among) (c.advance.ensures.prints sound))
