use Rattle.std.proofs.Common.{ℕ, ◌+◌, List, [], ◌∷◌, sym, subst, arith}
use Rattle.kz_spec_machine.specs.Sound.{Sound}
use Rattle.kz_stream.specs.declared.ending.Ending.TheVariants as ending
use Rattle.kz_stream.specs.Machines.{StreamOver, plain_place}
use Rattle.kz_stream.specs.Lines.{effect_of_line, Prints}
use Rattle.kz_stream.specs.Pending.{lines_to_come, Takes, state_of}
use Rattle.kz_spec_machine.specs.Moments.{Moment}
use Rattle.kz_stream.specs.Disks.{OverSound}
use Rattle.kz_stream.specs.Moments.{KeepsUp, BytesKeepUp, LineKeepsUp}
use Rattle.kz_stream.proofs.Cut.{state, pending_end_much, moments_end}
use Rattle.kz_stream.proofs.Moments.{keeps_up_here}
use Rattle.kz_stream.proofs.Takings.{ends_here, line_ends}
use Rattle.kz_stream.proofs.stream.Stream.end_line.Goals as goal

pub returns-then-self-ge-MAX_INPUT_BYTES-clause-takes : goal.returns-then-self-ge-MAX_INPUT_BYTES-clause-takes
returns-then-self-ge-MAX_INPUT_BYTES-clause-takes g c = λ sound.
    let i = c.self.inside in
    let world = g.M.Machine.world in
    let p = plain_place world i.place in (
      subst (λ (s : StreamOver _). Takes (state_of world s) (state_of world s) (10 ∷ []) c.nothing.result.text.items c.nothing.result.next) c.self.view_is
          (ends_here (state p i.line.items i.taken) 10 c.nothing.result.text.items c.nothing.result.next ending.LongInput c.nothing.ensures.text c.nothing.ensures.next
          (λ rest. pending_end_much p i.line.items i.taken rest (omega arith))),
      sound,
    )

pub returns-clause-takes : goal.returns-clause-takes
returns-clause-takes g c = λ sound.
    let i = c.self.inside in
    let world = g.M.Machine.world in
    let p = plain_place world i.place in
    let new = plain_place world c.advance.new.self in
    let text = c.in-Ok.printed.text.items in
    let what = c.in-Ok.printed.next in
    let here : Sound (world i.place.machine) = subst (λ (s : StreamOver _). Sound (world s.place.machine)) (sym c.self.view_is) sound in (
      subst (λ (s : StreamOver _). Takes (state_of world s) (state new c.clear.new.self.items (i.taken + 1)) (10 ∷ []) text what) c.self.view_is
          (subst (λ (l : List ℕ). Takes (state p i.line.items i.taken) (state new l (i.taken + 1)) (10 ∷ []) text what) (sym c.clear.ensures.items)
          (line_ends p new i.line.items text i.taken what (omega arith)
          (subst (λ (l : List ℕ). Prints (effect_of_line p l) text what new) c.deref.ensures.value (c.in-Ok.ensures.prints here)))),
      c.in-Ok.ensures.sound here,
    )

pub returns-then-self-ge-MAX_INPUT_BYTES-clause-stop : goal.returns-then-self-ge-MAX_INPUT_BYTES-clause-stop
returns-then-self-ge-MAX_INPUT_BYTES-clause-stop g c =
    let i = c.self.inside in
    let world = g.M.Machine.world in
    let disks = g.M.Machine.disks in
    let m = i.place.machine in
    let p = plain_place world i.place in
    subst (λ (s : StreamOver _). OverSound (world s.place.machine) (disks s.place.machine) (BytesKeepUp (state_of world s) (10 ∷ []) c.nothing.result.text.items (g.M.Machine.tree_left s.place.machine) (g.M.Machine.log_left s.place.machine))) c.self.view_is (λ sound up rest.
    keeps_up_here p (lines_to_come (state p i.line.items i.taken) (10 ∷ rest)) c.nothing.result.text.items (g.M.Machine.tree_left m) (g.M.Machine.log_left m) c.nothing.ensures.text (g.met.M.Machine.settled m up))

pub returns-clause-stop : goal.returns-clause-stop
returns-clause-stop g c =
    let i = c.self.inside in
    let world = g.M.Machine.world in
    let disks = g.M.Machine.disks in
    let p = plain_place world i.place in
    let new = plain_place world c.advance.new.self in
    let m = c.advance.new.self.machine in
    let text = c.in-Ok.printed.text.items in
    let tree_left = g.M.Machine.tree_left m in
    let log_left = g.M.Machine.log_left m in
    subst (λ (s : StreamOver _). OverSound (world s.place.machine) (disks s.place.machine) (BytesKeepUp (state_of world s) (10 ∷ []) text tree_left log_left)) c.self.view_is (λ sound up rest.
    subst (λ (ms : List Moment). KeepsUp ms text tree_left log_left) (sym (moments_end p new i.line.items i.taken rest (omega arith)))
    (subst (λ (l : List ℕ). LineKeepsUp p l text tree_left log_left) c.deref.ensures.value (c.in-Ok.ensures.stop sound up) (lines_to_come (state new [] (i.taken + 1)) rest)))

pub returns-in-Err-clause-stop : goal.returns-in-Err-clause-stop
returns-in-Err-clause-stop g c =
    let i = c.self.inside in
    let world = g.M.Machine.world in
    let disks = g.M.Machine.disks in
    let p = plain_place world i.place in
    let new = plain_place world c.advance.new.self in
    let m = c.advance.new.self.machine in
    let tree_left = g.M.Machine.tree_left m in
    let log_left = g.M.Machine.log_left m in
    subst (λ (s : StreamOver _). OverSound (world s.place.machine) (disks s.place.machine) (BytesKeepUp (state_of world s) (10 ∷ []) [] tree_left log_left)) c.self.view_is (λ sound up rest.
    subst (λ (ms : List Moment). KeepsUp ms [] tree_left log_left) (sym (moments_end p new i.line.items i.taken rest (omega arith)))
    (subst (λ (l : List ℕ). LineKeepsUp p l [] tree_left log_left) c.deref.ensures.value (c.in-Err.ensures.stop sound up) (lines_to_come (state new [] (i.taken + 1)) rest)))
