use Rattle.std.proofs.Common.{ℕ, ◌+◌, List, [], ◌∷◌, ◌++◌, refl, sym, subst, arith}
use Rattle.kz_spec_machine.specs.Sound.{Sound}
use Rattle.kz_stream.specs.declared.ending.Ending.TheVariants as ending
use Rattle.kz_stream.specs.Machines.{StreamOver, plain_place}
use Rattle.kz_stream.specs.Pending.{lines_to_come, Takes, state_of}
use Rattle.kz_stream.specs.Disks.{OverSound}
use Rattle.kz_stream.specs.Moments.{BytesKeepUp}
use Rattle.kz_stream.proofs.Cut.{state, pending_byte, lines_byte, pending_long, pending_much, moments_byte}
use Rattle.kz_stream.proofs.Moments.{keeps_up_here}
use Rattle.kz_stream.proofs.Takings.{ends_here, goes_here}
use Rattle.kz_stream.proofs.stream.Stream.push.Goals as goal

pub returns-then-len-ge-MAX_LINE_BYTES-clause-takes : goal.returns-then-len-ge-MAX_LINE_BYTES-clause-takes
returns-then-len-ge-MAX_LINE_BYTES-clause-takes g c = λ sound.
    let i = c.self.inside in
    let world = g.M.Machine.world in
    let p = plain_place world i.place in (
      subst (λ (s : StreamOver _). Takes (state_of world s) (state_of world s) (c.args.byte ∷ []) c.nothing.result.text.items c.nothing.result.next) c.self.view_is
          (ends_here (state p i.line.items i.taken) c.args.byte c.nothing.result.text.items c.nothing.result.next ending.LongLine c.nothing.ensures.text c.nothing.ensures.next
          (λ rest. pending_long p i.line.items i.taken c.args.byte rest c.requires (omega (arith, c.self.inside.line.ok.0)))),
      sound,
    )

pub returns-then-self-ge-MAX_INPUT_BYTES-clause-takes : goal.returns-then-self-ge-MAX_INPUT_BYTES-clause-takes
returns-then-self-ge-MAX_INPUT_BYTES-clause-takes g c = λ sound.
    let i = c.self.inside in
    let world = g.M.Machine.world in
    let p = plain_place world i.place in
    let made = c.nothing-then-self-ge-MAX_INPUT_BYTES in (
      subst (λ (s : StreamOver _). Takes (state_of world s) (state_of world s) (c.args.byte ∷ []) made.result.text.items made.result.next) c.self.view_is
          (ends_here (state p i.line.items i.taken) c.args.byte made.result.text.items made.result.next ending.LongInput made.ensures.text made.ensures.next
          (λ rest. pending_much p i.line.items i.taken c.args.byte rest c.requires (omega (arith, c.self.inside.line.ok.0)) (omega arith))),
      sound,
    )

pub returns-clause-takes : goal.returns-clause-takes
returns-clause-takes g c = λ sound.
    let i = c.self.inside in
    let world = g.M.Machine.world in
    let p = plain_place world i.place in
    let b = c.args.byte in
    let text = c.nothing-2.result.text.items in
    let what = c.nothing-2.result.next in
    let here : Sound (world i.place.machine) = subst (λ (s : StreamOver _). Sound (world s.place.machine)) (sym c.self.view_is) sound in (
      subst (λ (s : StreamOver _). Takes (state_of world s) (state p c.push.new.self.items (i.taken + 1)) (b ∷ []) text what) c.self.view_is
          (subst (λ (l : List ℕ). Takes (state p i.line.items i.taken) (state p l (i.taken + 1)) (b ∷ []) text what) (sym c.in-Ok.ensures.items)
          (goes_here (state p i.line.items i.taken) (state p (i.line.items ++ b ∷ []) (i.taken + 1)) b text what c.nothing-2.ensures.text c.nothing-2.ensures.next
          (λ rest. pending_byte p i.line.items i.taken b rest c.requires (omega (arith, c.self.inside.line.ok.0)) (omega arith))
          (λ rest. lines_byte p i.line.items i.taken b rest c.requires (omega (arith, c.self.inside.line.ok.0)) (omega arith))
          refl
          (λ rest. moments_byte p i.line.items i.taken b rest c.requires (omega (arith, c.self.inside.line.ok.0)) (omega arith)))),
      here,
    )

pub returns-then-len-ge-MAX_LINE_BYTES-clause-stop : goal.returns-then-len-ge-MAX_LINE_BYTES-clause-stop
returns-then-len-ge-MAX_LINE_BYTES-clause-stop g c =
    let i = c.self.inside in
    let world = g.M.Machine.world in
    let disks = g.M.Machine.disks in
    let m = i.place.machine in
    let p = plain_place world i.place in
    let text = c.nothing.result.text.items in
    subst (λ (s : StreamOver _). OverSound (world s.place.machine) (disks s.place.machine) (BytesKeepUp (state_of world s) (c.args.byte ∷ []) text (g.M.Machine.tree_left s.place.machine) (g.M.Machine.log_left s.place.machine))) c.self.view_is (λ sound up rest.
    keeps_up_here p (lines_to_come (state p i.line.items i.taken) (c.args.byte ∷ rest)) text (g.M.Machine.tree_left m) (g.M.Machine.log_left m) c.nothing.ensures.text (g.met.M.Machine.settled m up))

pub returns-then-self-ge-MAX_INPUT_BYTES-clause-stop : goal.returns-then-self-ge-MAX_INPUT_BYTES-clause-stop
returns-then-self-ge-MAX_INPUT_BYTES-clause-stop g c =
    let i = c.self.inside in
    let world = g.M.Machine.world in
    let disks = g.M.Machine.disks in
    let m = i.place.machine in
    let p = plain_place world i.place in
    let text = c.nothing-then-self-ge-MAX_INPUT_BYTES.result.text.items in
    subst (λ (s : StreamOver _). OverSound (world s.place.machine) (disks s.place.machine) (BytesKeepUp (state_of world s) (c.args.byte ∷ []) text (g.M.Machine.tree_left s.place.machine) (g.M.Machine.log_left s.place.machine))) c.self.view_is (λ sound up rest.
    keeps_up_here p (lines_to_come (state p i.line.items i.taken) (c.args.byte ∷ rest)) text (g.M.Machine.tree_left m) (g.M.Machine.log_left m) c.nothing-then-self-ge-MAX_INPUT_BYTES.ensures.text (g.met.M.Machine.settled m up))

pub returns-clause-stop : goal.returns-clause-stop
returns-clause-stop g c =
    let i = c.self.inside in
    let world = g.M.Machine.world in
    let disks = g.M.Machine.disks in
    let m = i.place.machine in
    let p = plain_place world i.place in
    let text = c.nothing-2.result.text.items in
    subst (λ (s : StreamOver _). OverSound (world s.place.machine) (disks s.place.machine) (BytesKeepUp (state_of world s) (c.args.byte ∷ []) text (g.M.Machine.tree_left m) (g.M.Machine.log_left m))) c.self.view_is (λ sound up rest.
    keeps_up_here p (lines_to_come (state p i.line.items i.taken) (c.args.byte ∷ rest)) text (g.M.Machine.tree_left m) (g.M.Machine.log_left m) c.nothing-2.ensures.text (g.met.M.Machine.settled m up))

-- there is no memory for the byte
pub returns-in_default-clause-stop : goal.returns-in_default-clause-stop
returns-in_default-clause-stop g c =
    let i = c.self.inside in
    let world = g.M.Machine.world in
    let disks = g.M.Machine.disks in
    let m = i.place.machine in
    let p = plain_place world i.place in
    subst (λ (s : StreamOver _). OverSound (world s.place.machine) (disks s.place.machine) (BytesKeepUp (state_of world s) (c.args.byte ∷ []) [] (g.M.Machine.tree_left m) (g.M.Machine.log_left m))) c.self.view_is (λ sound up rest.
    keeps_up_here p (lines_to_come (state p i.line.items i.taken) (c.args.byte ∷ rest)) [] (g.M.Machine.tree_left m) (g.M.Machine.log_left m) refl (g.met.M.Machine.settled m up))
