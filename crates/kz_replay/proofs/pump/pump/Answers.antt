use Rattle.std.proofs.Common.{◌≡◌, ℕ, ◌+◌, ◌≤◌, List, [], ◌++◌, take, sym, ap, ◌∙◌, subst, arith, append_assoc, append-nil}
use Rattle.std.proofs.KnownBytes.{Appends-trans, Consumes-trans, Consumes-kept, Consumes-whole}
use Rattle.std.specs.Io.KnownBytes.{Appends, Consumes}
use Rattle.kz_types.specs.declared.outside.Status.{Status}
use Rattle.kz_types.specs.declared.outside.Status.TheVariants as status
use Rattle.kz_stream.specs.FailureDisks.{AreQuiet}
use Rattle.kz_spec_machine.specs.Endings.{EndsAs}
use Rattle.kz_stream.specs.Endings.{Stops}
use Rattle.kz_spec_machine.specs.Moments.{LeavesMoment}
use Rattle.kz_stream.specs.Pending.{outcome_to_come, lines_to_come, moments_to_come, pending_lines, state_of}
use Rattle.kz_stream.proofs.Moments.{leaves_here}
use Rattle.kz_stream.proofs.Runs.{told, goes_soundly, stops_soundly, leaves_after, ends_after, lines_taken}
use Rattle.kz_stream.proofs.Statuses.{Stops-EndsAs}
use Rattle.kz_stream.proofs.Quiet.{stays_up, both_on, stop_on}
use Rattle.kz_replay.specs.Disks.{RunDisks}
use Rattle.kz_stream.proofs.Failures.{after_calm}
use Rattle.kz_replay.proofs.Ends.{stop_end, run_on, sink_status}
use Rattle.kz_replay.proofs.pump.pump.Goals as goal

next_turn : (turn old new count len : ℕ) → turn ≤ old → new ≡ old + len → count ≡ len → (count ≡ 0 → ⊥) → turn + 1 ≤ new
next_turn turn old new count len a b d e = omega arith

pub returns-in-Err-clause-output : goal.returns-in-Err-clause-output
returns-in-Err-clause-output g c = λ sound.
    let inv = c.loop-turn.invariant.0 in
    let left = Consumes-kept _ _ _ inv.0 inv.2 c.in-Err.ensures.bytes in
    let world = g.M.Machine.world in
    let old = state_of world c.args.stream in
    let here = state_of world c.loop-turn.stream in
    let m = c.loop-turn.stream.place.machine in
    let go = inv.4 sound in
    told _ _ inv.0 _ left (λ rest. (
      inv.0,
      inv.1,
      left,
      inv.3,
      lines_taken old here inv.0 inv.1 go.0 ∙ ap (λ m. record { text = inv.1; world = world m }) (sym c.into_machine.ensures),
      λ up.
          subst (λ x. LeavesMoment (moments_to_come old (inv.0 ++ rest)) inv.1 (g.M.Machine.tree_left x) (g.M.Machine.log_left x)) (sym c.into_machine.ensures)
          (subst (λ (t : List ℕ). LeavesMoment (moments_to_come old (inv.0 ++ rest)) t (g.M.Machine.tree_left m) (g.M.Machine.log_left m)) (append-nil inv.1)
          (leaves_after old here inv.0 rest inv.1 [] (g.M.Machine.tree_left m) (g.M.Machine.log_left m) go.0 (leaves_here here.place (lines_to_come here rest) (g.M.Machine.tree_left m) (g.M.Machine.log_left m) (g.met.M.Machine.settled m (stays_up _ _ (c.loop-turn.invariant.8 sound up)))))),
    ))

pub returns-in-Err-clause-disks : goal.returns-in-Err-clause-disks
returns-in-Err-clause-disks g c = λ sound up.
    let disks = g.M.Machine.disks in
    subst (λ m. AreQuiet (disks c.args.stream.place.machine) (disks m)) (sym c.into_machine.ensures) (c.loop-turn.invariant.8 sound up)

pub returns-then-count-eq0-clause-output : goal.returns-then-count-eq0-clause-output
returns-then-count-eq0-clause-output g c = λ sound.
    let inv = c.loop-turn.invariant.0 in
    let h = c.close.ensures.output in
    let world = g.M.Machine.world in
    let before = inv.4 sound in
    let none : take c.in-Ok.count c.read.new.buf ≡ [] = rw c.if-count-eq0.true in
    let read = Consumes-trans _ _ _ inv.0 [] inv.2 (subst (λ (t : List ℕ). Consumes (g.S.Source.left c.loop-turn.input) (g.S.Source.left c.read.new.self) t) none c.in-Ok.ensures.bytes.0) in
    Consumes-whole _ _ (inv.0 ++ []) _ read (c.in-Ok.ensures.bytes.1 c.if-count-eq0.true (omega (arith, c.read.auto.buf, c.loop-turn.invariant.7))) (
      inv.0 ++ [],
      inv.1 ++ h.0,
      read,
      Appends-trans _ _ _ inv.1 h.0 inv.3 h.1,
      ends_after (state_of world c.args.stream) (state_of world c.loop-turn.stream) inv.0 inv.1 h.0 (world c.close.result.1) c.close.result.0 before.0 (h.2 before.1),
      λ up. leaves_after (state_of world c.args.stream) (state_of world c.loop-turn.stream) inv.0 [] inv.1 h.0 _ _ before.0 (h.3 before.1 (stays_up _ _ (c.loop-turn.invariant.8 sound up))),
    )

pub returns-then-count-eq0-clause-disks : goal.returns-then-count-eq0-clause-disks
returns-then-count-eq0-clause-disks g c = λ sound up.
    let quiet = c.loop-turn.invariant.8 sound up in
    run_on c.close.result.0 _ _ _ quiet (c.close.ensures.disks (c.loop-turn.invariant.0.4 sound).1 (stays_up _ _ quiet))

pub returns-in-Err-feed-clause-output : goal.returns-in-Err-feed-clause-output
returns-in-Err-feed-clause-output g c = λ sound.
    let inv = c.loop-turn.invariant.0 in
    let h = c.in-Err-feed.ensures.stop in
    let got = take c.in-Ok.count c.read.new.buf in
    let world = g.M.Machine.world in
    let old = state_of world c.args.stream in
    let sent = inv.1 ++ h.0 in
    let lines = pending_lines old (inv.0 ++ got) in
    let read = Consumes-trans _ _ _ inv.0 got inv.2 c.in-Ok.ensures.bytes.0 in
    told _ _ (inv.0 ++ got) _ read (λ rest. let o = outcome_to_come old ((inv.0 ++ got) ++ rest) in (
      inv.0 ++ got,
      sent,
      read,
      Appends-trans _ _ _ inv.1 h.0 inv.3 h.1,
      subst (λ m. EndsAs o lines sent (world m) c.stop_status.result) (sym c.into_machine-in-Err-feed.ensures)
          (subst (λ (s : Status). EndsAs o lines sent (world c.feed.new.self.place.machine) s) (sym c.stop_status.ensures)
          (Stops-EndsAs o lines sent (world c.feed.new.self.place.machine) c.in-Err-feed.stop
          (subst (λ (t : List ℕ). Stops (outcome_to_come old t) sent (world c.feed.new.self.place.machine) c.in-Err-feed.stop) (sym (append_assoc inv.0 got rest))
          (stops_soundly old (state_of world c.loop-turn.stream) inv.0 got inv.1 h.0 (world c.feed.new.self.place.machine) c.in-Err-feed.stop inv.4 h.2 rest sound)))),
      λ up.
          let m = c.feed.new.self.place.machine in
          let go = inv.4 sound in
          subst (λ x. LeavesMoment (moments_to_come old ((inv.0 ++ got) ++ rest)) sent (g.M.Machine.tree_left x) (g.M.Machine.log_left x)) (sym c.into_machine-in-Err-feed.ensures)
          (subst (λ (t : List ℕ). LeavesMoment (moments_to_come old t) sent (g.M.Machine.tree_left m) (g.M.Machine.log_left m)) (sym (append_assoc inv.0 got rest))
          (leaves_after old (state_of world c.loop-turn.stream) inv.0 (got ++ rest) inv.1 h.0 (g.M.Machine.tree_left m) (g.M.Machine.log_left m) go.0 (h.3 go.1 (stays_up _ _ (c.loop-turn.invariant.8 sound up)) rest))),
    ))

pub returns-in-Err-feed-clause-disks : goal.returns-in-Err-feed-clause-disks
returns-in-Err-feed-clause-disks g c = λ sound up.
    let quiet = c.loop-turn.invariant.8 sound up in
    let disks = g.M.Machine.disks in
    let old = disks c.args.stream.place.machine in
    let new = disks c.feed.new.self.place.machine in
    subst (λ m. RunDisks c.stop_status.result old (disks m)) (sym c.into_machine-in-Err-feed.ensures)
    (subst (λ (s : Status). RunDisks s old new) (sym c.stop_status.ensures)
    (stop_end c.in-Err-feed.stop old new (stop_on c.in-Err-feed.stop old _ new quiet (c.in-Err-feed.ensures.disks (c.loop-turn.invariant.0.4 sound).1 (stays_up _ _ quiet)))))

pub returns-in-Err-feed-clause-sink : goal.returns-in-Err-feed-clause-sink
returns-in-Err-feed-clause-sink g c =
    sink_status c.feed.result c.in-Err-feed.stop c.stop_status.result _ _ _ _ c.in-Err-feed.is c.stop_status.ensures (after_calm _ _ _ _ _ _ _ _ c.loop-turn.invariant.5 c.loop-turn.invariant.6 c.feed.ensures.sink)

pub loop-turn-preserved : goal.loop-turn-preserved
loop-turn-preserved g c =
    let inv = c.loop-turn.invariant.0 in
    let h = c.in-Ok-feed.ensures.ok in
    let got = take c.in-Ok.count c.read.new.buf in
    let world = g.M.Machine.world in (
      (
        inv.0 ++ got,
        inv.1 ++ h.0,
        Consumes-trans _ _ _ inv.0 got inv.2 c.in-Ok.ensures.bytes.0,
        Appends-trans _ _ _ inv.1 h.0 inv.3 h.1,
        goes_soundly (state_of world c.args.stream) (state_of world c.loop-turn.stream) (state_of world c.feed.new.self) inv.0 got inv.1 h.0 inv.4 h.2,
      ),
      next_turn c.loop-turn.turn c.loop-turn.stream.taken _ c.in-Ok.count _ c.loop-turn.invariant.1 c.in-Ok-feed.ensures.count c.in-Ok.ensures.bound.1 c.if-count-eq0.false,
      c.in-Ok-feed.ensures.bound,
      c.in-Ok.ensures.cause.calm ∙ c.loop-turn.invariant.3,
      λ failed. absurd (cc (c.in-Ok.ensures.failed, failed)),
      c.in-Ok-feed.ensures.sink.calm (λ e. cc) ∙ c.loop-turn.invariant.5,
      λ failed. c.loop-turn.invariant.6 (c.in-Ok-feed.ensures.sink.none (λ e. cc) failed),
      c.read.auto.buf ∙ c.loop-turn.invariant.7,
      λ sound up. let quiet = c.loop-turn.invariant.8 sound up in both_on _ _ _ quiet (c.in-Ok-feed.ensures.disks (inv.4 sound).1 (stays_up _ _ quiet)),
    )
