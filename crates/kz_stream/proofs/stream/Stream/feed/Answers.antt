use Rattle.std.proofs.Common.{ℕ, ◌+◌, List, [], ◌∷◌, ◌++◌, take, drop, get_or, refl, sym, ◌∙◌, subst, arith}
use Rattle.std.proofs.KnownBytes.{Appends-nil, Appends-trans}
use Rattle.std.proofs.lemmas.List.{take_more}
use Rattle.kz_stream.specs.Endings.{Stops}
use Rattle.kz_spec_machine.specs.Moments.{LeavesMoment}
use Rattle.kz_stream.specs.Pending.{outcome_to_come, moments_to_come, GoesSoundly, state_of}
use Rattle.kz_stream.proofs.Quiet.{no_call, stays_up, both_on}
use Rattle.kz_stream.proofs.Runs.{goes_nowhere_soundly, goes_soundly, stops_soundly, leaves_after, cut_at}
use Rattle.kz_stream.proofs.stream.Stream.feed.Goals as goal

pub loop-byte-init : goal.loop-byte-init
loop-byte-init g c = (([], Appends-nil (g.K.Sink.taken c.args.out.now), goes_nowhere_soundly (state_of g.M.Machine.world c.args.self.now)), refl, λ failed. failed, λ sound up. no_call _ up, omega arith)

pub returns-in-Err-clause-stop : goal.returns-in-Err-clause-stop
returns-in-Err-clause-stop g c =
    let inv = c.loop-byte.invariant.0 in
    let h = c.in-Err.ensures.stop in
    let i = c.loop-byte.byte-index in
    let piece = c.args.piece.now in
    let world = g.M.Machine.world in
    let old = state_of world c.args.self.now in
    let new = world c.take.new.self.place.machine in (
      inv.0 ++ h.0,
      Appends-trans _ _ _ inv.0 h.0 inv.1 h.1,
      λ sound rest.
          subst (λ (t : List ℕ). Stops (outcome_to_come old t) (inv.0 ++ h.0) new c.in-Err.stop) (cut_at piece rest i c.loop-byte-test.true)
          (stops_soundly old (state_of world c.loop-byte.self) (take i piece) (get_or piece i 0 ∷ []) inv.0 h.0 new c.in-Err.stop inv.2 h.2 (drop (i + 1) piece ++ rest) sound),
      λ sound up rest.
          let go = inv.2 sound in
          let machine = c.take.new.self.place.machine in
          let tree_left = g.M.Machine.tree_left machine in
          let log_left = g.M.Machine.log_left machine in
          subst (λ (t : List ℕ). LeavesMoment (moments_to_come old t) (inv.0 ++ h.0) tree_left log_left) (cut_at piece rest i c.loop-byte-test.true)
          (leaves_after old (state_of world c.loop-byte.self) (take i piece) (get_or piece i 0 ∷ (drop (i + 1) piece ++ rest)) inv.0 h.0 tree_left log_left go.0 (h.3 go.1 (stays_up _ _ (c.loop-byte.invariant.3 sound up)) (drop (i + 1) piece ++ rest))),
    )

pub loop-byte-preserved : goal.loop-byte-preserved
loop-byte-preserved g c =
    let inv = c.loop-byte.invariant.0 in
    let h = c.in-Ok.ensures.ok in
    let i = c.loop-byte.byte-index in
    let piece = c.args.piece.now in
    let world = g.M.Machine.world in
    let old = state_of world c.args.self.now in
    let new = state_of world c.take.new.self in (
      (
        inv.0 ++ h.0,
        Appends-trans _ _ _ inv.0 h.0 inv.1 h.1,
        subst (λ (t : List ℕ). GoesSoundly old new t (inv.0 ++ h.0)) (sym (take_more piece i 0 c.loop-byte-test.true))
            (goes_soundly old (state_of world c.loop-byte.self) new (take i piece) (get_or piece i 0 ∷ []) inv.0 h.0 inv.2 h.2),
      ),
      c.in-Ok.ensures.sink.calm (λ e. cc) ∙ c.loop-byte.invariant.1,
      λ failed. c.loop-byte.invariant.2 (c.in-Ok.ensures.sink.none (λ e. cc) failed),
      λ sound up. let quiet = c.loop-byte.invariant.3 sound up in both_on _ _ _ quiet (c.in-Ok.ensures.disks (inv.2 sound).1 (stays_up _ _ quiet)),
      omega (arith, c.in-Ok.ensures.count, c.loop-byte.invariant.4),
    )
