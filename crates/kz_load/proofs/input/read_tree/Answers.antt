use Rattle.std.proofs.Common.{[], ◌++◌, take, Err, ap, ◌∙◌, append_assoc}
use Rattle.std.proofs.KnownBytes.{Consumes-trans}
use Rattle.kz_spec_machine.specs.Loading.{loaded}
use Rattle.kz_load.specs.declared.stop.LoadStop.TheVariants as stop
use Rattle.kz_load.specs.Stops.{IsStopOf}
use Rattle.kz_load.specs.Pending.{load_to_come}
use Rattle.kz_load.proofs.Steps.{whole_stops, told, no_read, no_failure, next_turn}
use Rattle.kz_load.proofs.input.read_tree.Goals as goal

pub returns-in-Err-feed-clause-stop : goal.returns-in-Err-feed-clause-stop
returns-in-Err-feed-clause-stop g c =
    let inv = c.loop-turn.invariant.0 in
    let got = take c.in-Ok.count c.read.new.buf in
    told _ _ (inv.0 ++ got) (λ script. IsStopOf (loaded script) c.in-Err-feed.stop) (Consumes-trans _ _ _ inv.0 got inv.1 c.in-Ok.ensures.bytes.0)
    (whole_stops c.loop-turn.reader inv.0 got c.in-Err-feed.stop inv.2 c.in-Err-feed.ensures.stop)

pub returns-in-Err-feed-clause-source : goal.returns-in-Err-feed-clause-source
returns-in-Err-feed-clause-source g c =
    let got = take c.in-Ok.count c.read.new.buf in
    no_failure (Err stop.ReadFault) (Err c.in-Err-feed.stop) _ _ _ _ (no_read (load_to_come c.loop-turn.reader (got ++ [])) (Err c.in-Err-feed.stop) (c.in-Err-feed.ensures.stop []))
    (c.in-Ok.ensures.cause.calm ∙ c.loop-turn.invariant.3) (λ failed. absurd (cc (c.in-Ok.ensures.failed, failed)))

pub loop-turn-preserved : goal.loop-turn-preserved
loop-turn-preserved g c =
    let inv = c.loop-turn.invariant.0 in
    let got = take c.in-Ok.count c.read.new.buf in (
      (inv.0 ++ got, Consumes-trans _ _ _ inv.0 got inv.1 c.in-Ok.ensures.bytes.0, λ rest. ap loaded (append_assoc inv.0 got rest) ∙ inv.2 (got ++ rest) ∙ c.in-Ok-feed.ensures.ok rest),
      next_turn c.loop-turn.turn c.loop-turn.reader.taken _ c.in-Ok.count _ c.loop-turn.invariant.1 c.in-Ok-feed.ensures.count c.in-Ok.ensures.bound.1 c.if-count-eq0.false,
      c.in-Ok-feed.ensures.kept,
      c.in-Ok.ensures.cause.calm ∙ c.loop-turn.invariant.3,
      λ failed. absurd (cc (c.in-Ok.ensures.failed, failed)),
      c.read.auto.buf ∙ c.loop-turn.invariant.5,
    )
