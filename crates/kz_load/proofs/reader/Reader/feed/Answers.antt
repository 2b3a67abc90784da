use Rattle.std.proofs.Common.{ℕ, ◌+◌, List, [], ◌∷◌, ◌++◌, length, take, drop, ap, ◌∙◌, subst, le_refl, take-append-drop, arith}
use Rattle.std.proofs.lemmas.Result.{IfErr-weaker}
use Rattle.std.specs.List.{slice_range}
use Rattle.kz_load.specs.Pending.{GoesOn, Stops}
use Rattle.kz_load.proofs.Steps.{goes_on}
use Rattle.kz_load.proofs.Bytes.{none_yet, one_more, line_length, with_line, whole_piece, goes_to, stops_before, stops_next}
use Rattle.kz_load.proofs.reader.Reader.feed.Goals as goal
use Rattle.kz_load.proofs.reader.Reader.feed.Goals.{then-piece-at-eq10+in-Ok, else-piece-at-eq10}

pub returns-in-Err-clause-stop : goal.returns-in-Err-clause-stop
returns-in-Err-clause-stop c =
    let piece = c.args.piece.now in
    let from = c.loop-at.from in
    let at = c.loop-at.at in
    let inv = c.loop-at.invariant in
    let line = slice_range piece from at ++ 10 ∷ [] in
    let why = c.in-Err.stop in
    subst (λ (t : List ℕ). Stops c.args.self.now t why) (ap (λ (t : List ℕ). t ++ drop (at + 1) piece) (with_line piece from at inv.begun c.loop-at-test.true c.if-piece-at-eq10.true) ∙ take-append-drop (at + 1) piece)
    (stops_before c.args.self.now (take from piece ++ line) (drop (at + 1) piece) why (stops_next c.args.self.now c.loop-at.self (take from piece) line why inv.goes c.in-Err.ensures.stop))

pub loop-at-preserved : goal.loop-at-preserved
loop-at-preserved c =
    let piece = c.args.piece.now in
    let from = c.loop-at.from in
    let at = c.loop-at.at in
    let inv = c.loop-at.invariant in
    elim c.if-piece-at-eq10.branch [
      | then-piece-at-eq10+in-Ok w ↦ rw (w.self-is, w.from-is) (record {
        begun = le_refl _;
        goes = subst (λ (t : List ℕ). GoesOn c.args.self.now w.take_line.new.self t) (with_line piece from at inv.begun c.loop-at-test.true w.if-piece-at-eq10.true)
            (goes_on c.args.self.now c.loop-at.self w.take_line.new.self (take from piece) (slice_range piece from at ++ 10 ∷ []) inv.goes w.in-Ok.ensures.ok);
        count = let size = line_length piece from at inv.begun c.loop-at.auto.at-end in let more = w.in-Ok.ensures.count in omega (arith, size, more, inv.count, inv.begun);
        kept = w.in-Ok.ensures.kept;
        no_ends = none_yet piece (at + 1);
      })
      | else-piece-at-eq10 w ↦ rw (w.self-is, w.from-is) (record {
        begun = let h = inv.begun in omega arith;
        goes = inv.goes;
        count = inv.count;
        kept = inv.kept;
        no_ends = one_more piece from at inv.begun c.loop-at-test.true w.if-piece-at-eq10.false inv.no_ends;
      })
    ]

pub returns-clause-ok : goal.returns-clause-ok
returns-clause-ok c =
    let piece = c.args.piece.now in
    let from = c.loop-at.from in
    let inv = c.loop-at.invariant in
    goes_to c.push.result c.args.self.now c.loop-at.self c.push.new.self (take from piece) (slice_range piece from (length piece)) piece (whole_piece piece from (omega (arith, inv.begun, c.loop-at.auto.at-end))) inv.goes c.push.ensures.ok

pub returns-clause-stop : goal.returns-clause-stop
returns-clause-stop c =
    let piece = c.args.piece.now in
    let from = c.loop-at.from in
    let inv = c.loop-at.invariant in
    IfErr-weaker c.push.result _ _
    (λ why h. subst (λ (t : List ℕ). Stops c.args.self.now t why) (whole_piece piece from (omega (arith, inv.begun, c.loop-at.auto.at-end))) (stops_next c.args.self.now c.loop-at.self (take from piece) (slice_range piece from (length piece)) why inv.goes h))
    c.push.ensures.stop
