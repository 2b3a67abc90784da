use Rattle.std.proofs.Common.{◌≡◌, ◌+◌, ◌<◌, cond, length, IfSome, subst, ◌∙◌, sym, arith}
use Rattle.std.specs.Io.Iter.{split_known_bytes, split_byte}
use Rattle.std.specs.Io.BufRead.{first_piece, DropsThrough}
use Rattle.kz_cases.specs.Tables.{passes, fails, IsOutcome}
use Rattle.kz_cases.proofs.Runs.{line_judged, all_judged, value_of, one_more, one_passed, one_failed}
use Rattle.kz_cases.proofs.table.judge_table.Goals.{then-branch, else-branch}
use Rattle.kz_cases.proofs.table.judge_table.Goals as goal

pub returns-in_default : goal.returns-in_default
returns-in_default g c =
    all_judged (g.R.Read.remaining c.args.table) (split_known_bytes g.R.Read.remaining c.loop-number.lines) (g.W.Write.contents c.args.out.now) (g.W.Write.contents c.loop-number.out) (g.W.Write.contents c.write_summary.new.out)
    c.loop-number.passed c.loop-number.failed c.loop-number.invariant.0 c.in_default.ensures.steps.2 c.in_ok-write_summary.ensures

pub loop-number-preserved : goal.loop-number-preserved
loop-number-preserved g c =
    let known = split_known_bytes g.R.Read.remaining c.loop-number.lines in
    let new = split_known_bytes g.R.Read.remaining c.next.new.self in
    let line = c.in_ok-line.line.items in
    let judged = c.in_ok-judge_line.ensures in
    let o = judged.0 in
    let read : IfSome known (λ xs. (0 < length xs) × (line ≡ first_piece 10 xs)) × DropsThrough known new 10 =
    subst (λ b. IfSome known (λ xs. (0 < length xs) × (line ≡ first_piece b xs)) × DropsThrough known new b) c.loop-number.invariant.2
    (value_of (λ x. IfSome known (λ xs. (0 < length xs) × (x.items ≡ first_piece (split_byte c.loop-number.lines) xs)) × DropsThrough known new (split_byte c.loop-number.lines)) c.in-Some.line c.in_ok-line.line c.in_ok-line.was c.in-Some.ensures.steps.2) in
    let tally : (c.if-branch.passed ≡ c.loop-number.passed + cond (passes o) 1 0) × (c.if-branch.failed ≡ c.loop-number.failed + cond (fails o) 1 0) =
    elim c.if-branch.branch [
      | then-branch w ↦ one_passed o c.loop-number.passed c.loop-number.failed c.if-branch.passed c.if-branch.failed (sym judged.3 ∙ w.if-branch.true) w.passed-is w.failed-is
      | else-branch w ↦ one_failed o c.loop-number.passed c.loop-number.failed c.if-branch.passed c.if-branch.failed (sym judged.3 ∙ w.if-branch.false) w.passed-is w.failed-is
    ] in
    let one = one_more (passes o) in (
      line_judged (g.R.Read.remaining c.args.table) known new (g.W.Write.contents c.args.out.now) (g.W.Write.contents c.loop-number.out) (g.W.Write.contents c.judge_line.new.out)
          c.loop-number.passed c.loop-number.failed c.if-branch.passed c.if-branch.failed c.loop-number.number line o c.loop-number.invariant.0 (sym c.loop-number.invariant.1)
          read.0 read.1 (subst (λ l. IsOutcome l o) c.deref.ensures.value judged.1) judged.2 tally.0 tally.1,
      omega (arith, one, tally.0, tally.1, c.loop-number.invariant.1),
      c.in-Some.ensures.steps.1 ∙ c.loop-number.invariant.2,
    )
