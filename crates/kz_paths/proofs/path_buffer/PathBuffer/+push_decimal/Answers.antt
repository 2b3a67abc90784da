use Rattle.std.proofs.Common.{ap, ◌∙◌, ◌++◌, [], ◌∷◌, ◌+◌, ◌/◌, ◌%◌, length, length-append, decimal, arith}
use Rattle.kz_paths.proofs.PathBuffers.{decimal_one, decimal_more, length-decimal_more}
use Rattle.std.proofs.lemmas.Fmt.{decimal_digit}
use Rattle.kz_paths.proofs.path_buffer.PathBuffer.+push_decimal.Goals as goal
use Rattle.kz_paths.proofs.path_buffer.PathBuffer.+push_decimal.Goals.{else-number-ge10-via-then-number-ge10+else-not-push_decimal, else-number-ge10-via-else-number-ge10}

pub returns-then-not-push_decimal-clause-too_long : goal.returns-then-not-push_decimal-clause-too_long
returns-then-not-push_decimal-clause-too_long t c = λ _.
    let long = c.push_decimal.ensures.too_long c.if-not-push_decimal.true in
    omega (arith, long, length-decimal_more c.args.number c.if-number-ge10.true (omega arith))

pub returns-clause-added : goal.returns-clause-added
returns-clause-added t c = λ ok. elim c.else-number-ge10.branch [
  | else-number-ge10-via-then-number-ge10+else-not-push_decimal w ↦
      decimal_more c.args.number c.args.self.now c.else-number-ge10.self c.push.new.self w.if-number-ge10.true (omega arith)
      (w.self-is ∙ w.push_decimal.ensures.added w.if-not-push_decimal.false) (c.push.ensures.added ok)
  | else-number-ge10-via-else-number-ge10 w ↦
      decimal_one c.args.number c.args.self.now c.push.new.self w.if-number-ge10.false (c.push.ensures.added ok ∙ ap (λ l. l ++ (48 + c.args.number % 10) ∷ []) w.self-is)
]

pub returns-clause-too_long : goal.returns-clause-too_long
returns-clause-too_long t c = λ long. let more = c.push.ensures.too_long long in elim c.else-number-ge10.branch [
  | else-number-ge10-via-then-number-ge10+else-not-push_decimal w ↦
      let added = w.push_decimal.ensures.added w.if-not-push_decimal.false in
      omega (arith, more, ap length (w.self-is ∙ added), length-append c.args.self.now (decimal (c.args.number / 10)), length-decimal_more c.args.number w.if-number-ge10.true (omega arith))
  | else-number-ge10-via-else-number-ge10 w ↦ omega (arith, more, ap length w.self-is, ap length (decimal_digit c.args.number w.if-number-ge10.false))
]
