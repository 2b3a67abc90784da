use Rattle.std.proofs.Common.{true, false, sym, ◌∙◌, arith}
use Rattle.std.proofs.lemmas.List.{length-take-le}
use Rattle.kz_commands.proofs.Made.{short_read}
use Rattle.kz_commands.proofs.making.look.Goals as goal

pub returns-then-is_either-clause-found : goal.returns-then-is_either-clause-found
returns-then-is_either-clause-found g c = λ file told.
    short_read true c.in_ok-length.length file c.read_at.new.buf c.args.plain.now c.args.summed.now (omega (arith, c.if-length-gt-NEW_FILE_BYTES.false)) (c.in_ok-length.ensures.value file told)
    (c.read_at.auto.buf ∙ length-take-le c.in_ok-length.length _ (omega (arith, c.if-length-gt-NEW_FILE_BYTES.false))) (c.in_ok-read_at.ensures.bytes file (c.in_ok-length.ensures.same ∙ told)) (sym c.is_either.ensures ∙ c.if-is_either.true)

pub returns-else-is_either-clause-found : goal.returns-else-is_either-clause-found
returns-else-is_either-clause-found g c = λ file told.
    short_read false c.in_ok-length.length file c.read_at.new.buf c.args.plain.now c.args.summed.now (omega (arith, c.if-length-gt-NEW_FILE_BYTES.false)) (c.in_ok-length.ensures.value file told)
    (c.read_at.auto.buf ∙ length-take-le c.in_ok-length.length _ (omega (arith, c.if-length-gt-NEW_FILE_BYTES.false))) (c.in_ok-read_at.ensures.bytes file (c.in_ok-length.ensures.same ∙ told)) (sym c.is_either.ensures ∙ c.if-is_either.false)
