use Rattle.kz_paths.proofs.PathBuffers.{sanitised_next, sanitised_last, sanitised_long}
use Rattle.kz_paths.proofs.path_buffer.PathBuffer.push_sanitised.Goals as goal

pub returns-then-not-push_sanitised_byte-clause-too_long : goal.returns-then-not-push_sanitised_byte-clause-too_long
returns-then-not-push_sanitised_byte-clause-too_long c = λ _.
    sanitised_long c.args.self.now c.args.name.now c.loop-at.self c.loop-at.at c.loop-at-test.true c.loop-at.invariant (c.push_sanitised_byte.ensures.too_long c.if-not-push_sanitised_byte.true)

pub loop-at-preserved : goal.loop-at-preserved
loop-at-preserved c =
    sanitised_next c.args.self.now c.args.name.now c.loop-at.self c.push_sanitised_byte.new.self c.loop-at.at c.loop-at-test.true c.loop-at.invariant
    (c.push_sanitised_byte.ensures.added c.if-not-push_sanitised_byte.false)

pub returns-clause-added : goal.returns-clause-added
returns-clause-added c = λ _. sanitised_last c.args.self.now c.args.name.now c.loop-at.self c.loop-at.at c.loop-at-test.false c.loop-at.invariant
