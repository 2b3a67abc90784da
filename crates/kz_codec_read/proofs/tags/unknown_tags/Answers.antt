use Rattle.std.proofs.Common.{refl}
use Rattle.std.proofs.lemmas.Result.{err_from_is_err_and}
use Rattle.kz_spec_data.specs.Forms.{nothing, tags_at}
use Rattle.kz_codec_read.proofs.Loops.{tags_step, tags_fault, tags_done}
use Rattle.kz_codec_read.proofs.tags.unknown_tags.Goals as goal

pub returns-in_err-tag : goal.returns-in_err-tag
returns-in_err-tag c =
    let p = err_from_is_err_and c.from_residual.result c.from_residual.ensures.1 in
    rw (p.1, p.2) (tags_fault c.in_err-tag.field-0.0 nothing.take c.args.count c.loop.counter c.loop.least tt c.loop.reader (tags_at nothing.take c.args.count 0 nothing.default c.args.reader.now) c.loop-test.true c.in_err-tag.ensures.read c.loop.invariant)

pub returns : goal.returns
returns c = tags_done nothing.take c.args.count c.loop.counter c.loop.least tt c.loop.reader (tags_at nothing.take c.args.count 0 nothing.default c.args.reader.now) c.loop-test.false c.loop.invariant

pub loop-preserved : goal.loop-preserved
loop-preserved c = tags_step nothing.take c.args.count c.loop.counter c.loop.least tt tt c.loop.reader c.in_ok-tag.tag.number c.in_ok-tag.tag.field c.next_tag.new.reader (tags_at nothing.take c.args.count 0 nothing.default c.args.reader.now) c.loop-test.true c.in_ok-tag.ensures.read refl c.loop.invariant
