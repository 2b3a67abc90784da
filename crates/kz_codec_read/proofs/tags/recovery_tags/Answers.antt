use Rattle.std.proofs.Common.{◌≡◌, ℕ, Ok, subst}
use Rattle.std.proofs.lemmas.Result.{err_from_is_err_and}
use Rattle.kz_spec_data.specs.Forms.{tags_at}
use Rattle.kz_spec_data.specs.Records.{partition_tags}
use Rattle.kz_spec_data.specs.Records.{Fails}
use Rattle.kz_codec_read.proofs.Loops.{tags_step, tags_fault, take_fault, tags_done}
use Rattle.kz_codec_read.proofs.tags.recovery_tags.Goals as goal

pub returns-in_err-tag : goal.returns-in_err-tag
returns-in_err-tag c =
    let p = err_from_is_err_and c.from_residual.result c.from_residual.ensures.1 in
    rw (p.1, p.2) (tags_fault c.in_err-tag.field-0.0 partition_tags.take c.args.count c.loop.counter c.loop.least c.loop.recovery.state c.loop.reader (tags_at partition_tags.take c.args.count 0 partition_tags.default c.args.reader.now) c.loop-test.true c.in_err-tag.ensures.read c.loop.invariant)

pub returns : goal.returns
returns c = tags_done partition_tags.take c.args.count c.loop.counter c.loop.least c.loop.recovery.state c.loop.reader (tags_at partition_tags.take c.args.count 0 partition_tags.default c.args.reader.now) c.loop-test.false c.loop.invariant

pub loop-preserved : goal.loop-preserved
loop-preserved c =
    let here : partition_tags.take c.in_ok-tag.tag.number c.loop.reader.at c.in_ok-tag.tag.field c.loop.recovery.state ≡ Ok c.take_recovery.new.recovery.state = subst (λ (at : ℕ). partition_tags.take c.in_ok-tag.tag.number at c.in_ok-tag.tag.field c.loop.recovery.state ≡ Ok c.take_recovery.new.recovery.state) c.in_ok-tag.ensures.place c.in_ok-take_recovery.ensures in
    tags_step partition_tags.take c.args.count c.loop.counter c.loop.least c.loop.recovery.state c.take_recovery.new.recovery.state c.loop.reader c.in_ok-tag.tag.number c.in_ok-tag.tag.field c.next_tag.new.reader (tags_at partition_tags.take c.args.count 0 partition_tags.default c.args.reader.now) c.loop-test.true c.in_ok-tag.ensures.read here c.loop.invariant

pub returns-in_err-take_recovery : goal.returns-in_err-take_recovery
returns-in_err-take_recovery c =
    let p = err_from_is_err_and c.from_residual-in_err-take_recovery.result c.from_residual-in_err-take_recovery.ensures.1 in
    let e = c.in_err-take_recovery.field-0.0 in
    let here : Fails e (partition_tags.take c.in_ok-tag.tag.number c.loop.reader.at c.in_ok-tag.tag.field c.loop.recovery.state) = subst (λ (at : ℕ). Fails e (partition_tags.take c.in_ok-tag.tag.number at c.in_ok-tag.tag.field c.loop.recovery.state)) c.in_ok-tag.ensures.place c.in_err-take_recovery.ensures in
    rw (p.1, p.2) (take_fault e partition_tags.take c.args.count c.loop.counter c.loop.least c.loop.recovery.state c.loop.reader c.in_ok-tag.tag.number c.in_ok-tag.tag.field c.next_tag.new.reader (tags_at partition_tags.take c.args.count 0 partition_tags.default c.args.reader.now) c.loop-test.true c.in_ok-tag.ensures.read here c.loop.invariant)
