use Rattle.std.proofs.Common.{◌≡◌, ℕ, Ok, subst}
use Rattle.std.proofs.lemmas.Result.{err_from_is_err_and}
use Rattle.kz_spec_data.specs.Forms.{tags_at}
use Rattle.kz_spec_data.specs.Records.{change_tags}
use Rattle.kz_spec_data.specs.Records.{Fails}
use Rattle.kz_codec_read.specs.Changes.{parts_of}
use Rattle.kz_codec_read.proofs.Loops.{tags_step, tags_fault, take_fault, tags_done}
use Rattle.kz_codec_read.proofs.tags.parts_among.Goals as goal

pub returns-in_err-tag : goal.returns-in_err-tag
returns-in_err-tag c =
    let p = err_from_is_err_and c.from_residual.result c.from_residual.ensures.1 in
    rw (p.1, p.2) (tags_fault c.in_err-tag.field-0.0 change_tags.take c.args.count c.loop.counter c.loop.least (parts_of c.loop.parts) c.loop.reader (tags_at change_tags.take c.args.count 0 change_tags.default c.args.reader.now) c.loop-test.true c.in_err-tag.ensures.read c.loop.invariant)

pub returns : goal.returns
returns c = tags_done change_tags.take c.args.count c.loop.counter c.loop.least (parts_of c.loop.parts) c.loop.reader (tags_at change_tags.take c.args.count 0 change_tags.default c.args.reader.now) c.loop-test.false c.loop.invariant

pub loop-preserved : goal.loop-preserved
loop-preserved c =
    let here : change_tags.take c.in_ok-tag.tag.number c.loop.reader.at c.in_ok-tag.tag.field (parts_of c.loop.parts) ≡ Ok (parts_of c.take_change.new.parts) = subst (λ (at : ℕ). change_tags.take c.in_ok-tag.tag.number at c.in_ok-tag.tag.field (parts_of c.loop.parts) ≡ Ok (parts_of c.take_change.new.parts)) c.in_ok-tag.ensures.place c.in_ok-take_change.ensures in
    tags_step change_tags.take c.args.count c.loop.counter c.loop.least (parts_of c.loop.parts) (parts_of c.take_change.new.parts) c.loop.reader c.in_ok-tag.tag.number c.in_ok-tag.tag.field c.next_tag.new.reader (tags_at change_tags.take c.args.count 0 change_tags.default c.args.reader.now) c.loop-test.true c.in_ok-tag.ensures.read here c.loop.invariant

pub returns-in_err-take_change : goal.returns-in_err-take_change
returns-in_err-take_change c =
    let p = err_from_is_err_and c.from_residual-in_err-take_change.result c.from_residual-in_err-take_change.ensures.1 in
    let e = c.in_err-take_change.field-0.0 in
    let here : Fails e (change_tags.take c.in_ok-tag.tag.number c.loop.reader.at c.in_ok-tag.tag.field (parts_of c.loop.parts)) = subst (λ (at : ℕ). Fails e (change_tags.take c.in_ok-tag.tag.number at c.in_ok-tag.tag.field (parts_of c.loop.parts))) c.in_ok-tag.ensures.place c.in_err-take_change.ensures in
    rw (p.1, p.2) (take_fault e change_tags.take c.args.count c.loop.counter c.loop.least (parts_of c.loop.parts) c.loop.reader c.in_ok-tag.tag.number c.in_ok-tag.tag.field c.next_tag.new.reader (tags_at change_tags.take c.args.count 0 change_tags.default c.args.reader.now) c.loop-test.true c.in_ok-tag.ensures.read here c.loop.invariant)
