use Rattle.std.proofs.Common.{◌≡◌, ℕ, Ok, subst}
use Rattle.std.proofs.lemmas.Result.{err_from_is_err_and}
use Rattle.kz_spec_data.specs.Forms.{tags_at}
use Rattle.kz_spec_data.specs.Records.{text_tags}
use Rattle.kz_spec_data.specs.Records.{Fails}
use Rattle.kz_codec_read.proofs.Loops.{tags_step, tags_fault, take_fault, tags_done}
use Rattle.kz_codec_read.proofs.tags.text_among.Goals as goal

pub returns-in_err-tag : goal.returns-in_err-tag
returns-in_err-tag c =
    let p = err_from_is_err_and c.from_residual.result c.from_residual.ensures.1 in
    rw (p.1, p.2) (tags_fault c.in_err-tag.field-0.0 text_tags.take c.args.count c.loop.counter c.loop.least c.loop.text c.loop.reader (tags_at text_tags.take c.args.count 0 text_tags.default c.args.reader.now) c.loop-test.true c.in_err-tag.ensures.read c.loop.invariant)

pub returns : goal.returns
returns c = tags_done text_tags.take c.args.count c.loop.counter c.loop.least c.loop.text c.loop.reader (tags_at text_tags.take c.args.count 0 text_tags.default c.args.reader.now) c.loop-test.false c.loop.invariant

pub loop-preserved : goal.loop-preserved
loop-preserved c =
    let here : text_tags.take c.in_ok-tag.tag.number c.loop.reader.at c.in_ok-tag.tag.field c.loop.text ≡ Ok c.take_text.new.text = subst (λ (at : ℕ). text_tags.take c.in_ok-tag.tag.number at c.in_ok-tag.tag.field c.loop.text ≡ Ok c.take_text.new.text) c.in_ok-tag.ensures.place c.in_ok-take_text.ensures in
    tags_step text_tags.take c.args.count c.loop.counter c.loop.least c.loop.text c.take_text.new.text c.loop.reader c.in_ok-tag.tag.number c.in_ok-tag.tag.field c.next_tag.new.reader (tags_at text_tags.take c.args.count 0 text_tags.default c.args.reader.now) c.loop-test.true c.in_ok-tag.ensures.read here c.loop.invariant

pub returns-in_err-take_text : goal.returns-in_err-take_text
returns-in_err-take_text c =
    let p = err_from_is_err_and c.from_residual-in_err-take_text.result c.from_residual-in_err-take_text.ensures.1 in
    let e = c.in_err-take_text.field-0.0 in
    let here : Fails e (text_tags.take c.in_ok-tag.tag.number c.loop.reader.at c.in_ok-tag.tag.field c.loop.text) = subst (λ (at : ℕ). Fails e (text_tags.take c.in_ok-tag.tag.number at c.in_ok-tag.tag.field c.loop.text)) c.in_ok-tag.ensures.place c.in_err-take_text.ensures in
    rw (p.1, p.2) (take_fault e text_tags.take c.args.count c.loop.counter c.loop.least c.loop.text c.loop.reader c.in_ok-tag.tag.number c.in_ok-tag.tag.field c.next_tag.new.reader (tags_at text_tags.take c.args.count 0 text_tags.default c.args.reader.now) c.loop-test.true c.in_ok-tag.ensures.read here c.loop.invariant)
