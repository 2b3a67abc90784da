use Rattle.std.proofs.Common.{◌≡◌, take, length-take, Ok, sym, ap, ◌∙◌, arith}
use Rattle.kz_types.proofs.IdLemmas.{text_of_id, id_of_decoded, no_id_of_length, no_id_of_error, no_id_of_text_length}
use Rattle.kz_types.proofs.id.Id.read.Goals as goal

pub returns-then-text-ne-TEXT_LENGTH-clause-value : goal.returns-then-text-ne-TEXT_LENGTH-clause-value
returns-then-text-ne-TEXT_LENGTH-clause-value c =
    sym (no_id_of_text_length c.args.text.now (λ i. let f = c.type_inv.text i in omega arith) c.if-text-ne-TEXT_LENGTH.true)

pub returns-then-count-ne16-clause-value : goal.returns-then-count-ne16-clause-value
returns-then-count-ne16-clause-value c =
    let bytes = take c.in-Ok.count c.decode_slice_unchecked.new.output in
    sym (no_id_of_length c.args.text.now bytes c.in-Ok.ensures.ok.0 (λ e. c.if-count-ne16.true (let l = length-take c.in-Ok.count c.decode_slice_unchecked.new.output in let a = c.decode_slice_unchecked.auto.output in let h = c.in-Ok.ensures.ok.2 in omega arith)))

pub returns-else-count-ne16-clause-value : goal.returns-else-count-ne16-clause-value
returns-else-count-ne16-clause-value c =
    let same : c.copy_from_slice.new.self ≡ take c.in-Ok.count c.decode_slice_unchecked.new.output = c.copy_from_slice.ensures.after ∙ ap (λ n. take n c.decode_slice_unchecked.new.output) (sym c.if-count-ne16.false) in
    sym (id_of_decoded c.args.text.now c.copy_from_slice.new.self (c.in-Ok.ensures.ok.0 ∙ ap (λ b. Ok b) (sym same)) c.copy_from_slice.ensures.len)

pub returns-else-count-ne16-clause-text : goal.returns-else-count-ne16-clause-text
returns-else-count-ne16-clause-text c =
    (text_of_id c.args.text.now c.copy_from_slice.new.self (λ i. let f = c.type_inv.text i in omega arith) (sym (returns-else-count-ne16-clause-value c))).0

pub returns-in-Err-clause-value : goal.returns-in-Err-clause-value
returns-in-Err-clause-value c = sym (no_id_of_error c.args.text.now c.in-Err.field-0 c.in-Err.ensures.err)
