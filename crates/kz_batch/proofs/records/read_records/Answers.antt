use Rattle.std.proofs.Common.{◌≡◌, ℕ, ℤ, pos, ◌+◌, Bool, ◌&&◌, ◌++◌, ◌∷◌, [], length, refl, sym, ap, ◌∙◌, arith, rules, SFits, to_z-of_z}
use Rattle.std.specs.Int.{w64, cast_signed, cast_unsigned}
use Rattle.std.specs.Ordering.{int_eq}
use Rattle.std.proofs.lemmas.List.{length-append}
use Rattle.std.proofs.lemmas.Result.{err_from_is_err_and}
use Rattle.kz_spec_data.specs.Forms.{items_at}
use Rattle.kz_spec_data.specs.Batches.{entry, delta_of, is_numbered}
use Rattle.kz_batch.proofs.Loops.{from_none, numbered_push, items_step, items_fault, items_done}
use Rattle.kz_batch.proofs.records.read_records.Goals as goal

pub loop-i-init : goal.loop-i-init
loop-i-init c = ([], from_none entry.read c.args.count c.args.reader.now, refl, refl)

pub returns-in_err-found : goal.returns-in_err-found
returns-in_err-found c =
    let p = err_from_is_err_and c.from_residual.result c.from_residual.ensures.1 in
    rw (p.1, p.2) (items_fault c.in_err-found.field-0.0 entry.read c.loop-i.invariant.0 c.args.count c.loop-i.i c.loop-i.reader (items_at entry.read c.args.count c.args.reader.now) c.loop-i-test.true c.in_err-found.ensures c.loop-i.invariant.1)

pub returns : goal.returns
returns c = (c.loop-i.invariant.0, c.loop-i.invariant.3, items_done entry.read c.loop-i.invariant.0 c.args.count c.loop-i.i c.loop-i.reader (items_at entry.read c.args.count c.args.reader.now) c.loop-i-test.false c.loop-i.invariant.1)

pub loop-i-preserved : goal.loop-i-preserved
loop-i-preserved c =
    let found = c.in_ok-found.ensures in
    let front = c.loop-i.invariant.0 in
    let y = found.0 in
    let i = c.loop-i.i in
    let d = c.in_ok-found.found.delta in
    let fits : SFits w64 c.in_ok-found.found.delta = search rules in
    let so_far = is_numbered 0 front in
    let test : c.follows-ordered.result ≡ (c.loop-i.ordered && int_eq (cast_signed w64 (cast_unsigned w64 d)) (pos i)) = c.follows-ordered.ensures in
    let place : i ≡ 0 + length front = omega (arith, c.loop-i.invariant.2) in
    let size : length (front ++ y ∷ []) ≡ i + 1 = omega (arith, length-append front (y ∷ []), c.loop-i.invariant.2) in
    let ordered : c.follows-ordered.result ≡ is_numbered 0 (front ++ y ∷ []) =
    test ∙ ap (λ (b : Bool). b && int_eq (cast_signed w64 (cast_unsigned w64 d)) (pos i)) c.loop-i.invariant.3 ∙ ap (λ (z : ℤ). so_far && int_eq z (pos i)) (to_z-of_z fits ∙ sym found.1.0)
    ∙ ap (λ (k : ℕ). so_far && int_eq (delta_of y) (pos k)) place ∙ sym (numbered_push 0 front y) in
    (front ++ y ∷ [], items_step entry.read front c.args.count i c.loop-i.reader y c.read_entry.new.reader (items_at entry.read c.args.count c.args.reader.now) c.loop-i-test.true found.2 c.loop-i.invariant.1, size, ordered)
