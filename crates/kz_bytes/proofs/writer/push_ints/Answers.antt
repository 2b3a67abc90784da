use Rattle.std.proofs.Common.{◌≡◌, ◌++◌, ◌<◌, List, ℕ, ℤ, pos, length, take, get_or, ap, sym, ◌∙◌, append_assoc, arith, rules, SFits, to_z-of_z}
use Rattle.std.proofs.lemmas.List.{take_more}
use Rattle.std.specs.Int.{w32, to_be_bytes, cast_unsigned, cast_signed}
use Rattle.kz_spec_data.specs.Fields.{int_bytes}
use Rattle.kz_bytes.proofs.Facts.{int_bytes_push}
use Rattle.kz_bytes.proofs.writer.push_ints.Goals as goal

pub loop-number-preserved : goal.loop-number-preserved
loop-number-preserved c =
    let i = c.loop-number.number-index in
    let front = take i c.args.v.now in
    let z = get_or c.args.v.now i (pos 0) in
    let lt : i < length c.args.v.now = omega arith in
    let fits : SFits w32 (get_or c.args.v.now c.loop-number.number-index (pos 0)) = search rules in
    let same : cast_signed w32 (cast_unsigned w32 z) ≡ z = to_z-of_z fits in
    let pushed : c.put_i32.new.out.items ≡ c.loop-number.out.items ++ to_be_bytes w32 (cast_unsigned w32 z) = c.in_ok-put_i32.ensures ∙ ap (λ (y : ℤ). c.loop-number.out.items ++ to_be_bytes w32 (cast_unsigned w32 y)) same in
    pushed ∙ ap (λ (l : List ℕ). l ++ to_be_bytes w32 (cast_unsigned w32 z)) c.loop-number.invariant ∙ append_assoc c.args.out.now.items (int_bytes front) (to_be_bytes w32 (cast_unsigned w32 z))
    ∙ ap (λ (l : List ℕ). c.args.out.now.items ++ l) (sym (int_bytes_push front z) ∙ ap int_bytes (sym (take_more c.args.v.now i (pos 0) lt)))
