use Rattle.std.proofs.Common.{◌≡◌, ◌∙◌, sym, ap, false}
use Rattle.std.specs.Prelude.{bytes_eq}
use Rattle.std.proofs.lemmas.Bool.{not-true, not-false}
use Rattle.kz_types.specs.Paths.{part_for_name}
use Rattle.kz_types.proofs.NumberLemmas.{bytes_eq-true}
use Rattle.kz_types.proofs.NameLemmas.{restored_other, restored_by}
use Rattle.kz_path.proofs.names.restore.Goals as goal

pub returns-then-ne : goal.returns-then-ne
returns-then-ne c =
    let again : c.in_ok-again.again.items ≡ part_for_name c.in_ok-bytes.bytes.items = c.in_ok-again.ensures ∙ ap part_for_name c.deref.ensures.value in
    let other : bytes_eq c.as_slice.result.now c.args.part.now ≡ false = not-true _ (sym c.if-ne.ensures) in
    sym (restored_other c.args.part.now c.in_ok-again.again.items c.in_ok-bytes.bytes.items again c.in_ok-bytes.ensures
    (ap (λ a. bytes_eq a c.args.part.now) (sym c.as_slice.ensures.value) ∙ other))

pub returns : goal.returns
returns c =
    let again : c.in_ok-again.again.items ≡ part_for_name c.in_ok-bytes.bytes.items = c.in_ok-again.ensures ∙ ap part_for_name c.deref.ensures.value in
    let same : c.in_ok-again.again.items ≡ c.args.part.now = sym c.as_slice.ensures.value ∙ bytes_eq-true c.as_slice.result.now c.args.part.now (not-false _ (sym c.if-ne.ensures)) in
    restored_by c.args.part.now c.in_ok-again.again.items c.in_ok-bytes.bytes.items c.new.result again c.in_ok-bytes.ensures same (rw c.deref-2.ensures.value at c.new.ensures)
