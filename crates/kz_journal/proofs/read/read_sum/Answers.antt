use Rattle.std.proofs.Common.{◌≡◌, ◌+◌, ℕ, take, drop, sym, ap, ◌∙◌}
use Rattle.std.specs.Int.{w32, from_be_bytes}
use Rattle.std.proofs.lemmas.List.{drop-drop}
use Rattle.kz_journal.proofs.read.read_sum.Goals as goal

pub returns-in-Ok-clause-sum : goal.returns-in-Ok-clause-sum
returns-in-Ok-clause-sum g c = λ file told.
    let same : take 4 (drop 5 (drop c.args.gate file)) ≡ c.read_piece.new.buf =
    ap (take 4) (drop-drop 5 c.args.gate file) ∙ ap (λ (k : ℕ). take k (drop (c.args.gate + 5) file)) (sym c.read_piece.auto.buf) ∙ sym (c.in-Ok.ensures.bytes file told) in
    ap (from_be_bytes w32) same ∙ sym c.from_be_bytes.ensures
