use Rattle.std.proofs.Common.{◌≡◌, [], drop}
use Rattle.kz_body_texts.specs.Texts.{rise_above}
use Rattle.kz_body_texts.proofs.pairs.names_rise.Given as goal

abbrev pub invariant-loop-pair : goal.invariant-loop-pair
invariant-loop-pair l = rise_above l.last (drop l.pair-index l.pairs) ≡ rise_above [] l.pairs
