use Rattle.std.proofs.Common.{◌≡◌, drop}
use Rattle.kz_body_texts.specs.Texts.{are_digits}
use Rattle.kz_body_texts.proofs.partitions.are_digits.Given as goal

abbrev pub invariant-loop-place : goal.invariant-loop-place
invariant-loop-place l = are_digits l.place (drop l.place l.rows) ≡ are_digits 0 l.rows
