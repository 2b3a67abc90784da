use Rattle.std.proofs.Common.{◌≡◌, map, take}
use Rattle.kz_row_parts.specs.Numbered.{numbers_of}
use Rattle.kz_row_parts.proofs.numbers.segments_of.Given as goal

abbrev pub invariant-loop-block : goal.invariant-loop-block
invariant-loop-block l = l.numbers.items ≡ map numbers_of (take l.block-index l.blocks)
