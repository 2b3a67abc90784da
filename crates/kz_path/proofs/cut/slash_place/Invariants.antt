use Rattle.std.proofs.Common.{◌≡◌, ◌==◌, false}
use Rattle.std.specs.List.{AllWithin}
use Rattle.kz_path.proofs.cut.slash_place.Given as goal

abbrev pub invariant-loop-at : goal.invariant-loop-at
invariant-loop-at l = AllWithin (λ b. (b == 47) ≡ false) l.bytes 0 l.at
