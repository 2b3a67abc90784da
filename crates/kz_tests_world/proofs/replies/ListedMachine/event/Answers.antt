-- The world that the machine of the tests tells isn't sound.
use Rattle.std.proofs.Common.{◌≡◌, ℤ, pos, negsuc, ◌≤ℤ◌, refl, arith}
use Rattle.std.proofs.lemmas.Int.{ints}
use Rattle.kz_spec_machine.specs.Machine.{World}
use Rattle.kz_spec_machine.specs.Sound.{Sound}
use Rattle.kz_tests_world.proofs.replies.ListedMachine.event.Goals as goal

below_zero : (z : ℤ) → z ≡ negsuc 0 → pos 0 ≤ℤ z → ⊥
below_zero z is least = omega (arith, ints)

unsound : (w : World) → w.shared.tree.zxid ≡ negsuc 0 → Sound w → ⊥
unsound w is sound = below_zero w.shared.tree.zxid is sound.kept.tree.zxid.least

pub returns-clause-next : goal.returns-clause-next
returns-clause-next c = λ sound. absurd (unsound _ refl sound)

pub returns-clause-failed : goal.returns-clause-failed
returns-clause-failed c = λ sound. absurd (unsound _ refl sound)

pub returns-clause-disks : goal.returns-clause-disks
returns-clause-disks c = λ sound. absurd (unsound _ refl sound)

pub returns-clause-stop : goal.returns-clause-stop
returns-clause-stop c = λ sound. absurd (unsound _ refl sound)
