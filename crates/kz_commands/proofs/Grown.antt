-- How long the files are that `init` leaves.
use Rattle.std.proofs.Common.{◌≡◌, ◌+◌, ◌≤◌, ℕ, Bool, true, false, List, length, Option, Some, None, is_some, refl, sym, ap, ◌∙◌, subst, arith}
use Rattle.kz_types.specs.declared.outside.Status.{Status}
use Rattle.kz_disk.specs.Disks.{StaysTold}
use Rattle.kz_tree_store.specs.Opened.{GrowsByOne}
use Rattle.kz_commands.specs.declared.making.Found.{Found}
use Rattle.kz_commands.specs.declared.making.Found.TheVariants as found
use Rattle.kz_commands.specs.Making.{IsFound, MakesFile}
use Rattle.kz_commands.specs.Stops.{LongGrowsByOne}

no_longer : (a b : List ℕ) → b ≡ a → length b ≤ length a + 1
no_longer a b same = subst (λ (x : List ℕ). length x ≤ length a + 1) (sym same) (omega arith)

one_told : (told : Option (List ℕ)) (a b : List ℕ) → told ≡ Some a → told ≡ Some b → b ≡ a
one_told told a b h k = cc

-- a disk that tells what it told before
pub same_grown : (told now : Option (List ℕ)) → now ≡ told → GrowsByOne told now
same_grown told now same = λ file new is_file is_new. no_longer file new (one_told told file new is_file (sym same ∙ is_new))

some_mid : (told mid : Option (List ℕ)) (file : List ℕ) → StaysTold told mid → told ≡ Some file → (new : List ℕ) × (mid ≡ Some new)
some_mid told None file same is = absurd (cc (same ∙ ap is_some is))
some_mid told (Some new) file same is = (new, refl)

-- a file that is made, or left
pub made_grown : (letter : ℕ) (refusal : List ℕ → Option Status) (has : List ℕ → Bool) (P : List ℕ → Type 0) (told mid now : Option (List ℕ)) (f : Found) → StaysTold told mid → GrowsByOne told mid
    → ((file new : List ℕ) → told ≡ Some file → mid ≡ Some new → IsFound letter refusal has P file new f) → MakesFile letter f mid now → LongGrowsByOne told now
made_grown letter refusal has P told mid now found.Unmade same grown is makes = λ file new is_file is_new long.
    let m = some_mid told mid file same is_file in
    absurd (cc ((is file m.0 is_file m.1).3, long))
made_grown letter refusal has P told mid now found.Empty same grown is makes = λ file new is_file is_new long. grown file new is_file (sym makes ∙ is_new)
made_grown letter refusal has P told mid now found.Taken same grown is makes = λ file new is_file is_new long. grown file new is_file (sym makes ∙ is_new)
