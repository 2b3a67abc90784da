-- What disks tell, how often they failed, and what a stop leaves of them.
use Rattle.std.proofs.Common.{◌≡◌, ◌<◌, ℕ, Bool, true, false, List, Option, Some, ap, sym, subst, ⊎_elim, arith}
use Rattle.kz_types.specs.Causes.{Rose}
use Rattle.kz_types.specs.declared.outside.Status.{Status}
use Rattle.kz_disk.specs.Disks.{NothingPends}
use Rattle.kz_spec_data.specs.Frames.{Journal, journal_of}
use Rattle.kz_spec_machine.specs.Files.{SayTheSame, EndsAtDisk}
use Rattle.kz_commands.specs.Stops.{StandsAtStop}

-- ---- disks that are given back

-- what holds of two disks holds of two that are the same
pub of_both : {D E : Type 0} (holds : D → E → Type 0) (d now : D) (e then : E) → now ≡ d → then ≡ e → holds d e → holds now then
of_both holds d now e then same_d same_e is = subst (λ x. holds now x) (sym same_e) (subst (λ x. holds x e) (sym same_d) is)

-- ---- counts

-- the disk failed whose status this is
pub failed : (own result : Status) (before now : ℕ) → result ≡ own → Rose before now → EndsAtDisk own result before now
failed own result before now is rose = record {
  cause = λ same. rose;
  calm = λ o w. absurd (o is);
}

-- it didn't
pub quiet : (own result : Status) (before now : ℕ) → (result ≡ own → ⊥) → now ≡ before → EndsAtDisk own result before now
quiet own result before now other same = record {
  cause = λ is. absurd (other is);
  calm = λ o w. same;
}

-- ---- contents

-- what is told says what a file said
pub says : (letter : ℕ) (file new : List ℕ) (told : Option (List ℕ)) → ((s : List ℕ) × (told ≡ Some s) × (journal_of letter s ≡ journal_of letter file)) → told ≡ Some new → SayTheSame letter file new
says letter file new told same is =
    let here : same.0 ≡ new = told_once told same.0 new same.1 is in
    subst (λ f. journal_of letter f ≡ journal_of letter file) here same.2
  where
    told_once : (told : Option (List ℕ)) (a b : List ℕ) → told ≡ Some a → told ≡ Some b → a ≡ b
    told_once told a b h k = cc

-- what is told once is told again
pub one_file : (told : Option (List ℕ)) (file new : List ℕ) → told ≡ Some file → told ≡ Some new → new ≡ file
one_file told file new h k = cc

-- a file that is the same says the same
pub says_itself : (letter : ℕ) (told : Option (List ℕ)) (file new : List ℕ) → told ≡ Some file → told ≡ Some new → SayTheSame letter file new
says_itself letter told file new h k = ap (journal_of letter) (one_file told file new h k)

-- ---- stops

-- a disk of which no call was made
pub uncalled : {V : Type 0} (value_of : List ℕ → V) (told : Option (List ℕ)) (leaves : List ℕ → Type 0) (syncs : ℕ) → StandsAtStop value_of told leaves syncs syncs leaves
uncalled value_of told leaves syncs = λ settled file is few bytes left.
    ⊎_elim (λ none. ap value_of (one_file told file bytes is (none bytes left))) (λ more. absurd (not_less syncs more)) settled
  where
    not_less : (n : ℕ) → n < n → ⊥
    not_less n h = omega arith

-- a disk of which no write is pending, whose file says what it said before
pub settled : {V : Type 0} (value_of : Journal → V) (letter : ℕ) (before now : Option (List ℕ)) (leaves left : List ℕ → Type 0) (syncs syncs_now : ℕ)
    → ((file : List ℕ) → before ≡ Some file → (s : List ℕ) × (now ≡ Some s) × (journal_of letter s ≡ journal_of letter file)) → NothingPends now left
    → StandsAtStop (λ file. value_of (journal_of letter file)) before leaves syncs syncs_now left
settled value_of letter before now leaves left syncs syncs_now same none = λ quiet file is few bytes may. ap value_of (says letter file bytes now (same file is) (none bytes may))

-- a flag isn't both
pub not_both : (b : Bool) → b ≡ true → b ≡ false → ⊥
not_both b set unset = absurd (cc)
