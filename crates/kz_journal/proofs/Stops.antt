-- What a stop in a change of a store leaves: the value before it, or the one after it.
use Rattle.std.specs.Prelude.{◌≡◌, ◌⊎◌, true, false, List, ℕ, Option, Some, None, is_some, Result, Ok}
use Rattle.std.proofs.Common.{refl, sym, ◌∙◌, ap, inl, inr, ⊎_elim}
use Rattle.kz_disk.specs.Disks.{StaysTold}
use Rattle.kz_spec_data.specs.Requests.{Only, Either, Between}
use Rattle.kz_spec_data.specs.Frames.{Journal, journal_of, journal_with_frame, journal_with_seal, LeftByAppend, LeftBySeal}
use Rattle.kz_journal.specs.Values.{LeavesValue}

-- what goes on being told was told
told_before : (told_old told_new : Option (List ℕ)) → StaysTold told_old told_new → is_some told_new ≡ true → (file : List ℕ) × (told_old ≡ Some file)
told_before None told_new stays tells = absurd (cc)
told_before (Some file) told_new stays tells = (file, refl)

-- A stop in an append leaves the value for which the file stood, or the one for which its journal stands with the new frame.
pub either_by_append : {V : Type 0} (of_journal : Journal → Option V) (stands : List ℕ → Option V) (letter : ℕ) (payload : List ℕ)
    (told_old told_new : Option (List ℕ)) (leaves : List ℕ → Type 0) (before after : V)
    → ((file : List ℕ) → stands file ≡ of_journal (journal_of letter file))
    → StaysTold told_old told_new
    → ((file : List ℕ) → told_old ≡ Some file → (left : List ℕ) → leaves left → LeftByAppend letter payload (journal_of letter file) left)
    → ((file : List ℕ) → told_old ≡ Some file → of_journal (journal_of letter file) ≡ Some before)
    → ((file : List ℕ) → told_old ≡ Some file → of_journal (journal_with_frame payload (journal_of letter file)) ≡ Some after)
    → Either before after (LeavesValue stands told_new leaves)
either_by_append of_journal stands letter payload told_old told_new leaves before after stands_is stays stop was made = λ found left.
    let told = told_before told_old told_new stays left.tells in
    let found_is = sym left.is ∙ stands_is left.file in
    ⊎_elim
    (λ same. inl (found_is ∙ ap of_journal same ∙ was told.0 told.1))
    (λ same. inr (found_is ∙ ap of_journal same ∙ made told.0 told.1))
    (stop told.0 told.1 left.file left.left)

-- A stop in a seal leaves the value for which the file stood, where its journal stands for the same with a seal.
pub only_by_seal : {V : Type 0} (of_journal : Journal → Option V) (stands : List ℕ → Option V) (letter : ℕ)
    (told_old told_new : Option (List ℕ)) (leaves : List ℕ → Type 0) (value : V)
    → ((file : List ℕ) → stands file ≡ of_journal (journal_of letter file))
    → StaysTold told_old told_new
    → ((file : List ℕ) → told_old ≡ Some file → (left : List ℕ) → leaves left → LeftBySeal letter (journal_of letter file) left)
    → ((file : List ℕ) → told_old ≡ Some file → of_journal (journal_of letter file) ≡ Some value)
    → ((file : List ℕ) → told_old ≡ Some file → of_journal (journal_with_seal (journal_of letter file)) ≡ Some value)
    → Only value (LeavesValue stands told_new leaves)
only_by_seal of_journal stands letter told_old told_new leaves value stands_is stays stop was made = λ found left.
    let told = told_before told_old told_new stays left.tells in
    let found_is = sym left.is ∙ stands_is left.file in
    ⊎_elim
    (λ same. found_is ∙ ap of_journal same ∙ was told.0 told.1)
    (λ same. found_is ∙ ap of_journal same ∙ made told.0 told.1)
    (stop told.0 told.1 left.file left.left)

-- of a request that makes this value of the one before
pub between_from_either : {V E : Type 0} (before after : V) (made : Result V E) (left : Option V → Type 0) → made ≡ Ok after → Either before after left → Between before made left
between_from_either before after made left is either = λ found here.
    ⊎_elim (λ same. inl same) (λ same. inr (after, is, same)) (either found here)

-- of a call that leaves the value
pub either_from_only : {V : Type 0} (before after : V) (left : Option V → Type 0) → Only before left → Either before after left
either_from_only before after left only = λ found here. inl (only found here)
