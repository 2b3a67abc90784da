-- What a stop may leave of a store's file, as the value that the file stands for.
use Rattle.std.specs.Prelude.{◌≡◌, true, List, ℕ, Option, Some, is_some}
use Rattle.std.proofs.Common.{sym, ◌∙◌}
use Rattle.kz_disk.specs.Disks.{NothingPends}
use Rattle.kz_spec_data.specs.Requests.{Only}

-- What a stop may leave of a disk that tells its contents: the value for which the bytes stand that are left, or none where they
-- stand for none. Of a disk that tells nothing this says nothing.
pub record LeavesValue {V : Type 0} (stands : List ℕ → Option V) (told : Option (List ℕ)) (leaves : List ℕ → Type 0) (found : Option V) : Type 0 where
  pub tells : is_some told ≡ true
  pub file : List ℕ
  pub left : leaves file
  pub is : stands file ≡ found

-- where no write is pending, a stop leaves the value of the file
pub settled_value : {V : Type 0} (stands : List ℕ → Option V) (value : V) (told : Option (List ℕ)) (leaves : List ℕ → Type 0) → NothingPends told leaves
    → ((file : List ℕ) → told ≡ Some file → stands file ≡ Some value) → Only value (LeavesValue stands told leaves)
settled_value stands value told leaves none same = λ found left. sym left.is ∙ same left.file (none left.file left.left)
