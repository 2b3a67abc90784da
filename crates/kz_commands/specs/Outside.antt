-- What the objects of the outside tell: sources, sinks and disks.
use Rattle.std.specs.Prelude.{◌≡◌, ℕ, Bool, List, Option, Some}

-- The bytes that are left to read, taken so far, or on the disk, where they are told; how often a call has failed; and whether the
-- last call did.
pub record Outside : Type 0 where
  pub bytes : Option (List ℕ)
  pub faults : ℕ
  pub last_failed : Bool

abbrev pub outside : {A : Type 0} → (A → Option (List ℕ)) → (A → ℕ) → (A → Bool) → A → Outside
outside bytes faults last_failed a = record { bytes = bytes a; faults = faults a; last_failed = last_failed a }

-- Where two disks tell their contents, this holds of those from before and those from now.
abbrev pub OfFiles : Outside → Outside → Outside → Outside → (List ℕ → List ℕ → List ℕ → List ℕ → Type 0) → Type 0
OfFiles tree log tree_now log_now holds = (t l new_t new_l : List ℕ) → tree.bytes ≡ Some t → log.bytes ≡ Some l → tree_now.bytes ≡ Some new_t → log_now.bytes ≡ Some new_l → holds t l new_t new_l
