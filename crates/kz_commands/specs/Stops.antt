-- What a stop leaves of a file.
use Rattle.std.specs.Prelude.{◌≡◌, ◌⊎◌, ◌+◌, ◌<◌, ◌≤◌, ◌^◌, ℕ, true, false, List, length, Option, Some}
use Rattle.kz_disk.specs.Disks.{NothingPends}
use Rattle.kz_spec_machine.specs.Files.{SayTheSame}
use Rattle.kz_spec_machine.specs.Init.{is_short}

-- What a disk tells of its contents, what a stop may leave of them, and how often a sync has succeeded.
pub record Contents : Type 1 where
  pub told : Option (List ℕ)
  pub leaves : List ℕ → Type 0
  pub syncs : ℕ

abbrev pub contents : {D : Type 0} → (D → Option (List ℕ)) → (D → List ℕ → Type 0) → (D → ℕ) → D → Contents
contents told leaves syncs disk = record { told = told disk; leaves = leaves disk; syncs = syncs disk }

-- Where no write was pending on a disk before, or a sync has succeeded since, a stop leaves bytes that stand for what its file stood
-- for before. The file has fewer than 2^32 bytes.
abbrev pub StandsAtStop : {V : Type 0} → (List ℕ → V) → Option (List ℕ) → (List ℕ → Type 0) → ℕ → ℕ → (List ℕ → Type 0) → Type 0
StandsAtStop value_of told leaves syncs syncs_now left = (NothingPends told leaves ⊎ (syncs < syncs_now)) → (file : List ℕ) → told ≡ Some file → length file < 2 ^ 32
    → (bytes : List ℕ) → left bytes → value_of bytes ≡ value_of file

-- ---- the files that `init` makes

-- What a stop leaves of a file that `init` looks at, and may make: one of at most 17 bytes has at most 17, and a longer one says the
-- same.
pub record LeftByInit (letter : ℕ) (file left : List ℕ) : Type 0 where
  pub short : is_short file ≡ true → is_short left ≡ true
  pub kept : is_short file ≡ false → SayTheSame letter file left

-- Where no write was pending on a disk before, this is what a stop leaves of its file. The file has fewer than 2^32 bytes.
abbrev pub LeavesByInit : ℕ → Option (List ℕ) → (List ℕ → Type 0) → (List ℕ → Type 0) → Type 0
LeavesByInit letter told leaves left = NothingPends told leaves → (file : List ℕ) → told ≡ Some file → length file < 2 ^ 32 → (bytes : List ℕ) → left bytes → LeftByInit letter file bytes

-- Where no write was pending on a disk before, none is now.
abbrev pub StaysSettled : Option (List ℕ) → (List ℕ → Type 0) → Option (List ℕ) → (List ℕ → Type 0) → Type 0
StaysSettled told leaves now left = NothingPends told leaves → NothingPends now left

-- A file of more than 17 bytes has at most one byte more now.
abbrev pub LongGrowsByOne : Option (List ℕ) → Option (List ℕ) → Type 0
LongGrowsByOne told now = (file new : List ℕ) → told ≡ Some file → now ≡ Some new → is_short file ≡ false → length new ≤ length file + 1
