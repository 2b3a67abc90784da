-- The command `upgrade`: both files are sealed, so that each further frame has a sum.
use Rattle.std.specs.Prelude.{◌≡◌, ◌⊎◌, ⊤, ℕ, Bool, true, false, List, Option, Some, None, Result, Ok, Err}
use Rattle.kz_types.specs.declared.limits.Limit.TheVariants as limits
use Rattle.kz_types.specs.Limits.{number_of_limit}
use Rattle.kz_types.specs.declared.limits.TheConstants.{MAX_FILE_BYTES}
use Rattle.kz_types.specs.declared.outside.Status.{Status}
use Rattle.kz_types.specs.declared.outside.Status.TheVariants as status
use Rattle.kz_spec_data.specs.Tree.{Tree}
use Rattle.kz_spec_data.specs.Log.{Log}
use Rattle.kz_spec_data.specs.Frames.{Journal, tree_letter, log_letter, journal_of, HasNoRoomForSeal}
use Rattle.kz_spec_machine.specs.Files.{damage, StandFor, SayTheSame}

-- A file has its frames, and further ones have sums.
pub record IsSummed (letter : ℕ) (file new : List ℕ) : Type 0 where
  pub frames : (journal_of letter new).frames ≡ (journal_of letter file).frames
  pub whole : (journal_of letter new).damaged ≡ false
  pub sums : (journal_of letter new).summed ≡ true

-- Both files are sealed, or were.
pub record AreSealed (tree log new_tree new_log : List ℕ) : Type 0 where
  pub whole : damage tree log ≡ None
  pub tree_sealed : IsSummed tree_letter tree new_tree
  pub log_sealed : IsSummed log_letter log new_log

-- A file is damaged, for this reason, and neither is sealed.
pub record AreDamaged (reason : Status) (tree log new_tree new_log : List ℕ) : Type 0 where
  pub damaged : damage tree log ≡ Some reason
  pub tree_kept : SayTheSame tree_letter tree new_tree
  pub log_kept : SayTheSame log_letter log new_log

-- A file, as it is left, has no room for a seal; the tree's file is sealed first.
abbrev pub HasNoRoom : ℕ → ℕ → List ℕ → List ℕ → List ℕ → List ℕ → Type 0
HasNoRoom which number tree log new_tree new_log = (damage tree log ≡ None) × (number ≡ MAX_FILE_BYTES)
    × (((which ≡ number_of_limit limits.TreeFileBytes) × HasNoRoomForSeal tree_letter new_tree × SayTheSame tree_letter tree new_tree × SayTheSame log_letter log new_log)
    ⊎ ((which ≡ number_of_limit limits.LogFileBytes) × HasNoRoomForSeal log_letter new_log × IsSummed tree_letter tree new_tree × SayTheSame log_letter log new_log))

-- What `upgrade` makes of two files, by its status.
abbrev pub Upgrades : List ℕ → List ℕ → List ℕ → List ℕ → Status → Type 0
Upgrades tree log new_tree new_log status.Done = AreSealed tree log new_tree new_log
Upgrades tree log new_tree new_log status.Usage = ⊥
Upgrades tree log new_tree new_log (status.Script line) = ⊥
Upgrades tree log new_tree new_log status.ReadFault = ⊥
Upgrades tree log new_tree new_log status.WriteFault = ⊥
Upgrades tree log new_tree new_log status.TreeFault = ⊤
Upgrades tree log new_tree new_log status.LogFault = ⊤
Upgrades tree log new_tree new_log (status.TreeDamaged at) = AreDamaged (status.TreeDamaged at) tree log new_tree new_log
Upgrades tree log new_tree new_log (status.LogDamaged at why) = AreDamaged (status.LogDamaged at why) tree log new_tree new_log
Upgrades tree log new_tree new_log (status.Disagrees path) = ⊥
Upgrades tree log new_tree new_log status.NoMemory = ⊤
Upgrades tree log new_tree new_log (status.Limit which number) = HasNoRoom which number tree log new_tree new_log
Upgrades tree log new_tree new_log status.NotEmpty = ⊥
Upgrades tree log new_tree new_log (status.NoOffset base end) = ⊥
