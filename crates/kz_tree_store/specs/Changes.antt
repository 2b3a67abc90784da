-- What a transaction makes of what a store knows of its file, and what writing it did to the file's journal.
use Rattle.std.specs.Prelude.{◌≡◌, ◌⊎◌, ◌≤◌, ℕ, is_some, List, length, Option, Some, Ok}
use Rattle.kz_types.specs.declared.limits.TheConstants.{MAX_FILE_BYTES}
use Rattle.kz_spec_data.specs.Tree.{Tree}
use Rattle.kz_spec_data.specs.declared.files.Txn.{Txn}
use Rattle.kz_spec_data.specs.Frames.{Journal, tree_letter, journal_of, journal_with_frame}
use Rattle.kz_spec_data.specs.Transactions.{TxnFits, txn_of, txn_written}
use Rattle.kz_spec_data.specs.TreeFile.{Load, over, Stored, after_txn}
use Rattle.kz_tree_store.specs.Opened.{Known, known_of}

-- ---- transactions

-- A transaction of a tree makes the new tree of the old one, whatever load was under way, and ends it.
abbrev pub MakesTree : Txn → Tree → Tree → Type 0
MakesTree t old new = (load : Load) → after_txn (record { tree = old; load = load }) t ≡ Some (record { tree = new; load = over })

-- A transaction can come where this is known of a file, and then this is known of it.
abbrev pub MakesKnown : Txn → Known → Known → Type 0
MakesKnown t old new = (s : Stored) → known_of (is_some old.loaded) s ≡ old → (made : Stored) × (after_txn s t ≡ Some made) × (known_of (is_some new.loaded) made ≡ new)

-- Where a transaction has few enough bytes for a file, each of its lengths, counts and numbers fits its field.
abbrev pub FitsIfFew : Txn → Type 0
FitsIfFew t = length (txn_written t) ≤ MAX_FILE_BYTES → TxnFits t

-- As many bytes as a transaction has. They are read as it, where they keep the limit of a file.
pub record IsPayloadOf (t : Txn) (payload : List ℕ) : Type 0 where
  pub size : length payload ≡ length (txn_written t)
  pub read : length payload ≤ MAX_FILE_BYTES → txn_of payload ≡ Ok t

-- ---- a transaction in a frame

-- a journal has one frame more, which is read as this transaction
abbrev pub HasTxnMore : Txn → Journal → Journal → Type 0
HasTxnMore t before now = (payload : List ℕ) × (txn_of payload ≡ Ok t) × (now ≡ journal_with_frame payload before)

-- the file that is told now has this transaction more
abbrev pub HasTxn : Txn → List ℕ → Option (List ℕ) → Type 0
HasTxn t file told = (new : List ℕ) × (told ≡ Some new) × HasTxnMore t (journal_of tree_letter file) (journal_of tree_letter new)

-- A stop leaves the frames from before, or these and this transaction.
abbrev pub LeftByTxn : Txn → Journal → List ℕ → Type 0
LeftByTxn t before left = (journal_of tree_letter left ≡ before) ⊎ HasTxnMore t before (journal_of tree_letter left)
