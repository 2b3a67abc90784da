-- What is written for a change of a tree, and what the operations and znodes that a program holds keep.
use Rattle.std.specs.Prelude.{◌≡◌, ℕ, ℤ, pos, ◌+ℤ◌, true, List, length, Option, Some, None, ⊤}
use Rattle.std.specs.Int.{w32, w64}
use Rattle.std.specs.Int.RustNames.{FitsSigned}
use Rattle.kz_types.specs.PathRule.{is_path}
use Rattle.kz_types.specs.declared.tree.Row.{Row}
use Rattle.kz_types.specs.declared.tree.Op.{Op}
use Rattle.kz_types.specs.declared.tree.Op.TheVariants.{Create, Set, Delete, Check}
use Rattle.kz_spec_data.specs.Tree.{Tree}
use Rattle.kz_spec_data.specs.Requests.{TreeChange}
use Rattle.kz_spec_data.specs.Requests as changes
use Rattle.kz_spec_data.specs.declared.files.Txn.{Txn}
use Rattle.kz_spec_data.specs.declared.files.Txn.TheVariants.{Multi, Begin, End}
use Rattle.kz_spec_data.specs.Transactions.{txn_written}

-- the transaction of a change of a tree, with the next zxid
abbrev pub txn_of_change : Tree → TreeChange → Txn
txn_of_change t (changes.Multi ops) = Multi (t.zxid +ℤ pos 1) ops
txn_of_change t (changes.BeginSession session) = Begin (t.zxid +ℤ pos 1) session
txn_of_change t (changes.EndSession session) = End (t.zxid +ℤ pos 1) session

-- The bytes of the payload that is written for a change of a tree.
abbrev pub change_bytes : Tree → TreeChange → ℕ
change_bytes t change = length (txn_written (txn_of_change t change))

-- ---- what a program holds

abbrev pub IsOwnerHeld : Option ℤ → Type 0
IsOwnerHeld None = ⊤
IsOwnerHeld (Some session) = FitsSigned w64 session

abbrev pub IsPathHeld : List ℕ → Type 0
IsPathHeld path = is_path path ≡ true

-- An operation that a program holds has a path, and its numbers are in their ranges.
abbrev pub IsOpHeld : Op → Type 0
IsOpHeld (Create path body owner) = IsPathHeld path × IsOwnerHeld owner
IsOpHeld (Set path body version) = IsPathHeld path × FitsSigned w32 version
IsOpHeld (Delete path version) = IsPathHeld path × FitsSigned w32 version
IsOpHeld (Check path version) = IsPathHeld path × FitsSigned w32 version

-- The same of a znode.
pub record IsRowHeld (r : Row) : Type 0 where
  pub path : IsPathHeld r.path
  pub version : FitsSigned w32 r.version
  pub owner : IsOwnerHeld r.owner
  pub czxid : FitsSigned w64 r.czxid
  pub mzxid : FitsSigned w64 r.mzxid
  pub pzxid : FitsSigned w64 r.pzxid
