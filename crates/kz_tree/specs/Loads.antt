-- What the check of a load answers, and what is true of it.
use Rattle.std.specs.Prelude.{◌≡◌, Bool, true, false, ℤ, List, [], ◌∷◌, ◌++◌, Option, Some, ⊤}
use Rattle.kz_types.specs.declared.tree.Row.{Row}
use Rattle.kz_spec_data.specs.Tree.{Tree}
use Rattle.kz_spec_data.specs.Loads.{LoadRefusal, broken, limit, is_load}
use Rattle.kz_tree.specs.declared.load.LoadFault.{LoadFault}
use Rattle.kz_tree.specs.declared.load.LoadFault.TheVariants as fault
use Rattle.kz_tree.specs.Kept.{IsKept}

-- A header and znodes keep the rules and limits of a load, and the tree of them is one.
pub record IsChecked (zxid : ℤ) (sessions : List ℤ) (rows : List Row) : Type 0 where
  pub load : is_load zxid sessions rows ≡ true
  pub kept : IsKept zxid sessions rows

-- the tree with one znode more, after all others
abbrev pub with_row : Row → Tree → Tree
with_row r t = record { zxid = t.zxid; sessions = t.sessions; rows = t.rows ++ r ∷ [] }

-- Why a header isn't taken, where this says whether it keeps the rules: it doesn't, or out of memory.
abbrev pub IsHeaderFaultOf : Bool → LoadFault → Type 0
IsHeaderFaultOf keeps fault.Broken = keeps ≡ false
IsHeaderFaultOf keeps (fault.Limit n) = ⊥
IsHeaderFaultOf keeps fault.NoMemory = ⊤

-- Why a znode isn't taken: what the definition says, or out of memory.
abbrev pub IsRowFaultOf : Option LoadRefusal → LoadFault → Type 0
IsRowFaultOf said fault.Broken = said ≡ Some broken
IsRowFaultOf said (fault.Limit n) = said ≡ Some (limit n)
IsRowFaultOf said fault.NoMemory = ⊤
