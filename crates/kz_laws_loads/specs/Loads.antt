-- What a tree that was loaded keeps.
use Rattle.std.specs.Prelude.{◌≡◌, true, All}
use Rattle.kz_types.specs.declared.tree.Row.{Row}
use Rattle.kz_types.specs.Paths.{is_path}
use Rattle.kz_spec_data.specs.Tree.{Tree}
use Rattle.kz_spec_data.specs.Loads.{is_load}

-- The path of a znode keeps the rule of paths.
abbrev pub HasPath : Row → Type 0
HasPath r = is_path r.path ≡ true

-- The last zxid, the sessions and the znodes of a tree keep the rules and limits of a load, and the paths the rule of paths.
pub record IsLoadOf (t : Tree) : Type 0 where
  pub load : is_load t.zxid t.sessions t.rows ≡ true
  pub paths : All HasPath t.rows
