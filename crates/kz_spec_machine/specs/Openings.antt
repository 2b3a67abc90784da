-- The tree and the log with which a run begins.
use Rattle.std.specs.Prelude.{◌≡◌, true, [], None}
use Rattle.kz_spec_data.specs.Tree.{Tree, area, unclosed_path}
use Rattle.kz_spec_data.specs.Log.{Log, empty_log}
use Rattle.kz_spec_machine.specs.Machine.{World, is_finalised_log}
use Rattle.kz_spec_machine.specs.Sound.{Sound}
use Rattle.kz_spec_machine.specs.Promises.{PathsAgree}

-- the world of a tree and a log, with no controller declared and none running
abbrev pub opened_world : Tree → Log → World
opened_world t l = record { shared = record { tree = t; log = l; declared = [] }; drivers = [] }

-- A tree and a log as every run leaves them: their world is sound, each path of the migrated area agrees with the log, and where
-- the migration is finalised the tree is closed.
pub record IsSoundPair (t : Tree) (l : Log) : Type 0 where
  pub sound : Sound (opened_world t l)
  pub paths : PathsAgree (area t) (record { tree = t; log = l })
  pub closed : is_finalised_log l ≡ true → unclosed_path t ≡ None
