-- What is never refused.
use Rattle.std.specs.Prelude.{◌≡◌, ◌≢◌, ◌⊎◌, ℕ, ℤ, true, List, take, Some, None, is_some, Ok, Err, ⊤}
use Rattle.kz_types.specs.declared.tree.Op.{Op}
use Rattle.kz_types.specs.declared.driver.ClaimSeen.{ClaimSeen}
use Rattle.kz_types.specs.declared.machine.Recorded.{Recorded}
use Rattle.kz_types.specs.declared.fault.TreeFault.{TreeFault}
use Rattle.kz_types.specs.declared.fault.TreeFault.TheVariants.{Refused, Limit}
use Rattle.kz_spec_data.specs.Control.{migration_path}
use Rattle.kz_spec_data.specs.Tree.{Tree, row_at, multi, begin_session, end_session, area}
use Rattle.kz_spec_data.specs.Image.{Image}
use Rattle.kz_spec_data.specs.InOrder.{IsInOrder}
use Rattle.kz_spec_data.specs.Rendering.{render}
use Rattle.kz_spec_data.specs.Difference.{diff}
use Rattle.kz_spec_machine.specs.Driver.{Driver, views_migrated, claim_ops, write_ops}
use Rattle.kz_spec_machine.specs.Machine.{is_held_tree, client_refusal}
use Rattle.kz_spec_machine.specs.Sound.{TreeShape, HasBases, claim_version}

-- Of the operations that lead from the migrated area to the rendering of a metadata, the first ones, as many as one likes,
-- are refused by no code; they may pass a limit.
abbrev pub DifferenceIsTaken : Type 0
DifferenceIsTaken = (t : Tree) (i : Image) (n index : ℕ) (code : ℤ) → TreeShape t → HasBases t → IsInOrder i → multi t (take n (diff (area t) (render i))) ≢ Err (Refused index code)

-- Nor is the write of a driver whose claim still stands, where `/migration` is there.
abbrev pub WriteIsTaken : Type 0
WriteIsTaken = (t : Tree) (i : Image) (claim : ℤ) (target : Recorded) (index : ℕ) (code : ℤ) → TreeShape t → HasBases t → IsInOrder i → claim_version t ≡ Some claim → is_some (row_at migration_path t.rows) ≡ true
    → multi t (write_ops claim (diff (area t) (render i)) target) ≢ Err (Refused index code)

-- an operation is refused with a code, or would pass a limit
abbrev pub IsOfOperation : TreeFault → Type 0
IsOfOperation (Refused index code) = ⊤
IsOfOperation (Limit index number) = ⊤
IsOfOperation f = ⊥

-- A multi fails by one of its operations alone.
abbrev pub MultiFailsByOperation : Type 0
MultiFailsByOperation = (t : Tree) (ops : List Op) (f : TreeFault) → multi t ops ≡ Err f → IsOfOperation f

-- ---- `/migration`

-- it is there
abbrev pub HasMigration : Tree → Type 0
HasMigration t = is_some (row_at migration_path t.rows) ≡ true

-- While a KRaft controller holds the tree, `/migration` is there.
abbrev pub HeldHasMigration : Tree → Type 0
HeldHasMigration t = is_held_tree t ≡ true → HasMigration t

-- After a claim it is there, where a driver that knows of a migrated log finds the tree held.
abbrev pub ClaimHasMigration : Type 0
ClaimHasMigration = (t new : Tree) (seen : ClaimSeen) (d : Driver) (now : ℤ) → multi t (claim_ops seen d now) ≡ Ok new → (views_migrated d ≡ true → is_held_tree t ≡ true) → HeldHasMigration t → HasMigration new

-- A write keeps that it is there while the tree is held.
abbrev pub WriteKeepsMigration : Type 0
WriteKeepsMigration = (t new : Tree) (i : Image) (claim : ℤ) (target : Recorded) → multi t (write_ops claim (diff (area t) (render i)) target) ≡ Ok new → HeldHasMigration t → HeldHasMigration new

-- So does a client's multi, which makes no tree held.
abbrev pub ClientKeepsMigration : Type 0
ClientKeepsMigration = (t new : Tree) (ops : List Op) → multi t ops ≡ Ok new → client_refusal t ops ≡ None → TreeShape t → HeldHasMigration t → HeldHasMigration new

-- So do a session that begins, and one that ends.
abbrev pub SessionsKeepMigration : Type 0
SessionsKeepMigration = (t new : Tree) (session : ℤ) → (begin_session t session ≡ Ok new) ⊎ (end_session t session ≡ Ok new) → TreeShape t → HeldHasMigration t → HeldHasMigration new
