-- What a multi that isn't refused makes of a tree.
use Rattle.std.specs.Prelude.{◌≡◌, ◌≢◌, ℕ, ℤ, pos, ◌+ℤ◌, ◌≤ℤ◌, true, false, ◌&&◌, List, take, Some, None, is_some, Ok, All, ⊤}
use Rattle.std.specs.Str.{bytes_eq}
use Rattle.kz_types.specs.declared.limits.TheConstants.{MAX_CHUNK}
use Rattle.kz_types.specs.declared.tree.Row.{Row}
use Rattle.kz_types.specs.declared.tree.Op.{Op}
use Rattle.kz_types.specs.declared.tree.Op.TheVariants.{Create, Set, Delete, Check}
use Rattle.kz_types.specs.declared.driver.ClaimSeen.{ClaimSeen}
use Rattle.kz_types.specs.declared.machine.Recorded.{Recorded}
use Rattle.kz_types.specs.Paths.{is_migrated}
use Rattle.kz_types.specs.Order.{bytes_cmp}
use Rattle.kz_types.specs.Difference.{all_edited, difference}
use Rattle.kz_spec_data.specs.Control.{control_path, shown_epoch, recorded_of, written_recorded}
use Rattle.kz_spec_data.specs.Tree.{path_of_op, Tree, created_row, multi, begin_session, end_session, area, migration_record, has_offset, unclosed_path, path_of_rendered}
use Rattle.kz_spec_data.specs.Image.{Image}
use Rattle.kz_spec_data.specs.Rendering.{render}
use Rattle.kz_spec_data.specs.Difference.{same_body, chunk_length, diff, after_chunk}
use Rattle.kz_spec_machine.specs.Driver.{Driver, epoch_or_zero, views_migrated, record_before_offsets, is_last_write, write_ops, claimed_version, claim_ops}
use Rattle.kz_spec_machine.specs.Machine.{is_held_tree, client_refusal}
use Rattle.kz_spec_machine.specs.Sound.{IsNotRoot, IsUnreserved, Lasts, TreeShape, claim_version, shown_in, IsSession, IsLawfulOp}
use Rattle.kz_laws_values.specs.Ranges.{IsLong, IsEpoch}
use Rattle.kz_laws_machine.specs.Effects.{IsUnchanged}

-- ---- any multi

-- A znode that may stand in a tree: it isn't the root, it doesn't stand below a control znode, and where it lasts it doesn't
-- end with a session.
pub record MayStand (r : Row) : Type 0 where
  pub not_root : IsNotRoot r
  pub free : IsUnreserved r
  pub last : Lasts r

-- An operation that keeps the shape of a tree: a create is of a znode that may stand, and no set gives `/controller` the body
-- of a KRaft controller.
abbrev pub KeepsShape : Op → Type 0
KeepsShape (Create path body owner) = MayStand (created_row (pos 0) path body owner)
KeepsShape (Set path body version) = (bytes_eq path control_path && is_some (shown_epoch body)) ≡ false
KeepsShape (Delete path version) = ⊤
KeepsShape (Check path version) = ⊤

-- A multi gives the tree the next zxid. It keeps the tree's shape where each of its operations is such a one.
abbrev pub MultiKeepsShape : Type 0
MultiKeepsShape = (t new : Tree) (ops : List Op) → multi t ops ≡ Ok new → All KeepsShape ops → TreeShape t → (new.zxid ≡ t.zxid +ℤ pos 1) × TreeShape new

-- The operations of a claim are such.
abbrev pub ClaimKeepsShape : Type 0
ClaimKeepsShape = (seen : ClaimSeen) (d : Driver) (now : ℤ) → All KeepsShape (claim_ops seen d now)

-- So are those of a write.
abbrev pub WriteKeepsShape : Type 0
WriteKeepsShape = (t : Tree) (i : Image) (claim : ℤ) (target : Recorded) → All KeepsShape (write_ops claim (diff (area t) (render i)) target)

-- A multi none of whose operations is in the migrated area leaves the area.
abbrev pub OutsideLeavesArea : Type 0
OutsideLeavesArea = (t new : Tree) (ops : List Op) → multi t ops ≡ Ok new → TreeShape t → All (λ o. is_migrated (path_of_op o) ≡ false) ops → area new ≡ area t

-- ---- a write

-- These trees are before and after a write to what an image renders, under this claim and with this offset to be recorded.
abbrev pub IsWritten : Tree → Tree → Image → ℤ → Recorded → Type 0
IsWritten t new i claim target = multi t (write_ops claim (diff (area t) (render i)) target) ≡ Ok new

-- A write applies the first edits of the area's difference to the rendering, as many as a write may have.
abbrev pub WriteAppliesEdits : Type 0
WriteAppliesEdits = (t new : Tree) (i : Image) (claim : ℤ) (target : Recorded) → TreeShape t → IsWritten t new i claim target
    → area new ≡ all_edited bytes_cmp path_of_rendered (take (chunk_length MAX_CHUNK (diff (area t) (render i))) (difference bytes_cmp path_of_rendered same_body (area t) (render i))) (area t)

-- What remains to be written then is the rest of the operations.
abbrev pub WriteLeavesRest : Type 0
WriteLeavesRest = (t new : Tree) (i : Image) (claim : ℤ) (target : Recorded) → TreeShape t → IsWritten t new i claim target
    → diff (area new) (render i) ≡ after_chunk (diff (area t) (render i))

-- A write leaves the data version of `/controller_epoch`.
abbrev pub WriteKeepsClaim : Type 0
WriteKeepsClaim = (t new : Tree) (i : Image) (claim : ℤ) (target : Recorded) → IsWritten t new i claim target → claim_version new ≡ claim_version t

-- It leaves the epoch that `/controller` shows.
abbrev pub WriteKeepsShown : Type 0
WriteKeepsShown = (t new : Tree) (i : Image) (claim : ℤ) (target : Recorded) → IsWritten t new i claim target → shown_in new ≡ shown_in t

-- The area is what the image renders, what is recorded is what this body says, and if that is an offset the tree is closed.
pub record Completed (new : Tree) (i : Image) (body : List ℕ) : Type 0 where
  pub area : area new ≡ render i
  pub recorded : migration_record new ≡ recorded_of body
  pub closed : has_offset (recorded_of body) ≡ true → unclosed_path new ≡ None

-- The last write completes the area.
abbrev pub LastWriteCompletes : Type 0
LastWriteCompletes = (t new : Tree) (i : Image) (claim : ℤ) (target : Recorded) → TreeShape t → is_last_write (diff (area t) (render i)) ≡ true → IsWritten t new i claim target
    → Completed new i (written_recorded target)

-- A write that isn't the last leaves what is recorded, and the tree unclosed.
abbrev pub EarlierWriteUnclosed : Type 0
EarlierWriteUnclosed = (t new : Tree) (i : Image) (claim : ℤ) (target : Recorded) → TreeShape t → is_last_write (diff (area t) (render i)) ≡ false → IsWritten t new i claim target
    → (migration_record new ≡ migration_record t) × (unclosed_path new ≢ None)

-- ---- a claim

-- A claim gives `/controller_epoch` the data version that its driver takes as its claim.
abbrev pub ClaimGivesVersion : Type 0
ClaimGivesVersion = (t new : Tree) (seen : ClaimSeen) (d : Driver) (now : ℤ) → ((r : Row) → seen.epoch ≡ Some r → pos 0 ≤ℤ r.version) → multi t (claim_ops seen d now) ≡ Ok new
    → claim_version new ≡ Some (claimed_version seen.epoch)

-- And `/controller` shows the driver's epoch.
abbrev pub ClaimShowsEpoch : Type 0
ClaimShowsEpoch = (t new : Tree) (seen : ClaimSeen) (d : Driver) (now : ℤ) → IsLong d.id → IsEpoch (epoch_or_zero d.epoch) → IsLong now → multi t (claim_ops seen d now) ≡ Ok new
    → shown_in new ≡ Some (epoch_or_zero d.epoch)

-- What is recorded and the migrated area stay, and whether the tree is closed.
pub record Left (t new : Tree) : Type 0 where
  pub recorded : migration_record new ≡ migration_record t
  pub area : area new ≡ area t
  pub unclosed : unclosed_path new ≡ unclosed_path t

-- A claim of a driver that knows a migrated log leaves the area, what is recorded, and whether the tree is closed.
abbrev pub ClaimLeavesArea : Type 0
ClaimLeavesArea = (t new : Tree) (seen : ClaimSeen) (d : Driver) (now : ℤ) → TreeShape t → views_migrated d ≡ true → multi t (claim_ops seen d now) ≡ Ok new → Left t new

-- Every other claim records that there is no offset yet.
abbrev pub ClaimRecordsNone : Type 0
ClaimRecordsNone = (t new : Tree) (seen : ClaimSeen) (d : Driver) (now : ℤ) → views_migrated d ≡ false → multi t (claim_ops seen d now) ≡ Ok new → migration_record new ≡ recorded_of (written_recorded (record_before_offsets d))

-- ---- ZooKeeper clients

-- A session that begins leaves all that drivers read of the tree, and where its number is in range it keeps the tree's shape.
abbrev pub BeginLeaves : Type 0
BeginLeaves = (t new : Tree) (session : ℤ) → begin_session t session ≡ Ok new → TreeShape t → (IsSession session → TreeShape new) × IsUnchanged t new

-- One that ends keeps the tree's shape and leaves all that drivers read of it, whatever znodes end with it.
abbrev pub EndLeaves : Type 0
EndLeaves = (t new : Tree) (session : ℤ) → end_session t session ≡ Ok new → TreeShape t → TreeShape new × IsUnchanged t new

-- A client's multi that isn't refused keeps the tree's shape, where its operations are those of a line.
abbrev pub ClientKeepsShape : Type 0
ClientKeepsShape = (t new : Tree) (ops : List Op) → multi t ops ≡ Ok new → client_refusal t ops ≡ None → All IsLawfulOp ops → TreeShape t → TreeShape new

-- It leaves what is recorded.
abbrev pub ClientLeavesRecorded : Type 0
ClientLeavesRecorded = (t new : Tree) (ops : List Op) → multi t ops ≡ Ok new → client_refusal t ops ≡ None → migration_record new ≡ migration_record t

-- While a KRaft controller holds the tree, it leaves all that drivers read of it.
abbrev pub ClientLeavesHeld : Type 0
ClientLeavesHeld = (t new : Tree) (ops : List Op) → multi t ops ≡ Ok new → client_refusal t ops ≡ None → is_held_tree t ≡ true → TreeShape t → IsUnchanged t new

-- It makes no tree held.
abbrev pub ClientMakesNoneHeld : Type 0
ClientMakesNoneHeld = (t new : Tree) (ops : List Op) → multi t ops ≡ Ok new → client_refusal t ops ≡ None → TreeShape t → is_held_tree t ≡ false → is_held_tree new ≡ false

-- It doesn't lower the data version of `/controller_epoch`.
abbrev pub ClientKeepsVersion : Type 0
ClientKeepsVersion = (t new : Tree) (ops : List Op) (v : ℤ) → multi t ops ≡ Ok new → client_refusal t ops ≡ None → claim_version t ≡ Some v → (n : ℤ) × (claim_version new ≡ Some n) × (v ≤ℤ n)
