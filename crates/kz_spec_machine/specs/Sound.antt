-- What is true of every world of a run. Each group of facts is a record over the values that it reads, so that what
-- changes anything else keeps the group as it stands.
use Rattle.std.specs.Prelude.{◌≡◌, ◌≢◌, ◌⊎◌, ◌≤◌, ℕ, Bool, true, false, not, ◌&&◌, ◌||◌, ℤ, pos, negsuc, ◌+ℤ◌, ◌≤ℤ◌, ◌<ℤ◌, int_le, List, [], ◌∷◌, ◌++◌, length, map, Option, Some, None, is_some, option_map, All, ⊤}
use Rattle.kz_types.specs.declared.codes.TheConstants.{NO_MIGRATION, PRE_MIGRATION}
use Rattle.kz_types.specs.declared.limits.TheConstants.{MAX_NUMBER, MAX_BODY_BYTES, MAX_EPOCH, MAX_LONG, MAX_VERSION, MAX_ZNODES}
use Rattle.kz_types.specs.declared.tree.Row.{Row}
use Rattle.kz_types.specs.declared.tree.Op.{Op}
use Rattle.kz_types.specs.declared.tree.Op.TheVariants as op
use Rattle.kz_types.specs.declared.log.Entry.{Entry}
use Rattle.kz_types.specs.declared.driver.ClaimSeen.{ClaimSeen}
use Rattle.kz_types.specs.declared.driver.Stage.{Stage}
use Rattle.kz_types.specs.declared.driver.Stage.TheVariants as stage
use Rattle.kz_types.specs.declared.machine.Recorded.{Recorded}
use Rattle.kz_types.specs.declared.machine.Event.{Event}
use Rattle.kz_types.specs.declared.machine.Event.TheVariants as event
use Rattle.kz_types.specs.declared.record.MetaRecord.{MetaRecord}
use Rattle.kz_types.specs.declared.record.MetaRecord.TheVariants as meta
use Rattle.std.specs.Str.{bytes_eq}
use Rattle.std.specs.Ordering.{int_cmp}
use Rattle.std.specs.List.{Contains, filter, list_any, count_by}
use Rattle.kz_types.specs.Paths.{base_paths, control_paths, is_among, is_below, is_migrated, is_path}
use Rattle.kz_types.specs.Order.{bytes_cmp}
use Rattle.kz_types.specs.Ordered.{Rises}
use Rattle.kz_spec_data.specs.Control.{control_path, epoch_path, migration_path, shown_epoch}
use Rattle.kz_types.specs.Numbers.{are_distinct}
use Rattle.kz_spec_data.specs.Tree.{Tree, row_at, parent_of, is_root, has_parent, is_ephemeral, may_own, path_of_row, migrated_rows, area, migration_record, unclosed_path}
use Rattle.kz_spec_data.specs.InOrder.{IsInOrder}
use Rattle.kz_spec_data.specs.Settlement.{counting_records, ends_migration, is_open}
use Rattle.kz_spec_data.specs.Image.{empty_image, all_applied, is_migrated_state}
use Rattle.kz_spec_data.specs.Log.{Log, IsLog, View, IsViewOf, entries, end_of, batch_ends, image_at, is_migrated_log, is_open_log, begun_of, commit_of}
use Rattle.kz_spec_data.specs.Rendering.{render, excess}
use Rattle.kz_spec_machine.specs.Driver.{Shared, Driver, epoch_or_zero, shown_by, begin_record, remaining_at}
use Rattle.kz_spec_machine.specs.Machine.{World, driver_of, is_held_tree}

-- ---- numbers

-- from 0 to the greatest of 32 bits
pub record IsId (id : ℤ) : Type 0 where
  pub least : pos 0 ≤ℤ id
  pub most : id ≤ℤ pos MAX_NUMBER

-- from 1 to the greatest of 32 bits
pub record IsEpoch (epoch : ℤ) : Type 0 where
  pub least : pos 1 ≤ℤ epoch
  pub most : epoch ≤ℤ MAX_EPOCH

-- from 0, which stands for none, to the greatest of 32 bits
pub record IsEpochOrNone (epoch : ℤ) : Type 0 where
  pub least : pos 0 ≤ℤ epoch
  pub most : epoch ≤ℤ MAX_EPOCH

-- from 0 to the greatest of 64 bits
pub record IsTime (now : ℤ) : Type 0 where
  pub least : pos 0 ≤ℤ now
  pub most : now ≤ℤ MAX_LONG

-- ---- the tree and the log

-- A znode was made by a transaction from the first one on, and was written and had its children changed by none before that;
-- none of the three is above the tree's last one. Its version isn't negative.
pub record IsStamped (zxid : ℤ) (r : Row) : Type 0 where
  pub least : pos 1 ≤ℤ r.czxid
  pub modified_since : r.czxid ≤ℤ r.mzxid
  pub children_since : r.czxid ≤ℤ r.pzxid
  pub created : r.czxid ≤ℤ zxid
  pub modified : r.mzxid ≤ℤ zxid
  pub children : r.pzxid ≤ℤ zxid
  pub version : pos 0 ≤ℤ r.version

-- every znode's parent is there, or is the root
abbrev pub HaveParents : List Row → Type 0
HaveParents rows = (path : List ℕ) → is_some (row_at path rows) ≡ true → has_parent path rows ≡ true

-- The znodes that last: those of the migrated area, the base znodes, `/controller_epoch`, `/migration`, and a
-- `/controller` with the body of a KRaft controller.
abbrev pub is_lasting : Row → Bool
is_lasting r = is_migrated r.path || is_among base_paths r.path || bytes_eq r.path epoch_path || bytes_eq r.path migration_path
    || (bytes_eq r.path control_path && is_some (shown_epoch r.body))

-- A znode ends with a session only where it isn't one that lasts.
abbrev pub Lasts : Row → Type 0
Lasts r = is_some r.owner ≡ true → is_lasting r ≡ false

-- no znode's parent ends with a session
abbrev pub ParentsStay : List Row → Type 0
ParentsStay rows = (path : List ℕ) → is_some (row_at path rows) ≡ true → is_ephemeral (row_at (parent_of path) rows) ≡ false

-- a znode isn't the root
abbrev pub IsNotRoot : Row → Type 0
IsNotRoot r = is_root r.path ≡ false

-- a znode doesn't stand below one by which controllers find each other or record the migration
abbrev pub IsUnreserved : Row → Type 0
IsUnreserved r = list_any (λ control. is_below control r.path) control_paths ≡ false

-- the owner of a znode, where it has one, is a live session
abbrev pub IsOwned : List ℤ → Row → Type 0
IsOwned sessions r = may_own r.owner sessions ≡ true

-- the body and the data version of a znode keep their limits
pub record IsSmall (r : Row) : Type 0 where
  pub body : length r.body ≤ MAX_BODY_BYTES
  pub version : r.version ≤ℤ MAX_VERSION

-- The znodes keep the limits: each by itself, and the numbers of those of the migrated area and of all others.
pub record Limits (rows : List Row) : Type 0 where
  pub each : All IsSmall rows
  pub migrated : count_by (λ (r : Row). is_migrated r.path) rows ≤ MAX_ZNODES
  pub others : count_by (λ (r : Row). not (is_migrated r.path)) rows ≤ MAX_ZNODES

-- from 0 to the greatest of 64 bits
pub record IsZxid (zxid : ℤ) : Type 0 where
  pub least : pos 0 ≤ℤ zxid
  pub most : zxid ≤ℤ MAX_LONG

-- The znodes rise by path, none of them is the root or stands below a control znode, their parents are there, and their
-- transactions are those of the tree. Those that end with a session are no parents, and none of those that last. The
-- sessions rise, each is at least 1, and no znode has another owner. The limits are kept.
pub record TreeShape (t : Tree) : Type 0 where
  pub zxid : IsZxid t.zxid
  pub rise : Rises bytes_cmp path_of_row t.rows
  pub not_root : All IsNotRoot t.rows
  pub free : All IsUnreserved t.rows
  pub parents : HaveParents t.rows
  pub stamped : All (IsStamped t.zxid) t.rows
  pub last : All Lasts t.rows
  pub stay : ParentsStay t.rows
  pub live : Rises int_cmp (λ s. s) t.sessions
  pub least : All (λ s. pos 1 ≤ℤ s) t.sessions
  pub owned : All (IsOwned t.sessions) t.rows
  pub limits : Limits t.rows

-- The log is one, its epoch is in range, and the metadata at its base is one that records make.
pub record LogShape (l : Log) : Type 0 where
  pub log : IsLog l
  pub epoch : l.epoch ≤ℤ MAX_EPOCH
  pub image : IsInOrder l.base_image

-- a record that counts in a log before the migration
abbrev pub IsBeforeMigration : MetaRecord → Type 0
IsBeforeMigration meta.NoOp = ⊤
IsBeforeMigration (meta.RegisterBroker r) = ⊤
IsBeforeMigration (meta.ZkMigrationState s) = (s ≡ NO_MIGRATION) ⊎ (s ≡ PRE_MIGRATION)
IsBeforeMigration r = ⊥

-- A log that isn't migrated begins with its first record, and no other records count in it.
pub record Unmigrated (l : Log) : Type 0 where
  pub base : l.base ≡ negsuc 0
  pub records : All (λ (e : Entry). IsBeforeMigration e.item) (counting_records (entries l.batches) (end_of l))

-- an offset is the base or the last of a batch
pub record IsBatchEnd (l : Log) (offset : ℤ) : Type 0 where
  pub before : List ℤ
  pub after : List ℤ
  pub among : batch_ends l ≡ before ++ offset ∷ after

-- an offset isn't before a commit after the base
abbrev pub IsPastCommit : Log → ℤ → Type 0
IsPastCommit l offset = (e : Entry) → Contains (entries l.batches) e → ends_migration (entries l.batches) e ≡ true → e.offset ≤ℤ offset

-- What is recorded on a migrated log: no offset yet, on a log that begins with its first record and has a commit; or a batch
-- end that isn't before a commit, at whose rendering a closed tree stands.
pub record RecordAgrees (t : Tree) (l : Log) (r : Recorded) : Type 0 where
  pub least : negsuc 0 ≤ℤ r.offset
  pub first : r.offset ≡ negsuc 0 → (l.base ≡ negsuc 0) × (commit_of l ≢ None)
  pub end : pos 0 ≤ℤ r.offset → IsBatchEnd l r.offset
  pub past : pos 0 ≤ℤ r.offset → IsPastCommit l r.offset
  pub same : pos 0 ≤ℤ r.offset → unclosed_path t ≡ None → area t ≡ render (image_at l r.offset)

-- A migrated log and its tree: a KRaft controller holds the tree; no transaction is open at a batch end that isn't before a
-- commit; the metadata at each batch end keeps the limits; and `/migration` records an offset or that there is none yet.
pub record Agreement (t : Tree) (l : Log) : Type 0 where
  pub holds : is_held_tree t ≡ true
  pub ended : (k : ℤ) → IsBatchEnd l k → IsPastCommit l k → is_open (entries l.batches) k ≡ false
  pub fits : (k : ℤ) → IsBatchEnd l k → excess (image_at l k) ≡ None
  pub record_there : migration_record t ≢ None
  pub recorded : (r : Recorded) → migration_record t ≡ Some r → RecordAgrees t l r

pub record IsSharedSound (s : Shared) : Type 0 where
  pub tree : TreeShape s.tree
  pub log : LogShape s.log
  pub before : is_migrated_log s.log ≡ false → Unmigrated s.log
  pub agreement : is_migrated_log s.log ≡ true → Agreement s.tree s.log

-- ---- one driver

-- the data version of `/controller_epoch`
abbrev pub claim_version : Tree → Option ℤ
claim_version t = option_map (λ (r : Row). r.version) (row_at epoch_path t.rows)

-- A driver's claim is current where it is the data version of `/controller_epoch`.
abbrev pub IsCurrent : Tree → Option ℤ → Type 0
IsCurrent t claim = (claim ≡ claim_version t) × (claim ≢ None)

-- the epoch that `/controller` shows
abbrev pub shown_in : Tree → Option ℤ
shown_in t = shown_by (row_at control_path t.rows)

-- A driver's epoch is below the one that `/controller` shows.
abbrev pub IsBelowShown : Option ℤ → Option ℤ → Type 0
IsBelowShown shown epoch = (e : ℤ) × (shown ≡ Some e) × (epoch_or_zero epoch <ℤ e)

-- A claim is never above the data version, a KRaft controller holds the tree, and the epoch that it shows isn't above the
-- log's. While the claim is current, that epoch is the driver's; where the claim is below the version, it is above the
-- driver's.
pub record IsClaimOf (log_epoch : ℤ) (version shown epoch : Option ℤ) (v : ℤ) : Type 0 where
  pub elected : epoch ≢ None
  pub least : pos 0 ≤ℤ v
  pub low : (now : ℤ) → version ≡ Some now → v ≤ℤ now
  pub there : version ≢ None
  pub held : shown ≢ None
  pub within : (e : ℤ) → shown ≡ Some e → e ≤ℤ log_epoch
  pub shows : version ≡ Some v → shown ≡ epoch
  pub fenced : (now : ℤ) → version ≡ Some now → v <ℤ now → IsBelowShown shown epoch

abbrev pub Claims : ℤ → Option ℤ → Option ℤ → Option ℤ → Option ℤ → Type 0
Claims log_epoch version shown epoch None = ⊤
Claims log_epoch version shown epoch (Some v) = IsClaimOf log_epoch version shown epoch v

-- The driver's epoch, where it has one, isn't above the log's.
abbrev pub Epochs : ℤ → Option ℤ → Type 0
Epochs log_epoch None = ⊤
Epochs log_epoch (Some e) = IsEpoch e × (e ≤ℤ log_epoch)

-- A driver that does anything was elected and hasn't resigned.
abbrev pub WasElected : Option ℤ → Stage → Type 0
WasElected epoch stage.Uninitialized = ⊤
WasElected epoch stage.Inactive = ⊤
WasElected epoch s = epoch ≢ None

-- Whether an elected driver may not know yet that the log is migrated: before its first look at the log, between the commit
-- and its next look, and where another controller of a higher epoch holds the tree.
abbrev pub MayNotKnow : Option ℤ → Option ℤ → Stage → Type 0
MayNotKnow shown epoch stage.WaitForControllerQuorum = ⊤
MayNotKnow shown epoch stage.ReadLogForResync = ⊤
MayNotKnow shown epoch s = IsBelowShown shown epoch

-- What a driver knows of the log is what the log says at a batch end, or the base has passed it. A migration that it knows
-- of stays committed.
pub record Views (l : Log) (shown epoch : Option ℤ) (s : Stage) (v : View) : Type 0 where
  pub view : IsViewOf l v
  pub epoch_range : IsEpochOrNone v.epoch
  pub migrated : is_migrated_state v.image.state ≡ true → is_migrated_log l ≡ true
  pub unknown : is_migrated_log l ≡ true → is_migrated_state v.image.state ≡ false → epoch ≢ None → MayNotKnow shown epoch s

-- Where a driver has recorded an offset, the log is migrated, and the tree records none before it. Where the tree records it and
-- the log ends there, the tree is closed.
pub record OwnRecord (t : Tree) (l : Log) (own : Option ℤ) : Type 0 where
  pub low : (o : ℤ) → own ≡ Some o → (is_migrated_log l ≡ true) × (r : Recorded) × (migration_record t ≡ Some r) × (o ≤ℤ r.offset)
  pub rest : (o : ℤ) (r : Recorded) → own ≡ Some o → migration_record t ≡ Some r → r.offset ≡ o → end_of l ≡ o → unclosed_path t ≡ None

-- ---- the stages of a driver

-- A look saw the present data version of `/controller_epoch`, or its present absence.
abbrev pub SeesPresent : Tree → ClaimSeen → Type 0
SeesPresent t seen = option_map (λ (r : Row). r.version) seen.epoch ≡ claim_version t

-- The data version that a driver saw isn't above the present one. Where it saw what is there, its epoch isn't below the shown one.
-- It looked at each base znode.
pub record Looks (t : Tree) (epoch : Option ℤ) (seen : ClaimSeen) : Type 0 where
  pub version : (r : Row) → seen.epoch ≡ Some r → pos 0 ≤ℤ r.version
  pub low : (r : Row) → seen.epoch ≡ Some r → (now : ℤ) × (claim_version t ≡ Some now) × (r.version ≤ℤ now)
  pub first : SeesPresent t seen → (e : ℤ) → shown_in t ≡ Some e → e ≤ℤ epoch_or_zero epoch
  pub bases : length seen.bases ≡ length base_paths

-- A driver that has a claim, on a migrated log.
pub record IsAfterMigration (l : Log) (claim : Option ℤ) : Type 0 where
  pub claimed : claim ≢ None
  pub migrated : is_migrated_log l ≡ true

-- A driver that migrates has a claim. Where it is current, the log isn't migrated, and no offset is recorded.
pub record Migrates (t : Tree) (l : Log) (claim : Option ℤ) : Type 0 where
  pub claimed : claim ≢ None
  pub unmigrated : IsCurrent t claim → is_migrated_log l ≡ false
  pub recorded : IsCurrent t claim → option_map (λ (r : Recorded). r.offset) (migration_record t) ≡ Some (negsuc 0)

-- a record that a translation may give: no registration of a broker, no state of the migration, no marker of a transaction
abbrev pub IsTranslated : MetaRecord → Type 0
IsTranslated (meta.RegisterBroker r) = ⊥
IsTranslated (meta.ZkMigrationState s) = ⊥
IsTranslated (meta.BeginTransaction name) = ⊥
IsTranslated meta.EndTransaction = ⊥
IsTranslated (meta.AbortTransaction reason) = ⊥
IsTranslated r = ⊤

-- the records from an offset on
abbrev pub records_from : Log → ℤ → List MetaRecord
records_from l from = map (λ (e : Entry). e.item) (filter (λ (e : Entry). int_le from e.offset) (entries l.batches))

-- The transaction of the migration is open: its Begin, and after it these records, are the last of the log. They and those still
-- to append are ones of a translation, and the metadata that they give keeps the limits.
pub record Fills (l : Log) (rest : List MetaRecord) : Type 0 where
  pub from : ℤ
  pub records : List MetaRecord
  pub begun : begun_of l ≡ Some from
  pub so_far : records_from l from ≡ begin_record ∷ records
  pub translated : All IsTranslated (records ++ rest)
  pub fits : excess (all_applied MAX_EPOCH (records ++ rest) empty_image) ≡ None

-- whether a driver at this stage may have a transaction of its own open
abbrev pub is_filling : Stage → Bool
is_filling (stage.AppendRecords records) = true
is_filling s = false

-- A driver that leads the log and doesn't fill a transaction leads a log in which none is open.
abbrev pub LeadsSettledLog : Log → Option ℤ → Stage → Type 0
LeadsSettledLog l epoch s = epoch ≡ Some l.epoch → is_filling s ≡ false → is_open_log l ≡ false

-- what a driver that writes will record: its view's end of the log, which is migrated
pub record IsTargetOf (target : Recorded) (own : ℤ) (own_epoch : Option ℤ) (v : View) : Type 0 where
  pub id : target.id ≡ own
  pub controller_epoch : Some target.controller_epoch ≡ own_epoch
  pub offset : target.offset ≡ v.position
  pub not_negative : pos 0 ≤ℤ target.offset
  pub epoch : IsEpochOrNone target.epoch
  pub migrated : is_migrated_state v.image.state ≡ true

-- The offset of a current driver's target is a batch end, and isn't before what is recorded or before a commit.
pub record Targets (t : Tree) (l : Log) (target : Recorded) : Type 0 where
  pub end : IsBatchEnd l target.offset
  pub past : IsPastCommit l target.offset
  pub recorded : (r : Recorded) → migration_record t ≡ Some r → r.offset ≤ℤ target.offset

-- A current driver that reads the migrated area: what it has read is the first part of it.
pub record Reads (t : Tree) (rows : List Row) : Type 0 where
  pub rest : List Row
  pub whole : migrated_rows t ≡ rows ++ rest

-- A current driver that writes: the operations that it holds are all that remains.
pub record Writes (t : Tree) (l : Log) (target : Recorded) (ops : List Op) : Type 0 where
  pub targets : Targets t l target
  pub remaining : ops ≡ remaining_at t l target.offset

-- A current driver that rests: the tree is closed, and what it recorded is what the driver recorded, where its view ends.
pub record IsAtRest (t : Tree) (v : View) (offset : Option ℤ) : Type 0 where
  pub closed : unclosed_path t ≡ None
  pub same : option_map (λ (r : Recorded). r.offset) (migration_record t) ≡ offset
  pub view : offset ≡ Some v.position
  pub known : is_migrated_state v.image.state ≡ true

-- What holds at each stage, by cases. What is said of the tree is said of a current driver alone.
abbrev pub AtStage : Tree → Log → Driver → Stage → Type 0
AtStage t l d (stage.ClaimLeadership seen) = Looks t d.epoch seen
AtStage t l d (stage.ScanForMigration rows) = Migrates t l d.claim × (IsCurrent t d.claim → Reads t rows)
AtStage t l d (stage.BeginMigration rows) = Migrates t l d.claim × (IsCurrent t d.claim → migrated_rows t ≡ rows)
AtStage t l d (stage.AppendRecords records) = Migrates t l d.claim × (IsCurrent t d.claim → d.epoch ≡ Some l.epoch → Fills l records)
AtStage t l d stage.ReadLogForResync = IsAfterMigration l d.claim
AtStage t l d (stage.ScanForResync target rows) = IsAfterMigration l d.claim × IsTargetOf target d.id d.epoch d.view × (IsCurrent t d.claim → Targets t l target × Reads t rows)
AtStage t l d (stage.WriteResync target ops) = IsAfterMigration l d.claim × IsTargetOf target d.id d.epoch d.view × (IsCurrent t d.claim → Writes t l target ops)
AtStage t l d stage.KraftControllerToBrokerComm = IsAfterMigration l d.claim × (IsCurrent t d.claim → IsAtRest t d.view d.recorded)
AtStage t l d stage.DualWrite = IsAfterMigration l d.claim × (IsCurrent t d.claim → IsAtRest t d.view d.recorded)
AtStage t l d (stage.WriteDelta target ops) = IsAfterMigration l d.claim × IsTargetOf target d.id d.epoch d.view × (IsCurrent t d.claim → Writes t l target ops)
AtStage t l d s = ⊤

-- What one driver believes, against what is shared. No other driver is named.
pub record IsSoundDriver (s : Shared) (d : Driver) : Type 0 where
  pub id : IsId d.id
  pub epochs : Epochs s.log.epoch d.epoch
  pub elected : WasElected d.epoch d.stage
  pub claims : Claims s.log.epoch (claim_version s.tree) (shown_in s.tree) d.epoch d.claim
  pub views : Views s.log (shown_in s.tree) d.epoch d.stage d.view
  pub own_record : OwnRecord s.tree s.log d.recorded
  pub leads : LeadsSettledLog s.log d.epoch d.stage
  pub stage : AtStage s.tree s.log d d.stage

-- ---- all drivers

-- the driver of each controller is fine
abbrev pub Each : (Driver → Type 0) → List Driver → Type 0
Each P drivers = (id : ℤ) (d : Driver) → driver_of id drivers ≡ Some d → P d

-- No two drivers have the same epoch.
abbrev pub Apart : List Driver → Type 0
Apart drivers = (i j : ℤ) (d e : Driver) → driver_of i drivers ≡ Some d → driver_of j drivers ≡ Some e → i ≢ j → d.epoch ≢ None → d.epoch ≢ e.epoch

-- What is true of every world of a run. At most one driver's claim is current: two would both have the shown epoch.
pub record Sound (w : World) : Type 0 where
  pub kept : IsSharedSound w.shared
  pub each : Each (IsSoundDriver w.shared) w.drivers
  pub apart : Apart w.drivers

-- ---- base znodes

-- the base znodes stand
abbrev pub HasBases : Tree → Type 0
HasBases t = All (λ path. is_some (row_at path t.rows) ≡ true) base_paths

-- a base znode that was seen still stands
abbrev pub StillStands : Tree → Bool → List ℕ → Type 0
StillStands t true path = is_some (row_at path t.rows) ≡ true
StillStands t false path = ⊤

abbrev pub SeenStand : Tree → List Bool → List (List ℕ) → Type 0
SeenStand t [] paths = ⊤
SeenStand t (b ∷ bs) [] = ⊤
SeenStand t (b ∷ bs) (p ∷ ps) = StillStands t b p × SeenStand t bs ps

abbrev pub BasesAtStage : Tree → Stage → Type 0
BasesAtStage t (stage.ClaimLeadership seen) = SeesPresent t seen → SeenStand t seen.bases base_paths
BasesAtStage t s = ⊤

-- Where a driver has a claim, the base znodes stand; and those that a driver saw at its look still stand, if it saw what is
-- there. Every event keeps this but a client's delete of a base znode between a look and its claim.
pub record Based (w : World) : Type 0 where
  pub claimed : Each (λ (d : Driver). d.claim ≢ None → HasBases w.shared.tree) w.drivers
  pub looked : Each (λ (d : Driver). BasesAtStage w.shared.tree d.stage) w.drivers

-- ---- events

-- from 1 to the greatest of 64 bits
pub record IsSession (session : ℤ) : Type 0 where
  pub least : pos 1 ≤ℤ session
  pub most : session ≤ℤ MAX_LONG

-- an owner that may be absent
abbrev pub IsOwner : Option ℤ → Type 0
IsOwner None = ⊤
IsOwner (Some session) = IsSession session

-- from -1, which stands for any, to the greatest of 32 bits
pub record IsVersion (version : ℤ) : Type 0 where
  pub least : negsuc 0 ≤ℤ version
  pub most : version ≤ℤ MAX_VERSION

-- an operation whose path keeps the rule of paths, whose owner is a session, and whose version is in range
abbrev pub IsLawfulOp : Op → Type 0
IsLawfulOp (op.Create path body owner) = (is_path path ≡ true) × IsOwner owner
IsLawfulOp (op.Set path body version) = (is_path path ≡ true) × IsVersion version
IsLawfulOp (op.Delete path version) = (is_path path ≡ true) × IsVersion version
IsLawfulOp (op.Check path version) = (is_path path ≡ true) × IsVersion version

-- An event as a line of a script gives it: ids, times and sessions are in range; the declared ids are distinct; a change has
-- a record; and a client's multi has an operation, and each is lawful.
abbrev pub IsLawful : Event → Type 0
IsLawful (event.Quorum ids) = All IsId ids × (are_distinct ids ≡ true)
IsLawful (event.Start id) = IsId id
IsLawful (event.Stop None) = ⊤
IsLawful (event.Stop (Some id)) = IsId id
IsLawful (event.Elect id now) = IsId id × IsTime now
IsLawful (event.Step id now p) = IsId id × IsTime now
IsLawful (event.Turn id now) = IsId id × IsTime now
IsLawful (event.Change id records now) = IsId id × IsTime now × (1 ≤ length records)
IsLawful (event.Register id broker migrating now) = IsId id × IsId broker × IsTime now
IsLawful (event.Finalise id now) = IsId id × IsTime now
IsLawful event.Rollback = ⊤
IsLawful event.Snapshot = ⊤
IsLawful event.Check = ⊤
IsLawful (event.ZkOpen session) = IsSession session
IsLawful (event.ZkExpire session) = IsSession session
IsLawful (event.Zk ops) = All IsLawfulOp ops × (1 ≤ length ops)
