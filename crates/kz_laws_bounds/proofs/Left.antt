-- How many steps suffice from each stage to the end of a turn.
use Rattle.std.proofs.Common.{◌≡◌, ◌⊎◌, inl, inr, ℕ, ◌+◌, ◌*◌, ◌≤◌, ◌<◌, ℤ, true, false, List, length, map, Option, Some, arith}
use Rattle.std.specs.Prelude.{Ok, ⊤}
use Rattle.kz_types.specs.declared.tree.Row.{Row}
use Rattle.kz_types.specs.declared.driver.Stage.{Stage}
use Rattle.kz_types.specs.declared.driver.Stage.TheVariants as stage
use Rattle.kz_types.specs.declared.machine.Recorded.{Recorded}
use Rattle.kz_types.specs.declared.machine.Reply.{Reply}
use Rattle.kz_types.specs.declared.record.MetaRecord.{MetaRecord}
use Rattle.kz_spec_data.specs.Tree.{Tree, migrated_rows, area, rendered_row}
use Rattle.kz_spec_data.specs.Image.{empty_image, all_applied}
use Rattle.kz_spec_data.specs.Log.{Log, end_of, image_at, image_of, is_migrated_log}
use Rattle.kz_spec_data.specs.Rendering.{render}
use Rattle.kz_spec_data.specs.Translation.{translate}
use Rattle.kz_spec_data.specs.Difference.{diff}
use Rattle.kz_spec_machine.specs.Driver.{Shared, Driver, epoch_or_zero, seen_in, last_path, remaining_at}
use Rattle.kz_spec_machine.specs.Machine.{ends, final_znodes}
use Rattle.kz_spec_machine.specs.Sound.{IsCurrent}
use Rattle.kz_laws_bounds.proofs.Chunks.{WritesIn}
use Rattle.kz_laws_bounds.proofs.Amounts.{Znodes, size_of}
use Rattle.kz_laws_bounds.proofs.Pages.{behind}

-- ---- what may be written

-- znodes of no greater number, and of no more bytes
pub record NoMore (some znodes : Znodes) : Type 0 where
  pub counts : length some ≤ length znodes
  pub weighs : size_of some ≤ size_of znodes

-- So many writes suffice to make of the one what has no more than the other.
abbrev pub Reaches : Znodes → Znodes → ℕ → Type 0
Reaches have want n = (some : Znodes) → NoMore some want → WritesIn n (diff have some)

at_most_itself : (n : ℕ) → n ≤ n
at_most_itself n = omega arith

pub no_more_itself : (znodes : Znodes) → NoMore znodes znodes
no_more_itself znodes = record { counts = at_most_itself (length znodes); weighs = at_most_itself (size_of znodes) }

-- ---- before the migration's commit

-- From the reading for a migration, with so many steps before: the appends, the pages of the resync and its writes suffice.
pub record Ahead (rows : List Row) (l : Log) (epoch : ℤ) (before n : ℕ) : Type 0 where
  pub appends : ℕ
  pub pages : ℕ
  pub writes : ℕ
  pub append : is_migrated_log l ≡ false → (records : List MetaRecord) → translate rows ≡ Ok records → length records ≤ 1000 * appends
  pub read : length rows < 256 * pages
  pub write : Reaches (map rendered_row rows) (final_znodes (is_migrated_log l) l epoch (translate rows)) writes
  pub enough : before + appends + pages + writes + 6 ≤ n

-- And the pages of the migration, with so many steps before.
pub record Starts (rows : List Row) (l : Log) (epoch : ℤ) (before n : ℕ) : Type 0 where
  pub first : ℕ
  pub scanned : length rows < 256 * first
  pub ahead : Ahead rows l epoch (first + before) n

pub nearer : (rows : List Row) (l : Log) (epoch : ℤ) (j k n m : ℕ) → n + j ≤ m + k → Ahead rows l epoch k n → Ahead rows l epoch j m
nearer rows l epoch j k n m low a = record { appends = a.appends; pages = a.pages; writes = a.writes; append = a.append; read = a.read; write = a.write; enough = by a.appends a.pages a.writes a.enough }
  where
    by : (x y z : ℕ) → k + x + y + z + 6 ≤ n → j + x + y + z + 6 ≤ m
    by x y z is = omega (arith, low, is)

pub starts_nearer : (rows : List Row) (l : Log) (epoch : ℤ) (j k n m : ℕ) → n + j ≤ m + k → Starts rows l epoch k n → Starts rows l epoch j m
starts_nearer rows l epoch j k n m low s = record { first = s.first; scanned = s.scanned; ahead = nearer rows l epoch (s.first + j) (s.first + k) n m (by s.first) s.ahead }
  where
    by : (x : ℕ) → n + (x + j) ≤ m + (x + k)
    by x = omega (arith, low)

pub ahead_least : (rows : List Row) (l : Log) (epoch : ℤ) (k n : ℕ) → Ahead rows l epoch k n → k + 6 ≤ n
ahead_least rows l epoch k n a = by a.appends a.pages a.writes a.enough
  where
    by : (x y z : ℕ) → k + x + y + z + 6 ≤ n → k + 6 ≤ n
    by x y z is = omega (arith, is)

pub starts_least : (rows : List Row) (l : Log) (epoch : ℤ) (k n : ℕ) → Starts rows l epoch k n → k + 6 ≤ n
starts_least rows l epoch k n s = by s.first (ahead_least rows l epoch (s.first + k) n s.ahead)
  where
    by : (x : ℕ) → (x + k) + 6 ≤ n → k + 6 ≤ n
    by x is = omega (arith, is)

pub record ScansMigration (t : Tree) (l : Log) (d : Driver) (rows : List Row) (n : ℕ) : Type 0 where
  pub pages : ℕ
  pub left : behind t (last_path rows) < 256 * pages
  pub least : pages + 1 ≤ n
  pub current : IsCurrent t d.claim → Ahead (migrated_rows t) l (epoch_or_zero d.epoch) pages n

-- From the appends of these records on, which are the last of all of the translation.
pub record Appends (rows : List Row) (epoch : ℤ) (rest all : List MetaRecord) (n : ℕ) : Type 0 where
  pub appends : ℕ
  pub pages : ℕ
  pub writes : ℕ
  pub append : length rest ≤ 1000 * appends
  pub read : length rows < 256 * pages
  pub write : Reaches (map rendered_row rows) (render (all_applied epoch all empty_image)) writes
  pub enough : appends + pages + writes + 5 ≤ n

-- ---- on a migrated log

-- After what is written up to an offset, with so many steps before: the log ends there, or what is new is written too.
abbrev pub Afterwards : Log → ℤ → ℕ → ℕ → Type 0
Afterwards l offset before n = ((offset ≡ end_of l) × (before + 2 ≤ n))
    ⊎ ((writes : ℕ) × WritesIn writes (diff (render (image_at l offset)) (render (image_of l))) × (before + writes + 3 ≤ n))

pub afterwards_nearer : (l : Log) (offset : ℤ) (j k n m : ℕ) → n + j ≤ m + k → Afterwards l offset k n → Afterwards l offset j m
afterwards_nearer l offset j k n m low (inl is) = inl (is.0, by is.1)
  where
    by : k + 2 ≤ n → j + 2 ≤ m
    by enough = omega (arith, low, enough)
afterwards_nearer l offset j k n m low (inr more) = inr (more.0, more.1, by more.0 more.2)
  where
    by : (x : ℕ) → k + x + 3 ≤ n → j + x + 3 ≤ m
    by x enough = omega (arith, low, enough)

pub afterwards_least : (l : Log) (offset : ℤ) (k n : ℕ) → Afterwards l offset k n → k + 2 ≤ n
afterwards_least l offset k n (inl is) = is.1
afterwards_least l offset k n (inr more) = by more.0 more.2
  where
    by : (x : ℕ) → k + x + 3 ≤ n → k + 2 ≤ n
    by x enough = omega (arith, enough)

pub record Resyncs (t : Tree) (l : Log) (d : Driver) (n : ℕ) : Type 0 where
  pub pages : ℕ
  pub read : length (migrated_rows t) < 256 * pages
  pub least : pages + 2 ≤ n
  pub current : IsCurrent t d.claim → (writes : ℕ) × WritesIn writes (diff (area t) (render (image_of l))) × (pages + writes + 4 ≤ n)

-- From the writes up to a target on, with so many steps before.
abbrev pub WritesUpTo : Tree → Log → Recorded → ℕ → ℕ → Type 0
WritesUpTo t l target before n = (writes : ℕ) × WritesIn writes (remaining_at t l target.offset) × Afterwards l target.offset (before + writes) n

pub record ScansResync (t : Tree) (l : Log) (d : Driver) (target : Recorded) (rows : List Row) (n : ℕ) : Type 0 where
  pub pages : ℕ
  pub left : behind t (last_path rows) < 256 * pages
  pub least : pages + 1 ≤ n
  pub current : IsCurrent t d.claim → WritesUpTo t l target (pages + 1) n

abbrev pub RestsAfter : Log → Option ℤ → ℕ → ℕ → Type 0
RestsAfter l recorded before n = (offset : ℤ) × (recorded ≡ Some offset) × Afterwards l offset before n

-- ---- by the stage

-- So many steps suffice from this stage on, beside a first.
abbrev pub LeftAt : Tree → Log → Driver → Stage → ℕ → Type 0
LeftAt t l d stage.Uninitialized n = 2 ≤ n
LeftAt t l d stage.Inactive n = ⊤
LeftAt t l d stage.WaitForControllerQuorum n = Starts (migrated_rows t) l (epoch_or_zero d.epoch) 5 n
LeftAt t l d stage.WaitForBrokers n = Starts (migrated_rows t) l (epoch_or_zero d.epoch) 4 n
LeftAt t l d stage.ListBrokers n = Starts (migrated_rows t) l (epoch_or_zero d.epoch) 3 n
LeftAt t l d stage.ReadControlZnodes n = Starts (migrated_rows t) l (epoch_or_zero d.epoch) 2 n
LeftAt t l d (stage.ClaimLeadership seen) n = ((seen ≡ seen_in t) × Starts (migrated_rows t) l (epoch_or_zero d.epoch) 1 n) ⊎ Starts (migrated_rows t) l (epoch_or_zero d.epoch) 3 n
LeftAt t l d (stage.ScanForMigration rows) n = ScansMigration t l d rows n
LeftAt t l d (stage.BeginMigration rows) n = IsCurrent t d.claim → Ahead (migrated_rows t) l (epoch_or_zero d.epoch) 0 n
LeftAt t l d (stage.AppendRecords rest) n = IsCurrent t d.claim → d.epoch ≡ Some l.epoch → (all : List MetaRecord) → translate (migrated_rows t) ≡ Ok all → Appends (migrated_rows t) (epoch_or_zero d.epoch) rest all n
LeftAt t l d stage.ReadLogForResync n = Resyncs t l d n
LeftAt t l d (stage.ScanForResync target rows) n = ScansResync t l d target rows n
LeftAt t l d (stage.WriteResync target ops) n = IsCurrent t d.claim → WritesUpTo t l target 1 n
LeftAt t l d stage.KraftControllerToBrokerComm n = (3 ≤ n) × (IsCurrent t d.claim → RestsAfter l d.recorded 1 n)
LeftAt t l d stage.DualWrite n = (2 ≤ n) × (IsCurrent t d.claim → RestsAfter l d.recorded 0 n)
LeftAt t l d (stage.WriteDelta target ops) n = IsCurrent t d.claim → WritesUpTo t l target 0 n

-- So many steps suffice.
pub record Left (s : Shared) (d : Driver) (n : ℕ) : Type 0 where
  pub some : 1 ≤ n
  pub at : LeftAt s.tree s.log d d.stage n

-- After a step the turn has ended, or so many steps suffice.
abbrev pub Goes : Shared → Driver × Reply → ℕ → Type 0
Goes s given n = (ends given.1 ≡ true) ⊎ Left s given.0 n
