-- What a call of a load makes of a store, and does to its disk.
use Rattle.std.specs.Prelude.{◌≡◌, ⊤, ℤ, Bool, true, false, ℕ, List, [], ◌∷◌, length, ◌⊎◌, Option, Some, None}
use Rattle.kz_types.specs.declared.tree.Row.{Row}
use Rattle.kz_types.specs.declared.fault.TreeFault.{TreeFault}
use Rattle.kz_types.specs.declared.fault.TreeFault.TheVariants as tree_fault
use Rattle.kz_spec_data.specs.Tree.{Tree}
use Rattle.kz_spec_data.specs.Requests.{Disk, StoreAnswer, Done, Refused, NoMemory, Failed, Down, Full, ChangesDisk, Only, Either}
use Rattle.kz_spec_data.specs.declared.files.Txn.{Txn}
use Rattle.kz_spec_data.specs.declared.files.Txn.TheVariants.{Multi, LoadRows, LoadEnd, Begin, End}
use Rattle.kz_spec_data.specs.Transactions.{txn_written}
use Rattle.kz_spec_data.specs.Loads.{is_load}
use Rattle.kz_tree_store.specs.declared.last.LoadLast.{LoadLast}
use Rattle.kz_journal.specs.declared.change_fault.ChangeFault.{ChangeFault}
use Rattle.kz_journal.specs.declared.change_fault.ChangeFault.TheVariants as change
use Rattle.kz_tree_store.specs.Opened.{Known, IsTreeFile}

-- the znodes of a load so far
abbrev pub rows_so_far : Option (List Row) → List Row
rows_so_far None = []
rows_so_far (Some rows) = rows

-- the znodes that a transaction loads
abbrev pub rows_of_txn : Txn → List Row
rows_of_txn (Multi zxid ops) = []
rows_of_txn (LoadRows first rows) = rows
rows_of_txn (LoadEnd zxid sessions) = []
rows_of_txn (Begin zxid session) = []
rows_of_txn (End zxid session) = []

-- Znodes keep the rules and limits of a load: with these last zxid and sessions, or, as long as they aren't known, with some.
abbrev pub KeepRules : Option LoadLast → List Row → Type 0
KeepRules None rows = (zxid : ℤ) × (sessions : List ℤ) × (is_load zxid sessions rows ≡ true)
KeepRules (Some last) rows = is_load last.zxid last.sessions rows ≡ true

-- the tree of a load
abbrev pub loaded_tree : LoadLast → List Row → Tree
loaded_tree last rows = record { zxid = last.zxid; sessions = last.sessions; rows = rows }

-- the end of a load whose tree this is
abbrev pub last_of : Tree → LoadLast
last_of t = record { zxid = t.zxid; sessions = t.sessions }

-- what is known of the file after a call of a load, up to which these znodes have come
abbrev pub after_load : Option LoadLast → List Row → Known → Known
after_load None rows k = record { tree = k.tree; fresh = true; loaded = Some rows }
after_load (Some last) rows k = record { tree = loaded_tree last rows; fresh = false; loaded = None }

-- what is known of the file after a call that failed: no load of this store is under way
abbrev pub without_load : Known → Known
without_load k = record { tree = k.tree; fresh = k.fresh; loaded = None }

-- the bytes of the payloads of the frames that a call of a load writes, which is the first of the load or not
abbrev pub load_payloads : Bool → List Row → Option LoadLast → List ℕ
load_payloads first rows None = length (txn_written (LoadRows first rows)) ∷ []
load_payloads first rows (Some last) = length (txn_written (LoadRows first rows)) ∷ length (txn_written (LoadEnd last.zxid last.sessions)) ∷ []

-- Of the file that is told this is known, and that these znodes of a load have come.
abbrev pub IsUnderWay : Option (List ℕ) → List Row → Known → Type 0
IsUnderWay told rows k = (file : List ℕ) → told ≡ Some file → IsTreeFile file (record { tree = k.tree; fresh = k.fresh; loaded = Some rows })

-- an answer that says why a frame isn't written
abbrev pub IsStop : StoreAnswer → Type 0
IsStop Done = ⊥
IsStop Refused = ⊥
IsStop NoMemory = ⊤
IsStop Failed = ⊤
IsStop Down = ⊤
IsStop (Full length) = ⊤

-- Frames whose payloads have so many bytes, one after another: each is written once those before it are. The answer is that of the
-- first that isn't written.
abbrev pub WritesFrames : List ℕ → StoreAnswer → Disk → Disk → Type 0
WritesFrames [] answer old new = (answer ≡ Done) × (new ≡ old)
WritesFrames (p ∷ ps) answer old new = (IsStop answer × ChangesDisk ⊤ p answer old new) ⊎ ((mid : Disk) × ChangesDisk ⊤ p Done old mid × WritesFrames ps answer mid new)

-- What a stop leaves of a call of a load in which the disk failed: the tree, or that of the load where it ends in this call.
abbrev pub LeftByLoad : Option LoadLast → List Row → Tree → (Option Tree → Type 0) → Type 0
LeftByLoad None rows t left = Only t left
LeftByLoad (Some last) rows t left = Either t (loaded_tree last rows) left

-- the fault of a call whose frame wasn't written
abbrev pub load_fault_of : ChangeFault → TreeFault
load_fault_of change.Failed = tree_fault.Device
load_fault_of (change.Full length) = tree_fault.Full length
load_fault_of change.NoMemory = tree_fault.NoMemory
