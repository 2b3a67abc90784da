-- The frame of a transaction, once it is written.
use Rattle.std.proofs.Common.{◌≡◌, inl, inr, ℕ, ◌+◌, ◌<◌, ◌≤◌, max, Bool, true, List, length, length-append, Option, Some, Result, Ok, Err, ap, ◌∙◌, subst, arith}
use Rattle.std.specs.Prelude.{OnOk, ⊤}
use Rattle.std.specs.Int.{w32, to_be_bytes}
use Rattle.kz_types.specs.declared.limits.TheConstants.{MAX_FILE_BYTES}
use Rattle.kz_types.specs.declared.tree.Row.{Row}
use Rattle.kz_spec_data.specs.Forms.{items_written}
use Rattle.kz_spec_data.specs.Requests.{Disk, StoreFile, answer_by, ChangesDisk}
use Rattle.kz_spec_data.specs.declared.files.Txn.{Txn}
use Rattle.kz_spec_data.specs.declared.files.Txn.TheVariants.{LoadRows}
use Rattle.kz_spec_data.specs.Frames.{tree_letter, journal_of, journal_with_frame, LeftByAppend}
use Rattle.kz_spec_data.specs.Transactions.{row, TxnFits, txn_of, txn_written}
use Rattle.kz_journal.specs.declared.change_fault.ChangeFault.{ChangeFault}
use Rattle.kz_journal.specs.declared.change_fault.ChangeFault.TheVariants.{Failed, Full, NoMemory}
use Rattle.kz_journal.specs.Changes.{answer_of_change_fault, HasFrame}
use Rattle.kz_tree_store.specs.Changes.{IsPayloadOf, HasTxn, LeftByTxn}

-- where the file keeps the limit, so does the payload
few : (n : ℕ) (f : StoreFile) → max f.length (f.end + (n + f.around)) ≤ MAX_FILE_BYTES → n ≤ MAX_FILE_BYTES
few n f h = omega (arith, h)

-- a payload that was written in a file, or on the way to it, is read as its transaction
record Reads (t : Txn) (payload : List ℕ) : Type 0 where
  read : txn_of payload ≡ Ok t

reads : (t : Txn) (payload : List ℕ) (f : StoreFile) → IsPayloadOf t payload → max f.length (f.end + (length payload + f.around)) ≤ MAX_FILE_BYTES → Reads t payload
reads t payload f is fits = record { read = is.read (few (length payload) f fits) }

abbrev old_disk : ℕ → Bool → StoreFile → Disk
old_disk faults down f = record { faults = faults; down = down; file = Some f }

-- the frame is whole
pub has_txn : (r : Result (Unit {0}) ChangeFault) (t : Txn) (letter : ℕ) (payload : List ℕ) (told now : Option (List ℕ)) (faults : ℕ) (down : Bool) (f : StoreFile) (new : Disk) → letter ≡ tree_letter → IsPayloadOf t payload
    → ChangesDisk ⊤ (length payload) (answer_by answer_of_change_fault r) (old_disk faults down f) new → OnOk r ((file : List ℕ) → told ≡ Some file → HasFrame letter payload file now)
    → OnOk r ((file : List ℕ) → told ≡ Some file → HasTxn t file now)
has_txn (Ok done) t letter payload told now faults down f new is spells disk written = λ file here.
    let more = written file here in
    let journal = subst (λ l. journal_of l more.0 ≡ journal_with_frame payload (journal_of l file)) is more.2 in
    (more.0, more.1, (payload, (reads t payload f spells disk.1).read, journal))
has_txn (Err e) t letter payload told now faults down f new is spells disk written = tt

-- a stop while it is written
stop_by : (t : Txn) (payload : List ℕ) (letter : ℕ) (file left : List ℕ) → letter ≡ tree_letter → Reads t payload → LeftByAppend letter payload (journal_of letter file) left → LeftByTxn t (journal_of tree_letter file) left
stop_by t payload letter file left is read (inl same) = inl (subst (λ l. journal_of l left ≡ journal_of l file) is same)
stop_by t payload letter file left is read (inr more) = inr (payload, read.read, subst (λ l. journal_of l left ≡ journal_with_frame payload (journal_of l file)) is more)

pub left_by_txn : (r : Result (Unit {0}) ChangeFault) (t : Txn) (letter : ℕ) (payload : List ℕ) (told : Option (List ℕ)) (leaves : List ℕ → Type 0) (faults : ℕ) (down : Bool) (f : StoreFile) (new : Disk) → letter ≡ tree_letter → IsPayloadOf t payload
    → ChangesDisk ⊤ (length payload) (answer_by answer_of_change_fault r) (old_disk faults down f) new
    → ((file : List ℕ) → told ≡ Some file → (left : List ℕ) → leaves left → LeftByAppend letter payload (journal_of letter file) left)
    → r ≡ Err Failed → (file : List ℕ) → told ≡ Some file → (left : List ℕ) → leaves left → LeftByTxn t (journal_of tree_letter file) left
left_by_txn (Ok done) t letter payload told leaves faults down f new is spells disk stop failed = absurd (cc)
left_by_txn (Err Failed) t letter payload told leaves faults down f new is spells disk stop failed = λ file here left may. stop_by t payload letter file left is (reads t payload f spells disk.2) (stop file here left may)
left_by_txn (Err (Full length)) t letter payload told leaves faults down f new is spells disk stop failed = absurd (cc)
left_by_txn (Err NoMemory) t letter payload told leaves faults down f new is spells disk stop failed = absurd (cc)

-- the same of the disk, by the length of what is written
pub disk_by_txn : (r : Result (Unit {0}) ChangeFault) (t : Txn) (payload : List ℕ) (old new : Disk) → IsPayloadOf t payload
    → ChangesDisk ⊤ (length payload) (answer_by answer_of_change_fault r) old new → ChangesDisk ⊤ (length (txn_written t)) (answer_by answer_of_change_fault r) old new
disk_by_txn r t payload old new spells disk = subst (λ n. ChangesDisk ⊤ n (answer_by answer_of_change_fault r) old new) spells.size disk

-- ---- the payload

-- a transaction that was written
pub written_for : (t : Txn) (payload : List ℕ) → payload ≡ txn_written t → TxnFits t → ((u : Txn) → TxnFits u → txn_of (txn_written u) ≡ Ok u) → IsPayloadOf t payload
written_for t payload is fits law = record { size = ap length is; read = λ h. ap txn_of is ∙ law t fits }

-- as many zeros as no file has room for
pub too_many : (t : Txn) (payload : List ℕ) → length payload ≡ length (txn_written t) → MAX_FILE_BYTES < length payload → IsPayloadOf t payload
too_many t payload size more = record { size = size; read = λ few. absurd (omega (arith, more, few)) }

-- a transaction that loads znodes has six bytes before them
pub rows_length : (rows : List Row) → 6 + length (items_written row.written rows) ≡ length (txn_written (LoadRows true rows))
unfolding txn_written
rows_length rows = let e = length-append (to_be_bytes w32 (length rows)) (items_written row.written rows) in omega (arith, e)
