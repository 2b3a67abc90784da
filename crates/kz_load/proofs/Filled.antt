-- What an input makes of an open store.
use Rattle.std.proofs.Common.{◌≡◌, ◌≢◌, inr, ℕ, ◌<◌, Bool, true, false, List, [], ◌∷◌, length, Option, Some, None, IfSome, is_some, Ok, refl, ap, sym, ◌∙◌, subst}
use Rattle.std.specs.Prelude.{⊤}
use Rattle.kz_types.specs.Causes.{Rose}
use Rattle.kz_types.specs.declared.fault.TreeFault.{TreeFault}
use Rattle.kz_types.specs.declared.fault.TreeFault.TheVariants as tree_fault
use Rattle.kz_types.specs.declared.limits.TheConstants.{MAX_FILE_BYTES}
use Rattle.kz_types.specs.declared.outside.Status.{Status}
use Rattle.kz_types.specs.declared.outside.Status.TheVariants as status
use Rattle.kz_spec_data.specs.Tree.{Tree}
use Rattle.kz_spec_data.specs.Requests.{Disk, Full, answer_of_tree_fault}
use Rattle.kz_spec_data.specs.Frames.{tree_letter, journal_of}
use Rattle.kz_spec_data.specs.declared.files.Txn.TheVariants.{LoadRows, LoadEnd}
use Rattle.kz_spec_data.specs.Transactions.{txn_written}
use Rattle.kz_spec_data.specs.TreeFile.{stored_in, tree_of}
use Rattle.kz_spec_machine.specs.Loading.{loaded}
use Rattle.kz_spec_machine.specs.Endings.{EndsAtFailure}
use Rattle.kz_spec_machine.specs.Load.{file_with_load}
use Rattle.kz_tree_store.specs.Opened.{Known, IsTreeFile, tree_known}
use Rattle.kz_journal.specs.Journals.{file_of}
use Rattle.kz_tree_store.specs.LoadCalls.{WritesFrames}
use Rattle.kz_commands.specs.Outside.{Outside}
use Rattle.kz_commands.proofs.Disks.{failed, quiet}
use Rattle.kz_load.specs.LoadsTrees.{Fills, FillsStore, status_of_load_fault}
use Rattle.kz_load.proofs.Frames.{Wrote, wrote, too_long}

-- what holds of what is told
pub map_some : {A : Type 0} (P Q : A → Type 0) (o : Option A) → ((a : A) → P a → Q a) → IfSome o P → IfSome o Q
map_some P Q None go h = tt
map_some P Q (Some a) go h = go a h

pub every_some : {A : Type 0} (Q : A → Type 0) (o : Option A) → ((a : A) → Q a) → IfSome o Q
every_some Q None go = tt
every_some Q (Some a) go = go a

-- the tree of a file, by what a store knows of it
pub stands : (told : Option (List ℕ)) (k : Known) (t : Tree) → k.tree ≡ t → ((file : List ℕ) → told ≡ Some file → IsTreeFile file k) → (new : List ℕ) → told ≡ Some new → tree_of new ≡ Ok t
stands told k t tree_is same = λ new is. tree_known (is_some k.loaded) (stored_in (journal_of tree_letter new)) k (same new is) ∙ ap Ok tree_is

-- a source that didn't fail
pub source_quiet : {A : Type 0} (own result : A) (s : Status) (faults faults_now : ℕ) (last last_now : Bool) → result ≢ own → s ≢ status.ReadFault → EndsAtFailure own result faults faults_now last last_now
    → EndsAtFailure status.ReadFault s faults faults_now last last_now
source_quiet own result s faults faults_now last last_now other unread h = record {
  cause = λ is. absurd (unread is);
  last = λ is. absurd (unread is);
  calm = λ _. h.calm other;
  none = λ _. h.none other;
}

-- ---- an input that is a tree, whose frames aren't all written

rose_between : (a b c d : ℕ) → a ≡ b → c ≡ d → Rose a c → Rose b d
rose_between a b c d was now rose = subst (λ n. Rose n d) was (subst (λ n. Rose a n) now rose)

-- Where a file would be too long, the frames of the tree would make it so.
abbrev pub HasNoRoom : TreeFault → Tree → Option (List ℕ) → Option (List ℕ) → Type 0
HasNoRoom (tree_fault.Full length_told) root was now = (file new : List ℕ) → was ≡ Some file → now ≡ Some new → MAX_FILE_BYTES < (file_with_load root (journal_of tree_letter file) (length new)).length
HasNoRoom (tree_fault.Refused index code) root was now = ⊤
HasNoRoom (tree_fault.Limit index number) root was now = ⊤
HasNoRoom tree_fault.NoMemory root was now = ⊤
HasNoRoom tree_fault.Device root was now = ⊤
HasNoRoom tree_fault.Down root was now = ⊤

pub no_room : (fault : TreeFault) (root : Tree) (old new : Disk) (was now : Option (List ℕ)) → old.down ≡ false
    → WritesFrames (length (txn_written (LoadRows true root.rows)) ∷ length (txn_written (LoadEnd root.zxid root.sessions)) ∷ []) (answer_of_tree_fault fault) old new
    → ((file : List ℕ) → was ≡ Some file → old.file ≡ Some (file_of tree_letter file)) → (new.down ≡ false → (file : List ℕ) → now ≡ Some file → new.file ≡ Some (file_of tree_letter file))
    → HasNoRoom fault root was now
no_room (tree_fault.Full size) root old new was now up frames before after = λ file left was_is now_is.
    let rows = length (txn_written (LoadRows true root.rows)) in
    let last = length (txn_written (LoadEnd root.zxid root.sessions)) in
    let still = wrote (rows ∷ last ∷ []) (Full size) old new up frames in
    too_long rows last size old new (file_of tree_letter file) (file_of tree_letter left) (before file was_is) (after still.0 left now_is) frames
no_room (tree_fault.Refused index code) root old new was now up frames before after = tt
no_room (tree_fault.Limit index number) root old new was now up frames before after = tt
no_room tree_fault.NoMemory root old new was now up frames before after = tt
no_room tree_fault.Device root old new was now up frames before after = tt
no_room tree_fault.Down root old new was now up frames before after = tt

pub fault_fills : {A : Type 0} (own read : A) (fault : TreeFault) (before root : Tree) (input input_now tree tree_now : Outside) (old new : Disk) → old.faults ≡ tree.faults → new.faults ≡ tree_now.faults
    → Wrote (answer_of_tree_fault fault) old new → (new.down ≡ false → (file : List ℕ) → tree_now.bytes ≡ Some file → tree_of file ≡ Ok before)
    → HasNoRoom fault root tree.bytes tree_now.bytes → IfSome input.bytes (λ script. loaded script ≡ Ok root)
    → read ≢ own → EndsAtFailure own read input.faults input_now.faults input.last_failed input_now.last_failed → FillsStore before input input_now tree tree_now (status_of_load_fault fault)
fault_fills own read (tree_fault.Refused index code) before root input input_now tree tree_now old new was now wrote kept room is other source = absurd wrote
fault_fills own read (tree_fault.Limit index number) before root input input_now tree tree_now old new was now wrote kept room is other source = absurd wrote
fault_fills own read tree_fault.Down before root input input_now tree tree_now old new was now wrote kept room is other source = absurd wrote
fault_fills own read tree_fault.NoMemory before root input input_now tree tree_now old new was now wrote kept room is other source = record {
  told = tt;
  filled = every_some (λ script. (file left : List ℕ) → tree.bytes ≡ Some file → tree_now.bytes ≡ Some left → Fills before (loaded script) (journal_of tree_letter file) left status.NoMemory) input.bytes (λ script file left was_told told. kept wrote.0 left told);
  whole = λ is. absurd (cc);
  tree_disk = quiet status.TreeFault status.NoMemory tree.faults tree_now.faults (λ is. absurd (cc)) (sym now ∙ (wrote.1 ∙ was));
  source = source_quiet own read status.NoMemory input.faults input_now.faults input.last_failed input_now.last_failed other (λ is. absurd (cc)) source;
}
fault_fills own read tree_fault.Device before root input input_now tree tree_now old new was now wrote kept room is other source = record {
  told = tt;
  filled = every_some (λ script. (file left : List ℕ) → tree.bytes ≡ Some file → tree_now.bytes ≡ Some left → Fills before (loaded script) (journal_of tree_letter file) left status.TreeFault) input.bytes (λ script file left was_told told. tt);
  whole = λ is. absurd (cc);
  tree_disk = failed status.TreeFault status.TreeFault tree.faults tree_now.faults refl (rose_between old.faults tree.faults new.faults tree_now.faults was now wrote);
  source = source_quiet own read status.TreeFault input.faults input_now.faults input.last_failed input_now.last_failed other (λ is. absurd (cc)) source;
}
fault_fills own read (tree_fault.Full size) before root input input_now tree tree_now old new was now wrote kept room is other source = record {
  told = tt;
  filled = map_some (λ script. loaded script ≡ Ok root) (λ script. (file left : List ℕ) → tree.bytes ≡ Some file → tree_now.bytes ≡ Some left → Fills before (loaded script) (journal_of tree_letter file) left (status_of_load_fault (tree_fault.Full size))) input.bytes
      (λ script root_is file left was_told told. (inr (refl, refl, (root, root_is, room file left was_told told)), kept wrote.0 left told)) is;
  whole = λ is. absurd (cc);
  tree_disk = quiet status.TreeFault (status_of_load_fault (tree_fault.Full size)) tree.faults tree_now.faults (λ is. absurd (cc)) (sym now ∙ (wrote.1 ∙ was));
  source = source_quiet own read (status_of_load_fault (tree_fault.Full size)) input.faults input_now.faults input.last_failed input_now.last_failed other (λ is. absurd (cc)) source;
}
