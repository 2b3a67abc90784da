-- What `load` makes of a new file, and of two files.
use Rattle.std.proofs.Common.{◌≡◌, ◌≢◌, inl, inr, ℕ, Bool, List, Option, Some, None, Result, Ok, refl, subst}
use Rattle.kz_types.specs.declared.outside.Status.{Status}
use Rattle.kz_types.specs.declared.outside.Status.TheVariants as status
use Rattle.kz_disk.specs.Disks.{StaysTold}
use Rattle.kz_spec_data.specs.Tree.{Tree, empty_tree}
use Rattle.kz_spec_data.specs.Log.{empty_log}
use Rattle.kz_spec_data.specs.Frames.{Journal, tree_letter, journal_of}
use Rattle.kz_spec_data.specs.TreeFile.{tree_of}
use Rattle.kz_spec_data.specs.LogFile.{log_of}
use Rattle.kz_spec_machine.specs.Loading.{loaded}
use Rattle.kz_spec_machine.specs.Endings.{EndsAtFailure}
use Rattle.kz_spec_machine.specs.Files.{EndsAtDisk}
use Rattle.kz_spec_machine.specs.Init.{init_refusal, IsMade, Inits}
use Rattle.kz_spec_machine.specs.Load.{AreEmpty, Loads}
use Rattle.kz_tree_store.specs.declared.store.TreeStore.{TreeStore}
use Rattle.kz_tree_store.specs.Stores as trees
use Rattle.kz_commands.specs.Outside.{Outside}
use Rattle.kz_commands.specs.Makes.{MakesFiles}
use Rattle.kz_commands.proofs.Disks.{quiet}
use Rattle.kz_load.specs.LoadsFiles.{LoadsFiles}
use Rattle.kz_load.specs.LoadsTrees.{IsNewTree, LeavesNewTree, IsUnopenedStatus, IsUnopenedTree, IsAtLimit, Fills, IsFilledStatus, FillsStore, LoadsTree}
use Rattle.kz_load.proofs.Filled.{map_some, every_some}
use Rattle.kz_load.proofs.Made.{made_new}

-- a source of which no call was made
source_uncalled : (s : Status) (faults : ℕ) (last : Bool) → s ≢ status.ReadFault → EndsAtFailure status.ReadFault s faults faults last last
source_uncalled s faults last unread = record {
  cause = λ is. absurd (unread is);
  last = λ is. absurd (unread is);
  calm = λ _. refl;
  none = λ _ failed. failed;
}

-- ---- a new file

unopened_fills : (s : Status) (load : Result Tree Status) (file : Journal) (new : List ℕ) → LeavesNewTree new s → Fills empty_tree load file new s
unopened_fills status.TreeFault load file new left = tt
unopened_fills status.NoMemory load file new left = left
unopened_fills status.Done load file new left = absurd left
unopened_fills status.Usage load file new left = absurd left
unopened_fills (status.Script line) load file new left = absurd left
unopened_fills status.ReadFault load file new left = absurd left
unopened_fills status.WriteFault load file new left = absurd left
unopened_fills status.LogFault load file new left = absurd left
unopened_fills (status.TreeDamaged at) load file new left = absurd left
unopened_fills (status.LogDamaged at why) load file new left = absurd left
unopened_fills (status.Disagrees path) load file new left = absurd left
unopened_fills (status.Limit which number) load file new left = absurd left
unopened_fills status.NotEmpty load file new left = absurd left
unopened_fills (status.NoOffset base end) load file new left = absurd left

-- it isn't opened
pub unopened_loads : (input tree tree_now : Outside) (s : Status) → IsUnopenedTree tree tree_now s → LoadsTree input input tree tree_now s
unopened_loads input tree tree_now s is = record {
  ran = λ same. subst IsUnopenedStatus same is.told;
  other = λ same. subst IsUnopenedStatus same is.told;
  filled = every_some (λ script. (file new : List ℕ) → tree.bytes ≡ Some file → tree_now.bytes ≡ Some new → IsNewTree file → Fills empty_tree (loaded script) (journal_of tree_letter file) new s) input.bytes
      (λ script file new was now made. unopened_fills s (loaded script) (journal_of tree_letter file) new (is.left file new was now made));
  whole = λ same. absurd (subst IsUnopenedStatus same is.told);
  tree_disk = is.tree_disk;
  source = source_uncalled s input.faults input.last_failed (λ same. subst IsUnopenedStatus same is.told);
}

-- what a file is filled with that says what another one said
fills_same : (load : Result Tree Status) (file same : List ℕ) (new : List ℕ) (s : Status) → journal_of tree_letter same ≡ journal_of tree_letter file → Fills empty_tree load (journal_of tree_letter same) new s → Fills empty_tree load (journal_of tree_letter file) new s
fills_same load file same new s is h = subst (λ j. Fills empty_tree load j new s) is h

one_tree : (r : Result Tree ℕ) (a b : Tree) → r ≡ Ok a → r ≡ Ok b → a ≡ b
one_tree r a b is_a is_b = cc (is_a, is_b)

-- a store was opened and filled
pub opened_loads : {D : Type 0} {disk : _} (store : TreeStore D disk) (input input_now tree tree_mid tree_now : Outside) (s : Status) → trees.IsOpened store tree.bytes tree_mid.bytes → tree_mid.faults ≡ tree.faults
    → FillsStore (trees.held_tree store) input input_now tree_mid tree_now s → LoadsTree input input_now tree tree_now s
opened_loads store input input_now tree tree_mid tree_now s opened calm fills = record {
  ran = λ same. subst IsFilledStatus same fills.told;
  other = λ same. subst IsFilledStatus same fills.told;
  filled = map_some (λ script. (file new : List ℕ) → tree_mid.bytes ≡ Some file → tree_now.bytes ≡ Some new → Fills (trees.held_tree store) (loaded script) (journal_of tree_letter file) new s)
      (λ script. (file new : List ℕ) → tree.bytes ≡ Some file → tree_now.bytes ≡ Some new → IsNewTree file → Fills empty_tree (loaded script) (journal_of tree_letter file) new s) input.bytes
      (λ script filled file new was now made.
      let says = opened.same file was in
      fills_same (loaded script) file says.0 new s says.2
      (subst (λ t. Fills t (loaded script) (journal_of tree_letter says.0) new s) (one_tree (tree_of file) (trees.held_tree store) empty_tree (opened.tree file was) made.empty) (filled says.0 new says.1 now))) fills.filled;
  whole = fills.whole;
  tree_disk = subst (λ n. EndsAtDisk status.TreeFault s n tree_now.faults) calm fills.tree_disk;
  source = fills.source;
}

-- ---- two files

-- `init` refused them, or a disk failed
by_init : (s : Status) (script t l new_t new_l : List ℕ) → s ≢ status.Done → Inits t l new_t new_l s → Loads script t l new_t new_l s
by_init status.Done script t l new_t new_l other is = absurd (other refl)
by_init status.Usage script t l new_t new_l other is = absurd is
by_init (status.Script line) script t l new_t new_l other is = absurd is
by_init status.ReadFault script t l new_t new_l other is = absurd is
by_init status.WriteFault script t l new_t new_l other is = absurd is
by_init status.TreeFault script t l new_t new_l other is = tt
by_init status.LogFault script t l new_t new_l other is = tt
by_init (status.TreeDamaged at) script t l new_t new_l other is = is
by_init (status.LogDamaged at why) script t l new_t new_l other is = is
by_init (status.Disagrees path) script t l new_t new_l other is = absurd is
by_init status.NoMemory script t l new_t new_l other is = (inl is.0, inl is.1)
by_init (status.Limit which number) script t l new_t new_l other is = absurd is
by_init status.NotEmpty script t l new_t new_l other is = is
by_init (status.NoOffset base end) script t l new_t new_l other is = absurd is

pub refused_loads : (input tree tree_now log log_now : Outside) (s : Status) → s ≢ status.Done → s ≢ status.ReadFault → MakesFiles Inits tree tree_now log log_now s → LoadsFiles input input tree tree_now log log_now s
refused_loads input tree tree_now log log_now s other unread makes = record {
  ran = makes.ran;
  made = every_some (λ script. (t l new_t new_l : List ℕ) → tree.bytes ≡ Some t → log.bytes ≡ Some l → tree_now.bytes ≡ Some new_t → log_now.bytes ≡ Some new_l → Loads script t l new_t new_l s) input.bytes
      (λ script t l new_t new_l is_t is_l now_t now_l. by_init s script t l new_t new_l other (makes.files t l new_t new_l is_t is_l now_t now_l));
  whole = λ is. absurd (other is);
  tree_disk = makes.tree_disk;
  log_disk = makes.log_disk;
  source = source_uncalled s input.faults input.last_failed unread;
}

at_limit : (which number : ℕ) (script t l new_t new_l made : List ℕ) → IsMade tree_letter t made → AreEmpty t l new_t new_l → IsAtLimit (loaded script) (journal_of tree_letter made) new_t which number → Loads script t l new_t new_l (status.Limit which number)
at_limit which number script t l new_t new_l made is_made are (inl is) = inl (is, are)
at_limit which number script t l new_t new_l made is_made are (inr is) = inr (record {
  which_is = is.0;
  number_is = is.1;
  root = is.2.0;
  loaded_is = is.2.1;
  made = made;
  is_made = is_made;
  too_long = is.2.2;
  empty = are;
})

empty : (t l new_t new_l : List ℕ) → init_refusal t l ≡ None → tree_of new_t ≡ Ok empty_tree → log_of new_l ≡ Ok empty_log → AreEmpty t l new_t new_l
empty t l new_t new_l taken tree_is log_is = record { taken = taken; stand = record { tree_is = tree_is; log_is = log_is } }

-- they were made, and the tree's file was filled
by_filling : (s : Status) (script t l new_t new_l made : List ℕ) → init_refusal t l ≡ None → log_of new_l ≡ Ok empty_log → IsMade tree_letter t made → Fills empty_tree (loaded script) (journal_of tree_letter made) new_t s → Loads script t l new_t new_l s
by_filling status.Done script t l new_t new_l made taken log_is is_made is = record { taken = taken; root = is.0; loaded_is = is.1; stand = record { tree_is = is.2; log_is = log_is } }
by_filling (status.Script line) script t l new_t new_l made taken log_is is_made is = (is.0, empty t l new_t new_l taken is.1 log_is)
by_filling status.ReadFault script t l new_t new_l made taken log_is is_made is = empty t l new_t new_l taken is log_is
by_filling status.TreeFault script t l new_t new_l made taken log_is is_made is = tt
by_filling status.NoMemory script t l new_t new_l made taken log_is is_made is = (inr is, inr log_is)
by_filling (status.Limit which number) script t l new_t new_l made taken log_is is_made is = at_limit which number script t l new_t new_l made is_made (empty t l new_t new_l taken is.1 log_is) is.0
by_filling status.Usage script t l new_t new_l made taken log_is is_made is = absurd is
by_filling status.WriteFault script t l new_t new_l made taken log_is is_made is = absurd is
by_filling status.LogFault script t l new_t new_l made taken log_is is_made is = absurd is
by_filling (status.TreeDamaged at) script t l new_t new_l made taken log_is is_made is = absurd is
by_filling (status.LogDamaged at why) script t l new_t new_l made taken log_is is_made is = absurd is
by_filling (status.Disagrees path) script t l new_t new_l made taken log_is is_made is = absurd is
by_filling status.NotEmpty script t l new_t new_l made taken log_is is_made is = absurd is
by_filling (status.NoOffset base end) script t l new_t new_l made taken log_is is_made is = absurd is

still_told : (before now : Option (List ℕ)) (file : List ℕ) → StaysTold before now → before ≡ Some file → (new : List ℕ) × (now ≡ Some new)
still_told before None file same is = absurd (cc)
still_told before (Some new) file same is = (new, refl)

pub made_loads : (input input_now tree tree_mid tree_now log log_now : Outside) (s : Status) → MakesFiles Inits tree tree_mid log log_now status.Done → StaysTold tree.bytes tree_mid.bytes
    → LoadsTree input input_now tree_mid tree_now s → LoadsFiles input input_now tree tree_now log log_now s
made_loads input input_now tree tree_mid tree_now log log_now s makes told loads = record {
  ran = loads.ran;
  made = map_some (λ script. (file new : List ℕ) → tree_mid.bytes ≡ Some file → tree_now.bytes ≡ Some new → IsNewTree file → Fills empty_tree (loaded script) (journal_of tree_letter file) new s)
      (λ script. (t l new_t new_l : List ℕ) → tree.bytes ≡ Some t → log.bytes ≡ Some l → tree_now.bytes ≡ Some new_t → log_now.bytes ≡ Some new_l → Loads script t l new_t new_l s) input.bytes
      (λ script filled t l new_t new_l is_t is_l now_t now_l.
      let mid = still_told tree.bytes tree_mid.bytes t told is_t in
      let are = makes.files t l mid.0 new_l is_t is_l mid.1 now_l in
      by_filling s script t l new_t new_l mid.0 are.taken are.stand.log_is are.tree_made (filled mid.0 new_t mid.1 now_t (made_new t l mid.0 new_l are))) loads.filled;
  whole = loads.whole;
  tree_disk = subst (λ n. EndsAtDisk status.TreeFault s n tree_now.faults) (makes.tree_disk.calm (λ is. absurd (cc)) (λ is. absurd (cc))) loads.tree_disk;
  log_disk = quiet status.LogFault s log.faults log_now.faults loads.other (makes.log_disk.calm (λ is. absurd (cc)) (λ is. absurd (cc)));
  source = loads.source;
}
