-- What a stop leaves of the files of a load.
use Rattle.std.proofs.Common.{◌≡◌, ◌⊎◌, ◌≢◌, inl, inr, ⊎_elim, ℕ, ◌+◌, ◌<◌, ◌≤◌, ◌^◌, Bool, true, false, List, length, Option, Some, None, IfSome, is_some, Result, Ok, Err, refl, sym, ap, ◌∙◌, subst, arith}
use Rattle.std.proofs.lemmas.Bool.{leb-true}
use Rattle.kz_types.specs.declared.outside.Status.{Status}
use Rattle.kz_types.specs.declared.outside.Status.TheVariants as status
use Rattle.kz_types.specs.declared.fault.TreeFault.{TreeFault}
use Rattle.kz_types.specs.declared.fault.TreeFault.TheVariants as tree_fault
use Rattle.kz_disk.specs.Disks.{NothingPends, StaysTold}
use Rattle.kz_spec_data.specs.Tree.{Tree, empty_tree}
use Rattle.kz_spec_data.specs.Requests.{Disk, Either, answer_of_tree_fault}
use Rattle.kz_spec_data.specs.Frames.{tree_letter, log_letter, new_file}
use Rattle.kz_spec_data.specs.TreeFile.{stored_in, tree_of_stored, tree_of}
use Rattle.kz_spec_data.specs.LogFile.{log_of}
use Rattle.kz_spec_machine.specs.Files.{SayTheSame}
use Rattle.kz_spec_machine.specs.Init.{is_short, is_whole_and_empty, IsMade, AreMade, Inits}
use Rattle.kz_commands.specs.Outside.{Outside}
use Rattle.kz_commands.specs.Makes.{MakesFiles}
use Rattle.kz_commands.specs.Stops.{Contents, LeavesByInit, LongGrowsByOne, StaysSettled}
use Rattle.kz_commands.proofs.Disks.{one_file}
use Rattle.kz_spec_machine.specs.Loading.{loaded}
use Rattle.kz_tree_store.specs.Opened.{Known, IsTreeFile, LeavesTree, tree_found, tree_in_file}
use Rattle.kz_load.specs.Leaves.{StandsForEither, LeavesEither, LeavesNewOrLoaded, AreLeftByLoad, LoadStops}
use Rattle.kz_load.proofs.Filled.{map_some, every_some, stands}
use Rattle.kz_load.proofs.Frames.{Wrote}
use Rattle.kz_load.proofs.Made.{made_new}

-- no write is pending, and the store holds the tree that it held
pub settled_either : (input : Option (List ℕ)) (before : Tree) (k : Known) (now : Option (List ℕ)) (left : List ℕ → Type 0) → NothingPends now left → ((file : List ℕ) → now ≡ Some file → IsTreeFile file k) → k.tree ≡ before
    → LeavesEither input before now left
settled_either input before k now left none same tree_is =
    every_some (λ script. is_some now ≡ true → (bytes : List ℕ) → left bytes → StandsForEither (loaded script) before bytes) input (λ script tells bytes may. inl (stands now k before tree_is same bytes (none bytes may)))

-- no write is pending, and the store holds the tree of the input
pub settled_loaded : (input : Option (List ℕ)) (before root : Tree) (k : Known) (now : Option (List ℕ)) (left : List ℕ → Type 0) → NothingPends now left → ((file : List ℕ) → now ≡ Some file → IsTreeFile file k) → k.tree ≡ root
    → IfSome input (λ script. loaded script ≡ Ok root) → LeavesEither input before now left
settled_loaded input before root k now left none same tree_is is =
    map_some (λ script. loaded script ≡ Ok root) (λ script. is_some now ≡ true → (bytes : List ℕ) → left bytes → StandsForEither (loaded script) before bytes) input
    (λ script is_root tells bytes may. inr (root, is_root, stands now k root tree_is same bytes (none bytes may))) is

tree_ok : (r : Result Tree ℕ) (t : Tree) → tree_found r ≡ Some t → r ≡ Ok t
tree_ok (Ok u) t is = ap Ok (cc is)
tree_ok (Err at) t is = absurd (cc is)

-- a frame of the load was being written
pub torn_either : (input : Option (List ℕ)) (before root : Tree) (now : Option (List ℕ)) (left : List ℕ → Type 0) → Either before root (LeavesTree now left) → IfSome input (λ script. loaded script ≡ Ok root) → LeavesEither input before now left
torn_either input before root now left either is =
    map_some (λ script. loaded script ≡ Ok root) (λ script. is_some now ≡ true → (bytes : List ℕ) → left bytes → StandsForEither (loaded script) before bytes) input
    (λ script is_root tells bytes may.
    ⊎_elim (λ same. inl (tree_ok (tree_of bytes) before same)) (λ new. inr (root, is_root, tree_ok (tree_of bytes) root new))
    (either (tree_in_file bytes) (record { tells = tells; file = bytes; left = may; is = refl }))) is

-- the frames of the load weren't all written
pub fault_left : (fault : TreeFault) (input : Option (List ℕ)) (before root : Tree) (k : Known) (now : Option (List ℕ)) (left : List ℕ → Type 0) (old new : Disk) → Wrote (answer_of_tree_fault fault) old new
    → (new.down ≡ false → NothingPends now left) → (new.down ≡ false → (file : List ℕ) → now ≡ Some file → IsTreeFile file k) → k.tree ≡ before
    → (fault ≡ tree_fault.Device → Either before root (LeavesTree now left)) → IfSome input (λ script. loaded script ≡ Ok root) → LeavesEither input before now left
fault_left (tree_fault.Refused index code) input before root k now left old new wrote none same tree_is torn is = absurd wrote
fault_left (tree_fault.Limit index number) input before root k now left old new wrote none same tree_is torn is = absurd wrote
fault_left tree_fault.Down input before root k now left old new wrote none same tree_is torn is = absurd wrote
fault_left tree_fault.NoMemory input before root k now left old new wrote none same tree_is torn is = settled_either input before k now left (none wrote.0) (same wrote.0) tree_is
fault_left (tree_fault.Full size) input before root k now left old new wrote none same tree_is torn is = settled_either input before k now left (none wrote.0) (same wrote.0) tree_is
fault_left tree_fault.Device input before root k now left old new wrote none same tree_is torn is = torn_either input before root now left (torn refl) is

-- ---- the file of a new tree

-- a file that isn't opened
pub unopened_left : (input told now : Option (List ℕ)) (leaves left : List ℕ → Type 0)
    → (NothingPends told leaves → (file : List ℕ) → told ≡ Some file → length file < 2 ^ 32 → (bytes : List ℕ) → left bytes → SayTheSame tree_letter file bytes) → LeavesNewOrLoaded input told leaves now left
unopened_left input told now leaves left says = λ none file is few new.
    every_some (λ script. is_some now ≡ true → (bytes : List ℕ) → left bytes → StandsForEither (loaded script) empty_tree bytes) input
    (λ script tells bytes may. inl (ap (λ j. tree_of_stored (stored_in j)) (says none file is few bytes may) ∙ new.empty))

one_tree : (r : Result Tree ℕ) (a b : Tree) → r ≡ Ok a → r ≡ Ok b → a ≡ b
one_tree r a b is_a is_b = cc (is_a, is_b)

-- one that was opened and filled
pub opened_left : (input told now : Option (List ℕ)) (leaves left : List ℕ → Type 0) (held : Tree) → ((file : List ℕ) → told ≡ Some file → tree_of file ≡ Ok held) → LeavesEither input held now left → LeavesNewOrLoaded input told leaves now left
opened_left input told now leaves left held tree_is h = λ none file is few new. subst (λ t. LeavesEither input t now left) (one_tree (tree_of file) held empty_tree (tree_is file is) new.empty) h

-- ---- both files

some_told : (told : Option (List ℕ)) → is_some told ≡ true → (file : List ℕ) × (told ≡ Some file)
some_told None is = absurd (cc is)
some_told (Some file) is = (file, refl)

still_told : (before now : Option (List ℕ)) (file : List ℕ) → StaysTold before now → before ≡ Some file → (new : List ℕ) × (now ≡ Some new)
still_told before None file same is = absurd (cc)
still_told before (Some new) file same is = (new, refl)

few_of : (n : ℕ) → n ≤ 17 → n < 2 ^ 32
few_of n short = omega (arith, short)

short_few : (file : List ℕ) → is_short file ≡ true → length file < 2 ^ 32
short_few file short = few_of (length file) (leb-true (length file) 17 short)

one_less : (n : ℕ) → n + 1 < 2 ^ 32 → n < 2 ^ 32
one_less n few = omega (arith, few)

few_more : (n m : ℕ) → m ≤ n + 1 → n + 1 < 2 ^ 32 → m < 2 ^ 32
few_more n m grown few = omega (arith, grown, few)

either_way : (b : Bool) → (b ≡ true) ⊎ (b ≡ false)
either_way true = inl refl
either_way false = inr refl

new_short : is_short (new_file tree_letter) ≡ true
new_short = refl

short_made : (file new : List ℕ) → is_short file ≡ true → IsMade tree_letter file new → (is_whole_and_empty tree_letter file ≡ true) ⊎ (is_whole_and_empty tree_letter file ≡ false) → length new < 2 ^ 32
short_made file new short made (inl whole) = subst (λ (b : List ℕ). length b < 2 ^ 32) (sym (made.left short whole)) (short_few file short)
short_made file new short made (inr torn) = subst (λ (b : List ℕ). length b < 2 ^ 32) (sym (made.anew short torn)) (short_few (new_file tree_letter) new_short)

made_few : (file new : List ℕ) → IsMade tree_letter file new → (is_short file ≡ false → length new ≤ length file + 1) → length file + 1 < 2 ^ 32 → (is_short file ≡ true) ⊎ (is_short file ≡ false) → length new < 2 ^ 32
made_few file new made grown few (inl short) = short_made file new short made (either_way (is_whole_and_empty tree_letter file))
made_few file new made grown few (inr long) = few_more (length file) (length new) (grown long) few

-- they weren't made
pub unmade_stops : (input : Option (List ℕ)) (tree tree_now log log_now : Contents) (s : Status) → s ≢ status.Done → LeavesByInit tree_letter tree.told tree.leaves tree_now.leaves → LeavesByInit log_letter log.told log.leaves log_now.leaves
    → LoadStops input tree tree_now log log_now s
unmade_stops input tree tree_now log log_now s other tree_left log_left = record {
  left = λ none_t none_l t l is_t is_l few_t few tells_t tells_l.
      every_some (λ script. (x y : List ℕ) → tree_now.leaves x → log_now.leaves y → AreLeftByLoad script t l x y) input
      (λ script x y left_x left_y. inl (tree_left none_t t is_t (one_less (length t) few_t) x left_x, log_left none_l l is_l few y left_y));
  settled = λ is. absurd (other is);
}

-- they were made, and the tree's file was filled
pub made_stops : (input : Option (List ℕ)) (tree tree_mid tree_now log log_now : Contents) (s : Status) (t_out mid_out l_out now_out : Outside) → t_out.bytes ≡ tree.told → mid_out.bytes ≡ tree_mid.told → l_out.bytes ≡ log.told → now_out.bytes ≡ log_now.told
    → MakesFiles Inits t_out mid_out l_out now_out status.Done → StaysTold tree.told tree_mid.told → LongGrowsByOne tree.told tree_mid.told
    → StaysSettled tree.told tree.leaves tree_mid.told tree_mid.leaves × StaysSettled log.told log.leaves log_now.told log_now.leaves
    → LeavesNewOrLoaded input tree_mid.told tree_mid.leaves tree_now.told tree_now.leaves → (s ≡ status.Done → NothingPends tree_now.told tree_now.leaves) → LoadStops input tree tree_now log log_now s
made_stops input tree tree_mid tree_now log log_now s t_out mid_out l_out now_out is_tree is_mid is_log is_now makes told grown settled filled done = record {
  left = λ none_t none_l t l is_t is_l few_t few tells_t tells_l.
      let mid = still_told tree.told tree_mid.told t told is_t in
      let new_log = some_told log_now.told tells_l in
      let are : AreMade t l mid.0 new_log.0 = makes.files t l mid.0 new_log.0 (is_tree ∙ is_t) (is_log ∙ is_l) (is_mid ∙ mid.1) (is_now ∙ new_log.1) in
      map_some (λ script. is_some tree_now.told ≡ true → (bytes : List ℕ) → tree_now.leaves bytes → StandsForEither (loaded script) empty_tree bytes)
      (λ script. (x y : List ℕ) → tree_now.leaves x → log_now.leaves y → AreLeftByLoad script t l x y) input
      (λ script h x y left_x left_y.
      inr (h tells_t x left_x, ap log_of (one_file log_now.told new_log.0 y new_log.1 (settled.1 none_l y left_y)) ∙ are.stand.log_is))
      (filled (settled.0 none_t) mid.0 mid.1 (made_few t mid.0 are.tree_made (grown t mid.0 is_t mid.1) few_t (either_way (is_short t))) (made_new t l mid.0 new_log.0 are));
  settled = λ is none_t none_l. (done is, settled.1 none_l);
}
