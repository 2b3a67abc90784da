-- Files that are sealed, and what `upgrade` makes of two files.
use Rattle.std.proofs.Common.{◌≡◌, ℕ, Bool, true, false, List, Option, Some, is_some, Result, Ok, Err, refl, ap, sym, ◌∙◌, subst, inl, inr}
use Rattle.kz_types.specs.Causes.{Rose}
use Rattle.kz_types.specs.declared.fault.LogWhy.{LogWhy}
use Rattle.kz_types.specs.declared.outside.Status.{Status}
use Rattle.kz_types.specs.declared.outside.Status.TheVariants as status
use Rattle.kz_spec_data.specs.Requests.{Only}
use Rattle.kz_spec_data.specs.Tree.{Tree}
use Rattle.kz_spec_data.specs.Log.{Log}
use Rattle.kz_spec_data.specs.Frames.{Journal, tree_letter, log_letter, journal_of, HasNoRoomForSeal}
use Rattle.kz_spec_data.specs.TreeFile.{tree_of}
use Rattle.kz_spec_data.specs.LogFile.{log_of}
use Rattle.kz_spec_machine.specs.Files.{SayTheSame}
use Rattle.kz_spec_machine.specs.Upgrade.{Upgrades, IsSummed}
use Rattle.kz_journal.specs.Held.{IsSealed}
use Rattle.kz_tree_store.specs.declared.store.TreeStore.{TreeStore}
use Rattle.kz_tree_store.specs.Opened.{tree_found, tree_in_file, LeavesTree}
use Rattle.kz_tree_store.specs.Stores as trees
use Rattle.kz_log_store.specs.declared.store.LogStore.{LogStore}
use Rattle.kz_log_store.specs.Opened.{log_found, log_stands, LeavesLog}
use Rattle.kz_log_store.specs.Stores as logs
use Rattle.kz_commands.specs.Outside.{Outside}
use Rattle.kz_commands.specs.Stops.{StandsAtStop}
use Rattle.kz_commands.specs.Opening.{AreOpened, AreUnopened}
use Rattle.kz_commands.specs.Makes.{MakesFiles}
use Rattle.kz_commands.specs.declared.sealing.SealFault.{SealFault}
use Rattle.kz_commands.specs.declared.sealing.SealFault.TheVariants as fault
use Rattle.kz_commands.specs.Sealing.{HasSums, Seals, SealsCause, status_of_tree_seal, status_of_log_seal}
use Rattle.kz_commands.proofs.Disks.{failed, quiet, says, one_file}
use Rattle.kz_commands.proofs.Opened.{both_whole, tree_whole, log_whole}

-- ---- a seal

-- a file that has a seal, or needs none
pub sums : (letter : ℕ) (file new : List ℕ) (done : Bool) (told : Option (List ℕ)) → IsSealed letter file done told → told ≡ Some new → HasSums letter file new
sums letter file new true told sealed is =
    let e : journal_of letter new ≡ journal_of letter sealed.0 = ap (journal_of letter) (one_file told sealed.0 new sealed.1 is) in
    record {
      frames = ap (λ (j : Journal). j.frames) e ∙ ap (λ (j : Journal). j.frames) sealed.2;
      damaged = ap (λ (j : Journal). j.damaged) e ∙ ap (λ (j : Journal). j.damaged) sealed.2;
      sums = ap (λ (j : Journal). j.summed) e ∙ ap (λ (j : Journal). j.summed) sealed.2;
    }
sums letter file new false told sealed is =
    let e : journal_of letter new ≡ journal_of letter file = ap (journal_of letter) (one_file told file new sealed.0 is) in
    record {
      frames = ap (λ (j : Journal). j.frames) e;
      damaged = ap (λ (j : Journal). j.damaged) e;
      sums = ap (λ (j : Journal). j.summed) e ∙ sealed.1;
    }

-- a file that says what another said, and that is sealed then
summed : (letter : ℕ) (file opened new : List ℕ) → SayTheSame letter file opened → (journal_of letter file).damaged ≡ false → HasSums letter opened new → IsSummed letter file new
summed letter file opened new same whole has = record {
  frames = has.frames ∙ ap (λ (j : Journal). j.frames) same;
  whole = has.damaged ∙ (ap (λ (j : Journal). j.damaged) same ∙ whole);
  sums = has.sums;
}

-- a file that is the same as one without room for a seal
no_room : (letter : ℕ) (opened new : List ℕ) → new ≡ opened → HasNoRoomForSeal letter opened → HasNoRoomForSeal letter new
no_room letter opened new is has = subst (HasNoRoomForSeal letter) (sym is) has

-- a file that is the same as one that says what another said
same_again : (letter : ℕ) (file opened new : List ℕ) → SayTheSame letter file opened → new ≡ opened → SayTheSame letter file new
same_again letter file opened new same is = ap (journal_of letter) is ∙ same

-- ---- what the command makes

-- files that aren't opened
pub unopened : (tree tree_now log log_now : Outside) (result : Status) → AreUnopened tree tree_now log log_now result → MakesFiles Upgrades tree tree_now log log_now result
unopened tree tree_now log log_now status.Done is = absurd is.told
unopened tree tree_now log log_now status.Usage is = absurd is.told
unopened tree tree_now log log_now (status.Script line) is = absurd is.told
unopened tree tree_now log log_now status.ReadFault is = absurd is.told
unopened tree tree_now log log_now status.WriteFault is = absurd is.told
unopened tree tree_now log log_now status.TreeFault is = record { ran = λ u. absurd (cc); files = λ t l new_t new_l a b c d. tt; tree_disk = is.tree_disk; log_disk = is.log_disk }
unopened tree tree_now log log_now status.LogFault is = record { ran = λ u. absurd (cc); files = λ t l new_t new_l a b c d. tt; tree_disk = is.tree_disk; log_disk = is.log_disk }
unopened tree tree_now log log_now (status.TreeDamaged at) is = record {
  ran = λ u. absurd (cc);
  files = λ t l new_t new_l a b c d. let f = is.files t l new_t new_l a b c d in record { damaged = is.reason t l a b; tree_kept = f.0; log_kept = f.1 };
  tree_disk = is.tree_disk;
  log_disk = is.log_disk;
}
unopened tree tree_now log log_now (status.LogDamaged at why) is = record {
  ran = λ u. absurd (cc);
  files = λ t l new_t new_l a b c d. let f = is.files t l new_t new_l a b c d in record { damaged = is.reason t l a b; tree_kept = f.0; log_kept = f.1 };
  tree_disk = is.tree_disk;
  log_disk = is.log_disk;
}
unopened tree tree_now log log_now status.NoMemory is = record { ran = λ u. absurd (cc); files = λ t l new_t new_l a b c d. tt; tree_disk = is.tree_disk; log_disk = is.log_disk }
unopened tree tree_now log log_now (status.Limit which number) is = absurd is.told
unopened tree tree_now log log_now status.NotEmpty is = absurd is.told
unopened tree tree_now log log_now (status.Disagrees path) is = absurd is.told
unopened tree tree_now log log_now (status.NoOffset base end) is = absurd is.told

-- Both files were opened, say what they said, and stand for a tree and a log.
pub record AreOpen (tree tree_open log log_open : Outside) : Type 0 where
  pub tree_same : (t : List ℕ) → tree.bytes ≡ Some t → (s : List ℕ) × (tree_open.bytes ≡ Some s) × (journal_of tree_letter s ≡ journal_of tree_letter t)
  pub log_same : (l : List ℕ) → log.bytes ≡ Some l → (s : List ℕ) × (log_open.bytes ≡ Some s) × (journal_of log_letter s ≡ journal_of log_letter l)
  pub found : Tree
  pub held : Log
  pub tree_stands : (t : List ℕ) → tree.bytes ≡ Some t → tree_of t ≡ Ok found
  pub log_stands : (l : List ℕ) → log.bytes ≡ Some l → log_of l ≡ Ok held
  pub tree_calm : tree_open.faults ≡ tree.faults
  pub log_calm : log_open.faults ≡ log.faults

pub are_open : {D E : Type 0} {tree_disk : _} {log_disk : _} (t : TreeStore D tree_disk) (l : LogStore E log_disk) (tree tree_open log log_open : Outside) → AreOpened t l tree tree_open log log_open → AreOpen tree tree_open log log_open
are_open t l tree tree_open log log_open is = record {
  tree_same = is.tree_opened.same;
  log_same = is.log_opened.same;
  found = trees.held_tree t;
  held = logs.held_log l;
  tree_stands = is.tree_opened.tree;
  log_stands = λ file told. (is.log_opened.log file told).log;
  tree_calm = is.tree_calm;
  log_calm = is.log_calm;
}

rose_since : (first before now : ℕ) → before ≡ first → Rose before now → Rose first now
rose_since first before now same rose = subst (λ n. Rose n now) same rose

-- the tree's file isn't sealed
pub tree_unsealed : (f : SealFault) (tree tree_open tree_now log log_open : Outside) → AreOpen tree tree_open log log_open
    → ((file new : List ℕ) → tree_open.bytes ≡ Some file → tree_now.bytes ≡ Some new → Seals {T = Unit {0}} tree_letter (Err f) file new) → SealsCause {T = Unit {0}} (Err f) tree_open.faults tree_now.faults
    → MakesFiles Upgrades tree tree_now log log_open (status_of_tree_seal f)
tree_unsealed fault.DiskFault tree tree_open tree_now log log_open are seals cause = record {
  ran = λ u. absurd (cc);
  files = λ t l new_t new_l is_t is_l now_t now_l. tt;
  tree_disk = failed status.TreeFault status.TreeFault tree.faults tree_now.faults refl (rose_since tree.faults tree_open.faults tree_now.faults are.tree_calm cause);
  log_disk = quiet status.LogFault status.TreeFault log.faults log_open.faults (λ is. absurd (cc)) are.log_calm;
}
tree_unsealed fault.Full tree tree_open tree_now log log_open are seals cause = record {
  ran = λ u. absurd (cc);
  files = λ t l new_t new_l is_t is_l now_t now_l.
      let o = are.tree_same t is_t in
      let s = seals o.0 new_t o.1 now_t in (
        both_whole t l are.found are.held (are.tree_stands t is_t) (are.log_stands l is_l),
        refl,
        inl (refl, no_room tree_letter o.0 new_t s.0 s.1, same_again tree_letter t o.0 new_t o.2 s.0, says log_letter l new_l log_open.bytes (are.log_same l is_l) now_l),
      );
  tree_disk = quiet status.TreeFault (status_of_tree_seal fault.Full) tree.faults tree_now.faults (λ is. absurd (cc)) (cause ∙ are.tree_calm);
  log_disk = quiet status.LogFault (status_of_tree_seal fault.Full) log.faults log_open.faults (λ is. absurd (cc)) are.log_calm;
}

-- the tree's file is, and the log's isn't
pub log_unsealed : (f : SealFault) (tree tree_open tree_now log log_open log_now : Outside) → AreOpen tree tree_open log log_open
    → ((file new : List ℕ) → tree_open.bytes ≡ Some file → tree_now.bytes ≡ Some new → HasSums tree_letter file new) → tree_now.faults ≡ tree_open.faults
    → ((file new : List ℕ) → log_open.bytes ≡ Some file → log_now.bytes ≡ Some new → Seals {T = Unit {0}} log_letter (Err f) file new) → SealsCause {T = Unit {0}} (Err f) log_open.faults log_now.faults
    → MakesFiles Upgrades tree tree_now log log_now (status_of_log_seal f)
log_unsealed fault.DiskFault tree tree_open tree_now log log_open log_now are sealed calm seals cause = record {
  ran = λ u. absurd (cc);
  files = λ t l new_t new_l is_t is_l now_t now_l. tt;
  tree_disk = quiet status.TreeFault status.LogFault tree.faults tree_now.faults (λ is. absurd (cc)) (calm ∙ are.tree_calm);
  log_disk = failed status.LogFault status.LogFault log.faults log_now.faults refl (rose_since log.faults log_open.faults log_now.faults are.log_calm cause);
}
log_unsealed fault.Full tree tree_open tree_now log log_open log_now are sealed calm seals cause = record {
  ran = λ u. absurd (cc);
  files = λ t l new_t new_l is_t is_l now_t now_l.
      let o = are.tree_same t is_t in
      let p = are.log_same l is_l in
      let s = seals p.0 new_l p.1 now_l in (
        both_whole t l are.found are.held (are.tree_stands t is_t) (are.log_stands l is_l),
        refl,
        inr (
          refl,
          no_room log_letter p.0 new_l s.0 s.1,
          summed tree_letter t o.0 new_t o.2 (tree_whole t are.found (are.tree_stands t is_t)) (sealed o.0 new_t o.1 now_t),
          same_again log_letter l p.0 new_l p.2 s.0,
        ),
      );
  tree_disk = quiet status.TreeFault (status_of_log_seal fault.Full) tree.faults tree_now.faults (λ is. absurd (cc)) (calm ∙ are.tree_calm);
  log_disk = quiet status.LogFault (status_of_log_seal fault.Full) log.faults log_now.faults (λ is. absurd (cc)) (cause ∙ are.log_calm);
}

-- both are
pub both_sealed : (tree tree_open tree_now log log_open log_now : Outside) → AreOpen tree tree_open log log_open
    → ((file new : List ℕ) → tree_open.bytes ≡ Some file → tree_now.bytes ≡ Some new → HasSums tree_letter file new) → tree_now.faults ≡ tree_open.faults
    → ((file new : List ℕ) → log_open.bytes ≡ Some file → log_now.bytes ≡ Some new → HasSums log_letter file new) → log_now.faults ≡ log_open.faults
    → MakesFiles Upgrades tree tree_now log log_now status.Done
both_sealed tree tree_open tree_now log log_open log_now are tree_sealed tree_calm log_sealed log_calm = record {
  ran = λ u. absurd (cc);
  files = λ t l new_t new_l is_t is_l now_t now_l.
      let o = are.tree_same t is_t in
      let p = are.log_same l is_l in
      record {
        whole = both_whole t l are.found are.held (are.tree_stands t is_t) (are.log_stands l is_l);
        tree_sealed = summed tree_letter t o.0 new_t o.2 (tree_whole t are.found (are.tree_stands t is_t)) (tree_sealed o.0 new_t o.1 now_t);
        log_sealed = summed log_letter l p.0 new_l p.2 (log_whole l are.held (are.log_stands l is_l)) (log_sealed p.0 new_l p.1 now_l);
      };
  tree_disk = quiet status.TreeFault status.Done tree.faults tree_now.faults (λ is. absurd (cc)) (tree_calm ∙ are.tree_calm);
  log_disk = quiet status.LogFault status.Done log.faults log_now.faults (λ is. absurd (cc)) (log_calm ∙ are.log_calm);
}

-- ---- what a stop leaves

found_tree : (r : Result Tree ℕ) (t : Tree) → tree_found r ≡ Some t → r ≡ Ok t
found_tree (Ok s) t is = cc
found_tree (Err at) t is = absurd (cc)

found_log : (r : Result Log (ℕ × LogWhy)) (l : Log) → log_found r ≡ Some l → r ≡ Ok l
found_log (Ok m) l is = cc
found_log (Err e) l is = absurd (cc)

-- a tree's store that was opened, and leaves its tree
pub tree_left : (t : Tree) (before opened now : Option (List ℕ)) (leaves left : List ℕ → Type 0) (syncs syncs_now : ℕ) → is_some opened ≡ is_some before → is_some now ≡ is_some opened
    → ((file : List ℕ) → before ≡ Some file → tree_of file ≡ Ok t) → Only t (LeavesTree now left) → StandsAtStop tree_of before leaves syncs syncs_now left
tree_left t before opened now leaves left syncs syncs_now first then stands only = λ settled file is few bytes may.
    let tells : is_some now ≡ true = then ∙ (first ∙ ap is_some is) in
    found_tree (tree_of bytes) t (only (tree_in_file bytes) (record { tells = tells; file = bytes; left = may; is = refl })) ∙ sym (stands file is)

-- and a log's
pub log_left : (l : Log) (before opened now : Option (List ℕ)) (leaves left : List ℕ → Type 0) (syncs syncs_now : ℕ) → is_some opened ≡ is_some before → is_some now ≡ is_some opened
    → ((file : List ℕ) → before ≡ Some file → log_of file ≡ Ok l) → Only l (LeavesLog now left) → StandsAtStop log_of before leaves syncs syncs_now left
log_left l before opened now leaves left syncs syncs_now first then stands only = λ settled file is few bytes may.
    let tells : is_some now ≡ true = then ∙ (first ∙ ap is_some is) in
    found_log (log_of bytes) l (only (log_stands bytes) (record { tells = tells; file = bytes; left = may; is = refl })) ∙ sym (stands file is)
