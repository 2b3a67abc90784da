-- Files that are opened, and files that aren't.
use Rattle.std.proofs.Common.{◌≡◌, ℕ, Bool, true, false, List, Some, None, Result, Ok, Err, refl, ap, ◌∙◌, if◌then◌else◌}
use Rattle.kz_types.specs.declared.fault.LogWhy.{LogWhy}
use Rattle.kz_types.specs.declared.outside.Status.TheVariants as status
use Rattle.kz_spec_data.specs.Tree.{Tree}
use Rattle.kz_spec_data.specs.Log.{Log, empty_log}
use Rattle.kz_spec_data.specs.Frames.{Journal, tree_letter, log_letter, journal_of}
use Rattle.kz_spec_data.specs.TreeFile.{Stored, tree_of, tree_of_stored}
use Rattle.kz_spec_data.specs.TreeFile as tree_file
use Rattle.kz_spec_data.specs.LogFile.{log_of}
use Rattle.kz_spec_data.specs.LogFile as log_file
use Rattle.kz_spec_machine.specs.Files.{damage, first_reason, tree_damage, log_damage}
use Rattle.kz_tree_store.specs.declared.fault.TreeOpenFault.{TreeOpenFault}
use Rattle.kz_tree_store.specs.declared.fault.TreeOpenFault.TheVariants as tree_fault
use Rattle.kz_tree_store.specs.Opened as trees_opened
use Rattle.kz_tree_store.specs.Stores as trees
use Rattle.kz_log_store.specs.declared.fault.LogOpenFault.{LogOpenFault}
use Rattle.kz_log_store.specs.declared.fault.LogOpenFault.TheVariants as log_fault
use Rattle.kz_log_store.specs.Stores as logs
use Rattle.kz_commands.specs.Outside.{Outside}
use Rattle.kz_commands.specs.Opening.{AreUnopened, status_of_tree_fault, status_of_log_fault}
use Rattle.kz_commands.proofs.Disks.{failed, quiet, says, says_itself}

-- ---- damage

-- the tree's file is damaged
tree_first : (t l : List ℕ) (at : ℕ) → tree_of t ≡ Err at → damage t l ≡ Some (status.TreeDamaged at)
tree_first t l at is = ap (λ r. first_reason (tree_damage r) (log_damage (log_of l))) is

-- the log's file is, and the tree's isn't
log_second : (t l : List ℕ) (tree : Tree) (at : ℕ) (why : LogWhy) → tree_of t ≡ Ok tree → log_of l ≡ Err (at, why) → damage t l ≡ Some (status.LogDamaged at why)
log_second t l tree at why whole is = ap (λ r. first_reason (tree_damage r) (log_damage (log_of l))) whole ∙ ap log_damage is

-- neither is
pub both_whole : (t l : List ℕ) (tree : Tree) (log : Log) → tree_of t ≡ Ok tree → log_of l ≡ Ok log → damage t l ≡ None
both_whole t l tree log tree_is log_is = ap (λ r. first_reason (tree_damage r) (log_damage (log_of l))) tree_is ∙ ap log_damage log_is

stored_whole : (damaged : Bool) (at : ℕ) (r : Result Stored ℕ) (t : Tree) → tree_of_stored (tree_file.whole_or_damaged damaged at r) ≡ Ok t → damaged ≡ false
stored_whole true at (Ok s) t is = absurd (cc)
stored_whole true at (Err e) t is = absurd (cc)
stored_whole false at r t is = refl

-- the journal of a file that stands for a tree isn't damaged
pub tree_whole : (file : List ℕ) (t : Tree) → tree_of file ≡ Ok t → (journal_of tree_letter file).damaged ≡ false
tree_whole file t is =
    let j = journal_of tree_letter file in
    stored_whole j.damaged j.end (tree_file.after_frames j.frames tree_file.nothing_stored) t is

or_error : (damaged : Bool) (e : ℕ × LogWhy) (l m : Log) → (if damaged then Err e else Ok l) ≡ Ok m → damaged ≡ false
or_error true e l m is = absurd (cc)
or_error false e l m is = refl

log_in_whole : (j : Journal) (r : Result Log (ℕ × LogWhy)) (l : Log) → log_file.whole_or_damaged j r ≡ Ok l → j.damaged ≡ false
log_in_whole j (Ok m) l is = or_error j.damaged (j.end, log_file.why_at j.end) m l is
log_in_whole j (Err e) l is = absurd (cc)

-- nor is that of a file that stands for a log
pub log_whole : (file : List ℕ) (l : Log) → log_of file ≡ Ok l → (journal_of log_letter file).damaged ≡ false
log_whole file l is =
    let j = journal_of log_letter file in
    log_in_whole j (log_file.after_frames j.frames empty_log) l is

-- ---- files that aren't opened

-- the tree's file isn't
pub tree_unopened : (fault : TreeOpenFault) (tree tree_now log : Outside) (last : Bool) → trees.IsUnopened fault tree.bytes tree_now.bytes → trees.HasOpenCause fault tree.faults tree_now.faults last
    → AreUnopened tree tree_now log log (status_of_tree_fault fault)
tree_unopened tree_fault.DiskFault tree tree_now log last refused cause = record {
  told = tt;
  reason = λ t l is_t is_l. tt;
  files = λ t l new_t new_l is_t is_l now_t now_l. tt;
  tree_disk = failed status.TreeFault status.TreeFault tree.faults tree_now.faults refl cause.0;
  log_disk = quiet status.LogFault status.TreeFault log.faults log.faults (λ is. absurd (cc)) refl;
}
tree_unopened (tree_fault.Damaged at) tree tree_now log last refused cause = record {
  told = tt;
  reason = λ t l is_t is_l. tree_first t l at (refused t is_t).0;
  files = λ t l new_t new_l is_t is_l now_t now_l. (says tree_letter t new_t tree_now.bytes (refused t is_t).1 now_t, says_itself log_letter log.bytes l new_l is_l now_l);
  tree_disk = quiet status.TreeFault (status.TreeDamaged at) tree.faults tree_now.faults (λ is. absurd (cc)) cause;
  log_disk = quiet status.LogFault (status.TreeDamaged at) log.faults log.faults (λ is. absurd (cc)) refl;
}
tree_unopened tree_fault.NoMemory tree tree_now log last refused cause = record {
  told = tt;
  reason = λ t l is_t is_l. tt;
  files = λ t l new_t new_l is_t is_l now_t now_l.
      (says tree_letter t new_t tree_now.bytes (refused t is_t) now_t, says_itself log_letter log.bytes l new_l is_l now_l);
  tree_disk = quiet status.TreeFault status.NoMemory tree.faults tree_now.faults (λ is. absurd (cc)) cause;
  log_disk = quiet status.LogFault status.NoMemory log.faults log.faults (λ is. absurd (cc)) refl;
}

-- the tree's file is, and the log's isn't
pub log_unopened : (fault : LogOpenFault) (tree tree_now log log_now : Outside) (found : Tree) (last : Bool) → ((t : List ℕ) → tree.bytes ≡ Some t → trees_opened.SaysTheSame t tree_now.bytes)
    → ((t : List ℕ) → tree.bytes ≡ Some t → tree_of t ≡ Ok found) → tree_now.faults ≡ tree.faults → logs.IsUnopened fault log.bytes log_now.bytes
    → logs.HasOpenCause fault log.faults log_now.faults last → AreUnopened tree tree_now log log_now (status_of_log_fault fault)
log_unopened log_fault.DiskFault tree tree_now log log_now found last same stands calm refused cause = record {
  told = tt;
  reason = λ t l is_t is_l. tt;
  files = λ t l new_t new_l is_t is_l now_t now_l. tt;
  tree_disk = quiet status.TreeFault status.LogFault tree.faults tree_now.faults (λ is. absurd (cc)) calm;
  log_disk = failed status.LogFault status.LogFault log.faults log_now.faults refl cause.0;
}
log_unopened (log_fault.Damaged at why) tree tree_now log log_now found last same stands calm refused cause = record {
  told = tt;
  reason = λ t l is_t is_l. log_second t l found at why (stands t is_t) (refused l is_l).0;
  files = λ t l new_t new_l is_t is_l now_t now_l.
      (says tree_letter t new_t tree_now.bytes (same t is_t) now_t, says log_letter l new_l log_now.bytes (refused l is_l).1 now_l);
  tree_disk = quiet status.TreeFault (status.LogDamaged at why) tree.faults tree_now.faults (λ is. absurd (cc)) calm;
  log_disk = quiet status.LogFault (status.LogDamaged at why) log.faults log_now.faults (λ is. absurd (cc)) cause;
}
log_unopened log_fault.NoMemory tree tree_now log log_now found last same stands calm refused cause = record {
  told = tt;
  reason = λ t l is_t is_l. tt;
  files = λ t l new_t new_l is_t is_l now_t now_l. (says tree_letter t new_t tree_now.bytes (same t is_t) now_t, says log_letter l new_l log_now.bytes (refused l is_l) now_l);
  tree_disk = quiet status.TreeFault status.NoMemory tree.faults tree_now.faults (λ is. absurd (cc)) calm;
  log_disk = quiet status.LogFault status.NoMemory log.faults log_now.faults (λ is. absurd (cc)) cause;
}
