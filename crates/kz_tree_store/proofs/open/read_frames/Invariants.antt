use Rattle.std.proofs.Common.{◌≡◌, false, ℕ, List, Some}
use Rattle.kz_disk.specs.Disks.{StaysTold}
use Rattle.kz_spec_data.specs.Frames.{tree_letter}
use Rattle.kz_journal.specs.Held.{disk_of, letter_of, is_down, disk_state, bytes_left, unread}
use Rattle.kz_tree_store.specs.Held.{stored, ArePositive}
use Rattle.kz_tree_store.specs.Opened.{HasRead}
use Rattle.kz_tree_store.proofs.open.read_frames.Given as goal

abbrev pub invariant-frames : goal.invariant-frames
invariant-frames g l = record {
  up : is_down l.journal ≡ false;
  letter : letter_of l.journal ≡ tree_letter;
  positive : ArePositive l.held.tree.sessions;
  faults : (disk_state g.D.Disk.faults l.journal).faults ≡ (disk_state g.D.Disk.faults l.fn.journal).faults;
  told : StaysTold (g.D.Disk.told (disk_of l.fn.journal)) (g.D.Disk.told (disk_of l.journal));
  same : (file : List ℕ) → g.D.Disk.told (disk_of l.fn.journal) ≡ Some file → g.D.Disk.told (disk_of l.journal) ≡ Some file;
  read : (file : List ℕ) → g.D.Disk.told (disk_of l.fn.journal) ≡ Some file → HasRead (stored l.held) (unread l.fn.journal file) (unread l.journal file);
}

abbrev pub decreases-frames : goal.decreases-frames
decreases-frames g l = bytes_left l.journal
