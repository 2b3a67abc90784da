-- What each part of a rollback that ends it leaves of the tree and the log, and of their disks.
use Rattle.std.proofs.Common.{◌≡◌, inl, inr, ℕ, List, Option, None, Result, Ok, Err, OnOk, OnErr, IfErr, refl, sym, subst}
use Rattle.kz_types.specs.declared.machine.Answer.{Answer}
use Rattle.kz_types.specs.declared.tree.Op.{Op}
use Rattle.kz_types.specs.declared.fault.TreeFault.{TreeFault}
use Rattle.kz_types.specs.declared.fault.LogFault.{LogFault}
use Rattle.kz_types.specs.declared.fault.LogFault.TheVariants as log_fault
use Rattle.kz_spec_data.specs.Tree.{Tree as TreeValue}
use Rattle.kz_spec_data.specs.Log.{Log as LogValue, reset}
use Rattle.kz_spec_data.specs.Requests.{Disk, TreeChange, Done, answer_of_log_fault, ReadsDisk}
use Rattle.kz_spec_machine.specs.Machine.{exit_refusal, exit_ops, tree_after_ops}
use Rattle.kz_exit.specs.declared.faults.ExitFault.{ExitFault}
use Rattle.kz_exit.specs.declared.faults.ExitFault.TheVariants.{Finalised, Unclosed, Behind, Log, Tree, NoMemory}
use Rattle.kz_exit.specs.Disks.{ResetsDisk, LogDisk, TreeDisk}
use Rattle.kz_exit.specs.Faults.{IsLogFault}
use Rattle.kz_exit.specs.Requests.{IsReadLogFault, IsCheckFault, CheckDisk, IsResetFault, ResetDisk, IsMultiFault}
use Rattle.kz_exit.specs.Rollbacks.{IsTakenBack, IsLeft}

-- ---- it is refused, or the log isn't read

read_fault : (said : Option Answer) (f : LogFault) → IsReadLogFault f → IsLogFault said f
read_fault said (log_fault.Stale epoch) h = absurd h
read_fault said log_fault.Failed h = absurd h
read_fault said (log_fault.Limit number) h = absurd h
read_fault said log_fault.NoMemory h = absurd h
read_fault said log_fault.Down h = tt
read_fault said (log_fault.Full length) h = absurd h

pub checked_left : (t : TreeValue) (l new : LogValue) (f : ExitFault) → IsCheckFault (exit_refusal t l) f → new ≡ l → IsLeft t l t new f
checked_left t l new Finalised h same = record { refused = h; tree = refl; log = same }
checked_left t l new (Unclosed path) h same = record { refused = h; tree = refl; log = same }
checked_left t l new (Behind recorded end) h same = record { refused = h; tree = refl; log = same }
checked_left t l new (Log f) h same = (read_fault (exit_refusal t l) f h, refl, same)
checked_left t l new (Tree f) h same = absurd h
checked_left t l new NoMemory h same = (refl, inl same)

-- a log that isn't read isn't reset
unread : (payload : ℕ) (f : LogFault) (old new : Disk) → ReadsDisk (answer_of_log_fault f) old new → ResetsDisk payload (answer_of_log_fault f) old new
unread payload (log_fault.Stale epoch) old new h = absurd h
unread payload log_fault.Failed old new h = absurd h
unread payload (log_fault.Limit number) old new h = absurd h
unread payload log_fault.NoMemory old new h = h
unread payload log_fault.Down old new h = h
unread payload (log_fault.Full length) old new h = absurd h

pub checked_log : (payload : ℕ) (f : ExitFault) (old new : Disk) → CheckDisk (Err f) old new → LogDisk payload (Err f) old new
checked_log payload Finalised old new h = h
checked_log payload (Unclosed path) old new h = h
checked_log payload (Behind recorded end) old new h = h
checked_log payload (Log f) old new h = unread payload f old new h
checked_log payload (Tree f) old new h = absurd h
checked_log payload NoMemory old new h = inl h

pub checked_tree : (t : TreeValue) (payload_bytes : TreeValue → TreeChange → ℕ) (ops : List Op) (said : Option Answer) (f : ExitFault) (disk : Disk) → IsCheckFault said f → TreeDisk t payload_bytes ops (Err f) disk disk
checked_tree t payload_bytes ops said Finalised disk h = refl
checked_tree t payload_bytes ops said (Unclosed path) disk h = refl
checked_tree t payload_bytes ops said (Behind recorded end) disk h = refl
checked_tree t payload_bytes ops said (Log f) disk h = refl
checked_tree t payload_bytes ops said (Tree f) disk h = absurd h
checked_tree t payload_bytes ops said NoMemory disk h = refl

-- ---- the log isn't reset

pub kept_left : (t : TreeValue) (l new : LogValue) (f : ExitFault) → exit_refusal t l ≡ None → IsResetFault f → new ≡ l → IsLeft t l t new f
kept_left t l new Finalised none h same = absurd h
kept_left t l new (Unclosed path) none h same = absurd h
kept_left t l new (Behind recorded end) none h same = absurd h
kept_left t l new (Log f) none h same = (subst (λ said. IsLogFault said f) (sym none) h, refl, same)
kept_left t l new (Tree f) none h same = absurd h
kept_left t l new NoMemory none h same = (refl, inl same)

pub kept_log : (payload : ℕ) (f : ExitFault) (old new : Disk) → IsResetFault f → ResetDisk payload (Err f) old new → LogDisk payload (Err f) old new
kept_log payload Finalised old new is h = absurd is
kept_log payload (Unclosed path) old new is h = absurd is
kept_log payload (Behind recorded end) old new is h = absurd is
kept_log payload (Log f) old new is h = h
kept_log payload (Tree f) old new is h = absurd is
kept_log payload NoMemory old new is h = inl h

pub kept_tree : (t : TreeValue) (payload_bytes : TreeValue → TreeChange → ℕ) (ops : List Op) (f : ExitFault) (disk : Disk) → IsResetFault f → TreeDisk t payload_bytes ops (Err f) disk disk
kept_tree t payload_bytes ops Finalised disk h = refl
kept_tree t payload_bytes ops (Unclosed path) disk h = refl
kept_tree t payload_bytes ops (Behind recorded end) disk h = refl
kept_tree t payload_bytes ops (Log f) disk h = refl
kept_tree t payload_bytes ops (Tree f) disk h = absurd h
kept_tree t payload_bytes ops NoMemory disk h = refl

-- ---- the tree is given back, or it isn't

pub sent_back : (t new_tree : TreeValue) (l new : LogValue) (r : Result (Unit {0}) ExitFault) → exit_refusal t l ≡ None → new ≡ reset l → OnOk r (tree_after_ops t (exit_ops t) ≡ Ok new_tree) → OnOk r (IsTakenBack t l new_tree new)
sent_back t new_tree l new (Ok told) none is h = record { taken = none; log = is; tree = h }
sent_back t new_tree l new (Err f) none is h = tt

unsent_left : (t new_tree : TreeValue) (l new : LogValue) (f : ExitFault) → exit_refusal t l ≡ None → new ≡ reset l → IsMultiFault (tree_after_ops t (exit_ops t)) f → new_tree ≡ t → IsLeft t l new_tree new f
unsent_left t new_tree l new Finalised none is h same = absurd h
unsent_left t new_tree l new (Unclosed path) none is h same = absurd h
unsent_left t new_tree l new (Behind recorded end) none is h same = absurd h
unsent_left t new_tree l new (Log f) none is h same = absurd h
unsent_left t new_tree l new (Tree f) none is h same = (none, h, same, is)
unsent_left t new_tree l new NoMemory none is h same = (same, inr (none, is))

pub sent_left : (t new_tree : TreeValue) (l new : LogValue) (r : Result (Unit {0}) ExitFault) → exit_refusal t l ≡ None → new ≡ reset l → IfErr r (IsMultiFault (tree_after_ops t (exit_ops t))) → OnErr r (new_tree ≡ t) → IfErr r (IsLeft t l new_tree new)
sent_left t new_tree l new (Ok told) none is h same = tt
sent_left t new_tree l new (Err f) none is h same = unsent_left t new_tree l new f none is h same

unsent_log : (made : Result TreeValue TreeFault) (payload : ℕ) (f : ExitFault) (old new : Disk) → IsMultiFault made f → ResetsDisk payload Done old new → LogDisk payload (Err f) old new
unsent_log made payload Finalised old new h disk = absurd h
unsent_log made payload (Unclosed path) old new h disk = absurd h
unsent_log made payload (Behind recorded end) old new h disk = absurd h
unsent_log made payload (Log f) old new h disk = absurd h
unsent_log made payload (Tree f) old new h disk = disk
unsent_log made payload NoMemory old new h disk = inr disk

pub sent_log : (made : Result TreeValue TreeFault) (payload : ℕ) (r : Result (Unit {0}) ExitFault) (old new : Disk) → IfErr r (IsMultiFault made) → ResetsDisk payload Done old new → LogDisk payload r old new
sent_log made payload (Ok told) old new h disk = disk
sent_log made payload (Err f) old new h disk = unsent_log made payload f old new h disk
