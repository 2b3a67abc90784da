-- What a stop leaves of the tree and the log where a rollback failed at a store.
use Rattle.std.proofs.Common.{◌≡◌, ◌⊎◌, inl, inr, ℕ, false, List, [], ◌∷◌, Contains, Option, Some, None, Result, Ok, Err, IfErr, OnErr, IsErrOf, refl, sym, ap, ◌∙◌, subst, arith}
use Rattle.kz_types.specs.declared.machine.Answer.{Answer}
use Rattle.kz_types.specs.declared.tree.Op.{Op}
use Rattle.kz_types.specs.declared.fault.TreeFault.{TreeFault}
use Rattle.kz_types.specs.declared.fault.TreeFault.TheVariants as tree_fault
use Rattle.kz_types.specs.declared.fault.LogFault.{LogFault}
use Rattle.kz_types.specs.declared.fault.LogFault.TheVariants as log_fault
use Rattle.kz_spec_data.specs.Tree.{Tree as TreeValue}
use Rattle.kz_spec_data.specs.Log.{Log as LogValue, reset}
use Rattle.kz_spec_data.specs.Requests.{Disk, TreeChange, Done, answer_of_tree_fault, answer_of_log_fault, ReadsDisk, Only, Between}
use Rattle.kz_log.specs.Requests.{made_by_reset}
use Rattle.kz_spec_machine.specs.Machine.{Pair, exit_ops, tree_after_ops}
use Rattle.kz_exit.specs.declared.faults.ExitFault.{ExitFault}
use Rattle.kz_exit.specs.declared.faults.ExitFault.TheVariants.{Finalised, Unclosed, Behind, Log, Tree, NoMemory}
use Rattle.kz_exit.specs.Disks.{ResetsDisk, MakesOps, TreeDisk}
use Rattle.kz_exit.specs.Faults.{IsLogFault}
use Rattle.kz_exit.specs.Requests.{IsReadLogFault, IsCheckFault, CheckDisk, IsResetFault, ResetDisk, IsMultiFault}
use Rattle.kz_exit.specs.Stops.{pairs_made, rollback_pairs, RollbackLeaves}

-- ---- the moments of a rollback

-- a tree and a log that are those of one of these pairs
abbrev Found : List Pair → Option TreeValue → Option LogValue → Type 0
Found pairs t l = (pair : Pair) × Contains pairs pair × (t ≡ Some pair.tree) × (l ≡ Some pair.log)

before : (t : TreeValue) (l : LogValue) (ft : Option TreeValue) (fl : Option LogValue) → ft ≡ Some t → fl ≡ Some l → Found (rollback_pairs t l) ft fl
before t l ft fl tree log = (record { tree = t; log = l }, (0, omega arith, refl), tree, log)

half : (t : TreeValue) (l : LogValue) (ft : Option TreeValue) (fl : Option LogValue) → ft ≡ Some t → fl ≡ Some (reset l) → Found (rollback_pairs t l) ft fl
half t l ft fl tree log = (record { tree = t; log = reset l }, (1, omega arith, refl), tree, log)

among : (a b : Pair) (l : LogValue) (t : TreeValue) (made : Result TreeValue TreeFault) → made ≡ Ok t → Contains (a ∷ b ∷ pairs_made l made) (record { tree = t; log = l })
among a b l t made is = subst (λ (m : Result TreeValue TreeFault). Contains (a ∷ b ∷ pairs_made l m) (record { tree = t; log = l })) (sym is) (2, omega arith, refl)

whole : (t new : TreeValue) (l : LogValue) (ft : Option TreeValue) (fl : Option LogValue) → tree_after_ops t (exit_ops t) ≡ Ok new → ft ≡ Some new → fl ≡ Some (reset l) → Found (rollback_pairs t l) ft fl
whole t new l ft fl made tree log = (record { tree = new; log = reset l }, among (record { tree = t; log = l }) (record { tree = t; log = reset l }) (reset l) new (tree_after_ops t (exit_ops t)) made, tree, log)

made_reset : (l new : LogValue) → made_by_reset l ≡ Ok new → reset l ≡ new
made_reset l new h = cc

-- the tree is as it was, and the log may be reset
log_found : (t : TreeValue) (l : LogValue) (ft : Option TreeValue) (fl : Option LogValue) → ft ≡ Some t → (fl ≡ Some l) ⊎ ((new : LogValue) × (made_by_reset l ≡ Ok new) × (fl ≡ Some new)) → Found (rollback_pairs t l) ft fl
log_found t l ft fl tree (inl log) = before t l ft fl tree log
log_found t l ft fl tree (inr log) = half t l ft fl tree (log.2 ∙ ap (λ x. Some x) (sym (made_reset l log.0 log.1)))

-- the log is reset, and the tree may be given back
tree_found : (t : TreeValue) (l : LogValue) (ft : Option TreeValue) (fl : Option LogValue) → (ft ≡ Some t) ⊎ ((new : TreeValue) × (tree_after_ops t (exit_ops t) ≡ Ok new) × (ft ≡ Some new)) → fl ≡ Some (reset l) → Found (rollback_pairs t l) ft fl
tree_found t l ft fl (inl tree) log = half t l ft fl tree log
tree_found t l ft fl (inr tree) log = whole t tree.0 l ft fl tree.1 tree.2 log

-- ---- the log isn't read

unread : (f : LogFault) (old new : Disk) → old.down ≡ false → IsReadLogFault f → ReadsDisk (answer_of_log_fault f) old new → ⊥
unread (log_fault.Stale epoch) old new up is h = is
unread log_fault.Failed old new up is h = is
unread (log_fault.Limit number) old new up is h = is
unread log_fault.NoMemory old new up is h = is
unread log_fault.Down old new up is h = let down = sym up ∙ h.0 in absurd (cc)
unread (log_fault.Full length) old new up is h = is

pub checked_stop : (t : TreeValue) (l : LogValue) (said : Option Answer) (f : ExitFault) (tree_disk old new : Disk) (tree_left : Option TreeValue → Type 0) (log_left : Option LogValue → Type 0)
    → IsCheckFault said f → CheckDisk (Err f) old new → RollbackLeaves t l (Err f) tree_disk old tree_left log_left
checked_stop t l said Finalised tree_disk old new tree_left log_left is h = λ tree_up log_up failed. absurd failed
checked_stop t l said (Unclosed path) tree_disk old new tree_left log_left is h = λ tree_up log_up failed. absurd failed
checked_stop t l said (Behind recorded end) tree_disk old new tree_left log_left is h = λ tree_up log_up failed. absurd failed
checked_stop t l said (Log f) tree_disk old new tree_left log_left is h = λ tree_up log_up failed. absurd (unread f old new log_up is h)
checked_stop t l said (Tree f) tree_disk old new tree_left log_left is h = absurd is
checked_stop t l said NoMemory tree_disk old new tree_left log_left is h = λ tree_up log_up failed. absurd failed

-- ---- the log isn't reset

log_between : (f : LogFault) (l : LogValue) (payload : ℕ) (old new : Disk) (left : Option LogValue → Type 0) → old.down ≡ false → IsLogFault None f → ResetsDisk payload (answer_of_log_fault f) old new
    → (f ≡ log_fault.Failed → Between l (made_by_reset l) left) → (new.down ≡ false → Only l left) → Between l (made_by_reset l) left
log_between (log_fault.Stale epoch) l payload old new left up is h stop settled = absurd is
log_between log_fault.Failed l payload old new left up is h stop settled = stop refl
log_between (log_fault.Limit number) l payload old new left up is h stop settled = absurd is
log_between log_fault.NoMemory l payload old new left up is h stop settled = absurd is
log_between log_fault.Down l payload old new left up is h stop settled = absurd (let down = sym up ∙ h.0 in cc)
log_between (log_fault.Full length) l payload old new left up is h stop settled = λ found in_log. inl (settled (ap (λ (d : Disk). d.down) h.3 ∙ up) found in_log)

pub kept_stop : (t : TreeValue) (l : LogValue) (payload : ℕ) (f : ExitFault) (tree_disk old new : Disk) (tree_left : Option TreeValue → Type 0) (log_left : Option LogValue → Type 0)
    → IsResetFault f → ResetDisk payload (Err f) old new → (IsErrOf {T = Unit {0}} (Err f) (Log log_fault.Failed) → Between l (made_by_reset l) log_left)
    → (tree_disk.down ≡ false → Only t tree_left) → (new.down ≡ false → Only l log_left) → RollbackLeaves t l (Err f) tree_disk old tree_left log_left
kept_stop t l payload Finalised tree_disk old new tree_left log_left is h stop tree_settled log_settled = absurd is
kept_stop t l payload (Unclosed path) tree_disk old new tree_left log_left is h stop tree_settled log_settled = absurd is
kept_stop t l payload (Behind recorded end) tree_disk old new tree_left log_left is h stop tree_settled log_settled = absurd is
kept_stop t l payload (Log f) tree_disk old new tree_left log_left is h stop tree_settled log_settled = λ tree_up log_up failed ft fl in_tree in_log.
    log_found t l ft fl (tree_settled tree_up ft in_tree)
    (log_between f l payload old new log_left log_up is h (λ same. stop (ap (λ g. Err (Log g)) same)) log_settled fl in_log)
kept_stop t l payload (Tree f) tree_disk old new tree_left log_left is h stop tree_settled log_settled = absurd is
kept_stop t l payload NoMemory tree_disk old new tree_left log_left is h stop tree_settled log_settled = λ tree_up log_up failed. absurd failed

-- ---- the tree isn't given back

-- a store that is up after a fault other than that of its disk is as it was
made_up : (t : TreeValue) (payload_bytes : TreeValue → TreeChange → ℕ) (ops : List Op) (f : TreeFault) (old new : Disk) → old.down ≡ false → MakesOps t payload_bytes ops (answer_of_tree_fault f) old new → (f ≡ tree_fault.Device) ⊎ (new.down ≡ false)
made_up t payload_bytes [] f old new up h = inr (ap (λ (d : Disk). d.down) h.1 ∙ up)
made_up t payload_bytes (o ∷ os) (tree_fault.Refused index code) old new up h = inr (ap (λ (d : Disk). d.down) h.1 ∙ up)
made_up t payload_bytes (o ∷ os) (tree_fault.Limit index number) old new up h = inr (ap (λ (d : Disk). d.down) h.1 ∙ up)
made_up t payload_bytes (o ∷ os) tree_fault.NoMemory old new up h = inr (ap (λ (d : Disk). d.down) h ∙ up)
made_up t payload_bytes (o ∷ os) tree_fault.Device old new up h = inl refl
made_up t payload_bytes (o ∷ os) tree_fault.Down old new up h = inr (ap (λ (d : Disk). d.down) h.1 ∙ up)
made_up t payload_bytes (o ∷ os) (tree_fault.Full length) old new up h = inr (ap (λ (d : Disk). d.down) h.3 ∙ up)

tree_between : (t : TreeValue) (made : Result TreeValue TreeFault) (f : TreeFault) (new : Disk) (left : Option TreeValue → Type 0) → (f ≡ tree_fault.Device) ⊎ (new.down ≡ false) → (f ≡ tree_fault.Device → Between t made left) → (new.down ≡ false → Only t left) → Between t made left
tree_between t made f new left (inl device) stop settled = stop device
tree_between t made f new left (inr up) stop settled = λ found in_tree. inl (settled up found in_tree)

unsent_stop : (t : TreeValue) (l new_log : LogValue) (payload_bytes : TreeValue → TreeChange → ℕ) (f : ExitFault) (old new log_disk later : Disk) (tree_left : Option TreeValue → Type 0) (log_left : Option LogValue → Type 0)
    → IsMultiFault (tree_after_ops t (exit_ops t)) f → TreeDisk t payload_bytes (exit_ops t) (Err f) old new → (IsErrOf {T = Unit {0}} (Err f) (Tree tree_fault.Device) → Between t (tree_after_ops t (exit_ops t)) tree_left)
    → (new.down ≡ false → Only t tree_left) → new_log ≡ reset l → later.down ≡ false → (later.down ≡ false → Only new_log log_left) → RollbackLeaves t l (Err f) old log_disk tree_left log_left
unsent_stop t l new_log payload_bytes Finalised old new log_disk later tree_left log_left is h stop tree_settled reset_log log_up log_settled = absurd is
unsent_stop t l new_log payload_bytes (Unclosed path) old new log_disk later tree_left log_left is h stop tree_settled reset_log log_up log_settled = absurd is
unsent_stop t l new_log payload_bytes (Behind recorded end) old new log_disk later tree_left log_left is h stop tree_settled reset_log log_up log_settled = absurd is
unsent_stop t l new_log payload_bytes (Log f) old new log_disk later tree_left log_left is h stop tree_settled reset_log log_up log_settled = absurd is
unsent_stop t l new_log payload_bytes (Tree f) old new log_disk later tree_left log_left is h stop tree_settled reset_log log_up log_settled = λ tree_up log_was_up failed ft fl in_tree in_log.
    tree_found t l ft fl
    (tree_between t (tree_after_ops t (exit_ops t)) f new tree_left (made_up t payload_bytes (exit_ops t) f old new tree_up h) (λ same. stop (ap (λ g. Err (Tree g)) same)) tree_settled ft in_tree)
    (log_settled log_up fl in_log ∙ ap (λ x. Some x) reset_log)
unsent_stop t l new_log payload_bytes NoMemory old new log_disk later tree_left log_left is h stop tree_settled reset_log log_up log_settled = λ tree_up log_was_up failed. absurd failed

-- a store that was reset is up
pub reset_up : (payload : ℕ) (old new : Disk) → ResetsDisk payload Done old new → new.down ≡ false
reset_up payload old new h = ap (λ (d : Disk). d.down) h.2 ∙ h.0

pub sent_stop : (t new_tree : TreeValue) (l new_log : LogValue) (payload_bytes : TreeValue → TreeChange → ℕ) (r : Result (Unit {0}) ExitFault) (old new log_disk later : Disk) (tree_left : Option TreeValue → Type 0) (log_left : Option LogValue → Type 0)
    → IfErr r (IsMultiFault (tree_after_ops t (exit_ops t))) → TreeDisk t payload_bytes (exit_ops t) r old new → (IsErrOf r (Tree tree_fault.Device) → Between t (tree_after_ops t (exit_ops t)) tree_left)
    → OnErr r (new_tree ≡ t) → (new.down ≡ false → Only new_tree tree_left) → new_log ≡ reset l → later.down ≡ false → (later.down ≡ false → Only new_log log_left) → RollbackLeaves t l r old log_disk tree_left log_left
sent_stop t new_tree l new_log payload_bytes (Ok told) old new log_disk later tree_left log_left is h stop same tree_settled reset_log log_up log_settled = λ tree_up log_was_up failed. absurd failed
sent_stop t new_tree l new_log payload_bytes (Err f) old new log_disk later tree_left log_left is h stop same tree_settled reset_log log_up log_settled =
    unsent_stop t l new_log payload_bytes f old new log_disk later tree_left log_left is h stop (λ up. subst (λ (x : TreeValue). Only x tree_left) same (tree_settled up)) reset_log log_up log_settled
