-- What a rollback makes of a world.
use Rattle.std.proofs.Common.{◌≡◌, ◌⊎◌, inl, inr, ℕ, zero, suc, Bool, true, false, cond, ℤ, List, [], ◌∷◌, length, Contains, Option, Some, None, Result, Ok, Err, IfOk, IfErr, OnOk, refl, sym, ap, ◌∙◌, subst, arith}
use Rattle.std.specs.Prelude.{int_lt, option_map, ⊤}
use Rattle.kz_types.specs.declared.fault.TreeFault.{TreeFault}
use Rattle.kz_types.specs.declared.fault.TreeFault.TheVariants as tree_fault
use Rattle.kz_types.specs.declared.fault.LogFault.TheVariants as log_fault
use Rattle.kz_types.specs.declared.machine.Answer.{Answer}
use Rattle.kz_types.specs.declared.machine.Answer.TheVariants as answer
use Rattle.kz_types.specs.declared.machine.Event.{Event}
use Rattle.kz_types.specs.declared.machine.Event.TheVariants as event
use Rattle.kz_types.specs.declared.plan.Plan.{Plan}
use Rattle.kz_types.specs.declared.tree.Op.{Op}
use Rattle.kz_spec_data.specs.Tree.{Tree, multi}
use Rattle.kz_spec_data.specs.Log.{Log, View, IsViewOf, reset}
use Rattle.kz_spec_data.specs.Requests.{Disk, TreeChange, Done}
use Rattle.kz_spec_machine.specs.Driver.{Driver, least, less_of}
use Rattle.kz_spec_machine.specs.Machine.{World, next, running_ids, first_of, unless_refused, Pair, pair_of, pairs_unless, event_pairs, tree_pairs, exit_refusal, rollback_refusal, exit_ops, tree_after_ops, reset_world, given_back, exit_pairs, is_rollback}
use Rattle.kz_spec_machine.specs.Failures.{IsLeft}
use Rattle.kz_world_parts.specs.Disks.{Disks}
use Rattle.kz_world_parts.specs.TurnStops.{AreUp, LeavesOneOf}
use Rattle.kz_world_parts.proofs.TurnStops.{Settled}
use Rattle.kz_exit.specs.declared.faults.ExitFault.{ExitFault}
use Rattle.kz_exit.specs.declared.faults.ExitFault.TheVariants as exit
use Rattle.kz_exit.specs.Disks.{ResetsDisk, LogDisk, TreeDisk}
use Rattle.kz_exit.specs.Rollbacks.{IsTakenBack, IsRefused, IsLeft as IsExitLeft}
use Rattle.kz_exit.specs.Stops.{pairs_made, rollback_pairs, RollbackLeaves}
use Rattle.kz_world_parts.specs.Faults.{answer_of_fault, after_exit}
use Rattle.kz_world_parts.specs.EventStops.{EventLeaves}
use Rattle.kz_world_parts.specs.Worlds.{AreViews, IsKept, IsDone}

-- the world with this tree and this log
abbrev pub with_stores : World → Tree → Log → World
with_stores w t l = record { shared = record { tree = t; log = l; declared = w.shared.declared }; drivers = w.drivers }

-- an event that is a rollback
pub rollback_is : (e : Event) → is_rollback e ≡ true → event.Rollback ≡ e
rollback_is event.Rollback h = refl
rollback_is e h = absurd (cc)

-- ---- what is answered

-- where no controller runs, the tree and the log alone may refuse it
exit_alone : (w : World) (r : Option Answer) → least (running_ids w.drivers) ≡ None → exit_refusal w.shared.tree w.shared.log ≡ r → rollback_refusal w ≡ r
exit_alone w r none is = ap (λ o. first_of (option_map (λ id. answer.Running id) o) (exit_refusal w.shared.tree w.shared.log)) none ∙ is

by_exit : (w : World) (r : Option Answer) → least (running_ids w.drivers) ≡ None → exit_refusal w.shared.tree w.shared.log ≡ r → next w event.Rollback ≡ unless_refused w r (given_back (reset_world w) (tree_after_ops w.shared.tree (exit_ops w.shared.tree)))
unfolding next
by_exit w r none is = ap (λ a. unless_refused w a (given_back (reset_world w) (tree_after_ops w.shared.tree (exit_ops w.shared.tree)))) (exit_alone w r none is)

-- a controller runs
pub running_refused : (w : World) (id : ℤ) → least (running_ids w.drivers) ≡ Some id → next w event.Rollback ≡ (w, answer.Running id)
unfolding next
running_refused w id is =
    ap (λ o. unless_refused w (first_of (option_map (λ i. answer.Running i) o) (exit_refusal w.shared.tree w.shared.log)) (given_back (reset_world w) (tree_after_ops w.shared.tree (exit_ops w.shared.tree)))) is

taken_back : (w : World) (t : Tree) (l : Log) → least (running_ids w.drivers) ≡ None → IsTakenBack w.shared.tree w.shared.log t l → next w event.Rollback ≡ (with_stores w t l, answer.RolledBack)
taken_back w t l none h = by_exit w None none h.taken ∙ ap (given_back (reset_world w)) h.tree ∙ ap (λ m. (with_stores w t m, answer.RolledBack)) (sym h.log)

same_stores : (w : World) (t : Tree) (l : Log) → t ≡ w.shared.tree → l ≡ w.shared.log → with_stores w t l ≡ w
same_stores w t l tree log = ap (λ x. with_stores w x l) tree ∙ ap (with_stores w w.shared.tree) log

log_reset : (w : World) (t : Tree) (l : Log) → t ≡ w.shared.tree → l ≡ reset w.shared.log → with_stores w t l ≡ reset_world w
log_reset w t l tree log = ap (λ x. with_stores w x l) tree ∙ ap (with_stores w w.shared.tree) log

refused : (w : World) (t : Tree) (l : Log) (r : Answer) → least (running_ids w.drivers) ≡ None → IsRefused r w.shared.tree w.shared.log t l → next w event.Rollback ≡ (with_stores w t l, r)
refused w t l r none h = by_exit w (Some r) none h.refused ∙ ap (λ (x : World). (x, r)) (sym (same_stores w t l h.tree h.log))

-- the tree refuses what is asked of it
tree_refused : (w : World) (t : Tree) (l : Log) (f : TreeFault) → least (running_ids w.drivers) ≡ None → exit_refusal w.shared.tree w.shared.log ≡ None → tree_after_ops w.shared.tree (exit_ops w.shared.tree) ≡ Err f → t ≡ w.shared.tree → l ≡ reset w.shared.log
    → next w event.Rollback ≡ (with_stores w t l, answer.TreeFailed f)
tree_refused w t l f none taken made tree log = by_exit w None none taken ∙ ap (given_back (reset_world w)) made ∙ ap (λ (x : World). (x, answer.TreeFailed f)) (sym (log_reset w t l tree log))

-- an answer of a rollback
pub exit_done : (r : Result ⊤ ExitFault) (w : World) (t : Tree) (l : Log) → least (running_ids w.drivers) ≡ None → OnOk r (IsTakenBack w.shared.tree w.shared.log t l) → IfErr r (IsExitLeft w.shared.tree w.shared.log t l)
    → IfOk (after_exit r) (IsDone w event.Rollback (with_stores w t l))
exit_done (Ok told) w t l none ok err = (taken_back w t l none ok, refl)
exit_done (Err exit.Finalised) w t l none ok err = (refused w t l answer.Finalised none err, refl)
exit_done (Err (exit.Unclosed path)) w t l none ok err = (refused w t l (answer.Unclosed path) none err, refl)
exit_done (Err (exit.Behind recorded end)) w t l none ok err = (refused w t l (answer.Behind recorded end) none err, refl)
exit_done (Err (exit.Log (log_fault.Stale epoch))) w t l none ok err = absurd err.0
exit_done (Err (exit.Log log_fault.Failed)) w t l none ok err = tt
exit_done (Err (exit.Log (log_fault.Limit number))) w t l none ok err = absurd err.0
exit_done (Err (exit.Log log_fault.NoMemory)) w t l none ok err = tt
exit_done (Err (exit.Log log_fault.Down)) w t l none ok err = tt
exit_done (Err (exit.Log (log_fault.Full length))) w t l none ok err = tt
exit_done (Err (exit.Tree (tree_fault.Refused index code))) w t l none ok err = (tree_refused w t l (tree_fault.Refused index code) none err.0 err.1 err.2 err.3, refl)
exit_done (Err (exit.Tree (tree_fault.Limit index number))) w t l none ok err = (tree_refused w t l (tree_fault.Limit index number) none err.0 err.1 err.2 err.3, refl)
exit_done (Err (exit.Tree tree_fault.NoMemory)) w t l none ok err = tt
exit_done (Err (exit.Tree tree_fault.Device)) w t l none ok err = tt
exit_done (Err (exit.Tree tree_fault.Down)) w t l none ok err = tt
exit_done (Err (exit.Tree (tree_fault.Full length))) w t l none ok err = tt
exit_done (Err exit.NoMemory) w t l none ok err = tt

-- ---- what a fault leaves

-- the tree failed
tree_failed : (w : World) (t : Tree) (l : Log) (f : TreeFault) → least (running_ids w.drivers) ≡ None → IsExitLeft w.shared.tree w.shared.log t l (exit.Tree f) → (rollback_refusal w ≡ None) × (with_stores w t l ≡ reset_world w)
tree_failed w t l f none err = (exit_alone w None none err.0, log_reset w t l err.2 err.3)

-- memory ran out
memory_left : (w : World) (t : Tree) (l : Log) → least (running_ids w.drivers) ≡ None → t ≡ w.shared.tree → (l ≡ w.shared.log) ⊎ ((exit_refusal w.shared.tree w.shared.log ≡ None) × (l ≡ reset w.shared.log))
    → (with_stores w t l ≡ w) ⊎ ((rollback_refusal w ≡ None) × (with_stores w t l ≡ reset_world w))
memory_left w t l none tree (inl log) = inl (same_stores w t l tree log)
memory_left w t l none tree (inr log) = inr (exit_alone w None none log.0, log_reset w t l tree log.1)

-- the fault of a rollback
pub exit_left : (r : Result ⊤ ExitFault) (w : World) (t : Tree) (l : Log) → least (running_ids w.drivers) ≡ None → IfErr r (IsExitLeft w.shared.tree w.shared.log t l)
    → IfErr (after_exit r) (λ f. IsLeft w event.Rollback (answer_of_fault f) (with_stores w t l))
exit_left (Ok told) w t l none err = tt
exit_left (Err exit.Finalised) w t l none err = tt
exit_left (Err (exit.Unclosed path)) w t l none err = tt
exit_left (Err (exit.Behind recorded end)) w t l none err = tt
exit_left (Err (exit.Log (log_fault.Stale epoch))) w t l none err = tt
exit_left (Err (exit.Log log_fault.Failed)) w t l none err = (exit_alone w None none err.0, same_stores w t l err.1 err.2)
exit_left (Err (exit.Log (log_fault.Limit number))) w t l none err = tt
exit_left (Err (exit.Log log_fault.NoMemory)) w t l none err = absurd err.0
exit_left (Err (exit.Log log_fault.Down)) w t l none err = same_stores w t l err.1 err.2
exit_left (Err (exit.Log (log_fault.Full length))) w t l none err = (exit_alone w None none err.0, same_stores w t l err.1 err.2)
exit_left (Err (exit.Tree (tree_fault.Refused index code))) w t l none err = tt
exit_left (Err (exit.Tree (tree_fault.Limit index number))) w t l none err = tt
exit_left (Err (exit.Tree tree_fault.NoMemory)) w t l none err = tree_failed w t l tree_fault.NoMemory none err
exit_left (Err (exit.Tree tree_fault.Device)) w t l none err = tree_failed w t l tree_fault.Device none err
exit_left (Err (exit.Tree tree_fault.Down)) w t l none err = tree_failed w t l tree_fault.Down none err
exit_left (Err (exit.Tree (tree_fault.Full length))) w t l none err = tree_failed w t l (tree_fault.Full length) none err
exit_left (Err exit.NoMemory) w t l none err = memory_left w t l none err.0 err.1

-- ---- what a stop leaves

-- the pairs of a rollback that nothing refuses
made_pairs : (w : World) (made : Result Tree TreeFault) → pairs_made (reset w.shared.log) made ≡ tree_pairs (reset_world w) made
made_pairs w (Ok t) = refl
made_pairs w (Err f) = refl

-- one of three, of which the last two are the same
one_of_two : (a b pair : Pair) → Contains (a ∷ b ∷ b ∷ []) pair → Contains (a ∷ b ∷ []) pair
one_of_two a b pair (zero, h, is) = (0, omega arith, is)
one_of_two a b pair (suc zero, h, is) = (1, omega arith, is)
one_of_two a b pair (suc (suc zero), h, is) = (1, omega arith, is)
one_of_two a b pair (suc (suc (suc n)), h, is) = absurd (omega (arith, h))

among : (w : World) (ops : List Op) (pair : Pair) → Contains (pair_of w.shared ∷ pair_of (reset_world w).shared ∷ pairs_made (reset w.shared.log) (tree_after_ops w.shared.tree ops)) pair
    → Contains (pair_of w.shared ∷ pair_of (reset_world w).shared ∷ exit_pairs (reset_world w) ops) pair
among w [] pair h = one_of_two (pair_of w.shared) (pair_of (reset_world w).shared) pair h
among w (o ∷ os) pair h = subst (λ (ps : List Pair). Contains (pair_of w.shared ∷ pair_of (reset_world w).shared ∷ ps) pair) (made_pairs w (multi w.shared.tree (o ∷ os))) h

untaken : (w : World) → rollback_refusal w ≡ None → pair_of (reset_world w).shared ∷ exit_pairs (reset_world w) (exit_ops w.shared.tree) ≡ event_pairs w event.Rollback
unfolding event_pairs
untaken w taken = ap (λ a. pairs_unless a (pair_of (reset_world w).shared ∷ exit_pairs (reset_world w) (exit_ops w.shared.tree))) (sym taken)

-- a store failed
store_failed : (w : World) (tree_left : Option Tree → Type 0) (log_left : Option Log → Type 0) → rollback_refusal w ≡ None → LeavesOneOf (rollback_pairs w.shared.tree w.shared.log) tree_left log_left
    → LeavesOneOf (pair_of w.shared ∷ event_pairs w event.Rollback) tree_left log_left
store_failed w tree_left log_left taken leaves t l in_tree in_log =
    let found = leaves t l in_tree in_log in
    (found.0, subst (λ (ps : List Pair). Contains (pair_of w.shared ∷ ps) found.0) (untaken w taken) (among w (exit_ops w.shared.tree) found.0 found.1), found.2, found.3)

-- memory ran out while both stores were up
before_reset : (w : World) (tree_left : Option Tree → Type 0) (log_left : Option Log → Type 0) → ((found : Option Tree) → tree_left found → found ≡ Some w.shared.tree) → ((found : Option Log) → log_left found → found ≡ Some w.shared.log)
    → LeavesOneOf (pair_of w.shared ∷ event_pairs w event.Rollback) tree_left log_left
before_reset w tree_left log_left tree log t l in_tree in_log = (pair_of w.shared, (0, omega arith, refl), tree t in_tree, log l in_log)

after_reset : (w : World) (tree_left : Option Tree → Type 0) (log_left : Option Log → Type 0) → rollback_refusal w ≡ None → ((found : Option Tree) → tree_left found → found ≡ Some w.shared.tree) → ((found : Option Log) → log_left found → found ≡ Some (reset w.shared.log))
    → LeavesOneOf (pair_of w.shared ∷ event_pairs w event.Rollback) tree_left log_left
after_reset w tree_left log_left taken tree log t l in_tree in_log =
    let pair = pair_of (reset_world w).shared in
    (pair, subst (λ (ps : List Pair). Contains (pair_of w.shared ∷ ps) pair) (untaken w taken) (1, omega arith, refl), tree t in_tree, log l in_log)

still_up : (payload : ℕ) (old new : Disk) → old.down ≡ false → (new ≡ old) ⊎ ResetsDisk payload Done old new → new.down ≡ false
still_up payload old new up (inl same) = ap (λ (d : Disk). d.down) same ∙ up
still_up payload old new up (inr made) = ap (λ (d : Disk). d.down) made.2 ∙ up

memory_stop : (w : World) (t : Tree) (l : Log) (payload : ℕ) (old later : Disks) (tree_left : Option Tree → Type 0) (log_left : Option Log → Type 0) → least (running_ids w.drivers) ≡ None → t ≡ w.shared.tree
    → (l ≡ w.shared.log) ⊎ ((exit_refusal w.shared.tree w.shared.log ≡ None) × (l ≡ reset w.shared.log)) → (later.log ≡ old.log) ⊎ ResetsDisk payload Done old.log later.log → later.tree ≡ old.tree → Settled (with_stores w t l).shared later tree_left log_left → AreUp old
    → LeavesOneOf (pair_of w.shared ∷ event_pairs w event.Rollback) tree_left log_left
memory_stop w t l payload old later tree_left log_left none tree (inl log) log_disk tree_disk settled up =
    before_reset w tree_left log_left
    (λ found in_tree. settled.tree (ap (λ (d : Disk). d.down) tree_disk ∙ up.tree) found in_tree ∙ ap (λ (x : Tree). Some x) tree)
    (λ found in_log. settled.log (still_up payload old.log later.log up.log log_disk) found in_log ∙ ap (λ (x : Log). Some x) log)
memory_stop w t l payload old later tree_left log_left none tree (inr log) log_disk tree_disk settled up =
    after_reset w tree_left log_left (exit_alone w None none log.0)
    (λ found in_tree. settled.tree (ap (λ (d : Disk). d.down) tree_disk ∙ up.tree) found in_tree ∙ ap (λ (x : Tree). Some x) tree)
    (λ found in_log. settled.log (still_up payload old.log later.log up.log log_disk) found in_log ∙ ap (λ (x : Log). Some x) log.1)

-- what a stop leaves after a rollback
pub exit_stop : (r : Result ⊤ ExitFault) (w : World) (t : Tree) (l : Log) (payload : ℕ) (payload_bytes : Tree → TreeChange → ℕ) (old later : Disks) (tree_left : Option Tree → Type 0) (log_left : Option Log → Type 0) → least (running_ids w.drivers) ≡ None
    → IfErr r (IsExitLeft w.shared.tree w.shared.log t l) → LogDisk payload r old.log later.log → TreeDisk w.shared.tree payload_bytes (exit_ops w.shared.tree) r old.tree later.tree → RollbackLeaves w.shared.tree w.shared.log r old.tree old.log tree_left log_left
    → Settled (with_stores w t l).shared later tree_left log_left → EventLeaves w event.Rollback (after_exit r) old tree_left log_left
exit_stop (Ok told) w t l payload payload_bytes old later tree_left log_left none err log_disk tree_disk stop settled up fails = absurd (cc)
exit_stop (Err exit.Finalised) w t l payload payload_bytes old later tree_left log_left none err log_disk tree_disk stop settled up fails = absurd (cc)
exit_stop (Err (exit.Unclosed path)) w t l payload payload_bytes old later tree_left log_left none err log_disk tree_disk stop settled up fails = absurd (cc)
exit_stop (Err (exit.Behind recorded end)) w t l payload payload_bytes old later tree_left log_left none err log_disk tree_disk stop settled up fails = absurd (cc)
exit_stop (Err (exit.Log (log_fault.Stale epoch))) w t l payload payload_bytes old later tree_left log_left none err log_disk tree_disk stop settled up fails = absurd err.0
exit_stop (Err (exit.Log log_fault.Failed)) w t l payload payload_bytes old later tree_left log_left none err log_disk tree_disk stop settled up fails = store_failed w tree_left log_left (exit_alone w None none err.0) (stop up.tree up.log tt)
exit_stop (Err (exit.Log (log_fault.Limit number))) w t l payload payload_bytes old later tree_left log_left none err log_disk tree_disk stop settled up fails = absurd err.0
exit_stop (Err (exit.Log log_fault.NoMemory)) w t l payload payload_bytes old later tree_left log_left none err log_disk tree_disk stop settled up fails = absurd err.0
exit_stop (Err (exit.Log log_fault.Down)) w t l payload payload_bytes old later tree_left log_left none err log_disk tree_disk stop settled up fails = absurd (let down = sym up.log ∙ log_disk.0 in cc)
exit_stop (Err (exit.Log (log_fault.Full length))) w t l payload payload_bytes old later tree_left log_left none err log_disk tree_disk stop settled up fails = store_failed w tree_left log_left (exit_alone w None none err.0) (stop up.tree up.log tt)
exit_stop (Err (exit.Tree (tree_fault.Refused index code))) w t l payload payload_bytes old later tree_left log_left none err log_disk tree_disk stop settled up fails = absurd (cc)
exit_stop (Err (exit.Tree (tree_fault.Limit index number))) w t l payload payload_bytes old later tree_left log_left none err log_disk tree_disk stop settled up fails = absurd (cc)
exit_stop (Err (exit.Tree f)) w t l payload payload_bytes old later tree_left log_left none err log_disk tree_disk stop settled up fails = store_failed w tree_left log_left (exit_alone w None none err.0) (stop up.tree up.log tt)
exit_stop (Err exit.NoMemory) w t l payload payload_bytes old later tree_left log_left none err log_disk tree_disk stop settled up fails = memory_stop w t l payload old later tree_left log_left none err.0 err.1 log_disk tree_disk settled up

-- ---- what a world knows of the log

some_less : (i j : ℤ) (b : Bool) → cond b (Some j) (Some i) ≡ None → ⊥
some_less i j true h = absurd (cc)
some_less i j false h = absurd (cc)

some_least : (i : ℤ) (o : Option ℤ) → less_of i o ≡ None → ⊥
some_least i None h = absurd (cc)
some_least i (Some j) h = some_less i j (int_lt j i) h

none_views : (l : Log) (ds : List Driver) → least (running_ids ds) ≡ None → AreViews l ds
none_views l [] none = tt
none_views l (d ∷ ds) none = absurd (some_least d.id (least (running_ids ds)) none)

-- it knows the log from its beginning on, and no driver knows of it
pub kept_anew : (tree log new_tree new_log : Plan) (l m : Log) (own new : View) (ds : List Driver) → new_tree ≡ tree → new_log ≡ log → least (running_ids ds) ≡ None → IsViewOf m new → IsKept tree log l own ds → IsKept new_tree new_log m new ds
kept_anew tree log new_tree new_log l m own new ds tree_is log_is none view h =
    record { tree_delivers = tree_is ∙ h.tree_delivers; log_delivers = log_is ∙ h.log_delivers; distinct = h.distinct; own = view; each = none_views m ds none }
