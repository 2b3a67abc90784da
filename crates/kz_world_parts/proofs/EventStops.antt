-- What a stop leaves where an event failed.
use Rattle.std.proofs.Common.{◌≡◌, ◌⊎◌, inl, inr, ℕ, ℤ, false, List, [], ◌∷◌, Contains, Option, Some, Result, Ok, Err, IfOk, OnErr, IsErrOf, refl, sym, ap, ◌∙◌, subst}
use Rattle.std.proofs.lemmas.List.Elements.{Contains-append_right}
use Rattle.kz_types.specs.declared.fault.TreeFault.{TreeFault}
use Rattle.kz_types.specs.declared.fault.TreeFault.TheVariants as tree_fault
use Rattle.kz_types.specs.declared.fault.LogFault.{LogFault}
use Rattle.kz_types.specs.declared.fault.LogFault.TheVariants as log_fault
use Rattle.kz_types.specs.declared.machine.Answer.{Answer}
use Rattle.kz_types.specs.declared.machine.Event.{Event}
use Rattle.kz_types.specs.declared.move_fault.MoveFault.{MoveFault}
use Rattle.kz_session.specs.declared.sessions.SessionFault.{SessionFault}
use Rattle.kz_session.specs.declared.sessions.SessionFault.TheVariants as session_fault
use Rattle.kz_spec_data.specs.Tree.{Tree}
use Rattle.kz_spec_data.specs.Log.{Log}
use Rattle.kz_spec_data.specs.Requests.{Disk, IsTaken, ChangesDisk, ReadsDisk, Only, Between, answer_of_tree_fault, answer_of_log_fault}
use Rattle.kz_log.specs.Requests.{IsRefusal as IsLogRefusal}
use Rattle.kz_tree.specs.Requests.{IsRefusal as IsTreeRefusal}
use Rattle.kz_session.specs.Sessions.{answer_of_session_fault, IsRefusal as IsSessionRefusal}
use Rattle.kz_spec_machine.specs.Driver.{Shared, Driver}
use Rattle.kz_spec_machine.specs.Machine.{World, Pair, pair_of}
use Rattle.kz_spec_machine.specs.Failures.{is_failure}
use Rattle.kz_driver.specs.Disks.{Disks}
use Rattle.kz_world_parts.specs.TurnStops.{LeavesOneOf, turn_failure_pairs}
use Rattle.kz_world_parts.proofs.TurnStops.{first_of_all, Settled, leaves_present}
use Rattle.kz_world_parts.specs.declared.faults.EventFault.{EventFault}
use Rattle.kz_world_parts.specs.declared.faults.EventFault.TheVariants as event_fault
use Rattle.kz_world_parts.specs.Faults.{answer_of_fault, after_tree_fault, after_log_fault, after_session_fault}
use Rattle.kz_world_parts.specs.Stores.{OnTreeFault, OnLogFault, ReadsLog, ChangesTree, ChangesLog}
use Rattle.kz_world_parts.specs.EventStops.{FailureLeaves, TurnLeaves, EventLeaves}
use Rattle.kz_world_parts.proofs.Told.{log_disk, tree_disk, session_disk}
use Rattle.kz_world_parts.proofs.Views.{read_keeps}

-- ---- lists of pairs

among_rest : (first pair : Pair) (rest : List Pair) → Contains rest pair → Contains (first ∷ rest) pair
among_rest first pair rest h = Contains-append_right (first ∷ []) rest pair h

-- an event that failed and asked nothing of the disks
pub still_failure : (w new : World) (pairs : List Pair) (r : Result Answer EventFault) (old later : Disks) (tree_left : Option Tree → Type 0) (log_left : Option Log → Type 0)
    → new ≡ w → later ≡ old → Settled new.shared later tree_left log_left → FailureLeaves w pairs r old tree_left log_left
still_failure w new pairs r old later tree_left log_left same disks settled up fails =
    leaves_present w.shared pairs old tree_left log_left (subst (λ (d : Disks). Settled w.shared d tree_left log_left) disks (subst (λ (x : World). Settled x.shared later tree_left log_left) same settled)) up

log_read : (f : EventFault) (old new : Disk) → old.down ≡ false → OnLogFault (λ a. ReadsDisk a old new) f → new ≡ old
log_read (event_fault.Tree f) old new up h = absurd h
log_read (event_fault.Log (log_fault.Stale epoch)) old new up h = absurd h.0
log_read (event_fault.Log log_fault.Failed) old new up h = absurd h.1
log_read (event_fault.Log (log_fault.Limit number)) old new up h = absurd h.0
log_read (event_fault.Log log_fault.NoMemory) old new up h = absurd h.0
log_read (event_fault.Log log_fault.Down) old new up h = h.1.1
log_read (event_fault.Log (log_fault.Full length)) old new up h = absurd h.1
log_read event_fault.NoMemory old new up h = h

-- an event that only read the log
pub read_failure : (w new : World) (pairs : List Pair) (r : Result Answer EventFault) (old later : Disks) (tree_left : Option Tree → Type 0) (log_left : Option Log → Type 0)
    → IfOk r (λ a. is_failure a ≡ false) → OnErr r (new ≡ w) → ReadsLog r old later → Settled new.shared later tree_left log_left → FailureLeaves w pairs r old tree_left log_left
read_failure w new pairs (Ok a) old later tree_left log_left told same disks settled up fails = absurd (let clash = sym fails ∙ told in cc)
read_failure w new pairs (Err f) old later tree_left log_left told same disks settled up fails =
    still_failure w new pairs (Err f) old later tree_left log_left same (read_keeps old later (log_read f old.log later.log up.log disks.0) disks.1) settled up fails

-- ---- one of the stores was asked for a change

log_between : {E : Type 0} (f : EventFault) (l : Log) (made : Result Log E) (payload : ℕ) (old new : Disk) (left : Option Log → Type 0) → old.down ≡ false → OnLogFault (λ a. ChangesDisk (IsTaken made) payload a old new) f
    → (f ≡ event_fault.Log log_fault.Failed → Between l made left) → (new.down ≡ false → Only l left) → Between l made left
log_between (event_fault.Tree f) l made payload old new left up h stop settled = absurd h
log_between (event_fault.Log (log_fault.Stale epoch)) l made payload old new left up h stop settled = absurd h.0
log_between (event_fault.Log log_fault.Failed) l made payload old new left up h stop settled = stop refl
log_between (event_fault.Log (log_fault.Limit number)) l made payload old new left up h stop settled = absurd h.0
log_between (event_fault.Log log_fault.NoMemory) l made payload old new left up h stop settled = absurd h.0
log_between (event_fault.Log log_fault.Down) l made payload old new left up h stop settled = absurd (let down = sym up ∙ h.1.0 in cc)
log_between (event_fault.Log (log_fault.Full length)) l made payload old new left up h stop settled = λ found in_log. inl (settled (ap (λ (d : Disk). d.down) h.1.3 ∙ up) found in_log)
log_between event_fault.NoMemory l made payload old new left up h stop settled = λ found in_log. inl (settled (ap (λ (d : Disk). d.down) h ∙ up) found in_log)

tree_between : {E : Type 0} (f : EventFault) (t : Tree) (made : Result Tree E) (payload : ℕ) (old new : Disk) (left : Option Tree → Type 0) → old.down ≡ false → OnTreeFault (λ a. ChangesDisk (IsTaken made) payload a old new) f
    → (f ≡ event_fault.Tree tree_fault.Device → Between t made left) → (new.down ≡ false → Only t left) → Between t made left
tree_between (event_fault.Log f) t made payload old new left up h stop settled = absurd h
tree_between (event_fault.Tree (tree_fault.Refused index code)) t made payload old new left up h stop settled = absurd h.0
tree_between (event_fault.Tree (tree_fault.Limit index number)) t made payload old new left up h stop settled = absurd h.0
tree_between (event_fault.Tree tree_fault.NoMemory) t made payload old new left up h stop settled = absurd h.0
tree_between (event_fault.Tree tree_fault.Device) t made payload old new left up h stop settled = stop refl
tree_between (event_fault.Tree tree_fault.Down) t made payload old new left up h stop settled = absurd (let down = sym up ∙ h.1.0 in cc)
tree_between (event_fault.Tree (tree_fault.Full length)) t made payload old new left up h stop settled = λ found in_tree. inl (settled (ap (λ (d : Disk). d.down) h.1.3 ∙ up) found in_tree)
tree_between event_fault.NoMemory t made payload old new left up h stop settled = λ found in_tree. inl (settled (ap (λ (d : Disk). d.down) h ∙ up) found in_tree)

-- a tree and a log that are those of one of these pairs
abbrev Found : List Pair → Option Tree → Option Log → Type 0
Found pairs t l = (pair : Pair) × Contains pairs pair × (t ≡ Some pair.tree) × (l ≡ Some pair.log)

log_found : {E : Type 0} (s : Shared) (pairs : List Pair) (made : Result Log E) (t : Option Tree) (l : Option Log) → t ≡ Some s.tree → (l ≡ Some s.log) ⊎ ((m : Log) × (made ≡ Ok m) × (l ≡ Some m)) → ((m : Log) → made ≡ Ok m → Contains pairs (pair_of (record s { log = m })))
    → Found (pair_of s ∷ pairs) t l
log_found s pairs made t l tree (inl log) among = (pair_of s, first_of_all (pair_of s) pairs, tree, log)
log_found s pairs made t l tree (inr log) among = (pair_of (record s { log = log.0 }), among_rest (pair_of s) (pair_of (record s { log = log.0 })) pairs (among log.0 log.1), tree, log.2)

tree_found : {E : Type 0} (s : Shared) (pairs : List Pair) (made : Result Tree E) (t : Option Tree) (l : Option Log) → (t ≡ Some s.tree) ⊎ ((m : Tree) × (made ≡ Ok m) × (t ≡ Some m)) → l ≡ Some s.log → ((m : Tree) → made ≡ Ok m → Contains pairs (pair_of (record s { tree = m })))
    → Found (pair_of s ∷ pairs) t l
tree_found s pairs made t l (inl tree) log among = (pair_of s, first_of_all (pair_of s) pairs, tree, log)
tree_found s pairs made t l (inr tree) log among = (pair_of (record s { tree = tree.0 }), among_rest (pair_of s) (pair_of (record s { tree = tree.0 })) pairs (among tree.0 tree.1), tree.2, log)

left_after : (r : Result Answer EventFault) {new w : World} → new ≡ w → OnErr r (new ≡ w)
left_after (Ok a) same = tt
left_after (Err f) same = same

-- an event that asked the log for a change
pub log_failure : {E : Type 0} (w new : World) (pairs : List Pair) (made : Result Log E) (payload : ℕ) (r : Result Answer EventFault) (old later : Disks) (tree_left : Option Tree → Type 0) (log_left : Option Log → Type 0)
    → IfOk r (λ a. is_failure a ≡ false) → OnErr r (new ≡ w) → ChangesLog made payload r old later → Settled new.shared later tree_left log_left → (r ≡ Err (event_fault.Log log_fault.Failed) → Between w.shared.log made log_left)
    → ((m : Log) → made ≡ Ok m → Contains pairs (pair_of (record w.shared { log = m }))) → FailureLeaves w pairs r old tree_left log_left
log_failure w new pairs made payload (Ok a) old later tree_left log_left told same disks settled stop among up fails = absurd (let clash = sym fails ∙ told in cc)
log_failure w new pairs made payload (Err f) old later tree_left log_left told same disks settled stop among up fails = λ t l in_tree in_log.
    let here : Settled w.shared later tree_left log_left = subst (λ (x : World). Settled x.shared later tree_left log_left) same settled in
    log_found w.shared pairs made t l (here.tree (ap (λ (d : Disk). d.down) disks.1 ∙ up.tree) t in_tree)
    (log_between f w.shared.log made payload old.log later.log log_left up.log disks.0 (λ is. stop (ap (λ g. Err g) is)) here.log l in_log) among

-- an event that asked the tree for one
pub tree_failure : {E : Type 0} (w new : World) (pairs : List Pair) (made : Result Tree E) (payload : ℕ) (r : Result Answer EventFault) (old later : Disks) (tree_left : Option Tree → Type 0) (log_left : Option Log → Type 0)
    → IfOk r (λ a. is_failure a ≡ false) → OnErr r (new ≡ w) → ChangesTree made payload r old later → Settled new.shared later tree_left log_left → (r ≡ Err (event_fault.Tree tree_fault.Device) → Between w.shared.tree made tree_left)
    → ((m : Tree) → made ≡ Ok m → Contains pairs (pair_of (record w.shared { tree = m }))) → FailureLeaves w pairs r old tree_left log_left
tree_failure w new pairs made payload (Ok a) old later tree_left log_left told same disks settled stop among up fails = absurd (let clash = sym fails ∙ told in cc)
tree_failure w new pairs made payload (Err f) old later tree_left log_left told same disks settled stop among up fails = λ t l in_tree in_log.
    let here : Settled w.shared later tree_left log_left = subst (λ (x : World). Settled x.shared later tree_left log_left) same settled in
    tree_found w.shared pairs made t l (tree_between f w.shared.tree made payload old.tree later.tree tree_left up.tree disks.0 (λ is. stop (ap (λ g. Err g) is)) here.tree t in_tree)
    (here.log (ap (λ (d : Disk). d.down) disks.1 ∙ up.log) l in_log) among

-- ---- by the store's own fault

log_no_failure : (f : LogFault) → IfOk (after_log_fault f) (λ a. is_failure a ≡ false)
log_no_failure (log_fault.Stale epoch) = refl
log_no_failure log_fault.Failed = tt
log_no_failure (log_fault.Limit number) = refl
log_no_failure log_fault.NoMemory = tt
log_no_failure log_fault.Down = tt
log_no_failure (log_fault.Full length) = tt

log_failed : (f : LogFault) → after_log_fault f ≡ Err (event_fault.Log log_fault.Failed) → f ≡ log_fault.Failed
log_failed (log_fault.Stale epoch) h = absurd (cc)
log_failed log_fault.Failed h = refl
log_failed (log_fault.Limit number) h = absurd (cc)
log_failed log_fault.NoMemory h = absurd (cc)
log_failed log_fault.Down h = absurd (cc)
log_failed (log_fault.Full length) h = absurd (cc)

-- the log didn't make the change
pub log_fault_leaves : (A : Type 0) (w new : World) (pairs : List Pair) (made : Result Log LogFault) (payload : ℕ) (f : LogFault) (old later : Disks) (tree_left : Option Tree → Type 0) (log_left : Option Log → Type 0)
    → new ≡ w → IsLogRefusal made f → ChangesDisk (IsTaken made) payload (answer_of_log_fault f) old.log later.log → later.tree ≡ old.tree → Settled new.shared later tree_left log_left
    → (IsErrOf {T = A} (Err f) log_fault.Failed → Between w.shared.log made log_left) → ((m : Log) → made ≡ Ok m → Contains pairs (pair_of (record w.shared { log = m }))) → FailureLeaves w pairs (after_log_fault f) old tree_left log_left
log_fault_leaves A w new pairs made payload f old later tree_left log_left same refused disk other settled stop among =
    log_failure w new pairs made payload (after_log_fault f) old later tree_left log_left (log_no_failure f) (left_after (after_log_fault f) same) (log_disk made f payload old.log later.log refused disk, other) settled (λ is. stop (ap (λ g. Err g) (log_failed f is))) among

tree_no_failure : (f : TreeFault) → IfOk (after_tree_fault f) (λ a. is_failure a ≡ false)
tree_no_failure (tree_fault.Refused index code) = refl
tree_no_failure (tree_fault.Limit index number) = refl
tree_no_failure tree_fault.NoMemory = tt
tree_no_failure tree_fault.Device = tt
tree_no_failure tree_fault.Down = tt
tree_no_failure (tree_fault.Full length) = tt

tree_failed : (f : TreeFault) → after_tree_fault f ≡ Err (event_fault.Tree tree_fault.Device) → f ≡ tree_fault.Device
tree_failed (tree_fault.Refused index code) h = absurd (cc)
tree_failed (tree_fault.Limit index number) h = absurd (cc)
tree_failed tree_fault.NoMemory h = absurd (cc)
tree_failed tree_fault.Device h = refl
tree_failed tree_fault.Down h = absurd (cc)
tree_failed (tree_fault.Full length) h = absurd (cc)

-- the tree didn't make the multi
pub tree_fault_leaves : (A : Type 0) (w new : World) (pairs : List Pair) (made : Result Tree TreeFault) (payload : ℕ) (f : TreeFault) (old later : Disks) (tree_left : Option Tree → Type 0) (log_left : Option Log → Type 0)
    → new ≡ w → IsTreeRefusal made f → ChangesDisk (IsTaken made) payload (answer_of_tree_fault f) old.tree later.tree → later.log ≡ old.log → Settled new.shared later tree_left log_left
    → (IsErrOf {T = A} (Err f) tree_fault.Device → Between w.shared.tree made tree_left) → ((m : Tree) → made ≡ Ok m → Contains pairs (pair_of (record w.shared { tree = m }))) → FailureLeaves w pairs (after_tree_fault f) old tree_left log_left
tree_fault_leaves A w new pairs made payload f old later tree_left log_left same refused disk other settled stop among =
    tree_failure w new pairs made payload (after_tree_fault f) old later tree_left log_left (tree_no_failure f) (left_after (after_tree_fault f) same) (tree_disk made f payload old.tree later.tree refused disk, other) settled (λ is. stop (ap (λ g. Err g) (tree_failed f is))) among

session_no_failure : (f : SessionFault) → IfOk (after_session_fault f) (λ a. is_failure a ≡ false)
session_no_failure session_fault.Known = refl
session_no_failure session_fault.Unknown = refl
session_no_failure session_fault.NoMemory = tt
session_no_failure session_fault.Device = tt
session_no_failure session_fault.Down = tt
session_no_failure (session_fault.Full length) = tt
session_no_failure (session_fault.Limit number) = refl

session_failed : (f : SessionFault) → after_session_fault f ≡ Err (event_fault.Tree tree_fault.Device) → f ≡ session_fault.Device
session_failed session_fault.Known h = absurd (cc)
session_failed session_fault.Unknown h = absurd (cc)
session_failed session_fault.NoMemory h = absurd (cc)
session_failed session_fault.Device h = refl
session_failed session_fault.Down h = absurd (cc)
session_failed (session_fault.Full length) h = absurd (cc)
session_failed (session_fault.Limit number) h = absurd (cc)

-- it didn't begin or end the session
pub session_fault_leaves : (A : Type 0) (w new : World) (pairs : List Pair) (made : Result Tree MoveFault) (payload : ℕ) (f : SessionFault) (old later : Disks) (tree_left : Option Tree → Type 0) (log_left : Option Log → Type 0)
    → new ≡ w → IsSessionRefusal made f → ChangesDisk (IsTaken made) payload (answer_of_session_fault f) old.tree later.tree → later.log ≡ old.log → Settled new.shared later tree_left log_left
    → (IsErrOf {T = A} (Err f) session_fault.Device → Between w.shared.tree made tree_left) → ((m : Tree) → made ≡ Ok m → Contains pairs (pair_of (record w.shared { tree = m }))) → FailureLeaves w pairs (after_session_fault f) old tree_left log_left
session_fault_leaves A w new pairs made payload f old later tree_left log_left same refused disk other settled stop among =
    tree_failure w new pairs made payload (after_session_fault f) old later tree_left log_left (session_no_failure f) (left_after (after_session_fault f) same) (session_disk made f payload old.tree later.tree refused disk, other) settled (λ is. stop (ap (λ g. Err g) (session_failed f is))) among

-- ---- a part of an event, of whose world and disks another part was told

-- what a later part of an event leaves, where those before it only read
pub later_leaves : (w mid : World) (pairs more : List Pair) (r : Result Answer EventFault) (old between : Disks) (tree_left : Option Tree → Type 0) (log_left : Option Log → Type 0) → mid ≡ w → between ≡ old → pairs ≡ more → FailureLeaves mid pairs r between tree_left log_left → FailureLeaves w more r old tree_left log_left
later_leaves w mid pairs more r old between tree_left log_left same disks is h =
    subst (λ (ps : List Pair). FailureLeaves w ps r old tree_left log_left) is
    (subst (λ (d : Disks). FailureLeaves w pairs r d tree_left log_left) disks
    (subst (λ (x : World). FailureLeaves x pairs r between tree_left log_left) same h))

-- the same of a turn
pub turn_later : (w mid : World) (now at : ℤ) (d : Driver) (r : Result Answer EventFault) (old between : Disks) (tree_left : Option Tree → Type 0) (log_left : Option Log → Type 0) → mid ≡ w → between ≡ old → at ≡ now → TurnLeaves mid at d r between tree_left log_left → TurnLeaves w now d r old tree_left log_left
turn_later w mid now at d r old between tree_left log_left same disks is h =
    subst (λ x. TurnLeaves w x d r old tree_left log_left) is
    (subst (λ (b : Disks). TurnLeaves w at d r b tree_left log_left) disks
    (subst (λ (x : World). TurnLeaves x at d r between tree_left log_left) same h))

-- a turn that failed by itself made no step
unmade_pairs : (w : World) (now : ℤ) (d : Driver) (f : EventFault) → turn_failure_pairs w now (answer_of_fault f) (Some d) ≡ pair_of w.shared ∷ []
unmade_pairs w now d (event_fault.Tree f) = refl
unmade_pairs w now d (event_fault.Log f) = refl
unmade_pairs w now d event_fault.NoMemory = refl

pub unmade_turn : (w : World) (now : ℤ) (d : Driver) (f : EventFault) (old : Disks) (tree_left : Option Tree → Type 0) (log_left : Option Log → Type 0) → FailureLeaves w [] (Err f) old tree_left log_left → TurnLeaves w now d (Err f) old tree_left log_left
unmade_turn w now d f old tree_left log_left h up fails = subst (λ (ps : List Pair). LeavesOneOf ps tree_left log_left) (sym (unmade_pairs w now d f)) (h up fails)

-- the same of an event
pub event_later : (w mid : World) (e f : Event) (r : Result Answer EventFault) (old between : Disks) (tree_left : Option Tree → Type 0) (log_left : Option Log → Type 0) → mid ≡ w → between ≡ old → e ≡ f → EventLeaves mid e r between tree_left log_left → EventLeaves w f r old tree_left log_left
event_later w mid e f r old between tree_left log_left same disks is h =
    subst (λ (x : Event). EventLeaves w x r old tree_left log_left) is
    (subst (λ (d : Disks). EventLeaves w e r d tree_left log_left) disks
    (subst (λ (x : World). EventLeaves x e r between tree_left log_left) same h))
