-- What a based world says of each driver, after an event.
use Rattle.std.proofs.Common.{◌≡◌, inl, inr, ℕ, ℤ, pos, ◌+ℤ◌, ◌≤ℤ◌, Bool, true, false, not, ◌&&◌, ◌||◌, cond, if◌then◌else◌, List, [], ◌∷◌, map, filter, Option, Some, None, option_map, is_some, All, Ordering, Less, Equal, Greater, is_eq, refl, sym, ap, ◌∙◌, subst, arith}
use Rattle.std.specs.Prelude.{Result, Ok, Err}
use Rattle.std.specs.Str.{bytes_eq}
use Rattle.std.specs.Ordering.{int_eq}
use Rattle.std.specs.List.{find}
use Rattle.std.proofs.lemmas.Int.{ints}
use Rattle.std.proofs.lemmas.List.Elements.{All-nil, All-cons, All-head, All-tail}
use Rattle.kz_types.specs.declared.tree.Row.{Row}
use Rattle.kz_types.specs.declared.tree.Op.{Op}
use Rattle.kz_types.specs.declared.tree.Op.TheVariants.{Create, Set, Delete, Check}
use Rattle.kz_types.specs.declared.driver.ClaimSeen.{ClaimSeen}
use Rattle.kz_types.specs.declared.driver.Stage.{Stage}
use Rattle.kz_types.specs.declared.driver.Stage.TheVariants as stage
use Rattle.kz_types.specs.declared.fault.TreeFault.{TreeFault}
use Rattle.kz_types.specs.declared.move_fault.MoveFault.{MoveFault}
use Rattle.kz_types.specs.declared.machine.Event.{Event}
use Rattle.kz_types.specs.declared.machine.Event.TheVariants as event
use Rattle.kz_types.specs.declared.machine.Answer.{Answer}
use Rattle.kz_types.specs.declared.machine.Answer.TheVariants as answer
use Rattle.kz_types.specs.declared.record.MetaRecord.{MetaRecord}
use Rattle.kz_types.specs.Paths.{base_paths, is_among, is_migrated}
use Rattle.kz_types.specs.Order.{bytes_cmp}
use Rattle.kz_types.proofs.Order.{bytes_order}
use Rattle.kz_spec_data.specs.Control.{control_path, epoch_path, migration_path, shown_epoch}
use Rattle.kz_spec_data.specs.Tree.{Tree, path_of_op, row_at, after_op, multi, begin_session, end_session, is_owner, is_owned, loses_child, after_loss}
use Rattle.kz_spec_data.specs.Log.{Log}
use Rattle.kz_spec_machine.specs.Driver.{Shared, Driver, new_driver, elected_driver}
use Rattle.kz_spec_machine.specs.Machine.{World, driver_of, quorum_refusal, declared_world, start_refusal, started_world, stop_refusal, stopped_world, next_epoch, election_refusal, elected_world, election_answer, change_refusal, changed_world, registration, register_refusal, final_records, finalise_refusal, exit_ops, tree_after_ops, reset_world, given_back, rollback_refusal, with_tree, moved_world, is_reserved, is_held, is_held_tree, first_told, client_refusal, client_world, next, after_events, cut_world, snapshot_refusal}
use Rattle.kz_spec_machine.specs.Sound.{Lasts, is_lasting, claim_version, shown_in, SeesPresent, Looks, AtStage, IsSoundDriver, Each, Sound, BasesAtStage, Based, IsLawful}
use Rattle.kz_spec_machine.specs.Openings.{opened_world}
use Rattle.kz_laws_machine.proofs.Rows.{same, other, compare, created_found, set_found}
use Rattle.kz_laws_machine.proofs.Runs.{ran}
use Rattle.kz_laws_machine.proofs.Multi.{multi_ran}
use Rattle.kz_laws_machine.proofs.Parents.{Is, there_kept, found_some}
use Rattle.kz_laws_machine.proofs.Sessions.{begun, begin_leaves, ended, end_leaves}
use Rattle.kz_laws_machine.proofs.Versions.{client_keeps_version}
use Rattle.kz_laws_events.proofs.Worlds.{decided, left_was_there}
use Rattle.kz_laws_events.proofs.EventCases.{each_more, unless_taken}
use Rattle.kz_laws_events.proofs.Exits.{may_roll_back}
use Rattle.kz_laws_events.proofs.Refusals.{first_none}
use Rattle.kz_laws_events.proofs.Unheld.{none_claimed}
use Rattle.kz_laws_events.proofs.Every.{event_sound}
use Rattle.kz_laws_bounds.specs.Bounds.{IsBasedDriver}
use Rattle.kz_laws_bounds.specs.Events.{DeletesNoBase, RestsOnNoLook, LeavesBases, AllLeaveBases}
use Rattle.kz_laws_bounds.proofs.Based.{OnTree, on_tree, based_on, Stays, stays_based}
use Rattle.kz_laws_bounds.proofs.Others.{EachBased, version_of_seen, stepped_based, turned_based}

-- ---- controllers and the log

same_tree : (s t : Shared) (d : Driver) → s.tree ≡ t.tree → IsBasedDriver s d → IsBasedDriver t d
same_tree s t d is based = based_on t d (subst (λ (x : Tree). OnTree x d) is (on_tree s d based))

quorum_based : (w : World) (ids : List ℤ) → EachBased w → EachBased (next w (event.Quorum ids)).0
unfolding next
quorum_based w ids based = decided EachBased w (quorum_refusal w ids) (declared_world w ids) answer.Done based (λ j f found. same_tree w.shared (declared_world w ids).shared f refl (based j f found))

new_based : (s : Shared) (id : ℤ) → IsBasedDriver s (new_driver id)
new_based s id = record { claimed = λ some. absurd (some refl); looked = tt }

start_based : (w : World) (id : ℤ) → EachBased w → EachBased (next w (event.Start id)).0
unfolding next
start_based w id based = decided EachBased w (start_refusal w id) (started_world w id) answer.Done based (each_more (IsBasedDriver w.shared) w.drivers (new_driver id) based (new_based w.shared id))

stopped : (w : World) (controller : Option ℤ) → EachBased w → EachBased (stopped_world w controller)
stopped w None based j f found = absurd (cc)
stopped w (Some gone) based j f found = based j f (left_was_there w.drivers gone j f found).1

stop_based : (w : World) (controller : Option ℤ) → EachBased w → EachBased (next w (event.Stop controller)).0
unfolding next
stop_based w controller based = decided EachBased w (stop_refusal w controller) (stopped_world w controller) answer.Done based (stopped w controller based)

-- the driver that is elected, or another
abbrev elect_one : ℤ → ℤ → Driver → Driver
elect_one id epoch d = if int_eq d.id id then elected_driver epoch d else d

elected_by : (s : Shared) (epoch : ℤ) (d : Driver) (b : Bool) → IsBasedDriver s d → IsBasedDriver s (if b then elected_driver epoch d else d)
elected_by s epoch d true based = record { claimed = λ some. absurd (some refl); looked = tt }
elected_by s epoch d false based = based

same_id : (b : Bool) (epoch : ℤ) (d : Driver) → (if b then elected_driver epoch d else d).id ≡ d.id
same_id true epoch d = refl
same_id false epoch d = refl

by_test : (Q : Driver → Type 0) (test : Bool) (e f : Driver) (m : Option Driver) → (test ≡ true → Q e) → (test ≡ false → m ≡ Some f → Q f) → cond test (Some e) m ≡ Some f → Q f
by_test Q true e f m own rest found = let same_driver : e ≡ f = cc in subst Q same_driver (own refl)
by_test Q false e f m own rest found = rest refl found

elected_found : (P Q : Driver → Type 0) (id epoch : ℤ) (drivers : List Driver) (j : ℤ) (f : Driver) → ((d : Driver) → driver_of j drivers ≡ Some d → P d) → ((d : Driver) → P d → Q (elect_one id epoch d)) → driver_of j (map (elect_one id epoch) drivers) ≡ Some f → Q f
elected_found P Q id epoch [] j f each so found = absurd (cc)
elected_found P Q id epoch (d ∷ drivers) j f each so found =
    let e : Driver = elect_one id epoch d in
    let tests : int_eq e.id j ≡ int_eq d.id j = ap (λ (i : ℤ). int_eq i j) (same_id (int_eq d.id id) epoch d) in
    by_test Q (int_eq e.id j) e f (driver_of j (map (elect_one id epoch) drivers))
    (λ yes. so d (each d (ap (λ (b : Bool). cond b (Some d) (driver_of j drivers)) (sym tests ∙ yes))))
    (λ no later. elected_found P Q id epoch drivers j f (λ g there. each g (ap (λ (b : Bool). cond b (Some d) (driver_of j drivers)) (sym tests ∙ no) ∙ there)) so later) found

election_based : (w : World) (id now : ℤ) → EachBased w → EachBased (next w (event.Elect id now)).0
unfolding next
election_based w id now based = decided EachBased w (election_refusal w id) (elected_world w id now) (election_answer w now) based
    (λ j f found. elected_found (IsBasedDriver w.shared) (IsBasedDriver (elected_world w id now).shared) id (next_epoch w.shared.log) w.drivers j f (λ d there. based j d there)
    (λ d old. elected_by (elected_world w id now).shared (next_epoch w.shared.log) d (int_eq d.id id) (same_tree w.shared (elected_world w id now).shared d refl old)) found)

change_based : (w : World) (id now : ℤ) (records : List MetaRecord) → EachBased w → EachBased (next w (event.Change id records now)).0
unfolding next
change_based w id now records based = decided EachBased w (change_refusal w id records) (changed_world w records now) _ based (λ j f found. same_tree w.shared (changed_world w records now).shared f refl (based j f found))

register_based : (w : World) (id broker now : ℤ) (migrating : Bool) → EachBased w → EachBased (next w (event.Register id broker migrating now)).0
unfolding next
register_based w id broker now migrating based = decided EachBased w (register_refusal w id (registration broker migrating)) (changed_world w (registration broker migrating) now) _ based
    (λ j f found. same_tree w.shared (changed_world w (registration broker migrating) now).shared f refl (based j f found))

finalise_based : (w : World) (id now : ℤ) → EachBased w → EachBased (next w (event.Finalise id now)).0
unfolding next
finalise_based w id now based = decided EachBased w (finalise_refusal w id) (changed_world w final_records now) _ based (λ j f found. same_tree w.shared (changed_world w final_records now).shared f refl (based j f found))

-- a rollback is of a world without drivers
none_based : (w : World) → w.drivers ≡ [] → EachBased w
none_based w none j f found = absurd (let nobody : driver_of j [] ≡ Some f = subst (λ (ds : List Driver). driver_of j ds ≡ Some f) none found in cc)

given_back_based : (w : World) (r : Result Tree TreeFault) → w.drivers ≡ [] → EachBased (given_back (reset_world w) r).0
given_back_based w (Ok t) none = none_based (with_tree (reset_world w) t) none
given_back_based w (Err f) none = none_based (reset_world w) none

rollback_based : (w : World) → EachBased w → EachBased (next w event.Rollback).0
unfolding next
rollback_based w based = unless_taken EachBased w (rollback_refusal w) (given_back (reset_world w) (tree_after_ops w.shared.tree (exit_ops w.shared.tree))) based
    (λ none. given_back_based w (tree_after_ops w.shared.tree (exit_ops w.shared.tree)) (may_roll_back w none).alone)

snapshot_based : (w : World) → EachBased w → EachBased (next w event.Snapshot).0
unfolding next
snapshot_based w based = decided EachBased w (snapshot_refusal w) (cut_world w) _ based (λ j f found. same_tree w.shared (cut_world w).shared f refl (based j f found))

check_based : (w : World) → EachBased w → EachBased (next w event.Check).0
unfolding next
check_based w based = based

-- ---- changes of the tree by clients

moved_tree : (w : World) (new : Tree) → Sound w → ((f : Driver) → IsSoundDriver w.shared f → Stays w.shared.tree new f) → EachBased w → EachBased (with_tree w new)
moved_tree w new sound stays based j f found = based_on (with_tree w new).shared f (stays_based w.shared.tree new f (stays f (sound.each j f found)) (on_tree w.shared f (based j f found)))

moved_by : (w : World) (r : Result Tree MoveFault) → Sound w → ((new : Tree) → r ≡ Ok new → (f : Driver) → IsSoundDriver w.shared f → Stays w.shared.tree new f) → EachBased w → EachBased (moved_world w r).0
moved_by w (Ok new) sound stays based = moved_tree w new sound (stays new refl) based
moved_by w (Err e) sound stays based = based

open_based : (w : World) (session : ℤ) → Sound w → EachBased w → EachBased (next w (event.ZkOpen session)).0
unfolding next
open_based w session sound based = moved_by w (begin_session w.shared.tree session) sound (λ new is f fine. record {
  there = λ p among there. ap (λ (rows : List Row). is_some (row_at p rows)) (begun w.shared.tree new session is).rows ∙ there;
  sees = λ seen stands present. present ∙ (begin_leaves w.shared.tree new session is sound.kept.tree).1.version;
}) based

-- a znode that lasts is there after a session has ended
loss_path : (b : Bool) (zxid : ℤ) (r : Row) → (if b then record r { pzxid = zxid } else r).path ≡ r.path
loss_path true zxid r = refl
loss_path false zxid r = refl

equal_by : (o : Ordering) → is_eq o ≡ true → o ≡ Equal
equal_by Less is = absurd (cc)
equal_by Equal is = refl
equal_by Greater is = absurd (cc)

abbrev stays_on : ℤ → Row → Bool
stays_on session r = not (is_owned session r)

left_by : (zxid session : ℤ) (all : List Row) (p : List ℕ) (r : Row) (rows : List Row) (kept equal : Bool) → stays_on session r ≡ kept → is_eq (bytes_cmp p r.path) ≡ equal → (equal ≡ true → kept ≡ true) → (equal ≡ false → Is p (map (after_loss zxid session all) (filter (stays_on session) rows)))
    → Is p (map (after_loss zxid session all) (cond kept (r ∷ filter (stays_on session) rows) (filter (stays_on session) rows)))
left_by zxid session all p r rows true true is test kept rest =
    ap (λ (b : Bool). is_some (if◌then◌else◌ {A = Option Row} b (Some (after_loss zxid session all r)) (row_at p (map (after_loss zxid session all) (filter (stays_on session) rows))))) (ap (λ (q : List ℕ). is_eq (bytes_cmp p q)) (loss_path (loses_child session all r.path) zxid r) ∙ test)
left_by zxid session all p r rows true false is test kept rest =
    ap (λ (b : Bool). is_some (if◌then◌else◌ {A = Option Row} b (Some (after_loss zxid session all r)) (row_at p (map (after_loss zxid session all) (filter (stays_on session) rows))))) (ap (λ (q : List ℕ). is_eq (bytes_cmp p q)) (loss_path (loses_child session all r.path) zxid r) ∙ test) ∙ rest refl
left_by zxid session all p r rows false true is test kept rest = absurd (let no = kept refl in cc)
left_by zxid session all p r rows false false is test kept rest = rest refl

left_there : (zxid session : ℤ) (all : List Row) (p : List ℕ) (rows : List Row) → ((r : Row) → Lasts r → r.path ≡ p → stays_on session r ≡ true) → All Lasts rows → Is p rows → Is p (map (after_loss zxid session all) (filter (stays_on session) rows))
left_there zxid session all p [] kept last there = absurd (cc)
left_there zxid session all p (r ∷ rows) kept last there =
    left_by zxid session all p r rows (stays_on session r) (is_eq (bytes_cmp p r.path)) refl refl
    (λ equal. kept r (All-head Lasts r rows last) (sym (bytes_order.same p r.path (equal_by (bytes_cmp p r.path) equal))))
    (λ differs. left_there zxid session all p rows kept (All-tail Lasts r rows last) (sym (ap (λ (b : Bool). is_some (if◌then◌else◌ {A = Option Row} b (Some r) (row_at p rows))) differs) ∙ there))

second_of_five : (a b c d e : Bool) → b ≡ true → (a || b || c || d || e) ≡ true
second_of_five true b c d e is = refl
second_of_five false true c d e is = refl
second_of_five false false c d e is = absurd (cc)

unowned_by : (session : ℤ) (r : Row) (m : Option ℤ) → r.owner ≡ m → Lasts r → is_lasting r ≡ true → not (is_owner session m) ≡ true
unowned_by session r None is last lasting = refl
unowned_by session r (Some o) is last lasting = absurd (let no = last (ap is_some is) in cc)

base_stays : (session : ℤ) (p : List ℕ) → is_among base_paths p ≡ true → (r : Row) → Lasts r → r.path ≡ p → stays_on session r ≡ true
base_stays session p among r last is =
    unowned_by session r r.owner refl last (second_of_five (is_migrated r.path) (is_among base_paths r.path) (bytes_eq r.path epoch_path) (bytes_eq r.path migration_path) (bytes_eq r.path control_path && is_some (shown_epoch r.body)) (ap (is_among base_paths) is ∙ among))

expire_based : (w : World) (session : ℤ) → Sound w → EachBased w → EachBased (next w (event.ZkExpire session)).0
unfolding next
expire_based w session sound based = moved_by w (end_session w.shared.tree session) sound (λ new is f fine.
    let t : Tree = w.shared.tree in
    record {
      there = λ p among there. ap (λ (rows : List Row). is_some (row_at p rows)) (ended t new session is).rows
          ∙ left_there (t.zxid +ℤ pos 1) session t.rows p t.rows (base_stays session p among) sound.kept.tree.last there;
      sees = λ seen stands present. present ∙ (end_leaves t new session is sound.kept.tree).1.version;
    }) based

-- ---- a client's multi

-- what is there stays, but at a delete of it
op_keeps : (zxid : ℤ) (o : Op) (p : List ℕ) (rows : List Row) → is_among base_paths p ≡ true → DeletesNoBase o → Is p rows → Is p (after_op zxid o rows)
op_keeps zxid (Create path body owner) p rows among none there = elim (compare p path) [
  | same is ↦ ap (λ q. is_some (row_at q (after_op zxid (Create path body owner) rows))) is ∙ ap is_some (created_found zxid path body owner rows)
  | other differ ↦ there_kept zxid (Create path body owner) p rows differ ∙ there
]
op_keeps zxid (Set path body version) p rows among none there = elim (compare p path) [
  | same is ↦
      let found = found_some path rows (row_at path rows) refl (subst (λ q. Is q rows) is there) in
      ap (λ q. is_some (row_at q (after_op zxid (Set path body version) rows))) is ∙ ap is_some (set_found zxid path body version rows found.0 found.1)
  | other differ ↦ there_kept zxid (Set path body version) p rows differ ∙ there
]
op_keeps zxid (Delete path version) p rows among none there = there_kept zxid (Delete path version) p rows (λ is. let no = ap (is_among base_paths) is in cc) ∙ there
op_keeps zxid (Check path version) p rows among none there = there

ops_keep : (zxid : ℤ) (os : List Op) (p : List ℕ) (rows : List Row) → is_among base_paths p ≡ true → All DeletesNoBase os → Is p rows → Is p (ran zxid os rows)
ops_keep zxid [] p rows among none there = there
ops_keep zxid (o ∷ os) p rows among none there = ops_keep zxid os p (after_op zxid o rows) among (All-tail DeletesNoBase o os none) (op_keeps zxid o p rows among (All-head DeletesNoBase o os none) there)

both_at_most : (r now n v : ℤ) → r ≡ n → r ≤ℤ now → now ≡ v → v ≤ℤ n → n ≡ v
both_at_most r now n v is low found high = omega (arith, ints, is, low, found, high)

same_number : (m : Option ℤ) (a b : ℤ) → m ≡ Some a → m ≡ Some b → a ≡ b
same_number m a b one two = cc

sees_before : (t new : Tree) (ops : List Op) (epoch : Option ℤ) (seen : ClaimSeen) (m : Option ℤ) → claim_version t ≡ m → multi t ops ≡ Ok new → client_refusal t ops ≡ None → Looks t epoch seen → SeesPresent new seen → SeesPresent t seen
sees_before t new ops epoch seen (Some v) is made none looks present =
    let later = client_keeps_version t new ops v made none is in
    let own = version_of_seen seen.epoch later.0 (present ∙ later.1) in
    let low = looks.low own.0 own.1 in
    let same_version : later.0 ≡ v = both_at_most own.0.version low.0 later.0 v own.2 low.2 (same_number (claim_version t) low.0 v low.1 is) later.2 in
    present ∙ later.1 ∙ ap (λ (x : ℤ). Some x) same_version ∙ sym is
sees_before t new ops epoch seen None is made none looks present = by seen.epoch refl
  where
    by : (e : Option Row) → seen.epoch ≡ e → SeesPresent t seen
    by None at = ap (option_map (λ (r : Row). r.version)) at ∙ sym is
    by (Some r) at = absurd (let low = looks.low r at in cc (low.1, is))

-- a multi that deletes no base znode
client_keeps : (w : World) (ops : List Op) (new : Tree) → multi w.shared.tree ops ≡ Ok new → client_refusal w.shared.tree ops ≡ None → All DeletesNoBase ops → Sound w → EachBased w → EachBased (with_tree w new)
client_keeps w ops new is none bases sound based =
    let t : Tree = w.shared.tree in
    moved_tree w new sound (λ f fine. record {
      there = λ p among there. ap (λ (rows : List Row). is_some (row_at p rows)) (multi_ran t new ops is).rows ∙ ops_keep (t.zxid +ℤ pos 1) ops p t.rows among bases there;
      sees = λ seen stands present. sees_before t new ops f.epoch seen (claim_version t) refl is none (subst (AtStage t w.shared.log f) stands fine.stage) present;
    }) based

-- no client deletes one while a KRaft controller holds the tree
unmapped : {A B : Type 0} (f : A → B) (m : Option A) → option_map f m ≡ None → m ≡ None
unmapped f None is = refl
unmapped f (Some x) is = absurd (cc)

not_first : (b : Bool) (o : Op) (m : Option Op) → cond b (Some o) m ≡ None → (b ≡ false) × (m ≡ None)
not_first true o m is = absurd (cc)
not_first false o m is = (refl, is)

second_of_four : (a b c d : Bool) → (a || b || c || d) ≡ false → b ≡ false
second_of_four true b c d is = absurd (cc)
second_of_four false true c d is = absurd (cc)
second_of_four false false c d is = refl

not_held : (o : Op) → is_held o ≡ false → DeletesNoBase o
not_held (Create path body owner) is = tt
not_held (Set path body version) is = tt
not_held (Delete path version) is = second_of_four (is_migrated path) (is_among base_paths path) (bytes_eq path control_path) (bytes_eq path epoch_path) is
not_held (Check path version) is = tt

none_deleted : (ops : List Op) → find is_held ops ≡ None → All DeletesNoBase ops
none_deleted [] none = All-nil DeletesNoBase
none_deleted (o ∷ os) none = let both = not_first (is_held o) o (find is_held os) none in All-cons DeletesNoBase o os (not_held o both.0) (none_deleted os both.1)

held_deletes_none : (t : Tree) (ops : List Op) → is_held_tree t ≡ true → client_refusal t ops ≡ None → All DeletesNoBase ops
held_deletes_none t ops held none =
    let told : Option Answer = option_map (λ path. answer.KraftHolds path) (first_told is_held ops) in
    let both = first_none (option_map (λ path. answer.Reserved path) (first_told is_reserved ops)) (if is_held_tree t then told else None) none in
    none_deleted ops (unmapped path_of_op (find is_held ops) (unmapped (λ path. answer.KraftHolds path) (first_told is_held ops) (sym (ap (λ (b : Bool). if b then told else None) held) ∙ both.1)))

-- Where none does, no driver has a claim. A driver that looked sees what is there where it saw what was there.
unheld_looked : (w : World) (ops : List Op) (new : Tree) (f : Driver) (x : Stage) → f.stage ≡ x → multi w.shared.tree ops ≡ Ok new → client_refusal w.shared.tree ops ≡ None → IsSoundDriver w.shared f → RestsOnNoLook w.shared.tree x → BasesAtStage new x
unheld_looked w ops new f (stage.ClaimLeadership seen) at is none fine rests = λ present.
    absurd (rests (sees_before w.shared.tree new ops f.epoch seen (claim_version w.shared.tree) refl is none (subst (AtStage w.shared.tree w.shared.log f) at fine.stage) present))
unheld_looked w ops new f stage.Uninitialized at is none fine rests = tt
unheld_looked w ops new f stage.Inactive at is none fine rests = tt
unheld_looked w ops new f stage.WaitForControllerQuorum at is none fine rests = tt
unheld_looked w ops new f stage.WaitForBrokers at is none fine rests = tt
unheld_looked w ops new f stage.ListBrokers at is none fine rests = tt
unheld_looked w ops new f stage.ReadControlZnodes at is none fine rests = tt
unheld_looked w ops new f (stage.ScanForMigration rows) at is none fine rests = tt
unheld_looked w ops new f (stage.BeginMigration rows) at is none fine rests = tt
unheld_looked w ops new f (stage.AppendRecords records) at is none fine rests = tt
unheld_looked w ops new f stage.ReadLogForResync at is none fine rests = tt
unheld_looked w ops new f (stage.ScanForResync target rows) at is none fine rests = tt
unheld_looked w ops new f (stage.WriteResync target os) at is none fine rests = tt
unheld_looked w ops new f stage.KraftControllerToBrokerComm at is none fine rests = tt
unheld_looked w ops new f stage.DualWrite at is none fine rests = tt
unheld_looked w ops new f (stage.WriteDelta target os) at is none fine rests = tt

client_unlooked : (w : World) (ops : List Op) (new : Tree) (b : Bool) → is_held_tree w.shared.tree ≡ b → multi w.shared.tree ops ≡ Ok new → client_refusal w.shared.tree ops ≡ None → Each (λ (d : Driver). RestsOnNoLook w.shared.tree d.stage) w.drivers → Sound w → EachBased w → EachBased (with_tree w new)
client_unlooked w ops new true held is none rests sound based = client_keeps w ops new is none (held_deletes_none w.shared.tree ops held none) sound based
client_unlooked w ops new false held is none rests sound based = λ j f found. record {
  claimed = λ some. absurd (some (none_claimed w.shared.log.epoch (claim_version w.shared.tree) (shown_in w.shared.tree) f.epoch f.claim (sound.each j f found).claims held));
  looked = unheld_looked w ops new f f.stage refl is none (sound.each j f found) (rests j f found);
}

client_by : (w : World) (ops : List Op) (r : Result Tree TreeFault) → multi w.shared.tree ops ≡ r → client_refusal w.shared.tree ops ≡ None → LeavesBases w (event.Zk ops) → Sound w → EachBased w → EachBased (client_world w r).0
client_by w ops (Ok new) is none (inl bases) sound based = client_keeps w ops new is none bases sound based
client_by w ops (Ok new) is none (inr rests) sound based = client_unlooked w ops new (is_held_tree w.shared.tree) refl is none rests sound based
client_by w ops (Err f) is none leaves sound based = based

client_based : (w : World) (ops : List Op) → LeavesBases w (event.Zk ops) → Sound w → EachBased w → EachBased (next w (event.Zk ops)).0
unfolding next
client_based w ops leaves sound based = unless_taken EachBased w (client_refusal w.shared.tree ops) (client_world w (multi w.shared.tree ops)) based (λ none. client_by w ops (multi w.shared.tree ops) refl none leaves sound based)

-- ---- every event

each_event : (w : World) (e : Event) → IsLawful e → LeavesBases w e → Sound w → EachBased w → EachBased (next w e).0
each_event w (event.Quorum ids) lawful leaves sound based = quorum_based w ids based
each_event w (event.Start id) lawful leaves sound based = start_based w id based
each_event w (event.Stop controller) lawful leaves sound based = stop_based w controller based
each_event w (event.Elect id now) lawful leaves sound based = election_based w id now based
each_event w (event.Step id now p) lawful leaves sound based = stepped_based w id now p lawful.1 sound based
each_event w (event.Turn id now) lawful leaves sound based = turned_based w id now lawful.1 sound based
each_event w (event.Change id records now) lawful leaves sound based = change_based w id now records based
each_event w (event.Register id broker migrating now) lawful leaves sound based = register_based w id broker now migrating based
each_event w (event.Finalise id now) lawful leaves sound based = finalise_based w id now based
each_event w event.Rollback lawful leaves sound based = rollback_based w based
each_event w event.Snapshot lawful leaves sound based = snapshot_based w based
each_event w event.Check lawful leaves sound based = check_based w based
each_event w (event.ZkOpen session) lawful leaves sound based = open_based w session sound based
each_event w (event.ZkExpire session) lawful leaves sound based = expire_based w session sound based
each_event w (event.Zk ops) lawful leaves sound based = client_based w ops leaves sound based

each_based : (w : World) → Based w → EachBased w
each_based w based j f found = record { claimed = based.claimed j f found; looked = based.looked j f found }

all_based : (w : World) → EachBased w → Based w
all_based w each = record { claimed = λ j f found. (each j f found).claimed; looked = λ j f found. (each j f found).looked }

pub event_based : (w : World) (e : Event) → IsLawful e → LeavesBases w e → Sound w → Based w → Based (next w e).0
event_based w e lawful leaves sound based = all_based (next w e).0 (each_event w e lawful leaves sound (each_based w based))

pub opened_based : (t : Tree) (l : Log) → Based (opened_world t l)
opened_based t l = record { claimed = λ j f found. absurd (cc); looked = λ j f found. absurd (cc) }

pub run_based : (es : List Event) (w : World) → All IsLawful es → AllLeaveBases w es → Sound w → Based w → Based (after_events w es)
unfolding after_events
run_based [] w lawful leaves sound based = based
run_based (e ∷ es) w lawful leaves sound based =
    let own = All-head IsLawful e es lawful in
    run_based es (next w e).0 (All-tail IsLawful e es lawful) leaves.1 (event_sound w e own sound) (event_based w e own leaves.0 sound based)
