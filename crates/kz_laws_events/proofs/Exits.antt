-- The end of a migration: it is finalised, or taken back.
use Rattle.std.proofs.Common.{◌≡◌, ◌≤◌, int_lt, ℕ, ℤ, negsuc, Bool, true, false, not, List, [], ◌∷◌, length, Option, Some, None, is_some, option_map, Result, Ok, Err, if◌then◌else◌, All, refl, sym, ap, ◌∙◌, subst, arith, rules}
use Rattle.std.proofs.lemmas.Int.{ints}
use Rattle.std.proofs.lemmas.List.Elements.{All-nil, All-cons, All-append}
use Rattle.kz_types.specs.declared.codes.TheConstants.{POST_MIGRATION}
use Rattle.kz_types.specs.declared.fault.TreeFault.{TreeFault}
use Rattle.kz_types.specs.declared.machine.Answer.{Answer}
use Rattle.kz_types.specs.declared.machine.Answer.TheVariants as answer
use Rattle.kz_types.specs.declared.machine.Event.TheVariants as event
use Rattle.kz_types.specs.declared.record.MetaRecord.{MetaRecord}
use Rattle.kz_types.specs.declared.record.MetaRecord.TheVariants as meta
use Rattle.kz_types.specs.declared.log.Entry.{Entry}
use Rattle.kz_types.specs.declared.tree.Op.{Op}
use Rattle.kz_types.specs.declared.tree.Op.TheVariants as op
use Rattle.kz_spec_data.specs.Control.{control_path, migration_path}
use Rattle.kz_spec_data.specs.Settlement.{is_marker}
use Rattle.kz_spec_data.specs.InOrder.{IsInOrder}
use Rattle.kz_spec_data.specs.Image.{Image, empty_image, all_applied, is_migrated_state}
use Rattle.kz_spec_data.specs.Tree.{Tree, row_at}
use Rattle.kz_spec_data.specs.Log.{Log, end_of, image_at, image_of, is_migrated_log, reset, with_batch, full_log}
use Rattle.kz_spec_data.specs.Rendering.{excess}
use Rattle.kz_spec_machine.specs.Driver.{Shared, Driver, least, less_of}
use Rattle.kz_spec_machine.specs.Machine.{World, first_of, unless, full, running_ids, leader_refusal, finalise_refusal, is_finalised_log, dual_write_refusal, driver_of, rest_refusal, rollback_refusal, final_records, changed_world, is_held_tree, deleted_if, exit_ops, tree_after_ops, reset_world, given_back, unless_refused, next}
use Rattle.kz_spec_machine.specs.Sound.{TreeShape, LogShape, IsBeforeMigration, Unmigrated, IsSharedSound, Sound}
use Rattle.kz_laws_machine.proofs.Keeps.{others_keep}
use Rattle.kz_laws_machine.specs.TreeLaws.{KeepsShape}
use Rattle.kz_laws_machine.proofs.Ends.{end_is_batch_end}
use Rattle.kz_laws_machine.proofs.Migration.{next_entries, NoneEnds, state_applied}
use Rattle.kz_laws_machine.proofs.Multi.{multi_ran, shape_kept}
use Rattle.kz_laws_machine.proofs.Counted.{unmarked_applied}
use Rattle.kz_laws_machine.proofs.Pending.{NoneMarks}
use Rattle.kz_laws_events.proofs.Tests.{true_or_false}
use Rattle.kz_laws_events.proofs.Refusals.{first_none, six_none, unless_none, over_none, decided_by, led, led_epoch}
use Rattle.kz_laws_events.proofs.Grown.{migrated_settled}
use Rattle.kz_laws_events.proofs.Changed.{IsLeaderBatch, changed, shared_more}

-- ---- a migration that is finalised

-- what one that isn't refused has passed
pub record MayFinalise (w : World) (id : ℤ) : Type 0 where
  pub leader : leader_refusal w id ≡ None
  pub migrated : is_migrated_log w.shared.log ≡ true
  pub state : dual_write_refusal (driver_of id w.drivers) ≡ None
  pub rest : rest_refusal w.shared.tree (end_of w.shared.log) ≡ None
  pub room : full_log w.shared.log final_records ≡ None

pub may_finalise : (w : World) (id : ℤ) → finalise_refusal w id ≡ None → MayFinalise w id
may_finalise w id none =
    let l = w.shared.log in
    let all = six_none (leader_refusal w id) (unless (is_migrated_log l) answer.NotMigrated) (unless (not (is_finalised_log l)) answer.Finalised)
    (dual_write_refusal (driver_of id w.drivers)) (rest_refusal w.shared.tree (end_of l)) (full l final_records) none in
    record {
      leader = all.one;
      migrated = unless_none (is_migrated_log l) answer.NotMigrated all.two;
      state = all.four;
      rest = all.five;
      room = over_none (full_log l final_records) all.six;
    }

final_ends : (l : Log) → NoneEnds (next_entries l l.epoch final_records)
final_ends l = (refl, tt)

final_unmarked : All (λ (r : MetaRecord). is_marker r ≡ false) final_records
final_unmarked = All-cons (λ (r : MetaRecord). is_marker r ≡ false) (meta.ZkMigrationState POST_MIGRATION) [] refl (All-nil (λ (r : MetaRecord). is_marker r ≡ false))

final_marks : (l : Log) → NoneMarks (next_entries l l.epoch final_records)
final_marks l = (refl, tt)

-- the metadata after it
final_image : (w : World) (now : ℤ) → Sound w → is_migrated_log w.shared.log ≡ true → image_of (with_batch w.shared.log w.shared.log.epoch now final_records) ≡ all_applied w.shared.log.epoch final_records (image_of w.shared.log)
final_image w now sound migrated =
    let l = w.shared.log in
    unmarked_applied l l.epoch now final_records sound.kept.log (migrated_settled w.shared.tree l sound.kept.log (sound.kept.agreement migrated)) (final_marks l) (final_ends l)

final_applied : (epoch : ℤ) (i : Image) → all_applied epoch final_records i ≡ record i { state = POST_MIGRATION }
final_applied epoch i = state_applied epoch POST_MIGRATION i

final_migrated : (w : World) (now : ℤ) → Sound w → is_migrated_log w.shared.log ≡ true → is_migrated_log (with_batch w.shared.log w.shared.log.epoch now final_records) ≡ true
final_migrated w now sound migrated =
    ap (λ (i : Image). is_migrated_state i.state) (final_image w now sound migrated ∙ final_applied w.shared.log.epoch (image_of w.shared.log))

final_fits : (w : World) → Sound w → is_migrated_log w.shared.log ≡ true → excess (all_applied w.shared.log.epoch final_records (image_of w.shared.log)) ≡ None
final_fits w sound migrated =
    let l = w.shared.log in
    ap excess (final_applied l.epoch (image_of l)) ∙ others_keep (image_of l) (image_of l).brokers POST_MIGRATION
    ∙ (sound.kept.agreement migrated).fits (end_of l) (end_is_batch_end l)

one_record : 1 ≤ length final_records
one_record = omega arith

pub final_batch : (w : World) (id now : ℤ) → Sound w → MayFinalise w id → IsLeaderBatch w.shared now final_records
final_batch w id now sound m = record {
  kept = sound.kept;
  same = final_migrated w now sound m.migrated ∙ sym m.migrated;
  ends = final_ends w.shared.log;
  unmarked = final_unmarked;
  some = one_record;
  room = m.room;
  range = led_epoch w id sound (led w id m.leader);
  settled = migrated_settled w.shared.tree w.shared.log sound.kept.log (sound.kept.agreement m.migrated);
}

pub finalise_sound : (w : World) (id now : ℤ) → Sound w → Sound (next w (event.Finalise id now)).0
unfolding next
finalise_sound w id now sound = decided_by Sound w (finalise_refusal w id) (changed_world w final_records now) _ sound (λ none.
    let m = may_finalise w id none in
    let b = final_batch w id now sound m in
    changed w now final_records b sound (shared_more w.shared now final_records b (λ migrated. final_fits w sound migrated) (λ before. absurd (true_or_false (is_migrated_log w.shared.log) m.migrated before))))

-- ---- a migration that is taken back

some_less : (i : ℤ) (m : Option ℤ) → less_of i m ≡ None → ⊥
some_less i None none = absurd (cc)
some_less i (Some j) none = by_order (int_lt j i) none
  where
    by_order : (b : Bool) → (if b then Some j else Some i) ≡ None → ⊥
    by_order true none = absurd (cc)
    by_order false none = absurd (cc)

-- no controller runs
none_run : (drivers : List Driver) → option_map (λ (id : ℤ). answer.Running id) (least (running_ids drivers)) ≡ None → drivers ≡ []
none_run [] none = refl
none_run (d ∷ ds) none = absurd (some_less d.id (least (running_ids ds)) (unmapped (least (running_ids (d ∷ ds))) none))
  where
    unmapped : (m : Option ℤ) → option_map (λ (id : ℤ). answer.Running id) m ≡ None → m ≡ None
    unmapped None none = refl
    unmapped (Some id) none = absurd (cc)

-- what one that isn't refused has passed
pub record MayRollBack (w : World) : Type 0 where
  pub alone : w.drivers ≡ []
  pub unfinished : is_finalised_log w.shared.log ≡ false
  pub rest : is_migrated_log w.shared.log ≡ true → rest_refusal w.shared.tree (end_of w.shared.log) ≡ None

rest_where : (b : Bool) (rest : Option Answer) → (if b then rest else None) ≡ None → b ≡ true → rest ≡ None
rest_where true rest none is = none
rest_where false rest none is = absurd (cc)

not_true : (b : Bool) → not b ≡ true → b ≡ false
not_true true is = absurd (cc)
not_true false is = refl

pub may_roll_back : (w : World) → rollback_refusal w ≡ None → MayRollBack w
may_roll_back w none =
    let l = w.shared.log in
    let running = option_map (λ (id : ℤ). answer.Running id) (least (running_ids w.drivers)) in
    let final = unless (not (is_finalised_log l)) answer.Finalised in
    let rest : Option Answer = if is_migrated_log l then rest_refusal w.shared.tree (end_of l) else None in
    let first = first_none running (first_of final rest) none in
    let second = first_none final rest first.1 in
    record {
      alone = none_run w.drivers first.0;
      unfinished = not_true (is_finalised_log l) (unless_none (not (is_finalised_log l)) answer.Finalised second.0);
      rest = rest_where (is_migrated_log l) (rest_refusal w.shared.tree (end_of l)) second.1;
    }

-- the log after it

pub empty_in_order : IsInOrder empty_image
empty_in_order = search rules

reset_shape : (l : Log) → LogShape l → LogShape (reset l)
reset_shape l shape = record {
  log = record { epoch = shape.log.epoch; base = omega (arith, ints); base_image = λ first. refl; follow = tt; epochs = tt; end = omega (arith, ints) };
  epoch = shape.epoch;
  image = empty_in_order;
}

pub reset_unmigrated : (l : Log) → is_migrated_log (reset l) ≡ false
unfolding image_at
reset_unmigrated l = refl

reset_before : (l : Log) → Unmigrated (reset l)
reset_before l = record { base = refl; records = All-nil (λ (e : Entry). IsBeforeMigration e.item) }

pub reset_sound : (s : Shared) → IsSharedSound s → IsSharedSound (record s { log = reset s.log })
reset_sound s kept = record {
  tree = kept.tree;
  log = reset_shape s.log kept.log;
  before = λ none. reset_before s.log;
  agreement = λ migrated. absurd (true_or_false (is_migrated_log (reset s.log)) migrated (reset_unmigrated s.log));
}

-- the tree after it

deleted_keeps : (b : Bool) (path : List ℕ) → All KeepsShape (deleted_if b path)
deleted_keeps true path = All-cons KeepsShape (op.Delete path (negsuc 0)) [] tt (All-nil KeepsShape)
deleted_keeps false path = All-nil KeepsShape

exit_keeps : (t : Tree) → All KeepsShape (exit_ops t)
exit_keeps t = All-append KeepsShape (deleted_if (is_held_tree t) control_path) (deleted_if (is_some (row_at migration_path t.rows)) migration_path) (deleted_keeps (is_held_tree t) control_path) (deleted_keeps (is_some (row_at migration_path t.rows)) migration_path)

pub tree_shape : (t new : Tree) (ops : List Op) → tree_after_ops t ops ≡ Ok new → All KeepsShape ops → TreeShape t → TreeShape new
tree_shape t new [] is keep shape = subst TreeShape (let same : t ≡ new = cc in same) shape
tree_shape t new (o ∷ os) is keep shape = shape_kept t new (o ∷ os) (multi_ran t new (o ∷ os) is) keep shape

shared_after_exit : (s : Shared) (new : Tree) → tree_after_ops s.tree (exit_ops s.tree) ≡ Ok new → IsSharedSound s → IsSharedSound (record s { log = reset s.log; tree = new })
shared_after_exit s new is kept = record {
  tree = tree_shape s.tree new (exit_ops s.tree) is (exit_keeps s.tree) kept.tree;
  log = reset_shape s.log kept.log;
  before = λ none. reset_before s.log;
  agreement = λ migrated. absurd (true_or_false (is_migrated_log (reset s.log)) migrated (reset_unmigrated s.log));
}

-- a world without drivers
alone_sound : (w : World) → w.drivers ≡ [] → IsSharedSound w.shared → Sound w
alone_sound w none kept = record {
  kept = kept;
  each = λ id d found. absurd (let nobody : driver_of id [] ≡ Some d = subst (λ (ds : List Driver). driver_of id ds ≡ Some d) none found in cc);
  apart = λ i j d e found-d found-e differ some same. absurd (let nobody : driver_of i [] ≡ Some d = subst (λ (ds : List Driver). driver_of i ds ≡ Some d) none found-d in cc);
}

given_back_sound : (w : World) (r : Result Tree TreeFault) → tree_after_ops w.shared.tree (exit_ops w.shared.tree) ≡ r → w.drivers ≡ [] → IsSharedSound w.shared → Sound (given_back (reset_world w) r).0
given_back_sound w (Ok t) is none kept = alone_sound (record { shared = record w.shared { log = reset w.shared.log; tree = t }; drivers = w.drivers }) none (shared_after_exit w.shared t is kept)
given_back_sound w (Err f) is none kept = alone_sound (reset_world w) none (reset_sound w.shared kept)

rolled_back : (w : World) (refusal : Option Answer) → rollback_refusal w ≡ refusal → Sound w → Sound (unless_refused w refusal (given_back (reset_world w) (tree_after_ops w.shared.tree (exit_ops w.shared.tree)))).0
rolled_back w (Some a) is sound = sound
rolled_back w None is sound = given_back_sound w (tree_after_ops w.shared.tree (exit_ops w.shared.tree)) refl (may_roll_back w is).alone sound.kept

pub rollback_sound : (w : World) → Sound w → Sound (next w event.Rollback).0
unfolding next
rollback_sound w sound = rolled_back w (rollback_refusal w) refl sound

-- a stop, or a tree that fails, may leave the world whose log is reset alone
pub reset_world_sound : (w : World) → Sound w → rollback_refusal w ≡ None → Sound (reset_world w)
reset_world_sound w sound none = alone_sound (reset_world w) (may_roll_back w none).alone (reset_sound w.shared sound.kept)
