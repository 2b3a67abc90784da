-- A snapshot of the log.
use Rattle.std.proofs.Common.{◌≡◌, ℤ, pos, ◌≤ℤ◌, int_le, Bool, true, false, ◌&&◌, Option, Some, None, is_some, if◌then◌else◌, refl, sym, ap, ◌∙◌, subst, arith}
use Rattle.std.proofs.lemmas.Int.{ints}
use Rattle.std.specs.Ordering.{int_eq}
use Rattle.kz_types.specs.declared.codes.TheConstants.{POST_MIGRATION}
use Rattle.kz_types.specs.declared.machine.Answer.TheVariants as answer
use Rattle.kz_types.specs.declared.machine.Event.TheVariants as event
use Rattle.kz_types.specs.declared.machine.Recorded.{Recorded}
use Rattle.kz_spec_data.specs.Tree.{migration_record}
use Rattle.kz_spec_data.specs.Settlement.{is_open}
use Rattle.kz_spec_data.specs.Image.{Image, is_migrated_state}
use Rattle.kz_spec_data.specs.Log.{Log, end_of, entries, image_at, image_of, is_migrated_log, is_open_log, may_be_base, snapshot}
use Rattle.kz_spec_machine.specs.Driver.{Shared, Driver}
use Rattle.kz_spec_machine.specs.Machine.{World, snapshot_offset, snapshot_refusal, cut_log, cut_world, is_finalised_log, next}
use Rattle.kz_spec_machine.specs.Sound.{IsSharedSound, IsSoundDriver, Sound}
use Rattle.kz_laws_machine.proofs.Ends.{end_is_batch_end, batch_end_within}
use Rattle.kz_laws_machine.specs.Snapshots.{IsCut}
use Rattle.kz_laws_machine.proofs.Worlds.{is_cut, image_is, open_is, shared_stays, driver_kept}
use Rattle.kz_laws_events.proofs.Refusals.{unless_none, decided_by}

-- ---- what a snapshot that isn't refused has passed

-- the recorded offset at which the log is cut
pub record MayCut (recorded : Option Recorded) (l : Log) : Type 0 where
  pub record_is : Recorded
  pub found : recorded ≡ Some record_is
  pub least : pos 0 ≤ℤ record_is.offset
  pub allowed : may_be_base l record_is.offset ≡ true
  pub cut : cut_log l (snapshot_offset recorded l) ≡ snapshot l record_is.offset

from_zero : (o : ℤ) → int_le (pos 0) o ≡ true → pos 0 ≤ℤ o
from_zero o is = grind (arith, ints)

first_true : (a b : Bool) → (a && b) ≡ true → a ≡ true
first_true true b is = refl
first_true false b is = absurd (cc)

second_true : (a b : Bool) → (a && b) ≡ true → b ≡ true
second_true true b is = is
second_true false b is = absurd (cc)

some_if : (b : Bool) (o : ℤ) → is_some (if b then Some o else None) ≡ true → b ≡ true
some_if true o is = refl
some_if false o is = absurd (cc)

may_cut : (recorded : Option Recorded) (l : Log) → is_some (snapshot_offset recorded l) ≡ true → MayCut recorded l
may_cut None l is = absurd (cc)
may_cut (Some r) l is =
    let may = some_if (int_le (pos 0) r.offset && may_be_base l r.offset) r.offset is in
    record {
      record_is = r;
      found = refl;
      least = from_zero r.offset (first_true (int_le (pos 0) r.offset) (may_be_base l r.offset) may);
      allowed = second_true (int_le (pos 0) r.offset) (may_be_base l r.offset) may;
      cut = ap (λ (b : Bool). cut_log l (if b then Some r.offset else None)) may;
    }

pub record MaySnapshot (w : World) : Type 0 where
  pub migrated : is_migrated_log w.shared.log ≡ true
  pub may : MayCut (migration_record w.shared.tree) w.shared.log

pub may_snapshot : (w : World) → snapshot_refusal w ≡ None → MaySnapshot w
may_snapshot w none =
    let l = w.shared.log in
    let both = unless_none (is_migrated_log l && is_some (snapshot_offset (migration_record w.shared.tree) l)) answer.TooEarly none in
    record {
      migrated = first_true (is_migrated_log l) (is_some (snapshot_offset (migration_record w.shared.tree) l)) both;
      may = may_cut (migration_record w.shared.tree) l (second_true (is_migrated_log l) (is_some (snapshot_offset (migration_record w.shared.tree) l)) both);
    }

-- ---- the world after it

-- What is known of the log after a snapshot of a sound world.
pub record Cut (w : World) : Type 0 where
  pub image : image_of (cut_world w).shared.log ≡ image_of w.shared.log
  pub migrated : is_migrated_log (cut_world w).shared.log ≡ true
  pub settled : is_open_log (cut_world w).shared.log ≡ is_open_log w.shared.log
  pub finalised : is_finalised_log (cut_world w).shared.log ≡ is_finalised_log w.shared.log
  pub sound : Sound (cut_world w)

pub cut_is : (w : World) → Sound w → MaySnapshot w → Cut w
cut_is w sound m =
    let s = w.shared in
    let r = m.may.record_is in
    let same = m.may.cut in
    let image : image_of (cut_world w).shared.log ≡ image_of s.log = ap image_of same ∙ image_is s r sound.kept m.migrated m.may.found m.may.least in
    record {
      image = image;
      migrated = ap (λ (i : Image). is_migrated_state i.state) image ∙ m.migrated;
      settled = ap is_open_log same ∙ open_is s r sound.kept m.migrated m.may.found m.may.least;
      finalised = ap (λ (i : Image). int_eq i.state POST_MIGRATION) image;
      sound = record {
        kept = subst (λ (l : Log). IsSharedSound (record s { log = l })) (sym same) (shared_stays s r sound.kept m.migrated m.may.found m.may.least);
        each = λ id d found. subst (λ (l : Log). IsSoundDriver (record s { log = l }) d) (sym same) (driver_kept s r sound.kept m.migrated m.may.found m.may.least d (sound.each id d found));
        apart = sound.apart;
      };
    }

pub cuts : (w : World) → Sound w → (m : MaySnapshot w) → IsCut w.shared.log (cut_world w).shared.log m.may.record_is.offset
cuts w sound m = subst (λ (l : Log). IsCut w.shared.log l m.may.record_is.offset) (sym m.may.cut) (is_cut w.shared m.may.record_is sound.kept m.migrated m.may.found m.may.least)

pub snapshot_sound : (w : World) → Sound w → Sound (next w event.Snapshot).0
unfolding next
snapshot_sound w sound = decided_by Sound w (snapshot_refusal w) (cut_world w) answer.Done sound (λ none. (cut_is w sound (may_snapshot w none)).sound)
