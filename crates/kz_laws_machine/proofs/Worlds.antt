-- A snapshot at what is recorded keeps a world sound.
use Rattle.std.proofs.Common.{◌≡◌, ◌≢◌, ℤ, pos, negsuc, ◌≤ℤ◌, Bool, true, false, Option, Some, None, refl, sym, ap, ◌∙◌, subst, arith}
use Rattle.std.specs.Prelude.{◌<ℤ◌}
use Rattle.std.proofs.lemmas.Int.{ints}
use Rattle.kz_types.specs.declared.machine.Recorded.{Recorded}
use Rattle.kz_spec_data.specs.Tree.{Tree, area, migration_record, unclosed_path}
use Rattle.kz_spec_data.specs.Settlement.{is_open}
use Rattle.kz_spec_data.specs.Image.{Image, is_migrated_state}
use Rattle.kz_spec_data.specs.Log.{Log, end_of, entries, image_at, image_of, is_migrated_log, is_open_log, snapshot}
use Rattle.kz_spec_data.specs.Rendering.{render, excess}
use Rattle.kz_spec_machine.specs.Driver.{Shared, Driver}
use Rattle.kz_spec_machine.specs.Machine.{World}
use Rattle.kz_spec_machine.specs.Sound.{LogShape, IsBatchEnd, IsPastCommit, Agreement, RecordAgrees, IsSharedSound, IsSoundDriver, Sound}
use Rattle.kz_laws_machine.proofs.Ends.{end_is_batch_end, batch_end_within, image_at_base}
use Rattle.kz_laws_machine.specs.Snapshots.{MayBeBase, IsCut}
use Rattle.kz_laws_machine.proofs.Cut.{keeps_shape, cuts}
use Rattle.kz_laws_machine.proofs.SnapshotDrivers.{driver_stays}

same_record : (x y : Recorded) (found : Option Recorded) → found ≡ Some x → found ≡ Some y → x ≡ y
same_record x y found a b = cc

not_first : (o : ℤ) → pos 0 ≤ℤ o → o ≡ negsuc 0 → ⊥
not_first o least is = omega (arith, ints, least, is)

most_then : (a b c : ℤ) → a ≤ℤ b → b ≤ℤ c → a ≤ℤ c
most_then a b c x y = omega (arith, ints, x, y)

module _ (s : Shared) (r : Recorded) (kept : IsSharedSound s) (was : is_migrated_log s.log ≡ true) (found : migration_record s.tree ≡ Some r) (least : pos 0 ≤ℤ r.offset) where
  abbrev pub agreed : Agreement s.tree s.log
  agreed = kept.agreement was

  abbrev pub recorded : RecordAgrees s.tree s.log r
  recorded = agreed.recorded r found

  pub may_be_base : MayBeBase s.log r.offset
  may_be_base = record { end = recorded.end least; settled = agreed.ended r.offset (recorded.end least) (recorded.past least) }

  abbrev pub cut : Log
  cut = snapshot s.log r.offset

  abbrev pub shape : LogShape cut
  shape = keeps_shape s.log r.offset kept.log may_be_base

  abbrev pub is_cut : IsCut s.log cut r.offset
  is_cut = cuts s.log r.offset kept.log may_be_base

  end_from : r.offset ≤ℤ end_of s.log
  end_from = batch_end_within s.log r.offset kept.log (recorded.end least)

  pub image_is : image_of cut ≡ image_of s.log
  image_is = ap (image_at cut) is_cut.end ∙ is_cut.image (end_of s.log) (end_is_batch_end s.log) end_from

  migrated_is : is_migrated_log cut ≡ true
  migrated_is = ap (λ (i : Image). is_migrated_state i.state) image_is ∙ was

  pub open_is : is_open_log cut ≡ is_open_log s.log
  open_is = ap (is_open (entries cut.batches)) is_cut.end ∙ is_cut.is_open_there (end_of s.log) (end_is_batch_end s.log) end_from

  base_image_is : image_at cut r.offset ≡ image_at s.log r.offset
  base_image_is = image_at_base cut shape

  record_stays : (q : Recorded) → r ≡ q → RecordAgrees s.tree cut q
  record_stays q same = subst (RecordAgrees s.tree cut) same (record {
    least = recorded.least;
    first = λ first. absurd (not_first r.offset least first);
    end = λ from. is_cut.base_end;
    past = λ from. is_cut.past r.offset (recorded.past least);
    same = λ from closed. recorded.same from closed ∙ ap render (sym base_image_is);
  })

  pub shared_stays : IsSharedSound (record s { log = cut })
  shared_stays = record {
    tree = kept.tree;
    log = shape;
    before = λ un. let both : true ≡ false = sym migrated_is ∙ un in absurd (cc);
    agreement = λ now. record {
      holds = agreed.holds;
      ended = λ k e p.
          let old = is_cut.was_end k e in
          is_cut.is_open_there k old.0 old.1 ∙ agreed.ended k old.0 (λ c has ends. most_then c.offset r.offset k (recorded.past least c has ends) old.1);
      fits = λ k e. let old = is_cut.was_end k e in ap excess (is_cut.image k old.0 old.1) ∙ agreed.fits k old.0;
      record_there = agreed.record_there;
      recorded = λ q there. record_stays q (same_record r q (migration_record s.tree) found there);
    };
  }

  pub driver_kept : (d : Driver) → IsSoundDriver s d → IsSoundDriver (record s { log = cut }) d
  driver_kept d fine = driver_stays s cut r is_cut found was migrated_is open_is d fine
