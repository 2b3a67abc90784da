-- What a snapshot leaves of a log: the metadata, the open transaction and the views at each batch end from its base on.
use Rattle.std.proofs.Common.{◌≡◌, ◌⊎◌, inl, inr, ℤ, pos, negsuc, ◌+ℤ◌, ◌≤ℤ◌, int_le, int_lt, Bool, true, false, List, [], ◌∷◌, ◌++◌, map, filter, Option, Some, None, is_some, refl, sym, ap, ◌∙◌, subst, arith, append_assoc}
use Rattle.std.specs.Prelude.{◌<ℤ◌}
use Rattle.std.proofs.lemmas.Int.{ints}
use Rattle.std.proofs.lemmas.List.{map-append}
use Rattle.std.proofs.lemmas.List.Concat.{flat_map-append}
use Rattle.kz_types.specs.declared.log.BatchRow.{BatchRow}
use Rattle.kz_types.specs.declared.log.Entry.{Entry}
use Rattle.kz_spec_data.specs.Settlement.{is_inside, is_open, counting_records, open_begin, records_of_open}
use Rattle.kz_spec_data.specs.Image.{Image, image_with}
use Rattle.kz_spec_data.specs.Log.{Log, IsLog, View, IsAt, IsViewOf, Follow, last_of, last_end, end_of, batch_ends, begins_after, entries, entries_by, entries_of_batch, all_entries_applied, image_at, image_of, is_open_log, begun_of, is_migrated_log, snapshot}
use Rattle.kz_spec_machine.specs.Sound.{IsBatchEnd}
use Rattle.kz_laws_machine.proofs.Numbers.{at_least_itself}
use Rattle.kz_laws_machine.proofs.LogBatches.{AllAfter, counted_same}
use Rattle.kz_laws_machine.proofs.Ends.{entries_after, batch_end_within, batch_end_least, end_is_batch_end}
use Rattle.kz_laws_machine.proofs.Migration.{applied_append, entries_up_to}
use Rattle.kz_laws_machine.proofs.Rising.{RisesAfter, all_before}
use Rattle.kz_laws_machine.proofs.Begun.{begin_in, inside_begun, open_kept}
use Rattle.kz_laws_machine.specs.Snapshots.{MayBeBase}
use Rattle.kz_laws_machine.proofs.Divided.{Divided, Between, divided, later_follow, earlier_follow, earlier_follows, later_follows, later_is, entries_are, earlier_up_to, later_after, all_rise, between}
use Rattle.kz_laws_machine.proofs.SnapshotSettled.{AreDivided, front_rises, both_up_to, counting_divided, begin_divided}
use Rattle.kz_laws_machine.proofs.OpenRecords.{begun_divided, kept_divided}

later_rises : (base at : ℤ) (p q : List Entry) → RisesAfter base (p ++ q) → AllAfter at q → RisesAfter at q
later_rises base at [] [] rises after = tt
later_rises base at [] (e ∷ q) rises after = (after.0, rises.1)
later_rises base at (x ∷ p) q rises after = later_rises x.offset at p q rises.1 after

module _ (l : Log) (at k : ℤ) (log : IsLog l) (may : MayBeBase l at) (e : IsBatchEnd l k) (order : at ≤ℤ k) where
  abbrev d : Divided l.base at l.batches
  d = divided l at may.end

  abbrev b : Between l.base at d.later (divided l k e).later k
  b = between l at k log d (divided l k e) order

  abbrev p : List Entry
  p = entries d.earlier

  abbrev q : List Entry
  q = entries b.middle

  abbrev r : List Entry
  r = entries (divided l k e).later

  later_are : entries d.later ≡ q ++ r
  later_are = ap entries b.whole ∙ flat_map-append entries_of_batch b.middle (divided l k e).later

  all_are : entries l.batches ≡ p ++ (q ++ r)
  all_are = entries_are l at log d ∙ ap (λ (es : List Entry). p ++ es) later_are

  kept_are : entries (filter (begins_after at) l.batches) ≡ q ++ r
  kept_are = ap entries (later_is l at log d) ∙ later_are

  parts_follow : Follow at (b.middle ++ (divided l k e).later)
  parts_follow = subst (Follow at) b.whole (later_follows l at log d)

  rest_after : AllAfter k r
  rest_after = entries_after k k (divided l k e).later (at_least_itself k) (subst (λ (o : ℤ). Follow o (divided l k e).later) (sym b.k_is) (later_follow at b.middle (divided l k e).later parts_follow))

  front_settled : is_some (begin_in p) ≡ false
  front_settled =
      let rise = front_rises l.base p (entries d.later) (all_rise l at log d) in
      sym (inside_begun l.base (at +ℤ pos 1) p rise (all_before at p (earlier_up_to l at log d)))
      ∙ sym (open_kept at p (entries d.later) (later_after l at log d)) ∙ ap (λ (es : List Entry). is_open es at) (sym (entries_are l at log d)) ∙ may.settled

  are_divided : AreDivided l.base at k p q r
  are_divided =
      let all : RisesAfter l.base ((p ++ q) ++ r) = subst (RisesAfter l.base) (ap (λ (es : List Entry). p ++ es) later_are ∙ sym (append_assoc p q r)) (all_rise l at log d) in
      let rise = front_rises l.base (p ++ q) r all in
      record {
        rise = rise;
        later_rise = front_rises at q r (subst (RisesAfter at) later_are (later_rises l.base at p (entries d.later) (all_rise l at log d) (later_after l at log d)));
        earlier = earlier_up_to l at log d;
        order = order;
        later = entries_up_to k at b.middle (subst (λ (o : ℤ). o ≤ℤ k) b.k_is (at_least_itself k)) (earlier_follow at b.middle (divided l k e).later parts_follow);
        rest = rest_after;
        settled = front_settled;
      }

  -- ---- the metadata

  image_first : image_at l at ≡ all_entries_applied (counting_records p at) l.base_image
  unfolding image_at
  image_first =
      ap (λ (es : List Entry). all_entries_applied (counting_records es at) l.base_image) (entries_are l at log d)
      ∙ ap (λ (es : List Entry). all_entries_applied es l.base_image) (counted_same at p (entries d.later) (later_after l at log d))

  pub image_stays : image_at (snapshot l at) k ≡ image_at l k
  unfolding image_at
  image_stays =
      ap (λ (es : List Entry). all_entries_applied (counting_records es k) (image_at l at)) kept_are
      ∙ ap (λ (i : Image). all_entries_applied (counting_records (q ++ r) k) i) image_first
      ∙ sym (applied_append (counting_records p at) (counting_records (q ++ r) k) l.base_image)
      ∙ ap (λ (es : List Entry). all_entries_applied es l.base_image) (sym (counting_divided l.base at k p q r are_divided))
      ∙ ap (λ (es : List Entry). all_entries_applied (counting_records es k) l.base_image) (sym all_are)

  -- ---- the open transaction

  pub open_stays : is_open (entries (snapshot l at).batches) k ≡ is_open (entries l.batches) k
  open_stays =
      let up_to = both_up_to l.base at k p q r are_divided in
      ap (λ (es : List Entry). is_open es k) kept_are
      ∙ open_kept k q r rest_after ∙ inside_begun at (k +ℤ pos 1) q are_divided.later_rise (all_before k q are_divided.later)
      ∙ sym (ap is_some (begin_divided p q front_settled))
      ∙ sym (inside_begun l.base (k +ℤ pos 1) (p ++ q) are_divided.rise (all_before k (p ++ q) up_to)) ∙ sym (open_kept k (p ++ q) r rest_after)
      ∙ ap (λ (es : List Entry). is_open es k) (append_assoc p q r ∙ sym all_are)

  pub begun_stays : open_begin (entries_by k (entries (snapshot l at).batches)) ≡ open_begin (entries_by k (entries l.batches))
  begun_stays =
      ap (λ (es : List Entry). open_begin (entries_by k es)) kept_are ∙ sym (begun_divided l.base at k p q r are_divided (both_up_to l.base at k p q r are_divided))
      ∙ ap (λ (es : List Entry). open_begin (entries_by k es)) (sym all_are)

  pub kept_stays : records_of_open (entries_by k (entries (snapshot l at).batches)) ≡ records_of_open (entries_by k (entries l.batches))
  kept_stays =
      ap (λ (es : List Entry). records_of_open (entries_by k es)) kept_are ∙ sym (kept_divided l.base at k p q r are_divided (both_up_to l.base at k p q r are_divided))
      ∙ ap (λ (es : List Entry). records_of_open (entries_by k es)) (sym all_are)

  -- ---- the batch end

  pub end_stays : IsBatchEnd (snapshot l at) k
  end_stays =
      let first = end_is_batch_end (record l { base = at; batches = b.middle }) in
      record {
        before = first.before;
        after = first.after ++ map last_of (divided l k e).later;
        among = ap (λ (bs : List BatchRow). at ∷ map last_of bs) (later_is l at log d ∙ b.whole)
            ∙ ap (λ (ends : List ℤ). at ∷ ends) (map-append last_of b.middle (divided l k e).later)
            ∙ ap (λ (ends : List ℤ). ends ++ map last_of (divided l k e).later) first.among
            ∙ append_assoc first.before (last_end at b.middle ∷ first.after) (map last_of (divided l k e).later)
            ∙ ap (λ (o : ℤ). first.before ++ o ∷ (first.after ++ map last_of (divided l k e).later)) (sym b.k_is);
      }
