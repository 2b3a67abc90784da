-- What is read of a log after a view leads from its metadata to those at the log's end.
use Rattle.std.proofs.Common.{◌≡◌, inl, inr, ℤ, pos, ◌+ℤ◌, ◌≤ℤ◌, ◌<ℤ◌, Bool, true, false, cond, List, [], ◌∷◌, ◌++◌, map, filter, Option, Some, None, is_some, refl, sym, ap, ◌∙◌, subst}
use Rattle.std.specs.List.{flat_map}
use Rattle.std.proofs.lemmas.List.{map-append}
use Rattle.kz_types.specs.declared.log.BatchRow.{BatchRow}
use Rattle.kz_types.specs.declared.log.Entry.{Entry}
use Rattle.kz_types.specs.declared.record.MetaRecord.{MetaRecord}
use Rattle.kz_spec_data.specs.Settlement.{is_counted, is_open, counting_records, open_begin}
use Rattle.kz_spec_data.specs.Image.{Image, image_with}
use Rattle.kz_spec_data.specs.Log.{Log, IsLog, View, IsAt, Follow, read_view, feed_from, last_end, end_of, begins_after, entries_at_offsets, entries_of_batch, entries, entries_by, all_entries_applied, image_at, image_of}
use Rattle.kz_spec_machine.specs.Sound.{IsBatchEnd}
use Rattle.kz_spec_data.specs.Touched.{Lead}
use Rattle.kz_laws_machine.proofs.Ends.{counted_up, end_counts, end_is_batch_end}
use Rattle.kz_laws_machine.proofs.Rising.{RisesAfter, all_before}
use Rattle.kz_laws_machine.proofs.Begun.{less_is, begin_in, begun_is, inside_begun, open_kept}
use Rattle.kz_laws_machine.specs.Snapshots.{MayBeBase}
use Rattle.kz_laws_machine.proofs.Divided.{Divided, divided, later_follows, later_is, entries_are, earlier_up_to, later_after, all_rise}
use Rattle.kz_laws_machine.proofs.SnapshotSettled.{front_rises}
use Rattle.kz_laws_machine.proofs.OpenRecords.{front_by}
use Rattle.kz_laws_machine.proofs.SnapshotImages.{image_stays}
use Rattle.kz_laws_machine.proofs.Cut.{end_is}
use Rattle.kz_laws_znodes.proofs.Suffice.{touched_cover}
use Rattle.kz_laws_machine.specs.Feeds.{FeedLeads, FeedTouches}

-- ---- records of which some are taken in

items_of : List Entry → List MetaRecord
items_of es = map (λ (e : Entry). e.item) es

taken : (keep : Entry → Bool) (e : Entry) (es : List Entry) (i : Image) → ((j : Image) → Lead j (items_of es) (all_entries_applied (filter keep es) j)) → (b : Bool) → Lead i (items_of (e ∷ es)) (all_entries_applied (cond b (e ∷ filter keep es) (filter keep es)) i)
unfolding items_of
taken keep e es i rest true = (image_with e.epoch e.item i, inr (e.epoch, refl), rest (image_with e.epoch e.item i))
taken keep e es i rest false = (i, inl refl, rest i)

-- Where those that pass a test are applied, each record is taken in or passed over.
filter_leads : (keep : Entry → Bool) (es : List Entry) (i : Image) → Lead i (items_of es) (all_entries_applied (filter keep es) i)
unfolding items_of
filter_leads keep [] i = refl
filter_leads keep (e ∷ es) i = taken keep e es i (λ j. filter_leads keep es j) (keep e)

-- ---- the records of batches are their entries without offsets

items_numbered : (offset epoch : ℤ) (rs : List MetaRecord) → items_of (entries_at_offsets offset epoch rs) ≡ rs
unfolding items_of
items_numbered offset epoch [] = refl
items_numbered offset epoch (r ∷ rs) = ap (λ (l : List MetaRecord). r ∷ l) (items_numbered (offset +ℤ pos 1) epoch rs)

items_are : (bs : List BatchRow) → items_of (entries bs) ≡ flat_map (λ (b : BatchRow). b.items) bs
unfolding items_of
items_are [] = refl
items_are (b ∷ bs) =
    map-append (λ (e : Entry). e.item) (entries_of_batch b) (entries bs)
    ∙ ap (λ (rs : List MetaRecord). rs ++ items_of (entries bs)) (items_numbered b.first b.epoch b.items)
    ∙ ap (λ (rs : List MetaRecord). b.items ++ rs) (items_are bs)

-- ---- a view that knows of no open transaction

module _ (l : Log) (v : View) (log : IsLog l) (is : IsAt l v) (none : v.begun ≡ None) where
  abbrev at : ℤ
  at = v.position

  batch_end : IsBatchEnd l at
  batch_end = record { before = is.end.0; after = is.end.1; among = is.end.2 }

  abbrev d : Divided l.base at l.batches
  d = divided l at batch_end

  abbrev p : List Entry
  p = entries d.earlier

  abbrev q : List Entry
  q = entries d.later

  front : RisesAfter l.base p
  front = front_rises l.base p q (all_rise l at log d)

  begun_none : begin_in p ≡ None
  begun_none =
      sym (begun_is l.base p front)
      ∙ ap open_begin (sym (front_by at p q (earlier_up_to l at log d) (later_after l at log d)) ∙ ap (entries_by at) (sym (entries_are l at log d)))
      ∙ sym is.begun ∙ none

  settled : is_open (entries l.batches) at ≡ false
  settled =
      ap (λ (es : List Entry). is_open es at) (entries_are l at log d)
      ∙ open_kept at p q (later_after l at log d)
      ∙ inside_begun l.base (at +ℤ pos 1) p front (all_before at p (earlier_up_to l at log d))
      ∙ ap is_some begun_none

  may : MayBeBase l at
  may = record { end = batch_end; settled = settled }

  abbrev later : List BatchRow
  later = filter (begins_after at) l.batches

  order : at ≤ℤ end_of l
  order =
      let follow = subst (Follow at) (sym (later_is l at log d)) (later_follows l at log d) in
      subst (λ (o : ℤ). at ≤ℤ o) (end_is l at log may) (counted_up at (last_end at later) _ (end_counts at later follow))

  image_is : all_entries_applied (counting_records (entries later) (end_of l)) v.image ≡ image_of l
  unfolding image_at
  image_is =
      ap (λ (i : Image). all_entries_applied (counting_records (entries later) (end_of l)) i) is.image
      ∙ image_stays l at (end_of l) log may (end_is_batch_end l) order

  pub leads : Lead v.image (flat_map (λ (b : BatchRow). b.items) later) (image_of l)
  leads =
      let all = filter_leads (is_counted (entries later) (end_of l)) (entries later) v.image in
      subst (λ (i : Image). Lead v.image (flat_map (λ (b : BatchRow). b.items) later) i) image_is
      (subst (λ (rs : List MetaRecord). Lead v.image rs (all_entries_applied (counting_records (entries later) (end_of l)) v.image)) (items_are later) all)

-- where a log's base has passed a view, the base is read
has_base : (l : Log) (v : View) → v.position <ℤ l.base → (feed_from l v.position).base ≡ None → ⊥
has_base l v below none =
    let base : Option (ℤ × Image) = Some (l.base, l.base_image) in
    let there : base ≡ None = sym (ap (λ b. cond b base None) (less_is v.position l.base below)) ∙ none in
    absurd (cc (there))

pub feed_leads : FeedLeads
feed_leads l v log (inl below) none = λ whole. absurd (has_base l v below whole)
feed_leads l v log (inr is) none = λ whole. leads l v log is none

pub feed_touches : FeedTouches
feed_touches l v log is none oo wo on wn ks touched =
    touched_cover v.image (read_view l v).image oo wo on wn (feed_from l v.position) (feed_leads l v log is none) ks touched
