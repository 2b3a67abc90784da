-- The records of batches that follow each other, and what a log says at the end of one of its batches.
use Rattle.std.proofs.Common.{◌≡◌, ◌+◌, false, ℤ, pos, ◌+ℤ◌, ◌≤ℤ◌, ◌<ℤ◌, int_le, int_cmp, List, [], ◌∷◌, ◌++◌, length, refl, sym, ap, ◌∙◌, subst, filter, map, arith}
use Rattle.std.proofs.lemmas.Int.{ints}
use Rattle.std.proofs.lemmas.Grind.{flat_map-append}
use Rattle.std.proofs.lemmas.List.Elements.{All-nil, All-cons, filter-append}
use Rattle.kz_types.specs.declared.log.BatchRow.{BatchRow}
use Rattle.kz_types.specs.declared.log.Entry.{Entry}
use Rattle.kz_types.specs.declared.record.MetaRecord.{MetaRecord}
use Rattle.kz_types.specs.Ordered.{Rises}
use Rattle.kz_spec_data.specs.Log.{Log, View, Follow, IsAt, begins_after, last_of, last_end, batch_ends, entries_at_offsets, entries_of_batch, entries, entries_by, image_at, all_entries_applied}
use Rattle.kz_spec_data.specs.Settlement.{counting_records, open_begin, records_of_open}
use Rattle.kz_settle.specs.Settling.{offset_of}
use Rattle.kz_settle.specs.Stands.{AllBy}
use Rattle.kz_settle.proofs.Bounds.{AllLater, counted_before, by_split}
use Rattle.kz_log.proofs.Offsets.{Consecutive, numbered_consecutive, consecutive_rises, last_of_is, is_lt, not_lt, not_le}

-- ---- batches

-- Each batch begins after the one before it, from after an offset on. It may be empty.
abbrev pub Chain : ℤ → List BatchRow → Type 0
Chain from [] = Unit {0}
Chain from (b ∷ bs) = (b.first ≡ from +ℤ pos 1) × Chain (last_of b) bs

pub chain_of : (from : ℤ) (bs : List BatchRow) → Follow from bs → Chain from bs
chain_of from [] h = tt
chain_of from (b ∷ bs) h = (h.0, chain_of (last_of b) bs h.2)

pub Chain-append : (from : ℤ) (bs cs : List BatchRow) → Chain from bs → Chain (last_end from bs) cs → Chain from (bs ++ cs)
Chain-append from [] cs h k = k
Chain-append from (b ∷ bs) cs h k = (h.0, Chain-append (last_of b) bs cs h.1 k)

chain_left : (from : ℤ) (bs cs : List BatchRow) → Chain from (bs ++ cs) → Chain from bs
chain_left from [] cs h = tt
chain_left from (b ∷ bs) cs h = (h.0, chain_left (last_of b) bs cs h.1)

chain_right : (from : ℤ) (bs cs : List BatchRow) → Chain from (bs ++ cs) → Chain (last_end from bs) cs
chain_right from [] cs h = h
chain_right from (b ∷ bs) cs h = chain_right (last_of b) bs cs h.1

pub Follow-left : (from : ℤ) (bs cs : List BatchRow) → Follow from (bs ++ cs) → Follow from bs
Follow-left from [] cs h = tt
Follow-left from (b ∷ bs) cs h = (h.0, h.1, Follow-left (last_of b) bs cs h.2)

pub Follow-right : (from : ℤ) (bs cs : List BatchRow) → Follow from (bs ++ cs) → Follow (last_end from bs) cs
Follow-right from [] cs h = h
Follow-right from (b ∷ bs) cs h = Follow-right (last_of b) bs cs h.2

-- ---- their records

entries_consecutive : (from : ℤ) (bs : List BatchRow) → Chain from bs → Consecutive from (entries bs)
entries_consecutive from [] h = tt
entries_consecutive from (b ∷ bs) h =
    numbered_consecutive from b.first b.epoch b.items (entries bs) h.0 (subst (λ n. Consecutive n (entries bs)) (last_of_is from b h.0) (entries_consecutive (last_of b) bs h.1))

length-numbered : (offset epoch : ℤ) (items : List MetaRecord) (es : List Entry) → length (entries_at_offsets offset epoch items ++ es) ≡ length items + length es
length-numbered offset epoch [] es = omega arith
length-numbered offset epoch (x ∷ items) es = omega (arith, length-numbered (offset +ℤ pos 1) epoch items es)

pub chain_end : (from : ℤ) (bs : List BatchRow) → Chain from bs → last_end from bs ≡ from +ℤ pos (length (entries bs))
chain_end from [] h = omega (arith, ints)
chain_end from (b ∷ bs) h =
    let rest = chain_end (last_of b) bs h.1 in
    let last = last_of_is from b h.0 in
    let count = length-numbered b.first b.epoch b.items (entries bs) in omega (arith, ints, rest, last, count)

consecutive_by : (from to : ℤ) (es : List Entry) → Consecutive from es → (from +ℤ pos (length es)) ≤ℤ to → AllBy to es
consecutive_by from to [] h k = All-nil (λ (e : Entry). e.offset ≤ℤ to)
consecutive_by from to (e ∷ es) h k =
    let here : e.offset ≤ℤ to = let at = h.0 in omega (arith, ints, at, k) in
    All-cons (λ (x : Entry). x.offset ≤ℤ to) e es here (consecutive_by (from +ℤ pos 1) to es h.1 (omega (arith, ints, k)))

consecutive_after : (from at : ℤ) (es : List Entry) → Consecutive from es → at ≤ℤ from → AllLater at es
consecutive_after from at [] h k = All-nil (λ (e : Entry). int_le e.offset at ≡ false)
consecutive_after from at (e ∷ es) h k =
    let here : at <ℤ e.offset = let is = h.0 in omega (arith, ints, is, k) in
    All-cons (λ (x : Entry). int_le x.offset at ≡ false) e es (not_le e.offset at here) (consecutive_after (from +ℤ pos 1) at es h.1 (omega (arith, ints, k)))

pub entries_rise : (from : ℤ) (bs : List BatchRow) → Chain from bs → Rises int_cmp offset_of (entries bs)
entries_rise from bs h = consecutive_rises from (entries bs) (entries_consecutive from bs h)

pub entries_end : (from : ℤ) (bs : List BatchRow) → Chain from bs → AllBy (last_end from bs) (entries bs)
entries_end from bs h = let end = chain_end from bs h in consecutive_by from (last_end from bs) (entries bs) (entries_consecutive from bs h) (omega (arith, ints, end))

pub entries-append : (bs cs : List BatchRow) → entries (bs ++ cs) ≡ entries bs ++ entries cs
entries-append bs cs = flat_map-append entries_of_batch bs cs

-- ---- the end of a batch

head_is : (x y : ℤ) (xs ys : List ℤ) → x ∷ xs ≡ y ∷ ys → x ≡ y
head_is x y xs ys h = cc

tail_is : (x y : ℤ) (xs ys : List ℤ) → x ∷ xs ≡ y ∷ ys → xs ≡ ys
tail_is x y xs ys h = cc

none_there : (x : ℤ) (xs ys : List ℤ) → [] ≡ xs ++ x ∷ ys → ⊥
none_there x [] ys h = cc
none_there x (y ∷ xs) ys h = cc

pub cut_at : (from position : ℤ) (batches : List BatchRow) (before after : List ℤ) → from ∷ map last_of batches ≡ before ++ position ∷ after
    → (bs cs : List BatchRow) × (batches ≡ bs ++ cs) × (last_end from bs ≡ position)
cut_at from position batches [] after h = ([], batches, refl, head_is from position (map last_of batches) after h)
cut_at from position [] (x ∷ before) after h = absurd (none_there position before after (tail_is from x [] (before ++ position ∷ after) h))
cut_at from position (b ∷ bs) (x ∷ before) after h =
    let rest = cut_at (last_of b) position bs before after (tail_is from x (last_of b ∷ map last_of bs) (before ++ position ∷ after) h) in
    (b ∷ rest.0, rest.1, ap (λ l. b ∷ l) rest.2, rest.3)

end_there : (from : ℤ) (bs cs : List BatchRow) → (before after : List ℤ) × (from ∷ map last_of (bs ++ cs) ≡ before ++ last_end from bs ∷ after)
end_there from [] cs = ([], map last_of cs, refl)
end_there from (b ∷ bs) cs = let rest = end_there (last_of b) bs cs in (from ∷ rest.0, rest.1, ap (λ es. from ∷ es) rest.2)

-- A view of a log, said by the batches up to its position and those after it.
pub record Cut (l : Log) (v : View) : Type 0 where
  pub bs : List BatchRow
  pub cs : List BatchRow
  pub whole : l.batches ≡ bs ++ cs
  pub at : last_end l.base bs ≡ v.position
  pub image : v.image ≡ all_entries_applied (counting_records (entries bs) v.position) l.base_image
  pub begun : v.begun ≡ open_begin (entries bs)
  pub kept : v.kept ≡ records_of_open (entries bs)

module _ (l : Log) (position : ℤ) (bs cs : List BatchRow) (whole : l.batches ≡ bs ++ cs) (at : last_end l.base bs ≡ position) (chain : Chain l.base l.batches) where
  chained : Chain l.base (bs ++ cs)
  chained = subst (λ batches. Chain l.base batches) whole chain

  by : AllBy position (entries bs)
  by = subst (λ p. AllBy p (entries bs)) at (entries_end l.base bs (chain_left l.base bs cs chained))

  following : AllLater position (entries cs)
  following = subst (λ p. AllLater p (entries cs)) at
      (consecutive_after (last_end l.base bs) (last_end l.base bs) (entries cs) (entries_consecutive (last_end l.base bs) cs (chain_right l.base bs cs chained)) (omega (arith, ints)))

  rises : Rises int_cmp offset_of (entries bs ++ entries cs)
  rises = subst (λ es. Rises int_cmp offset_of es) (entries-append bs cs) (entries_rise l.base (bs ++ cs) chained)

  split : entries l.batches ≡ entries bs ++ entries cs
  split = ap entries whole ∙ entries-append bs cs

  counted_here : counting_records (entries l.batches) position ≡ counting_records (entries bs) position
  counted_here = ap (λ es. counting_records es position) split ∙ counted_before position (entries bs) (entries cs) rises following

  pub by_here : entries_by position (entries l.batches) ≡ entries bs
  by_here = ap (entries_by position) split ∙ by_split position (entries bs) (entries cs) by following

  ends_here : (before after : List ℤ) × (batch_ends l ≡ before ++ position ∷ after)
  ends_here =
      let e = end_there l.base bs cs in
      (e.0, e.1, ap (λ batches. l.base ∷ map last_of batches) whole ∙ e.2 ∙ ap (λ p. e.0 ++ p ∷ e.1) at)

pub cut_of : (l : Log) (v : View) → Chain l.base l.batches → IsAt l v → Cut l v
unfolding image_at
cut_of l v chain is =
    let c = cut_at l.base v.position l.batches is.end.0 is.end.1 is.end.2 in
    let same = by_here l v.position c.0 c.1 c.2 c.3 chain in
    record {
      bs = c.0;
      cs = c.1;
      whole = c.2;
      at = c.3;
      image = is.image ∙ ap (λ es. all_entries_applied es l.base_image) (counted_here l v.position c.0 c.1 c.2 c.3 chain);
      begun = is.begun ∙ ap open_begin same;
      kept = is.kept ∙ ap records_of_open same;
    }

pub of_cut : (l : Log) (v : View) → Chain l.base l.batches → Cut l v → IsAt l v
unfolding image_at
of_cut l v chain c =
    let same = by_here l v.position c.bs c.cs c.whole c.at chain in
    record {
      end = ends_here l v.position c.bs c.cs c.whole c.at chain;
      image = c.image ∙ ap (λ es. all_entries_applied es l.base_image) (sym (counted_here l v.position c.bs c.cs c.whole c.at chain));
      begun = c.begun ∙ ap open_begin (sym same);
      kept = c.kept ∙ ap records_of_open (sym same);
    }

-- ---- the batches after an offset

pub after_all : (from at : ℤ) (cs : List BatchRow) → at ≤ℤ from → Chain from cs → filter (begins_after at) cs ≡ cs
after_all from at [] le h = refl
after_all from at (b ∷ bs) le h =
    let first = h.0 in
    let last = last_of_is from b first in
    rw (is_lt at b.first (omega (arith, ints, first, le))) (ap (λ l. b ∷ l) (after_all (last_of b) at bs (omega (arith, ints, last, le)) h.1))

later_none : (from at : ℤ) (bs : List BatchRow) → last_end from bs ≤ℤ at → Follow from bs → filter (begins_after at) bs ≡ []
later_none from at [] le h = refl
later_none from at (b ∷ bs) le h =
    let first = h.0 in
    let some = h.1 in
    let last = last_of_is from b first in
    let end = chain_end (last_of b) bs (chain_of (last_of b) bs h.2) in
    rw (not_lt at b.first (omega (arith, ints, first, some, last, end, le))) (later_none (last_of b) at bs le h.2)

-- after the end of a batch are the batches that follow it
pub after_right : (from : ℤ) (bs cs : List BatchRow) → Follow from (bs ++ cs) → filter (begins_after (last_end from bs)) (bs ++ cs) ≡ cs
after_right from bs cs h =
    let at = last_end from bs in
    filter-append (begins_after at) bs cs
    ∙ ap (λ l. l ++ filter (begins_after at) cs) (later_none from at bs (omega (arith, ints)) (Follow-left from bs cs h))
    ∙ after_all at at cs (omega (arith, ints)) (chain_of at cs (Follow-right from bs cs h))
