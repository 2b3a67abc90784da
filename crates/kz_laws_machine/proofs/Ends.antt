-- The batch ends of a log, and its offsets.
use Rattle.std.proofs.Common.{◌≡◌, ℕ, ◌+◌, ◌<◌, ℤ, pos, negsuc, ◌+ℤ◌, ◌-ℤ◌, ◌≤ℤ◌, ◌<ℤ◌, List, [], ◌∷◌, ◌++◌, length, map, refl, sym, ap, ◌∙◌, subst, arith, append_assoc}
use Rattle.std.proofs.lemmas.Int.{ints}
use Rattle.std.proofs.lemmas.List.{map-append}
use Rattle.std.proofs.lemmas.List.Sums.{sum_by-append}
use Rattle.kz_types.specs.declared.log.BatchRow.{BatchRow}
use Rattle.kz_types.specs.declared.log.Entry.{Entry}
use Rattle.kz_types.specs.declared.record.MetaRecord.{MetaRecord}
use Rattle.kz_spec_data.specs.Image.{empty_image}
use Rattle.kz_spec_data.specs.Log.{Log, IsLog, Follow, last_of, last_end, end_of, record_count, entries_of_batch, entries, all_entries_applied, image_at, new_batch, with_batch}
use Rattle.kz_spec_machine.specs.Sound.{LogShape, IsBatchEnd}
use Rattle.kz_laws_machine.proofs.LogBatches.{AllAfter, counted_same, numbered_after}

-- ---- the last offset

step : (e : ℤ) (n : ℕ) → ((e +ℤ pos 1) +ℤ pos n) -ℤ pos 1 ≡ e +ℤ pos n
step e n = omega (arith, ints)

pub last_of_is : (end : ℤ) (b : BatchRow) → b.first ≡ end +ℤ pos 1 → last_of b ≡ end +ℤ pos (length b.items)
last_of_is end b is = ap (λ (f : ℤ). (f +ℤ pos (length b.items)) -ℤ pos 1) is ∙ step end (length b.items)

count_cons : (b : BatchRow) (bs : List BatchRow) → record_count (b ∷ bs) ≡ length b.items + record_count bs
count_cons b bs = sum_by-append (λ (x : BatchRow). length x.items) (b ∷ []) bs ∙ alone (length b.items) (record_count bs)
  where
    alone : (n m : ℕ) → (0 + n) + m ≡ n + m
    alone n m = omega arith

-- it is as many records after the base as there are
pub end_counts : (from : ℤ) (bs : List BatchRow) → Follow from bs → last_end from bs ≡ from +ℤ pos (record_count bs)
end_counts from [] follows = omega (arith, ints)
end_counts from (b ∷ bs) follows = end_counts (last_of b) bs follows.2 ∙ ap (λ (e : ℤ). e +ℤ pos (record_count bs)) (last_of_is from b follows.0) ∙ sum from (length b.items) (record_count bs) ∙ sym (ap (λ (n : ℕ). from +ℤ pos n) (count_cons b bs))
  where
    sum : (f : ℤ) (n m : ℕ) → (f +ℤ pos n) +ℤ pos m ≡ f +ℤ pos (n + m)
    sum f n m = omega (arith, ints)

pub end_is_count : (l : Log) → LogShape l → end_of l ≡ l.base +ℤ pos (record_count l.batches)
end_is_count l shape = end_counts l.base l.batches shape.log.follow

low : (b e : ℤ) (n : ℕ) → e ≡ b +ℤ pos n → b ≤ℤ e
low b e n is = omega (arith, ints)

-- the base isn't after it
pub base_within : (l : Log) → LogShape l → l.base ≤ℤ end_of l
base_within l shape = low l.base (end_of l) (record_count l.batches) (end_is_count l shape)

at_most_then : (a b c : ℤ) → a ≤ℤ b → b ≤ℤ c → a ≤ℤ c
at_most_then a b c x y = omega (arith, ints, x, y)

pub end_least : (l : Log) → LogShape l → negsuc 0 ≤ℤ end_of l
end_least l shape = at_most_then (negsuc 0) l.base (end_of l) shape.log.base (base_within l shape)

pub end_most : (l : Log) → LogShape l → end_of l ≤ℤ pos 9223372036854775807
end_most l shape = shape.log.end

-- ---- one batch more

pub follows_more : (from : ℤ) (bs : List BatchRow) (b : BatchRow) → Follow from bs → b.first ≡ last_end from bs +ℤ pos 1 → 0 < length b.items → Follow from (bs ++ b ∷ [])
follows_more from [] b follows is some = (is, some, tt)
follows_more from (x ∷ bs) b follows is some = (follows.0, follows.1, follows_more (last_of x) bs b follows.2 is some)

pub count_more : (bs : List BatchRow) (b : BatchRow) → record_count (bs ++ b ∷ []) ≡ record_count bs + length b.items
count_more bs b = sum_by-append (λ (x : BatchRow). length x.items) bs (b ∷ []) ∙ alone (record_count bs) (length b.items)
  where
    alone : (n m : ℕ) → n + (0 + m) ≡ n + m
    alone n m = omega arith

-- ---- batch ends

-- a list whose last item is this
pub record LastIs (xs : List ℤ) (e : ℤ) : Type 0 where
  pub front : List ℤ
  pub whole : xs ≡ front ++ e ∷ []

pub last_is : (from : ℤ) (bs : List BatchRow) → LastIs (from ∷ map last_of bs) (last_end from bs)
last_is from [] = record { front = []; whole = refl }
last_is from (b ∷ bs) = let rest = last_is (last_of b) bs in record { front = from ∷ rest.front; whole = ap (λ l. from ∷ l) rest.whole }

-- the log's end is a batch end
pub end_is_batch_end : (l : Log) → IsBatchEnd l (end_of l)
end_is_batch_end l = let e = last_is l.base l.batches in record { before = e.front; after = []; among = e.whole }

pub base_is_batch_end : (l : Log) → IsBatchEnd l l.base
base_is_batch_end l = record { before = []; after = map last_of l.batches; among = refl }

-- a batch end stays one
pub batch_end_kept : (l : Log) (epoch now : ℤ) (items : List MetaRecord) (offset : ℤ) → IsBatchEnd l offset → IsBatchEnd (with_batch l epoch now items) offset
batch_end_kept l epoch now items offset e =
    let b = new_batch l epoch now items in
    record {
      before = e.before;
      after = e.after ++ last_of b ∷ [];
      among = ap (λ ends. l.base ∷ ends) (map-append last_of l.batches (b ∷ [])) ∙ ap (λ ends. ends ++ last_of b ∷ []) e.among ∙ append_assoc e.before (offset ∷ e.after) (last_of b ∷ []);
    }

pub counted_up : (from e : ℤ) (n : ℕ) → e ≡ from +ℤ pos n → from ≤ℤ e
counted_up from e n is = omega (arith, ints)

within_by : (from : ℤ) (bs : List BatchRow) (before : List ℤ) (offset : ℤ) (after : List ℤ) → Follow from bs → from ∷ map last_of bs ≡ before ++ offset ∷ after → offset ≤ℤ last_end from bs
within_by from bs [] offset after follows is =
    let same : from ≡ offset = cc in
    subst (λ (o : ℤ). o ≤ℤ last_end from bs) same (counted_up from (last_end from bs) (record_count bs) (end_counts from bs follows))
within_by from [] (x ∷ []) offset after follows is = absurd (cc)
within_by from [] (x ∷ y ∷ before) offset after follows is = absurd (cc)
within_by from (b ∷ bs) (x ∷ before) offset after follows is =
    let rest : last_of b ∷ map last_of bs ≡ before ++ offset ∷ after = cc in
    within_by (last_of b) bs before offset after follows.2 rest

-- no batch end is after the log's end
pub batch_end_within : (l : Log) (offset : ℤ) → LogShape l → IsBatchEnd l offset → offset ≤ℤ end_of l
batch_end_within l offset shape e = within_by l.base l.batches e.before offset e.after shape.log.follow e.among

-- nor is one before the base
least_by : (from : ℤ) (bs : List BatchRow) (before : List ℤ) (offset : ℤ) (after : List ℤ) → Follow from bs → from ∷ map last_of bs ≡ before ++ offset ∷ after → from ≤ℤ offset
least_by from bs [] offset after follows is = let same : from ≡ offset = cc in subst (λ (o : ℤ). from ≤ℤ o) same (omega (arith, ints))
least_by from [] (x ∷ []) offset after follows is = absurd (cc)
least_by from [] (x ∷ y ∷ before) offset after follows is = absurd (cc)
least_by from (b ∷ bs) (x ∷ before) offset after follows is =
    let rest : last_of b ∷ map last_of bs ≡ before ++ offset ∷ after = cc in
    at_most_then from (last_of b) offset (counted_up from (last_of b) (length b.items) (last_of_is from b follows.0)) (least_by (last_of b) bs before offset after follows.2 rest)

pub least_end : (l : Log) (offset : ℤ) → IsLog l → IsBatchEnd l offset → l.base ≤ℤ offset
least_end l offset log e = least_by l.base l.batches e.before offset e.after log.follow e.among

pub batch_end_least : (l : Log) (offset : ℤ) → LogShape l → IsBatchEnd l offset → l.base ≤ℤ offset
batch_end_least l offset shape = least_end l offset shape.log

-- ---- at the base

all_after_append : (at : ℤ) (xs ys : List Entry) → AllAfter at xs → AllAfter at ys → AllAfter at (xs ++ ys)
all_after_append at [] ys a b = b
all_after_append at (x ∷ xs) ys a b = (a.0, all_after_append at xs ys a.1 b)

pub entries_after : (at from : ℤ) (bs : List BatchRow) → at ≤ℤ from → Follow from bs → AllAfter at (entries bs)
entries_after at from [] low follows = tt
entries_after at from (b ∷ bs) low follows = all_after_append at (entries_of_batch b) (entries bs)
    (numbered_after at b.first b.epoch b.items (first at from b.first low follows.0))
    (entries_after at (last_of b) bs (last at from (last_of b) (length b.items) low (last_of_is from b follows.0)) follows.2)
  where
    first : (at from f : ℤ) → at ≤ℤ from → f ≡ from +ℤ pos 1 → at <ℤ f
    first at from f low is = omega (arith, ints)

    last : (at from l : ℤ) (n : ℕ) → at ≤ℤ from → l ≡ from +ℤ pos n → at ≤ℤ l
    last at from l n low is = omega (arith, ints)

-- the metadata at the base is that of the base
pub base_image_is : (l : Log) → IsLog l → image_at l l.base ≡ l.base_image
unfolding image_at
base_image_is l log = ap (λ es. all_entries_applied es l.base_image) (counted_same l.base [] (entries l.batches) (entries_after l.base l.base l.batches (omega (arith, ints)) log.follow))

pub image_at_base : (l : Log) → LogShape l → image_at l l.base ≡ l.base_image
image_at_base l shape = base_image_is l shape.log

-- and empty, where the log begins with its first record
pub empty_before : (l : Log) → IsLog l → l.base ≡ negsuc 0 → image_at l (negsuc 0) ≡ empty_image
empty_before l log first = subst (λ (at : ℤ). image_at l at ≡ empty_image) first (base_image_is l log ∙ log.base_image first)

pub image_before : (l : Log) → LogShape l → l.base ≡ negsuc 0 → image_at l (negsuc 0) ≡ empty_image
image_before l shape = empty_before l shape.log
