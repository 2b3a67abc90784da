-- The batches of a log: their records, how many there are, and their offsets.
use Rattle.std.proofs.Common.{◌≡◌, ℕ, zero, suc, ◌+◌, ◌^◌, ◌<◌, ◌≤◌, Bool, true, false, ◌&&◌, cond, nat_lt, ℤ, pos, negsuc, ◌+ℤ◌, ◌≤ℤ◌, ◌<ℤ◌, int_le, int_lt, List, [], ◌∷◌, ◌++◌, length, get_or, drop, Some, None, refl, sym, ap, ◌∙◌, subst, take, filter, map, w64, to_z, of_z, arith}
use Rattle.std.proofs.lemmas.List.{take_more, map-append}
use Rattle.std.proofs.lemmas.Int.{ints, to_z-of_z}
use mir.Val.{SFits}
use Rattle.std.proofs.lemmas.Bool.Decides.{nat_tests}
use Rattle.std.specs.List.{find}
use Rattle.std.proofs.lemmas.List.Sums.{sum_by-cons, sum_by_push, sum_by_more}
use Rattle.kz_types.specs.declared.limits.Limit.TheVariants as limits
use Rattle.kz_types.specs.declared.limits.TheConstants.{MAX_LONG, MAX_RECORDS}
use Rattle.kz_types.specs.Limits.{number_of_limit}
use Rattle.kz_types.specs.declared.log.BatchRow.{BatchRow}
use Rattle.kz_types.specs.declared.log.Entry.{Entry}
use Rattle.kz_types.specs.declared.record.MetaRecord.{MetaRecord}
use Rattle.kz_spec_data.specs.Log.{Log, IsLog, Follow, EpochsNeverFall, begins_after, end_of, image_at, full_log, with_batch, last_of, last_end, record_count, entries_at_offsets, entries, all_entries_applied}
use Rattle.kz_spec_data.specs.Settlement.{counting_records, closes, is_end, is_ended_by}
use Rattle.kz_settle.specs.Settling.{closes_entry, is_open_after, records_of_pass, ends_by}
use Rattle.kz_settle.proofs.Passing.{counted_is_pass}
use Rattle.kz_log.specs.Reading.{entries_after, unread_entries, image_after}
use Rattle.kz_log.proofs.Offsets.{Consecutive, numbered_consecutive, consecutive_rises, last_of_is, last_end-append, of_lt, not_lt, of_not_lt, of_le}

-- ---- how many records there are, and the last offset

pub record_count-cons : (b : BatchRow) (bs : List BatchRow) → record_count (b ∷ bs) ≡ length b.items + record_count bs
record_count-cons b bs = sum_by-cons (λ (x : BatchRow). length x.items) b bs

pub last_end_is : (from : ℤ) (bs : List BatchRow) → Follow from bs → last_end from bs ≡ from +ℤ pos (record_count bs)
last_end_is from [] h = omega (arith, ints)
last_end_is from (b ∷ bs) h = let step = last_end_is (last_of b) bs h.2 in let last = last_of_is from b h.0 in let count = record_count-cons b bs in omega (arith, ints, step, last, count)

pub record_count-push : (bs : List BatchRow) (b : BatchRow) → record_count (bs ++ b ∷ []) ≡ record_count bs + length b.items
record_count-push bs b = sum_by_push (λ (x : BatchRow). length x.items) bs b

pub Follow-push : (from : ℤ) (bs : List BatchRow) (b : BatchRow) → Follow from bs → b.first ≡ last_end from bs +ℤ pos 1 → 0 < length b.items → Follow from (bs ++ b ∷ [])
Follow-push from [] b h first some = (first, some, tt)
Follow-push from (x ∷ bs) b h first some = (h.0, h.1, Follow-push (last_of x) bs b h.2 first some)

pub EpochsNeverFall-push : (least most more : ℤ) (bs : List BatchRow) (b : BatchRow) → EpochsNeverFall least most bs → most ≤ℤ more → least ≤ℤ b.epoch → most ≤ℤ b.epoch → b.epoch ≤ℤ more → EpochsNeverFall least more (bs ++ b ∷ [])
EpochsNeverFall-push least most more [] b h rise low above high = (low, high, tt)
EpochsNeverFall-push least most more (x ∷ bs) b h rise low above high =
    let under = h.1 in
    (h.0, omega (arith, ints, under, rise), EpochsNeverFall-push x.epoch most more bs b h.2 rise (omega (arith, ints, under, above)) above high)

-- ---- the records with their offsets

pub entries_by_offset : (from : ℤ) (bs : List BatchRow) → Follow from bs → entries bs ≡ entries_after from bs
entries_by_offset from [] h = refl
entries_by_offset from (b ∷ bs) h =
    ap (λ es. entries_at_offsets b.first b.epoch b.items ++ es) (entries_by_offset (last_of b) bs h.2 ∙ ap (λ o. entries_after o bs) (last_of_is from b h.0))
    ∙ ap (λ o. entries_at_offsets o b.epoch b.items ++ entries_after (from +ℤ pos (length b.items)) bs) h.0

pub entries_after_consecutive : (from : ℤ) (bs : List BatchRow) → Consecutive from (entries_after from bs)
entries_after_consecutive from [] = tt
entries_after_consecutive from (b ∷ bs) = numbered_consecutive from (from +ℤ pos 1) b.epoch b.items (entries_after (from +ℤ pos (length b.items)) bs) refl (entries_after_consecutive (from +ℤ pos (length b.items)) bs)

pub unread_consecutive : (from epoch : ℤ) (items : List MetaRecord) (rest : List BatchRow) → Consecutive from (unread_entries from epoch items rest)
unread_consecutive from epoch items rest = numbered_consecutive from (from +ℤ pos 1) epoch items (entries_after (from +ℤ pos (length items)) rest) refl (entries_after_consecutive (from +ℤ pos (length items)) rest)

-- ---- what the records after an offset do to the metadata

-- what tests of an offset in range say
pub is_before : (x y : ℤ) → SFits w64 x → int_lt (to_z w64 (of_z w64 x)) y ≡ true → x <ℤ y
is_before x y f test = subst (λ z. z <ℤ y) (to_z-of_z w64 x f) (of_lt (to_z w64 (of_z w64 x)) y test)

pub is_not_before : (x y : ℤ) → SFits w64 x → int_lt (to_z w64 (of_z w64 x)) y ≡ false → y ≤ℤ x
is_not_before x y f test = subst (λ z. y ≤ℤ z) (to_z-of_z w64 x f) (of_not_lt (to_z w64 (of_z w64 x)) y test)

pub is_at_most : (x y : ℤ) → SFits w64 x → int_le (to_z w64 (of_z w64 x)) y ≡ true → x ≤ℤ y
is_at_most x y f test = subst (λ z. z ≤ℤ y) (to_z-of_z w64 x f) (of_le (to_z w64 (of_z w64 x)) y test)

and_false : (a : Bool) → a && false ≡ false
and_false true = refl
and_false false = refl

module _ (at : ℤ) where
  pub past : (from : ℤ) (e : Entry) → e.offset ≡ from +ℤ pos 1 → at ≤ℤ from → int_le e.offset at ≡ false
  past from e h over = grind (arith, ints)

  pub within : (from : ℤ) (e : Entry) → e.offset ≡ from +ℤ pos 1 → from <ℤ at → int_le e.offset at ≡ true
  within from e h under = grind (arith, ints)

  pub pass_none : (from : ℤ) (inside : Bool) (es : List Entry) → Consecutive from es → at ≤ℤ from → records_of_pass at inside es ≡ []
  pass_none from inside [] h over = refl
  pass_none from inside (e ∷ es) h over = rw (past from e h.0 over) (pass_none (from +ℤ pos 1) (is_open_after inside e.item) es h.1 (omega (arith, ints, over)))

  ends_none_by : (b : Bool) (from : ℤ) (e : Entry) (es : List Entry) → e.offset ≡ from +ℤ pos 1 → at ≤ℤ from → ends_by at es ≡ false → is_ended_by at (cond b (Some e) (find closes_entry es)) ≡ false
  ends_none_by true from e es h over rest = rw (past from e h over) (and_false (is_end e.item))
  ends_none_by false from e es h over rest = rest

  pub ends_none : (from : ℤ) (es : List Entry) → Consecutive from es → at ≤ℤ from → ends_by at es ≡ false
  ends_none from [] h over = refl
  ends_none from (e ∷ es) h over = ends_none_by (closes e.item) from e es h.0 over (ends_none (from +ℤ pos 1) es h.1 (omega (arith, ints, over)))

-- ---- one record

skip_by : (c : Bool) (at : ℤ) (e : Entry) (es : List Entry) → c ≡ false → is_ended_by at (cond c (Some e) (find closes_entry es)) ≡ ends_by at es
skip_by true at e es h = cc
skip_by false at e es h = refl

-- what ends no transaction leaves the end to the records after it
pub ends_skip : (at : ℤ) (e : Entry) (es : List Entry) → closes e.item ≡ false → ends_by at (e ∷ es) ≡ ends_by at es
ends_skip at e es h = skip_by (closes e.item) at e es h

-- ---- the log

pub end_is : (l : Log) → IsLog l → end_of l ≡ l.base +ℤ pos (record_count l.batches)
end_is l k = last_end_is l.base l.batches k.follow

-- all offsets are in range
pub end_low : (l : Log) → IsLog l → negsuc 0 ≤ℤ end_of l
end_low l k = let e = end_is l k in let base = k.base in omega (arith, ints, e, base)

pub end_high : (l : Log) → IsLog l → (l.base +ℤ pos (record_count l.batches)) ≤ℤ MAX_LONG
end_high l k = subst (λ o. o ≤ℤ MAX_LONG) (end_is l k) k.end

-- so a list in memory has room for all records
pub count_fits : (l : Log) → IsLog l → record_count l.batches < 2 ^ 64
count_fits l k = let high = end_high l k in let base = k.base in omega (arith, ints, high, base)

pub image_at_is : (l : Log) → IsLog l → (at : ℤ) → image_at l at ≡ image_after at false (entries_after l.base l.batches) l.base_image
unfolding image_at
image_at_is l k at =
    ap (λ es. all_entries_applied (counting_records es at) l.base_image) (entries_by_offset l.base l.batches k.follow)
    ∙ ap (λ es. all_entries_applied es l.base_image)
    (counted_is_pass (entries_after l.base l.batches) at (consecutive_rises l.base (entries_after l.base l.batches) (entries_after_consecutive l.base l.batches)))

-- ---- a batch more

room_by : (records long : ℕ) (many far : Bool) → cond many (Some records) (cond far (Some long) None) ≡ None → (many ≡ false) × (far ≡ false)
room_by records long true far h = cc
room_by records long false true h = cc
room_by records long false false h = (refl, refl)

of_few : (count : ℕ) → nat_lt MAX_RECORDS count ≡ false → count ≤ MAX_RECORDS
of_few count h = grind (arith, nat_tests)

-- what isn't full has room
pub room_for : (l : Log) (items : List MetaRecord) → full_log l items ≡ None → (record_count l.batches + length items ≤ MAX_RECORDS) × ((end_of l +ℤ pos (length items)) ≤ℤ MAX_LONG)
room_for l items h =
    let both = room_by (number_of_limit limits.Records) (number_of_limit limits.Long) (nat_lt MAX_RECORDS (record_count l.batches + length items)) (int_lt MAX_LONG (end_of l +ℤ pos (length items))) h in
    (of_few (record_count l.batches + length items) both.0, of_not_lt MAX_LONG (end_of l +ℤ pos (length items)) both.1)

pub is_log_added : (l : Log) (epoch now : ℤ) (items : List MetaRecord) → IsLog l → pos 1 ≤ℤ epoch → l.epoch ≤ℤ epoch → 0 < length items → full_log l items ≡ None → IsLog (with_batch l epoch now items)
is_log_added l epoch now items k elected climbs some free =
    let b : BatchRow = record { first = end_of l +ℤ pos 1; epoch = epoch; time = now; items = items } in
    let room = room_for l items free in
    let last : last_end l.base (l.batches ++ b ∷ []) ≡ end_of l +ℤ pos (length items) = last_end-append l.base l.batches (b ∷ []) ∙ last_of_is (end_of l) b refl in
    record {
      epoch = omega (arith, ints, elected);
      base = k.base;
      base_image = k.base_image;
      follow = Follow-push l.base l.batches b k.follow refl some;
      epochs = EpochsNeverFall-push (pos 1) l.epoch epoch l.batches b k.epochs climbs elected climbs (omega (arith, ints));
      end = subst (λ o. o ≤ℤ MAX_LONG) (sym last) room.1;
    }

-- the log with this batch, where its parts are those of the definition
pub added_is : (l : Log) (b : BatchRow) (epoch now : ℤ) (items : List MetaRecord) → b.first ≡ end_of l +ℤ pos 1 → b.epoch ≡ epoch → b.time ≡ now → b.items ≡ items
    → ◌≡◌ {A = Log} (record l { epoch = epoch; batches = l.batches ++ b ∷ [] }) (with_batch l epoch now items)
added_is l b epoch now items first e t is =
    let row : ℤ → ℤ → ℤ → List MetaRecord → BatchRow = λ f x y rs. record { first = f; epoch = x; time = y; items = rs } in
    let same : b ≡ row (end_of l +ℤ pos 1) epoch now items =
    ap (λ f. row f b.epoch b.time b.items) first ∙ ap (λ x. row (end_of l +ℤ pos 1) x b.time b.items) e
    ∙ ap (λ y. row (end_of l +ℤ pos 1) epoch y b.items) t ∙ ap (row (end_of l +ℤ pos 1) epoch now) is in
    ap (λ (x : BatchRow). record l { epoch = epoch; batches = l.batches ++ x ∷ [] }) same

-- ---- the batches after an offset

first_after : (from : ℤ) (bs : List BatchRow) (i : ℕ) (b : BatchRow) → Follow from bs → i < length bs → b ≡ get_or bs i b → from <ℤ b.first
first_after from [] i b h lt is = absurd (omega arith)
first_after from (x ∷ bs) zero b h lt is = let e = ap (λ (y : BatchRow). y.first) is ∙ h.0 in omega (arith, ints, e)
first_after from (x ∷ bs) (suc i) b h lt is =
    let rest = first_after (last_of x) bs i b h.2 (omega arith) is in
    let last = last_of_is from x h.0 in omega (arith, ints, rest, last)

-- none of those before one that isn't
pub none_later : (from after : ℤ) (bs : List BatchRow) (i : ℕ) (b : BatchRow) → Follow from bs → i < length bs → b ≡ get_or bs i b → b.first ≤ℤ after
    → drop (suc i) bs ≡ filter (begins_after after) (drop (suc i) bs) → drop (suc i) bs ≡ filter (begins_after after) bs
none_later from after [] i b h lt is le rest = absurd (omega arith)
none_later from after (x ∷ bs) zero b h lt is le rest =
    let t : begins_after after x ≡ false = ap (λ (y : BatchRow). begins_after after y) (sym is) ∙ not_lt after b.first le in
    rw t rest
none_later from after (x ∷ bs) (suc i) b h lt is le rest =
    let later = first_after (last_of x) bs i b h.2 (omega arith) is in
    let first : x.first ≤ℤ after = let last = last_of_is from x h.0 in let f = h.0 in omega (arith, ints, later, last, f, le) in
    rw (not_lt after x.first first) (none_later (last_of x) after bs i b h.2 (omega arith) is le rest)

-- ---- the ends of batches

pub count_more : (bs : List BatchRow) (i : ℕ) (b : BatchRow) → i < length bs → b ≡ get_or bs i b → record_count (take (i + 1) bs) ≡ record_count (take i bs) + length b.items
count_more bs i b h is = sum_by_more (λ (x : BatchRow). length x.items) bs i b h ∙ ap (λ (x : BatchRow). record_count (take i bs) + length x.items) (sym is)

pub last_at : (from : ℤ) (bs : List BatchRow) (i : ℕ) (b : BatchRow) → Follow from bs → i < length bs → b ≡ get_or bs i b → last_of b ≡ from +ℤ pos (record_count (take i bs) + length b.items)
last_at from [] i b h lt is = absurd (omega arith)
last_at from (x ∷ bs) zero b h lt is = last_of_is from b (ap (λ (y : BatchRow). y.first) is ∙ h.0) ∙ omega (arith, ints)
last_at from (x ∷ bs) (suc i) b h lt is =
    let rest = last_at (last_of x) bs i b h.2 (omega arith) is in
    let last = last_of_is from x h.0 in
    let count = record_count-cons x (take i bs) in omega (arith, ints, rest, last, count)

pub ends_more : (bs : List BatchRow) (i : ℕ) (b : BatchRow) → i < length bs → b ≡ get_or bs i b → map last_of (take (i + 1) bs) ≡ map last_of (take i bs) ++ last_of b ∷ []
ends_more bs i b h is = ap (map last_of) (take_more bs i b h ∙ ap (λ x. take i bs ++ x ∷ []) (sym is)) ∙ map-append last_of (take i bs) (b ∷ [])
