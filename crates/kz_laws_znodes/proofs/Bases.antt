-- The offsets at which a log may be cut, and the metadata before its first record.
use Rattle.std.proofs.Common.{◌≡◌, ◌⊎◌, inl, inr, ℕ, zero, suc, ℤ, pos, negsuc, ◌+ℤ◌, ◌≤ℤ◌, ◌<ℤ◌, int_le, Bool, true, false, ◌&&◌, ◌||◌, cond, List, [], ◌∷◌, ◌++◌, map, filter, refl, sym, ap, ◌∙◌, subst, arith, w64, FitsSigned}
use Rattle.std.specs.Prelude.{⊤}
use Rattle.std.specs.List.{list_any}
use Rattle.std.specs.Ordering.{int_eq}
use Rattle.std.proofs.lemmas.Int.{ints}
use Rattle.std.proofs.lemmas.Bool.Decides.{Decides-int_eq}
use Rattle.kz_types.specs.declared.log.BatchRow.{BatchRow}
use Rattle.kz_types.specs.declared.log.Entry.{Entry}
use Rattle.kz_types.specs.declared.record.MetaRecord.{MetaRecord}
use Rattle.kz_spec_data.specs.Metadata.{Image, empty_image}
use Rattle.kz_spec_data.specs.Settlement.{is_counted}
use Rattle.kz_spec_data.specs.Log.{Log, IsLog, Follow, last_of, last_end, end_of, entries_at_offsets, entries_of_batch, entries, all_entries_applied, image_at, may_be_base}

-- ---- the offset

at_most : (a b c : ℤ) → a ≤ℤ b → b ≤ℤ c → a ≤ℤ c
at_most a b c x y = omega (arith, ints, x, y)

itself : (a : ℤ) → a ≤ℤ a
itself a = omega (arith, ints)

-- the last offset of a batch isn't before the offset that it follows
last_later : (from : ℤ) (b : BatchRow) → b.first ≡ from +ℤ pos 1 → from ≤ℤ last_of b
last_later from b first = omega (arith, ints, first)

-- a batch end stands between the first and the last
record IsBetween (from at end : ℤ) : Type 0 where
  low : from ≤ℤ at
  high : at ≤ℤ end

ends_later : (from : ℤ) (bs : List BatchRow) → Follow from bs → from ≤ℤ last_end from bs
ends_later from [] follows = itself from
ends_later from (b ∷ bs) follows = at_most from (last_of b) (last_end (last_of b) bs) (last_later from b follows.0) (ends_later (last_of b) bs follows.2)

first_end : (from at : ℤ) (bs : List BatchRow) → Follow from bs → at ≡ from → IsBetween from at (last_end from bs)
first_end from at bs follows same = record { low = subst (λ o. from ≤ℤ o) (sym same) (itself from); high = subst (λ o. o ≤ℤ last_end from bs) (sym same) (ends_later from bs follows) }

later_end : (from at : ℤ) (b : BatchRow) (bs : List BatchRow) → Follow from (b ∷ bs) → IsBetween (last_of b) at (last_end (last_of b) bs) → IsBetween from at (last_end from (b ∷ bs))
later_end from at b bs follows rest = record { low = at_most from (last_of b) at (last_later from b follows.0) rest.low; high = rest.high }

is_either : (a b : Bool) → (a || b) ≡ true → (a ≡ true) ⊎ (b ≡ true)
is_either true b is = inl refl
is_either false b is = inr is

end_between : (from at : ℤ) (bs : List BatchRow) → Follow from bs → list_any (int_eq at) (from ∷ map last_of bs) ≡ true → IsBetween from at (last_end from bs)
end_between from at [] follows is = by (is_either (int_eq at from) false is)
  where
    by : (int_eq at from ≡ true) ⊎ (false ≡ true) → IsBetween from at from
    by (inl same) = first_end from at [] follows ((Decides-int_eq at from).0 same)
    by (inr never) = absurd (cc)
end_between from at (b ∷ bs) follows is = by (is_either (int_eq at from) (list_any (int_eq at) (last_of b ∷ map last_of bs)) is) (end_between (last_of b) at bs follows.2)
  where
    by : (int_eq at from ≡ true) ⊎ (list_any (int_eq at) (last_of b ∷ map last_of bs) ≡ true) → (list_any (int_eq at) (last_of b ∷ map last_of bs) ≡ true → IsBetween (last_of b) at (last_end (last_of b) bs)) → IsBetween from at (last_end from (b ∷ bs))
    by (inl same) go = first_end from at (b ∷ bs) follows ((Decides-int_eq at from).0 same)
    by (inr later) go = later_end from at b bs follows (go later)

both_true : (a b : Bool) → (a && b) ≡ true → a ≡ true
both_true true b is = refl
both_true false b is = is

base_between : (l : Log) (at : ℤ) → IsLog l → may_be_base l at ≡ true → IsBetween l.base at (end_of l)
base_between l at log may = end_between l.base at l.batches log.follow (both_true _ _ may)

fits_long : (at : ℤ) → negsuc 0 ≤ℤ at → at ≤ℤ pos 9223372036854775807 → FitsSigned w64 at
fits_long (pos n) low high = omega (arith, ints, high)
fits_long (negsuc n) low high = omega (arith, ints, low)

pub offset_fits : (l : Log) (at : ℤ) → IsLog l → may_be_base l at ≡ true → FitsSigned w64 at
offset_fits l at log may =
    let between = base_between l at log may in
    fits_long at (at_most (negsuc 0) l.base at log.base between.low) (at_most at (end_of l) (pos 9223372036854775807) between.high log.end)

-- ---- the metadata before the first record

abbrev AllAfter : ℤ → List Entry → Type 0
AllAfter at [] = ⊤
AllAfter at (e ∷ es) = (at <ℤ e.offset) × AllAfter at es

after_append : (at : ℤ) (es fs : List Entry) → AllAfter at es → AllAfter at fs → AllAfter at (es ++ fs)
after_append at [] fs a b = b
after_append at (e ∷ es) fs a b = (a.0, after_append at es fs a.1 b)

later_yet : (at offset : ℤ) → at <ℤ offset → at <ℤ (offset +ℤ pos 1)
later_yet at offset h = omega (arith, ints, h)

numbered_after : (at offset epoch : ℤ) (rs : List MetaRecord) → at <ℤ offset → AllAfter at (entries_at_offsets offset epoch rs)
numbered_after at offset epoch [] h = tt
numbered_after at offset epoch (r ∷ rs) h = (h, numbered_after at (offset +ℤ pos 1) epoch rs (later_yet at offset h))

first_later : (at from first : ℤ) → at ≤ℤ from → first ≡ from +ℤ pos 1 → at <ℤ first
first_later at from first low is = omega (arith, ints, low, is)

entries_after : (at from : ℤ) (bs : List BatchRow) → at ≤ℤ from → Follow from bs → AllAfter at (entries bs)
entries_after at from [] low follows = tt
entries_after at from (b ∷ bs) low follows =
    after_append at (entries_of_batch b) (entries bs) (numbered_after at b.first b.epoch b.items (first_later at from b.first low follows.0))
    (entries_after at (last_of b) bs (at_most at from (last_of b) low (last_later from b follows.0)) follows.2)

not_by : (at offset : ℤ) → at <ℤ offset → int_le offset at ≡ false
not_by at offset h = grind (arith, ints)

first_fails : (a b c : Bool) → a ≡ false → (a && b && c) ≡ false
first_fails true b c is = absurd (cc)
first_fails false b c is = refl

none_counts : (at : ℤ) (all es : List Entry) → AllAfter at es → filter (is_counted all at) es ≡ []
none_counts at all [] after = refl
none_counts at all (e ∷ es) after =
    ap (λ t. cond t (e ∷ filter (is_counted all at) es) (filter (is_counted all at) es)) (first_fails (int_le e.offset at) _ _ (not_by at e.offset after.0))
    ∙ none_counts at all es after.1

both : (a b : ℤ) → a ≤ℤ b → b ≤ℤ a → a ≡ b
both a b x y = omega (arith, ints, x, y)

pub image_before : (l : Log) → IsLog l → may_be_base l (negsuc 0) ≡ true → image_at l (negsuc 0) ≡ empty_image
unfolding image_at
image_before l log may =
    let between = base_between l (negsuc 0) log may in
    ap (λ es. all_entries_applied es l.base_image) (none_counts (negsuc 0) (entries l.batches) (entries l.batches) (entries_after (negsuc 0) l.base l.batches log.base log.follow))
    ∙ log.base_image (both l.base (negsuc 0) between.low log.base)

-- The offset is at least 0, or it is -1 and the metadata there is empty: what is so of empty metadata is so there.
pub base_or_none : (l : Log) (at : ℤ) → IsLog l → may_be_base l at ≡ true → (p : Image → Bool) → p empty_image ≡ true → (int_le (pos 0) at || p (image_at l at)) ≡ true
base_or_none l (pos n) log may p none = ap (λ t. t || p (image_at l (pos n))) (least n)
  where
    least : (n : ℕ) → int_le (pos 0) (pos n) ≡ true
    least n = grind (arith, ints)
base_or_none l (negsuc zero) log may p none = ap p (image_before l log may) ∙ none
base_or_none l (negsuc (suc n)) log may p none = let between = base_between l (negsuc (suc n)) log may in absurd (too_low n (at_most (negsuc 0) l.base (negsuc (suc n)) log.base between.low))
  where
    too_low : (n : ℕ) → negsuc 0 ≤ℤ negsuc (suc n) → ⊥
    too_low n h = omega (arith, ints, h)
