-- An append leaves the images of a log at every offset up to its end.
use Rattle.std.proofs.Common.{◌≡◌, ℕ, ℤ, pos, ◌+ℤ◌, ◌-ℤ◌, ◌≤ℤ◌, ◌<ℤ◌, int_le, int_lt, Bool, true, false, not, ◌&&◌, ◌||◌, cond, List, [], ◌∷◌, ◌++◌, length, Option, Some, refl, ap, ◌∙◌, filter, arith, append-nil}
use Rattle.std.specs.Prelude.{⊤}
use Rattle.std.specs.List.{list_any, find}
use Rattle.std.proofs.lemmas.Int.{ints}
use Rattle.std.proofs.lemmas.List.Elements.{filter-append, filter_agree}
use Rattle.std.proofs.lemmas.List.Concat.{flat_map-append}
use Rattle.kz_types.specs.declared.log.BatchRow.{BatchRow}
use Rattle.kz_types.specs.declared.log.Entry.{Entry}
use Rattle.kz_types.specs.declared.record.MetaRecord.{MetaRecord}
use Rattle.kz_spec_data.specs.Settlement.{is_begin, is_end, closes, is_marker, is_closed_between, is_inside, first_close, is_ended_by, is_counted, counting_records}
use Rattle.kz_spec_data.specs.Log.{Log, last_of, last_end, end_of, entries_at_offsets, entries_of_batch, entries, all_entries_applied, image_at, new_batch, with_batch}

-- ---- records after an offset

abbrev pub AllAfter : ℤ → List Entry → Type 0
AllAfter at [] = ⊤
AllAfter at (e ∷ es) = (at <ℤ e.offset) × AllAfter at es

pub not_at_most : (a b : ℤ) → a <ℤ b → int_le b a ≡ false
not_at_most a b h = grind (arith, ints)

not_less : (a b : ℤ) → a ≤ℤ b → int_lt b a ≡ false
not_less a b h = grind (arith, ints)

at_most : (a b : ℤ) → int_le a b ≡ true → a ≤ℤ b
at_most a b is = grind (arith, ints)

pub and_second : (a b c : Bool) → b ≡ false → (a && b && c) ≡ false
and_second true true c is = absurd (cc)
and_second true false c is = refl
and_second false b c is = refl

pub and_third : (a b c : Bool) → c ≡ false → (a && b && c) ≡ false
and_third true true c is = is
and_third true false c is = refl
and_third false b c is = refl

pub and_last : (a b : Bool) → b ≡ false → (a && b) ≡ false
and_last true b is = is
and_last false b is = refl

none_of : (at : ℤ) (p : Entry → Bool) (new : List Entry) → ((e : Entry) → at <ℤ e.offset → p e ≡ false) → AllAfter at new → list_any p new ≡ false
none_of at p [] not_one after = refl
none_of at p (e ∷ new) not_one after = ap (λ b. b || list_any p new) (not_one e after.0) ∙ none_of at p new not_one after.1

pub any_same : (at : ℤ) (p : Entry → Bool) (es new : List Entry) → ((e : Entry) → at <ℤ e.offset → p e ≡ false) → AllAfter at new → list_any p (es ++ new) ≡ list_any p es
any_same at p [] new not_one after = none_of at p new not_one after
any_same at p (e ∷ es) new not_one after = ap (λ b. p e || b) (any_same at p es new not_one after)

pub any_agree : (p q : Entry → Bool) (es : List Entry) → ((e : Entry) → p e ≡ q e) → list_any p es ≡ list_any q es
any_agree p q [] agree = refl
any_agree p q (e ∷ es) agree = ap (λ b. b || list_any p es) (agree e) ∙ ap (λ b. q e || b) (any_agree p q es agree)

pub filter_none : (at : ℤ) (p : Entry → Bool) (new : List Entry) → ((e : Entry) → at <ℤ e.offset → p e ≡ false) → AllAfter at new → filter p new ≡ []
filter_none at p [] not_one after = refl
filter_none at p (e ∷ new) not_one after = ap (λ b. cond b (e ∷ filter p new) (filter p new)) (not_one e after.0) ∙ filter_none at p new not_one after.1

ended_step : (at : ℤ) (b : Bool) (e : Entry) (m n : Option Entry) → is_ended_by at m ≡ is_ended_by at n → is_ended_by at (cond b (Some e) m) ≡ is_ended_by at (cond b (Some e) n)
ended_step at true e m n is = refl
ended_step at false e m n is = is

ended_later : (at : ℤ) (b : Bool) (e : Entry) (m : Option Entry) → at <ℤ e.offset → is_ended_by at m ≡ false → is_ended_by at (cond b (Some e) m) ≡ false
ended_later at true e m later is = and_last (is_end e.item) (int_le e.offset at) (not_at_most at e.offset later)
ended_later at false e m later is = is

none_ends : (at : ℤ) (p : Entry → Bool) (new : List Entry) → AllAfter at new → is_ended_by at (find p new) ≡ false
none_ends at p [] after = refl
none_ends at p (e ∷ new) after = ended_later at (p e) e (find p new) after.0 (none_ends at p new after.1)

ended_same : (at : ℤ) (p : Entry → Bool) (es new : List Entry) → AllAfter at new → is_ended_by at (find p (es ++ new)) ≡ is_ended_by at (find p es)
ended_same at p [] new after = none_ends at p new after
ended_same at p (e ∷ es) new after = ended_step at (p e) e (find p (es ++ new)) (find p es) (ended_same at p es new after)

-- ---- which records count

between_same : (at from to : ℤ) (es new : List Entry) → to ≤ℤ at → AllAfter at new → is_closed_between (es ++ new) from to ≡ is_closed_between es from to
between_same at from to es new low after = any_same at (λ (e : Entry). closes e.item && int_lt from e.offset && int_lt e.offset to) es new
    (λ e later. and_third (closes e.item) (int_lt from e.offset) (int_lt e.offset to) (not_less to e.offset (omega (arith, ints)))) after

abbrev pub opens : List Entry → ℤ → Entry → Bool
opens es offset b = is_begin b.item && int_lt b.offset offset && not (is_closed_between es b.offset offset)

pub inside_same : (at offset : ℤ) (es new : List Entry) → offset ≤ℤ at → AllAfter at new → is_inside (es ++ new) offset ≡ is_inside es offset
inside_same at offset es new low after =
    any_same at (opens (es ++ new) offset) es new (λ e later. and_second (is_begin e.item) (int_lt e.offset offset) (not (is_closed_between (es ++ new) e.offset offset)) (not_less offset e.offset (omega (arith, ints)))) after
    ∙ any_agree (opens (es ++ new) offset) (opens es offset) es (λ b. ap (λ x. is_begin b.item && int_lt b.offset offset && not x) (between_same at b.offset offset es new low after))

abbrev counts_where : Bool → Bool → Bool → Bool → Bool
counts_where early marker inside ended = early && not marker && (not inside || ended)

same_where : (early marker : Bool) (x y z w : Bool) → (early ≡ true → x ≡ y) → z ≡ w → counts_where early marker x z ≡ counts_where early marker y w
same_where true marker x y z w inside ended = ap (λ b. true && not marker && (not b || z)) (inside refl) ∙ ap (λ b. true && not marker && (not y || b)) ended
same_where false marker x y z w inside ended = refl

counted_one : (at : ℤ) (es new : List Entry) (e : Entry) → AllAfter at new → is_counted (es ++ new) at e ≡ is_counted es at e
counted_one at es new e after = same_where (int_le e.offset at) (is_marker e.item) (is_inside (es ++ new) e.offset) (is_inside es e.offset)
    (is_ended_by at (first_close (es ++ new) e.offset)) (is_ended_by at (first_close es e.offset))
    (λ early. inside_same at e.offset es new (at_most e.offset at early) after)
    (ended_same at (λ (x : Entry). closes x.item && int_lt e.offset x.offset) es new after)

late : (early marker inside ended : Bool) → early ≡ false → counts_where early marker inside ended ≡ false
late true marker inside ended is = absurd (cc)
late false marker inside ended is = refl

pub counted_same : (at : ℤ) (es new : List Entry) → AllAfter at new → counting_records (es ++ new) at ≡ counting_records es at
counted_same at es new after =
    filter_agree (is_counted (es ++ new) at) (is_counted es at) (λ e. counted_one at es new e after) (es ++ new)
    ∙ filter-append (is_counted es at) es new
    ∙ ap (λ l. counting_records es at ++ l) (filter_none at (is_counted es at) new (λ e later. late (int_le e.offset at) (is_marker e.item) (is_inside es e.offset) (is_ended_by at (first_close es e.offset)) (not_at_most at e.offset later)) after)
    ∙ append-nil (counting_records es at)

-- ---- the image

pub numbered_after : (at offset epoch : ℤ) (items : List MetaRecord) → at <ℤ offset → AllAfter at (entries_at_offsets offset epoch items)
numbered_after at offset epoch [] later = tt
numbered_after at offset epoch (r ∷ rs) later = (later, numbered_after at (offset +ℤ pos 1) epoch rs (omega (arith, ints)))

pub image_kept : (l : Log) (epoch now : ℤ) (items : List MetaRecord) (at : ℤ) → at ≤ℤ end_of l → image_at (with_batch l epoch now items) at ≡ image_at l at
unfolding image_at
image_kept l epoch now items at low =
    let b = new_batch l epoch now items in
    let more : entries (l.batches ++ b ∷ []) ≡ entries l.batches ++ entries_of_batch b = flat_map-append entries_of_batch l.batches (b ∷ []) ∙ ap (λ es. entries l.batches ++ es) (append-nil (entries_of_batch b)) in
    ap (λ es. all_entries_applied (counting_records es at) l.base_image) more
    ∙ ap (λ es. all_entries_applied es l.base_image) (counted_same at (entries l.batches) (entries_of_batch b) (numbered_after at b.first epoch items (omega (arith, ints))))

pub last_more : (from : ℤ) (bs : List BatchRow) (b : BatchRow) → last_end from (bs ++ b ∷ []) ≡ last_of b
last_more from [] b = refl
last_more from (x ∷ bs) b = last_more (last_of x) bs b

pub end_more : (l : Log) (epoch now : ℤ) (items : List MetaRecord) → end_of (with_batch l epoch now items) ≡ end_of l +ℤ pos (length items)
end_more l epoch now items = last_more l.base l.batches (new_batch l epoch now items) ∙ moved (end_of l) (length items)
  where
    moved : (e : ℤ) (n : ℕ) → ((e +ℤ pos 1) +ℤ pos n) -ℤ pos 1 ≡ e +ℤ pos n
    moved e n = omega (arith, ints)
