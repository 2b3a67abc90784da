-- The records of a log rise by offset.
use Rattle.std.proofs.Common.{◌≡◌, ℕ, ℤ, pos, ◌+ℤ◌, ◌-ℤ◌, ◌≤ℤ◌, List, [], ◌∷◌, ◌++◌, length, arith}
use Rattle.std.specs.Prelude.{⊤, ◌<ℤ◌}
use Rattle.std.proofs.lemmas.Int.{ints}
use Rattle.kz_types.specs.declared.log.BatchRow.{BatchRow}
use Rattle.kz_types.specs.declared.log.Entry.{Entry}
use Rattle.kz_types.specs.declared.record.MetaRecord.{MetaRecord}
use Rattle.kz_spec_data.specs.Log.{Log, IsLog, Follow, last_of, end_of, entries_at_offsets, entries_of_batch, entries, with_batch}
use Rattle.kz_spec_machine.specs.Sound.{LogShape}
use Rattle.kz_laws_machine.proofs.Numbers.{weaker, then_less, at_least_itself}
use Rattle.kz_laws_machine.proofs.LogBatches.{AllAfter, end_more}
use Rattle.kz_laws_machine.proofs.Ends.{last_of_is, counted_up, base_within}
use Rattle.kz_laws_machine.proofs.Migration.{AllUpTo, numbered_up_to, next_entries, up_to_end}

-- the records rise by offset, from after this one on
abbrev pub RisesAfter : ℤ → List Entry → Type 0
RisesAfter at [] = ⊤
RisesAfter at (e ∷ es) = (at <ℤ e.offset) × RisesAfter e.offset es

-- each record stands before an offset
abbrev pub AllBefore : ℤ → List Entry → Type 0
AllBefore o [] = ⊤
AllBefore o (e ∷ es) = (e.offset <ℤ o) × AllBefore o es

next_above : (o : ℤ) → o <ℤ (o +ℤ pos 1)
next_above o = omega (arith, ints)

less_less : (a b c : ℤ) → a <ℤ b → b <ℤ c → a <ℤ c
less_less a b c x y = omega (arith, ints, x, y)

-- ---- all records

rises_weaker : (at later : ℤ) (es : List Entry) → at ≤ℤ later → RisesAfter later es → RisesAfter at es
rises_weaker at later [] low rises = tt
rises_weaker at later (e ∷ es) low rises = (then_less at later e.offset low rises.0, rises.1)

rises_then : (at later : ℤ) (xs ys : List Entry) → at ≤ℤ later → RisesAfter at xs → AllUpTo later xs → RisesAfter later ys → RisesAfter at (xs ++ ys)
rises_then at later [] ys low rises up_to rest = rises_weaker at later ys low rest
rises_then at later (x ∷ xs) ys low rises up_to rest = (rises.0, rises_then x.offset later xs ys up_to.0 rises.1 up_to.1 rest)

numbered_rises : (at offset epoch : ℤ) (items : List MetaRecord) → at <ℤ offset → RisesAfter at (entries_at_offsets offset epoch items)
numbered_rises at offset epoch [] less = tt
numbered_rises at offset epoch (r ∷ rs) less = (less, numbered_rises offset (offset +ℤ pos 1) epoch rs (next_above offset))

entries_rise : (from : ℤ) (bs : List BatchRow) → Follow from bs → RisesAfter from (entries bs)
entries_rise from [] follows = tt
entries_rise from (b ∷ bs) follows =
    rises_then from (last_of b) (entries_of_batch b) (entries bs) (counted_up from (last_of b) (length b.items) (last_of_is from b follows.0)) (numbered_rises from b.first b.epoch b.items (first from b.first follows.0))
    (numbered_up_to (last_of b) b.first b.epoch b.items (at_least_itself (last_of b))) (entries_rise (last_of b) bs follows.2)
  where
    first : (from f : ℤ) → f ≡ from +ℤ pos 1 → from <ℤ f
    first from f is = omega (arith, ints, is)

pub offsets_rise : (l : Log) → IsLog l → RisesAfter l.base (entries l.batches)
offsets_rise l log = entries_rise l.base l.batches log.follow

pub log_rises : (l : Log) → LogShape l → RisesAfter l.base (entries l.batches)
log_rises l shape = offsets_rise l shape.log

-- ---- with one batch more

-- the records of a log with a batch more
abbrev pub more_entries : Log → ℤ → List MetaRecord → List Entry
more_entries l epoch items = entries l.batches ++ next_entries l epoch items

pub more_rises : (l : Log) (epoch : ℤ) (items : List MetaRecord) → LogShape l → RisesAfter l.base (more_entries l epoch items)
more_rises l epoch items shape =
    rises_then l.base (end_of l) (entries l.batches) (next_entries l epoch items) (base_within l shape) (log_rises l shape) (up_to_end l shape) (numbered_rises (end_of l) (end_of l +ℤ pos 1) epoch items (next_above (end_of l)))

-- the new ones stand at or before the new end
pub next_up_to : (l : Log) (epoch now : ℤ) (items : List MetaRecord) → AllUpTo (end_of (with_batch l epoch now items)) (next_entries l epoch items)
next_up_to l epoch now items = numbered_up_to (end_of (with_batch l epoch now items)) (end_of l +ℤ pos 1) epoch items (last (end_of l) (end_of (with_batch l epoch now items)) (length items) (end_more l epoch now items))
  where
    last : (e later : ℤ) (n : ℕ) → later ≡ e +ℤ pos n → (((e +ℤ pos 1) +ℤ pos n) -ℤ pos 1) ≤ℤ later
    last e later n is = omega (arith, ints, is)

-- ---- records after and before an offset

pub rises_after : (at later : ℤ) (es : List Entry) → at ≤ℤ later → RisesAfter later es → AllAfter at es
rises_after at later [] low rises = tt
rises_after at later (e ∷ es) low rises =
    let less = then_less at later e.offset low rises.0 in (less, rises_after at e.offset es (weaker at e.offset less) rises.1)

pub all_after : (at : ℤ) (es : List Entry) → RisesAfter at es → AllAfter at es
all_after at es rises = rises_after at at es (at_least_itself at) rises

up_to_before : (at o : ℤ) (es : List Entry) → at <ℤ o → AllUpTo at es → AllBefore o es
up_to_before at o [] less up_to = tt
up_to_before at o (e ∷ es) less up_to = (then_less e.offset at o up_to.0 less, up_to_before at o es less up_to.1)

-- all records of a log stand before its next offset
pub all_before : (at : ℤ) (es : List Entry) → AllUpTo at es → AllBefore (at +ℤ pos 1) es
all_before at es up_to = up_to_before at (at +ℤ pos 1) es (next_above at) up_to

-- What is known of a record among those that rise: where those before it and after it stand.
pub record IsPlaced (base : ℤ) (p : List Entry) (e : Entry) (q : List Entry) : Type 0 where
  pub before : AllBefore e.offset p
  pub above : base <ℤ e.offset
  pub after : RisesAfter e.offset q
  pub front : RisesAfter base p

pub placed : (base : ℤ) (p : List Entry) (e : Entry) (q : List Entry) → RisesAfter base (p ++ e ∷ q) → IsPlaced base p e q
placed base [] e q rises = record { before = tt; above = rises.0; after = rises.1; front = tt }
placed base (x ∷ p) e q rises =
    let rest = placed x.offset p e q rises.1 in
    record { before = (rest.above, rest.before); above = less_less base x.offset e.offset rises.0 rest.above; after = rest.after; front = (rises.0, rest.front) }
