-- A log whose migration is committed stays so, and its commit makes it so.
use Rattle.std.proofs.Common.{◌≡◌, inl, inr, ℕ, suc, ℤ, pos, ◌+ℤ◌, ◌-ℤ◌, ◌≤ℤ◌, int_le, int_lt, Bool, true, false, not, ◌&&◌, ◌||◌, if◌then◌else◌, cond, List, [], ◌∷◌, ◌++◌, length, Option, Some, None, All, refl, sym, ap, ◌∙◌, filter, arith, append-nil}
use Rattle.std.specs.Prelude.{⊤}
use Rattle.std.specs.Ordering.{int_eq}
use Rattle.std.specs.List.{find}
use Rattle.std.proofs.lemmas.Int.{ints}
use Rattle.std.proofs.lemmas.List.Elements.{filter-append, All-head, All-tail}
use Rattle.std.proofs.lemmas.List.Concat.{flat_map-append}
use Rattle.kz_types.specs.declared.log.BatchRow.{BatchRow}
use Rattle.kz_types.specs.declared.log.Entry.{Entry}
use Rattle.kz_types.specs.declared.record.MetaRecord.{MetaRecord}
use Rattle.kz_types.specs.declared.record.MetaRecord.TheVariants as meta
use Rattle.kz_types.specs.declared.image_fault.ImageRule.{ImageRule}
use Rattle.kz_spec_data.specs.Metadata.{Image, topic_named, is_migrated_state}
use Rattle.kz_spec_data.specs.ImageRules.{broken_rule}
use Rattle.kz_spec_data.specs.Image.{with_changed, topic_configured, configurations_after, effect, unless_broken, image_with}
use Rattle.kz_spec_data.specs.Settlement.{is_end, closes, is_marker, is_inside, first_close, is_ended_by, is_counted, counting_records}
use Rattle.kz_spec_data.specs.Log.{Log, Follow, last_of, last_end, end_of, entries_at_offsets, entries_of_batch, entries, record_count, all_entries_applied, image_at, image_of, is_migrated_log, new_batch, with_batch}
use Rattle.kz_spec_machine.specs.Driver.{commit_records}
use Rattle.kz_spec_machine.specs.Sound.{LogShape}
use Rattle.kz_laws_machine.specs.LogLaws.{IsPlain, IsUncommitted}
use Rattle.kz_laws_machine.proofs.LogBatches.{AllAfter, inside_same, end_more, numbered_after}
use Rattle.kz_laws_machine.proofs.Ends.{end_counts, counted_up}

-- ---- every record stands at or before the log's end

abbrev pub AllUpTo : ℤ → List Entry → Type 0
AllUpTo at [] = ⊤
AllUpTo at (e ∷ es) = (e.offset ≤ℤ at) × AllUpTo at es

pub up_to_append : (at : ℤ) (xs ys : List Entry) → AllUpTo at xs → AllUpTo at ys → AllUpTo at (xs ++ ys)
up_to_append at [] ys a b = b
up_to_append at (x ∷ xs) ys a b = (a.0, up_to_append at xs ys a.1 b)

pub numbered_up_to : (at first epoch : ℤ) (items : List MetaRecord) → ((first +ℤ pos (length items)) -ℤ pos 1) ≤ℤ at → AllUpTo at (entries_at_offsets first epoch items)
numbered_up_to at first epoch [] low = tt
numbered_up_to at first epoch (r ∷ rs) low = (here first (length rs) low, numbered_up_to at (first +ℤ pos 1) epoch rs (later first (length rs) low))
  where
    here : (f : ℤ) (n : ℕ) → ((f +ℤ pos (suc n)) -ℤ pos 1) ≤ℤ at → f ≤ℤ at
    here f n low = omega (arith, ints)

    later : (f : ℤ) (n : ℕ) → ((f +ℤ pos (suc n)) -ℤ pos 1) ≤ℤ at → (((f +ℤ pos 1) +ℤ pos n) -ℤ pos 1) ≤ℤ at
    later f n low = omega (arith, ints)

pub entries_up_to : (at from : ℤ) (bs : List BatchRow) → last_end from bs ≤ℤ at → Follow from bs → AllUpTo at (entries bs)
entries_up_to at from [] low follows = tt
entries_up_to at from (b ∷ bs) low follows = up_to_append at (entries_of_batch b) (entries bs)
    (numbered_up_to at b.first b.epoch b.items (before (last_of b) (last_end (last_of b) bs) (counted_up (last_of b) (last_end (last_of b) bs) (record_count bs) (end_counts (last_of b) bs follows.2)) low))
    (entries_up_to at (last_of b) bs low follows.2)
  where
    before : (a b : ℤ) → a ≤ℤ b → b ≤ℤ at → a ≤ℤ at
    before a b x y = omega (arith, ints)

-- ---- a batch that ends no transaction

not_after : (a b : ℤ) → a ≤ℤ b → int_le a b ≡ true
not_after a b low = grind (arith, ints)

no_end : (r : MetaRecord) → IsPlain r → is_end r ≡ false
no_end meta.EndTransaction plain = absurd plain
no_end r plain = refl

either_state : (b : Bool) (i j k : Image) → j.state ≡ i.state → k.state ≡ i.state → (if b then j else k).state ≡ i.state
either_state true i j k one other = one
either_state false i j k one other = other

effect_leaves : (epoch : ℤ) (r : MetaRecord) (i : Image) → IsPlain r → (effect epoch r i).state ≡ i.state
effect_leaves epoch (meta.Config c) i plain = either_state (int_eq c.resource_type (pos 2)) i
    (record i { topics = with_changed (topic_configured c) (topic_named c.resource_name i) i.topics })
    (record i { broker_configs = configurations_after c i.broker_configs })
    refl refl
effect_leaves epoch (meta.ZkMigrationState s) i plain = absurd plain
effect_leaves epoch meta.EndTransaction i plain = absurd plain
effect_leaves epoch r i plain = refl

-- a record that breaks a rule leaves all
unless_broken_leaves : (b : Option ImageRule) (made i : Image) → made.state ≡ i.state → (unless_broken b made i).state ≡ i.state
unless_broken_leaves None made i same = same
unless_broken_leaves (Some rule) made i same = refl

state_left : (epoch : ℤ) (r : MetaRecord) (i : Image) → IsPlain r → (image_with epoch r i).state ≡ i.state
state_left epoch r i plain = unless_broken_leaves (broken_rule i r) (effect epoch r i) i (effect_leaves epoch r i plain)

abbrev pub AllPlain : List Entry → Type 0
AllPlain [] = ⊤
AllPlain (e ∷ es) = IsPlain e.item × AllPlain es

pub numbered_plain : (offset epoch : ℤ) (items : List MetaRecord) → All IsPlain items → AllPlain (entries_at_offsets offset epoch items)
numbered_plain offset epoch [] all = tt
numbered_plain offset epoch (r ∷ rs) all = (All-head IsPlain r rs all, numbered_plain (offset +ℤ pos 1) epoch rs (All-tail IsPlain r rs all))

kept_plain : (e : Entry) (b : Bool) (es : List Entry) → IsPlain e.item → AllPlain es → AllPlain (cond b (e ∷ es) es)
kept_plain e true es one all = (one, all)
kept_plain e false es one all = all

filter_plain : (p : Entry → Bool) (es : List Entry) → AllPlain es → AllPlain (filter p es)
filter_plain p [] all = tt
filter_plain p (e ∷ es) all = kept_plain e (p e) (filter p es) all.0 (filter_plain p es all.1)

pub applied_append : (xs ys : List Entry) (i : Image) → all_entries_applied (xs ++ ys) i ≡ all_entries_applied ys (all_entries_applied xs i)
applied_append [] ys i = refl
applied_append (x ∷ xs) ys i = applied_append xs ys (image_with x.epoch x.item i)

plain_state : (es : List Entry) (i : Image) → AllPlain es → (all_entries_applied es i).state ≡ i.state
plain_state [] i all = refl
plain_state (e ∷ es) i all = plain_state es (image_with e.epoch e.item i) all.1 ∙ state_left e.epoch e.item i all.0

and_first : (a b : Bool) → a ≡ false → (a && b) ≡ false
and_first true b is = absurd (cc)
and_first false b is = refl

not_ended : (at : ℤ) (b : Bool) (e : Entry) (m : Option Entry) → is_end e.item ≡ false → is_ended_by at m ≡ false → is_ended_by at (cond b (Some e) m) ≡ false
not_ended at true e m one rest = and_first (is_end e.item) (int_le e.offset at) one
not_ended at false e m one rest = rest

-- none of these ends a transaction
abbrev pub NoneEnds : List Entry → Type 0
NoneEnds [] = ⊤
NoneEnds (e ∷ es) = (is_end e.item ≡ false) × NoneEnds es

ends_none : (at : ℤ) (p : Entry → Bool) (new : List Entry) → NoneEnds new → is_ended_by at (find p new) ≡ false
ends_none at p [] all = refl
ends_none at p (e ∷ new) all = not_ended at (p e) e (find p new) all.0 (ends_none at p new all.1)

both_ended : (at later : ℤ) (b : Bool) (e : Entry) (m n : Option Entry) → e.offset ≤ℤ at → e.offset ≤ℤ later → is_ended_by later m ≡ is_ended_by at n → is_ended_by later (cond b (Some e) m) ≡ is_ended_by at (cond b (Some e) n)
both_ended at later true e m n low high rest = ap (λ x. is_end e.item && x) (not_after e.offset later high ∙ sym (not_after e.offset at low))
both_ended at later false e m n low high rest = rest

ended_as_before : (at later : ℤ) (p : Entry → Bool) (es new : List Entry) → at ≤ℤ later → AllUpTo at es → NoneEnds new → is_ended_by later (find p (es ++ new)) ≡ is_ended_by at (find p es)
ended_as_before at later p [] new more up_to all = ends_none later p new all
ended_as_before at later p (e ∷ es) new more up_to all = both_ended at later (p e) e (find p (es ++ new)) (find p es) up_to.0 (before e.offset up_to.0) (ended_as_before at later p es new more up_to.1 all)
  where
    before : (o : ℤ) → o ≤ℤ at → o ≤ℤ later
    before o low = omega (arith, ints)

counted_as_before : (at later : ℤ) (es new : List Entry) (e : Entry) → at ≤ℤ later → AllUpTo at es → AllAfter at new → NoneEnds new → e.offset ≤ℤ at → is_counted (es ++ new) later e ≡ is_counted es at e
counted_as_before at later es new e more up_to after all low =
    let closing : Entry → Bool = λ (x : Entry). closes x.item && int_lt e.offset x.offset in
    ap (λ b. b && not (is_marker e.item) && (not (is_inside (es ++ new) e.offset) || is_ended_by later (first_close (es ++ new) e.offset))) (not_after e.offset later (omega (arith, ints)) ∙ sym (not_after e.offset at low))
    ∙ ap (λ b. int_le e.offset at && not (is_marker e.item) && (not b || is_ended_by later (first_close (es ++ new) e.offset))) (inside_same at e.offset es new low after)
    ∙ ap (λ b. int_le e.offset at && not (is_marker e.item) && (not (is_inside es e.offset) || b)) (ended_as_before at later closing es new more up_to all)

filter_same : (at : ℤ) (p q : Entry → Bool) (es : List Entry) → AllUpTo at es → ((e : Entry) → e.offset ≤ℤ at → p e ≡ q e) → filter p es ≡ filter q es
filter_same at p q [] up_to same = refl
filter_same at p q (e ∷ es) up_to same = ap (λ b. cond b (e ∷ filter p es) (filter p es)) (same e up_to.0) ∙ ap (λ l. cond (q e) (e ∷ l) l) (filter_same at p q es up_to.1 same)

-- the entries of a log with one batch more
pub entries_more : (l : Log) (epoch now : ℤ) (items : List MetaRecord) → entries (with_batch l epoch now items).batches ≡ entries l.batches ++ entries_at_offsets (end_of l +ℤ pos 1) epoch items
entries_more l epoch now items =
    let b = new_batch l epoch now items in
    flat_map-append entries_of_batch l.batches (b ∷ []) ∙ ap (λ es. entries l.batches ++ es) (append-nil (entries_of_batch b))

pub up_to_end : (l : Log) → LogShape l → AllUpTo (end_of l) (entries l.batches)
up_to_end l shape = entries_up_to (end_of l) l.base l.batches (omega (arith, ints)) shape.log.follow

not_before : (e n : ℤ) (k : ℕ) → n ≡ e +ℤ pos k → e ≤ℤ n
not_before e n k is = omega (arith, ints)

-- the entries of a batch after the log's end
abbrev pub next_entries : Log → ℤ → List MetaRecord → List Entry
next_entries l epoch items = entries_at_offsets (end_of l +ℤ pos 1) epoch items

-- those of them that count then
abbrev pub next_counted : Log → ℤ → ℤ → List MetaRecord → List Entry
next_counted l epoch now items = filter (is_counted (entries l.batches ++ next_entries l epoch items) (end_of (with_batch l epoch now items))) (next_entries l epoch items)

-- where none of a batch ends a transaction, those of it that count are counted after what counted before
pub counting_more : (l : Log) (epoch now : ℤ) (items : List MetaRecord) → LogShape l → NoneEnds (next_entries l epoch items)
    → counting_records (entries (with_batch l epoch now items).batches) (end_of (with_batch l epoch now items)) ≡ counting_records (entries l.batches) (end_of l) ++ next_counted l epoch now items
counting_more l epoch now items shape none =
    let es = entries l.batches in
    let new = next_entries l epoch items in
    let at = end_of l in
    let later = end_of (with_batch l epoch now items) in
    let up_to = up_to_end l shape in
    let after = numbered_after at (end_of l +ℤ pos 1) epoch items (omega (arith, ints)) in
    let more = not_before at later (length items) (end_more l epoch now items) in
    let test = is_counted (es ++ new) later in
    ap (λ xs. counting_records xs later) (entries_more l epoch now items)
    ∙ filter-append test es new
    ∙ ap (λ xs. xs ++ filter test new) (filter_same at test (is_counted es at) es up_to (λ e low. counted_as_before at later es new e more up_to after none low))

-- and are applied to the image that was
pub more_applied : (l : Log) (epoch now : ℤ) (items : List MetaRecord) → LogShape l → NoneEnds (next_entries l epoch items) → image_of (with_batch l epoch now items) ≡ all_entries_applied (next_counted l epoch now items) (image_of l)
unfolding image_at
more_applied l epoch now items shape none =
    ap (λ xs. all_entries_applied xs l.base_image) (counting_more l epoch now items shape none)
    ∙ applied_append (counting_records (entries l.batches) (end_of l)) (next_counted l epoch now items) l.base_image

pub plain_ends : (es : List Entry) → AllPlain es → NoneEnds es
plain_ends [] all = tt
plain_ends (e ∷ es) all = (no_end e.item all.0, plain_ends es all.1)

pub plain_keeps_state : (l : Log) (epoch now : ℤ) (items : List MetaRecord) → LogShape l → All IsPlain items → (image_of (with_batch l epoch now items)).state ≡ (image_of l).state
plain_keeps_state l epoch now items shape all =
    let new = next_entries l epoch items in
    let plain = numbered_plain (end_of l +ℤ pos 1) epoch items all in
    ap (λ (i : Image). i.state) (more_applied l epoch now items shape (plain_ends new plain))
    ∙ plain_state (next_counted l epoch now items) (image_of l) (filter_plain (is_counted (entries l.batches ++ new) (end_of (with_batch l epoch now items))) new plain)

-- ---- a batch without the commit

abbrev pub AllUncommitted : List Entry → Type 0
AllUncommitted [] = ⊤
AllUncommitted (e ∷ es) = IsUncommitted e.item × AllUncommitted es

pub numbered_uncommitted : (offset epoch : ℤ) (items : List MetaRecord) → All IsUncommitted items → AllUncommitted (entries_at_offsets offset epoch items)
numbered_uncommitted offset epoch [] all = tt
numbered_uncommitted offset epoch (r ∷ rs) all = (All-head IsUncommitted r rs all, numbered_uncommitted (offset +ℤ pos 1) epoch rs (All-tail IsUncommitted r rs all))

kept_uncommitted : (e : Entry) (b : Bool) (es : List Entry) → IsUncommitted e.item → AllUncommitted es → AllUncommitted (cond b (e ∷ es) es)
kept_uncommitted e true es one all = (one, all)
kept_uncommitted e false es one all = all

filter_uncommitted : (p : Entry → Bool) (es : List Entry) → AllUncommitted es → AllUncommitted (filter p es)
filter_uncommitted p [] all = tt
filter_uncommitted p (e ∷ es) all = kept_uncommitted e (p e) (filter p es) all.0 (filter_uncommitted p es all.1)

ends_nothing : (r : MetaRecord) → IsUncommitted r → is_end r ≡ false
ends_nothing r (inl plain) = no_end r plain
ends_nothing r (inr state) = ap is_end state.1

pub uncommitted_ends : (es : List Entry) → AllUncommitted es → NoneEnds es
uncommitted_ends [] all = tt
uncommitted_ends (e ∷ es) all = (ends_nothing e.item all.0, uncommitted_ends es all.1)

state_or_before : (b : Bool) (s : ℤ) (i : Image) → is_migrated_state s ≡ false → is_migrated_state i.state ≡ false → is_migrated_state (if b then record i { state = s } else i).state ≡ false
state_or_before true s i new before = new
state_or_before false s i new before = before

-- a state of the migration breaks no rule
state_unbroken : (s : ℤ) (i : Image) → broken_rule i (meta.ZkMigrationState s) ≡ None
unfolding broken_rule
state_unbroken s i = refl

pub state_applied : (epoch s : ℤ) (i : Image) → image_with epoch (meta.ZkMigrationState s) i ≡ effect epoch (meta.ZkMigrationState s) i
state_applied epoch s i = ap (λ b. unless_broken b (effect epoch (meta.ZkMigrationState s) i) i) (state_unbroken s i)

one_uncommitted : (epoch : ℤ) (r : MetaRecord) (i : Image) → IsUncommitted r → is_migrated_state i.state ≡ false → is_migrated_state (image_with epoch r i).state ≡ false
one_uncommitted epoch r i (inl plain) before = ap is_migrated_state (state_left epoch r i plain) ∙ before
one_uncommitted epoch r i (inr state) before = ap (λ x. is_migrated_state (image_with epoch x i).state) state.1
    ∙ ap (λ (j : Image). is_migrated_state j.state) (state_applied epoch state.0 i)
    ∙ state_or_before (int_le (pos 0) state.0 && int_le state.0 (pos 3)) state.0 i state.2 before

all_uncommitted : (es : List Entry) (i : Image) → AllUncommitted es → is_migrated_state i.state ≡ false → is_migrated_state (all_entries_applied es i).state ≡ false
all_uncommitted [] i all before = before
all_uncommitted (e ∷ es) i all before = all_uncommitted es (image_with e.epoch e.item i) all.1 (one_uncommitted e.epoch e.item i all.0 before)

pub uncommitted_stays : (l : Log) (epoch now : ℤ) (items : List MetaRecord) → LogShape l → All IsUncommitted items → is_migrated_log l ≡ false → is_migrated_log (with_batch l epoch now items) ≡ false
uncommitted_stays l epoch now items shape all before =
    let new = next_entries l epoch items in
    let early = numbered_uncommitted (end_of l +ℤ pos 1) epoch items all in
    ap (λ (i : Image). is_migrated_state i.state) (more_applied l epoch now items shape (uncommitted_ends new early))
    ∙ all_uncommitted (next_counted l epoch now items) (image_of l) (filter_uncommitted (is_counted (entries l.batches ++ new) (end_of (with_batch l epoch now items))) new early) before

-- ---- the commit

find_after : (at : ℤ) (from : ℤ) (es new : List Entry) → at ≤ℤ from → AllUpTo at es → find (λ (x : Entry). closes x.item && int_lt from x.offset) (es ++ new) ≡ find (λ (x : Entry). closes x.item && int_lt from x.offset) new
find_after at from [] new low up_to = refl
find_after at from (e ∷ es) new low up_to =
    ap (λ b. cond b (Some e) (find (λ (x : Entry). closes x.item && int_lt from x.offset) (es ++ new))) (and_none (closes e.item) (int_lt from e.offset) (not_less e.offset from (omega (arith, ints, up_to.0))))
    ∙ find_after at from es new low up_to.1
  where
    and_none : (a b : Bool) → b ≡ false → (a && b) ≡ false
    and_none true b is = is
    and_none false b is = refl

    not_less : (a b : ℤ) → a ≤ℤ b → int_lt b a ≡ false
    not_less a b h = grind (arith, ints)

-- the record of the state counts, as its transaction is ended after it
commit_counts : (at from later : ℤ) (epoch : ℤ) (es : List Entry) → at ≤ℤ from → AllUpTo at es → (from +ℤ pos 1) ≤ℤ later
    → is_counted (es ++ entries_at_offsets from epoch commit_records) later (record { offset = from; epoch = epoch; item = meta.ZkMigrationState (pos 2) }) ≡ true
commit_counts at from later epoch es low up_to high =
    let all = es ++ entries_at_offsets from epoch commit_records in
    let close : Option Entry = Some (record { offset = from +ℤ pos 1; epoch = epoch; item = meta.EndTransaction }) in
    let first : first_close all from ≡ close = find_after at from es (entries_at_offsets from epoch commit_records) low up_to ∙ ap (λ b. cond b close None) (next_less from) in
    ap (λ b. b && true && (not (is_inside all from) || is_ended_by later (first_close all from))) (not_after from later (omega (arith, ints)))
    ∙ ap (λ m. not (is_inside all from) || is_ended_by later m) first
    ∙ ap (λ b. not (is_inside all from) || b) (not_after (from +ℤ pos 1) later high)
    ∙ or_true (not (is_inside all from))
  where
    next_less : (f : ℤ) → int_lt f (f +ℤ pos 1) ≡ true
    next_less f = grind (arith, ints)

    or_true : (b : Bool) → (b || true) ≡ true
    or_true true = refl
    or_true false = refl

marker_left : (p : Entry → Bool) (x y : Entry) → p x ≡ true → p y ≡ false → filter p (x ∷ y ∷ []) ≡ x ∷ []
marker_left p x y is none = ap (λ b. cond b (x ∷ filter p (y ∷ [])) (filter p (y ∷ []))) is ∙ ap (λ b. x ∷ cond b (y ∷ []) []) none

no_marker : (a b : Bool) → (a && false && b) ≡ false
no_marker true b = refl
no_marker false b = refl

pub commit_migrates : (l : Log) (epoch now : ℤ) → LogShape l → (image_of (with_batch l epoch now commit_records)).state ≡ pos 2
unfolding image_at
commit_migrates l epoch now shape =
    let es = entries l.batches in
    let from = end_of l +ℤ pos 1 in
    let later = end_of (with_batch l epoch now commit_records) in
    let all = es ++ entries_at_offsets from epoch commit_records in
    let test = is_counted all later in
    let x : Entry = record { offset = from; epoch = epoch; item = meta.ZkMigrationState (pos 2) } in
    let y : Entry = record { offset = from +ℤ pos 1; epoch = epoch; item = meta.EndTransaction } in
    let counts = commit_counts (end_of l) from later epoch es (omega (arith, ints)) (up_to_end l shape) (two_more (end_of l) later (end_more l epoch now commit_records)) in
    ap (λ xs. (all_entries_applied (counting_records xs later) l.base_image).state) (entries_more l epoch now commit_records)
    ∙ ap (λ xs. (all_entries_applied xs l.base_image).state) (filter-append test es (x ∷ y ∷ []) ∙ ap (λ l. filter test es ++ l) (marker_left test x y counts (no_marker (int_le y.offset later) (not (is_inside all y.offset) || is_ended_by later (first_close all y.offset)))))
    ∙ ap (λ (i : Image). i.state) (applied_append (filter test es) (x ∷ []) l.base_image)
    ∙ ap (λ (i : Image). i.state) (state_applied epoch (pos 2) (all_entries_applied (filter test es) l.base_image))
  where
    two_more : (e n : ℤ) → n ≡ e +ℤ pos 2 → ((e +ℤ pos 1) +ℤ pos 1) ≤ℤ n
    two_more e n is = omega (arith, ints)
