-- A log that grows keeps its shape, and what is known of it.
use Rattle.std.proofs.Common.{◌≡◌, inl, inr, ℕ, ◌+◌, ◌<◌, ◌≤◌, nat_lt, ℤ, pos, ◌+ℤ◌, ◌≤ℤ◌, ◌<ℤ◌, int_le, int_lt, Bool, true, false, if◌then◌else◌, cond, List, [], ◌∷◌, ◌++◌, length, Option, Some, None, All, refl, ap, sym, ◌∙◌, subst, filter, arith, append-nil}
use Rattle.std.specs.Prelude.{Ok, Err}
use Rattle.std.specs.Ordering.{int_eq}
use Rattle.std.proofs.lemmas.Bool.Decides.{Decides-int_eq}
use Rattle.std.proofs.lemmas.Int.{ints}
use Rattle.std.proofs.lemmas.List.Elements.{All-nil, All-cons, All-head, All-tail, All-filter, filter-append}
use Rattle.kz_types.specs.declared.limits.TheConstants.{MAX_EPOCH, MAX_LONG, MAX_RECORDS}
use Rattle.kz_types.specs.declared.log.BatchRow.{BatchRow}
use Rattle.kz_types.specs.declared.log.Entry.{Entry}
use Rattle.kz_types.specs.declared.record.MetaRecord.{MetaRecord}
use Rattle.kz_types.specs.declared.fault.LogFault.TheVariants as log_fault
use Rattle.kz_spec_data.specs.Settlement.{open_begin, records_of_open}
use Rattle.kz_spec_data.specs.Log.{Log, EpochsNeverFall, View, IsAt, IsViewOf, end_of, is_migrated_log, entries, entries_by, new_batch, with_batch, record_count, full_log, log_unless_limit, append, last_epoch, begins_after, read_epoch, read_view}
use Rattle.kz_spec_data.specs.Image.{is_migrated_state}
use Rattle.kz_spec_machine.specs.Driver.{commit_records}
use Rattle.kz_spec_machine.specs.Sound.{IsEpoch, IsEpochOrNone, LogShape, IsBatchEnd}
use Rattle.kz_laws_machine.specs.Effects.{IsLonger}
use Rattle.kz_laws_machine.proofs.LogBatches.{not_at_most, filter_none, image_kept, numbered_after, end_more}
use Rattle.kz_laws_machine.specs.LogLaws.{IsPlain, IsUncommitted}
use Rattle.kz_laws_machine.proofs.Migration.{AllUpTo, NoneEnds, entries_more, up_to_end, next_entries, numbered_plain, plain_ends, plain_keeps_state, uncommitted_stays, commit_migrates}
use Rattle.kz_laws_machine.proofs.Ends.{follows_more, end_is_batch_end, batch_end_kept, batch_end_within}
use Rattle.kz_laws_machine.proofs.TreeCommits.{past_kept}

-- ---- the shape

abbrev limit_by : Bool → Bool → Option ℕ
limit_by a b = if a then Some 7 else (if b then Some 17 else None)

not_long : (a b : Bool) → limit_by a b ≡ None → b ≡ false
not_long true b is = absurd (cc)
not_long false true is = absurd (cc)
not_long false false is = refl

not_above : (a b : ℤ) → int_lt b a ≡ false → a ≤ℤ b
not_above a b is = grind (arith, ints)

within_long : (l : Log) (items : List MetaRecord) → full_log l items ≡ None → (end_of l +ℤ pos (length items)) ≤ℤ MAX_LONG
within_long l items is = not_above (end_of l +ℤ pos (length items)) MAX_LONG
    (not_long (nat_lt MAX_RECORDS (record_count l.batches + length items)) (int_lt MAX_LONG (end_of l +ℤ pos (length items))) is)

then_at_most : (a b c : ℤ) → a ≤ℤ b → b ≤ℤ c → a ≤ℤ c
then_at_most a b c x y = omega (arith, ints, x, y)

never_fall_more : (least most e : ℤ) (bs : List BatchRow) (b : BatchRow) → EpochsNeverFall least most bs → least ≤ℤ e → most ≤ℤ e → b.epoch ≡ e → EpochsNeverFall least e (bs ++ b ∷ [])
never_fall_more least most e [] b old low high is = (subst (λ (x : ℤ). least ≤ℤ x) (sym is) low, subst (λ (x : ℤ). x ≤ℤ e) (sym is) (omega (arith, ints)), tt)
never_fall_more least most e (x ∷ bs) b old low high is =
    let within = then_at_most x.epoch most e old.1 high in (old.0, within, never_fall_more x.epoch most e bs b old.2 within high is)

positive : (n : ℕ) → 1 ≤ n → 0 < n
positive n some = omega (arith, some)

-- one batch more keeps the shape of a log
pub batch_shape : (l : Log) (epoch now : ℤ) (items : List MetaRecord) → LogShape l → l.epoch ≤ℤ epoch → IsEpoch epoch → 1 ≤ length items → full_log l items ≡ None → LogShape (with_batch l epoch now items)
batch_shape l epoch now items shape low range some room =
    let b = new_batch l epoch now items in
    record {
      log = record {
        epoch = let a = range.least in omega (arith, ints, a);
        base = shape.log.base;
        base_image = shape.log.base_image;
        follow = follows_more l.base l.batches b shape.log.follow refl (positive (length items) some);
        epochs = never_fall_more (pos 1) l.epoch epoch l.batches b shape.log.epochs range.least low refl;
        end = subst (λ (e : ℤ). e ≤ℤ MAX_LONG) (sym (end_more l epoch now items)) (within_long l items room);
      };
      epoch = range.most;
      image = shape.image;
    }

-- ---- a log that holds another

-- a migrated log stays so with this batch
abbrev pub StaysMigrated : Log → ℤ → ℤ → List MetaRecord → Type 0
StaysMigrated l epoch now items = is_migrated_log l ≡ true → is_migrated_log (with_batch l epoch now items) ≡ true

pub plain_stays : (l : Log) (epoch now : ℤ) (items : List MetaRecord) → LogShape l → All IsPlain items → StaysMigrated l epoch now items
plain_stays l epoch now items shape plain is = ap is_migrated_state (plain_keeps_state l epoch now items shape plain) ∙ is

-- and an unmigrated one too
pub plain_was : (l : Log) (epoch now : ℤ) (items : List MetaRecord) → LogShape l → All IsPlain items → is_migrated_log (with_batch l epoch now items) ≡ true → is_migrated_log l ≡ true
plain_was l epoch now items shape plain is = sym (ap is_migrated_state (plain_keeps_state l epoch now items shape plain)) ∙ is

pub uncommitted_was : (l : Log) (epoch now : ℤ) (items : List MetaRecord) → LogShape l → All IsUncommitted items → is_migrated_log (with_batch l epoch now items) ≡ true → is_migrated_log l ≡ true
uncommitted_was l epoch now items shape early is = by_state (is_migrated_log l) refl
  where
    by_state : (b : Bool) → is_migrated_log l ≡ b → b ≡ true
    by_state true before = refl
    by_state false before = absurd (let none = uncommitted_stays l epoch now items shape early before in cc)

pub commit_is_migrated : (l : Log) (epoch now : ℤ) → LogShape l → is_migrated_log (with_batch l epoch now commit_records) ≡ true
commit_is_migrated l epoch now shape = ap is_migrated_state (commit_migrates l epoch now shape)

-- ---- what is known of a log

-- the records at or before an offset up to its end
entries_by_more : (l : Log) (epoch now : ℤ) (items : List MetaRecord) (at : ℤ) → at ≤ℤ end_of l → entries_by at (entries (with_batch l epoch now items).batches) ≡ entries_by at (entries l.batches)
entries_by_more l epoch now items at low =
    let early : Entry → Bool = λ (e : Entry). int_le e.offset at in
    let new = next_entries l epoch items in
    ap (entries_by at) (entries_more l epoch now items)
    ∙ filter-append early (entries l.batches) new
    ∙ ap (λ es. entries_by at (entries l.batches) ++ es) (filter_none at early new (λ e later. not_at_most at e.offset later) (numbered_after at (end_of l +ℤ pos 1) epoch items (omega (arith, ints, low))))
    ∙ append-nil (entries_by at (entries l.batches))

batch_end_of : (l : Log) (v : View) → IsAt l v → IsBatchEnd l v.position
batch_end_of l v at = record { before = at.end.0; after = at.end.1; among = at.end.2 }

at_more : (l : Log) (epoch now : ℤ) (items : List MetaRecord) (v : View) → LogShape l → IsAt l v → IsAt (with_batch l epoch now items) v
at_more l epoch now items v shape old =
    let end = batch_end_of l v old in
    let within = batch_end_within l v.position shape end in
    let now-end = batch_end_kept l epoch now items v.position end in
    record {
      end = (now-end.before, now-end.after, now-end.among);
      image = old.image ∙ sym (image_kept l epoch now items v.position within);
      begun = old.begun ∙ ap open_begin (sym (entries_by_more l epoch now items v.position within));
      kept = old.kept ∙ ap records_of_open (sym (entries_by_more l epoch now items v.position within));
    }

view_more : (l : Log) (epoch now : ℤ) (items : List MetaRecord) (v : View) → LogShape l → IsViewOf l v → IsViewOf (with_batch l epoch now items) v
view_more l epoch now items v shape (inl passed) = inl passed
view_more l epoch now items v shape (inr at) = inr (at_more l epoch now items v shape at)

more_records : (e : ℤ) (n : ℕ) → 1 ≤ n → e <ℤ (e +ℤ pos n)
more_records e n some = omega (arith, ints, some)

-- a log with one batch more
pub batch_lengthens : (l : Log) (epoch now : ℤ) (items : List MetaRecord) → LogShape l → l.epoch ≤ℤ epoch → 1 ≤ length items → StaysMigrated l epoch now items → (is_migrated_log l ≡ true → NoneEnds (next_entries l epoch items))
    → IsLonger l (with_batch l epoch now items)
batch_lengthens l epoch now items shape low some stays none = record {
  end = subst (λ (e : ℤ). end_of l <ℤ e) (sym (end_more l epoch now items)) (more_records (end_of l) (length items) some);
  epoch = low;
  image = λ at within. image_kept l epoch now items at within;
  view = λ v old. view_more l epoch now items v shape old;
  batch_end = λ at e. batch_end_kept l epoch now items at e;
  within = λ at e. batch_end_within l at shape e;
  past = λ migrated at old. past_kept l epoch now items at shape (none migrated) old;
  migrated = stays;
}

-- ---- an append

-- what an append that isn't refused makes of a log
pub record Appended (l : Log) (epoch now : ℤ) (items : List MetaRecord) (new : Log) : Type 0 where
  pub shape : LogShape new
  pub made : with_batch l epoch now items ≡ new
  pub same : epoch ≡ l.epoch

low_by : (a b : ℤ) → a ≡ b → b ≤ℤ a
low_by a b is = omega (arith, ints, is)

appended_by : (l : Log) (epoch now : ℤ) (items : List MetaRecord) (new : Log) (r : Option ℕ) → full_log l items ≡ r → epoch ≡ l.epoch → pos 1 ≤ℤ epoch → 1 ≤ length items → log_unless_limit r (with_batch l epoch now items) ≡ Ok new → LogShape l → Appended l epoch now items new
appended_by l epoch now items new (Some number) room same high some is shape = absurd (cc)
appended_by l epoch now items new None room same high some is shape =
    let made : with_batch l epoch now items ≡ new = cc in
    record {
      shape = subst LogShape made (batch_shape l epoch now items shape (low_by epoch l.epoch same) (record { least = high; most = subst (λ (e : ℤ). e ≤ℤ MAX_EPOCH) (sym same) shape.epoch }) some room);
      made = made;
      same = same;
    }

pub append_appends : (l : Log) (epoch now : ℤ) (items : List MetaRecord) (new : Log) → append l epoch now items ≡ Ok new → pos 1 ≤ℤ epoch → 1 ≤ length items → LogShape l → Appended l epoch now items new
append_appends l epoch now items new is high some shape = by_epoch (int_eq epoch l.epoch) refl is
  where
    by_epoch : (b : Bool) → int_eq epoch l.epoch ≡ b → (if b then log_unless_limit (full_log l items) (with_batch l epoch now items) else Err (log_fault.Stale l.epoch)) ≡ Ok new → Appended l epoch now items new
    by_epoch true same is = appended_by l epoch now items new (full_log l items) refl ((Decides-int_eq epoch l.epoch).0 same) high some is shape
    by_epoch false same is = absurd (cc)

pub append_lengthens : (l : Log) (epoch now : ℤ) (items : List MetaRecord) (new : Log) → Appended l epoch now items new → LogShape l → 1 ≤ length items → StaysMigrated l epoch now items → (is_migrated_log l ≡ true → NoneEnds (next_entries l epoch items)) → IsLonger l new
append_lengthens l epoch now items new a shape some stays none = subst (IsLonger l) a.made (batch_lengthens l epoch now items shape (low_by epoch l.epoch a.same) some stays none)

-- ---- views

epochs_in_range : (least most : ℤ) (bs : List BatchRow) → pos 0 ≤ℤ least → most ≤ℤ MAX_EPOCH → EpochsNeverFall least most bs → All (λ (b : BatchRow). IsEpochOrNone b.epoch) bs
epochs_in_range least most [] low high fall = All-nil (λ (b : BatchRow). IsEpochOrNone b.epoch)
epochs_in_range least most (b ∷ bs) low high fall =
    let least-here = then_at_most (pos 0) least b.epoch low fall.0 in
    All-cons (λ (x : BatchRow). IsEpochOrNone x.epoch) b bs (record { least = least-here; most = then_at_most b.epoch most MAX_EPOCH fall.1 high }) (epochs_in_range b.epoch most bs least-here high fall.2)

last_epoch_range : (epoch : ℤ) (bs : List BatchRow) → IsEpochOrNone epoch → All (λ (b : BatchRow). IsEpochOrNone b.epoch) bs → IsEpochOrNone (last_epoch epoch bs)
last_epoch_range epoch [] range all = range
last_epoch_range epoch (b ∷ bs) range all = last_epoch_range b.epoch bs (All-head (λ (x : BatchRow). IsEpochOrNone x.epoch) b bs all) (All-tail (λ (x : BatchRow). IsEpochOrNone x.epoch) b bs all)

first_epoch_range : (b : Bool) (epoch : ℤ) → IsEpochOrNone epoch → IsEpochOrNone (if b then pos 0 else epoch)
first_epoch_range true epoch range = record { least = omega (arith, ints); most = omega (arith, ints) }
first_epoch_range false epoch range = range

-- the epoch of a view that has read to the log's end
pub read_epoch_range : (l : Log) (v : View) → LogShape l → IsEpochOrNone v.epoch → IsEpochOrNone (read_epoch l v)
read_epoch_range l v shape old = last_epoch_range (if int_lt v.position l.base then pos 0 else v.epoch) (filter (begins_after v.position) l.batches) (first_epoch_range (int_lt v.position l.base) v.epoch old)
    (All-filter (begins_after v.position) (λ (b : BatchRow). IsEpochOrNone b.epoch) l.batches (epochs_in_range (pos 1) l.epoch l.batches (omega (arith, ints)) shape.epoch shape.log.epochs))

not_after : (a b : ℤ) → a ≤ℤ b → int_le a b ≡ true
not_after a b low = grind (arith, ints)

-- every record stands at or before the log's end
all_by_end : (at : ℤ) (es : List Entry) → AllUpTo at es → entries_by at es ≡ es
all_by_end at [] up_to = refl
all_by_end at (e ∷ es) up_to = ap (λ b. cond b (e ∷ entries_by at es) (entries_by at es)) (not_after e.offset at up_to.0) ∙ ap (λ l. e ∷ l) (all_by_end at es up_to.1)

pub read_view_at_end : (l : Log) (v : View) → LogShape l → IsAt l (read_view l v)
read_view_at_end l v shape =
    let end = end_is_batch_end l in
    let all = all_by_end (end_of l) (entries l.batches) (up_to_end l shape) in
    record {
      end = (end.before, end.after, end.among);
      image = refl;
      begun = ap open_begin (sym all);
      kept = ap records_of_open (sym all);
    }

-- ---- a batch of plain records

pub plain_lengthens : (l : Log) (epoch now : ℤ) (items : List MetaRecord) → LogShape l → l.epoch ≤ℤ epoch → 1 ≤ length items → All IsPlain items → IsLonger l (with_batch l epoch now items)
plain_lengthens l epoch now items shape low some plain =
    batch_lengthens l epoch now items shape low some (plain_stays l epoch now items shape plain)
    (λ migrated. plain_ends (next_entries l epoch items) (numbered_plain (end_of l +ℤ pos 1) epoch items plain))
