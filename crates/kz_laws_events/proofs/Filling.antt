-- The begin of a migration, and the records of its translation.
use Rattle.std.proofs.Common.{◌≡◌, ◌≢◌, ℕ, zero, suc, ◌≤◌, ℤ, pos, ◌+ℤ◌, Bool, true, false, nat_lt, List, [], ◌∷◌, ◌++◌, length, take, drop, Option, Some, None, All, refl, sym, ap, ◌∙◌, subst, arith, append_assoc}
use Rattle.std.specs.Prelude.{Ok, Err, codes, ◌+◌, if◌then◌else◌}
use Rattle.std.proofs.lemmas.List.{take-append-drop}
use Rattle.std.proofs.lemmas.List.Elements.{All-take, All-tail}
use Rattle.kz_types.specs.declared.limits.Limit.TheVariants as limits
use Rattle.kz_types.specs.Limits.{number_of_limit}
use Rattle.kz_types.specs.declared.fault.ReadWhy.TheVariants as why
use Rattle.kz_types.specs.declared.limits.TheConstants.{MAX_APPEND_RECORDS, MAX_EPOCH, MAX_RECORDS}
use Rattle.kz_types.specs.declared.tree.Row.{Row}
use Rattle.kz_types.specs.declared.driver.Stage.TheVariants as stage
use Rattle.kz_types.specs.declared.record.MetaRecord.{MetaRecord}
use Rattle.kz_spec_data.specs.Image.{empty_image, all_applied}
use Rattle.kz_spec_data.specs.Log.{Log, end_of, with_batch, append, is_migrated_log, is_open_log}
use Rattle.kz_spec_data.specs.Rendering.{Excess, excess}
use Rattle.kz_spec_data.specs.Translation.{Unreadable, Translated, all_records, further_records, records_unless_excess, within_limits, translate}
use Rattle.kz_spec_machine.specs.Driver.{Shared, Driver, at_stage, epoch_or_zero, begin_record}
use Rattle.kz_spec_machine.specs.Sound.{LogShape, Unmigrated, IsSharedSound, Migrates, Fills, IsTranslated, is_filling, AtStage, WasElected, IsSoundDriver}
use Rattle.kz_laws_machine.proofs.Numbers.{at_most_by}
use Rattle.kz_laws_machine.specs.LogLaws.{IsPlain}
use Rattle.kz_laws_machine.proofs.Growth.{Appended, append_appends, plain_lengthens, plain_was}
use Rattle.kz_laws_machine.proofs.Translated.{all_translated}
use Rattle.kz_laws_machine.proofs.Opened.{begin_opens, fill_keeps_open}
use Rattle.kz_laws_machine.proofs.Filled.{begin_stands, fill_stands}
use Rattle.kz_laws_machine.proofs.Batches.{all_plain, begin_plain, begin_unmigrated, fill_unmigrated}
use Rattle.kz_laws_events.proofs.Tests.{true_or_false}
use Rattle.kz_laws_events.proofs.Leading.{IsLeading, first_epoch, leading, not_leading}
use Rattle.kz_laws_events.proofs.Uncommitted.{IsUnmigratedBatch, Both, filled}

-- ---- what a translation gives

over_or : (b : Bool) (e : Unreadable) (rs records : List MetaRecord) → (if◌then◌else◌ {A = Translated} b (Err e) (Ok rs)) ≡ Ok records → rs ≡ records
over_or true e rs records is = absurd (cc)
over_or false e rs records is = cc

-- why too many records aren't translated
abbrev too_many : Unreadable
too_many = record { path = codes "/brokers/topics"; why = why.Over (number_of_limit limits.Records) }

limits_by : (x : Option Excess) (rs records : List MetaRecord) → records_unless_excess x rs ≡ Ok records → (x ≡ None) × (rs ≡ records)
limits_by (Some e) rs records is = absurd (cc)
limits_by None rs records is = (refl, over_or (nat_lt MAX_RECORDS (length rs + further_records)) too_many rs records is)

fits_by : (t : Translated) (records : List MetaRecord) → within_limits t ≡ Ok records → excess (all_applied MAX_EPOCH records empty_image) ≡ None
fits_by (Err e) records is = absurd (cc)
fits_by (Ok rs) records is =
    let both = limits_by (excess (all_applied MAX_EPOCH rs empty_image)) rs records is in
    subst (λ (l : List MetaRecord). excess (all_applied MAX_EPOCH l empty_image) ≡ None) both.1 both.0

-- the metadata that it gives keeps the limits
pub translation_fits : (rows : List Row) (records : List MetaRecord) → translate rows ≡ Ok records → excess (all_applied MAX_EPOCH records empty_image) ≡ None
unfolding translate
translation_fits rows records is = fits_by (all_records rows) records is

-- ---- an append of plain records

still_unmigrated : (l more : Log) (b : Bool) → is_migrated_log more ≡ b → (is_migrated_log more ≡ true → is_migrated_log l ≡ true) → is_migrated_log l ≡ false → b ≡ false
still_unmigrated l more true is back was = absurd (true_or_false (is_migrated_log l) (back is) was)
still_unmigrated l more false is back was = refl

-- what is known of such a batch
pub plain_batch : (l : Log) (epoch now : ℤ) (items : List MetaRecord) → LogShape l → LogShape (with_batch l epoch now items) → epoch ≡ l.epoch → 1 ≤ length items → All IsPlain items → is_migrated_log l ≡ false → Unmigrated (with_batch l epoch now items) → IsUnmigratedBatch l (with_batch l epoch now items)
plain_batch l epoch now items shape more same some plain was before = record {
  longer = plain_lengthens l epoch now items shape (at_most_by l.epoch epoch (sym same)) some plain;
  shape = more;
  was = was;
  still = still_unmigrated l (with_batch l epoch now items) (is_migrated_log (with_batch l epoch now items)) refl (plain_was l epoch now items shape plain) was;
  before = before;
}

-- ---- the begin

abbrev begun_fills : (l : Log) (epoch now : ℤ) (rows : List Row) (records : List MetaRecord) → LogShape l → LogShape (with_batch l epoch now (begin_record ∷ [])) → is_open_log l ≡ false → translate rows ≡ Ok records → Fills (with_batch l epoch now (begin_record ∷ [])) records
begun_fills l epoch now rows records shape more settled is = record {
  from = end_of l +ℤ pos 1;
  records = [];
  begun = begin_opens l epoch now shape more settled;
  so_far = begin_stands l epoch now shape;
  translated = all_translated rows records is;
  fits = translation_fits rows records is;
}

one_item : 1 ≤ length (begin_record ∷ [])
one_item = omega arith

-- what is known of a begin that is taken
pub record IsBegun (s : Shared) (d : Driver) (rest : List MetaRecord) (new : Log) : Type 0 where
  pub elected : d.epoch ≢ None
  pub migrates : Migrates s.tree s.log d.claim
  pub batch : IsUnmigratedBatch s.log new
  pub own : new.epoch ≡ epoch_or_zero d.epoch
  pub fills : Fills new rest
  pub none : fills.records ≡ []

pub begun_log : (s : Shared) (now : ℤ) (d : Driver) (rows : List Row) (records : List MetaRecord) (new : Log) → IsSharedSound s → IsSoundDriver s d → d.stage ≡ stage.BeginMigration rows → translate rows ≡ Ok records → append s.log (epoch_or_zero d.epoch) now (begin_record ∷ []) ≡ Ok new
    → IsBegun s d records new
begun_log s now d rows records new kept fine at is made =
    let epoch = epoch_or_zero d.epoch in
    let items : List MetaRecord = begin_record ∷ [] in
    let elected : d.epoch ≢ None = subst (WasElected d.epoch) at fine.elected in
    let a : Appended s.log epoch now items new = append_appends s.log epoch now items new made (first_epoch s d fine elected) one_item kept.log in
    let held : AtStage s.tree s.log d (stage.BeginMigration rows) = subst (AtStage s.tree s.log d) at fine.stage in
    let k : IsLeading s d = leading s d fine elected held.0.claimed a.same in
    let was = held.0.unmigrated k.current in
    let settled = fine.leads k.leads (ap is_filling at) in
    let more : LogShape (with_batch s.log epoch now items) = subst LogShape (sym a.made) a.shape in
    subst (IsBegun s d records) a.made (record {
      elected = elected;
      migrates = held.0;
      batch = plain_batch s.log epoch now items kept.log more a.same one_item begin_plain was (begin_unmigrated s.log epoch now kept.log (kept.before was));
      own = refl;
      fills = begun_fills s.log epoch now rows records kept.log more settled is;
      none = refl;
    })

pub begun : (s : Shared) (now : ℤ) (d : Driver) (rows : List Row) (records : List MetaRecord) (new : Log) → IsSharedSound s → IsSoundDriver s d → d.stage ≡ stage.BeginMigration rows → translate rows ≡ Ok records → append s.log (epoch_or_zero d.epoch) now (begin_record ∷ []) ≡ Ok new
    → Both s d new (at_stage (stage.AppendRecords records) d)
begun s now d rows records new kept fine at is made =
    let k = begun_log s now d rows records new kept fine at is made in
    filled s new d records kept fine k.batch k.elected k.migrates k.fills (λ f apart leads. not_leading s d f new.epoch k.elected k.own apart leads)

-- ---- the records

all_right : (P : MetaRecord → Type 0) (xs ys : List MetaRecord) → All P (xs ++ ys) → All P ys
all_right P [] ys all = all
all_right P (x ∷ xs) ys all = all_right P xs ys (All-tail P x (xs ++ ys) all)

some_taken : (n : ℕ) (r : MetaRecord) (rs : List MetaRecord) → 1 ≤ n → 1 ≤ length (take n (r ∷ rs))
some_taken zero r rs some = absurd (omega (arith, some))
some_taken (suc n) r rs some = omega arith

-- the records so far and those that are left are the same with a batch more
pub same_records : (n : ℕ) (records rest : List MetaRecord) → (records ++ take n rest) ++ drop n rest ≡ records ++ rest
same_records n records rest = append_assoc records (take n rest) (drop n rest) ∙ ap (λ (l : List MetaRecord). records ++ l) (take-append-drop n rest)

abbrev more_fills : (l : Log) (epoch now : ℤ) (n : ℕ) (rest : List MetaRecord) → LogShape l → LogShape (with_batch l epoch now (take n rest)) → All IsTranslated (take n rest) → Fills l rest → Fills (with_batch l epoch now (take n rest)) (drop n rest)
more_fills l epoch now n rest shape more translated f = record {
  from = f.from;
  records = f.records ++ take n rest;
  begun = fill_keeps_open l epoch now (take n rest) f.from shape more translated f.begun;
  so_far = fill_stands l f.from epoch now (take n rest) f.records shape f.begun f.so_far;
  translated = subst (All IsTranslated) (sym (same_records n f.records rest)) f.translated;
  fits = ap (λ (l : List MetaRecord). excess (all_applied MAX_EPOCH l empty_image)) (same_records n f.records rest) ∙ f.fits;
}

few_enough : 1 ≤ MAX_APPEND_RECORDS
few_enough = omega arith

-- what is known of an append of records that is taken
pub record IsAppended (s : Shared) (d : Driver) (rest : List MetaRecord) (new : Log) : Type 0 where
  pub elected : d.epoch ≢ None
  pub leads : d.epoch ≡ Some s.log.epoch
  pub migrates : Migrates s.tree s.log d.claim
  pub batch : IsUnmigratedBatch s.log new
  pub own : new.epoch ≡ epoch_or_zero d.epoch
  pub before : Fills s.log rest
  pub after : Fills new (drop MAX_APPEND_RECORDS rest)
  pub same : after.records ≡ before.records ++ take MAX_APPEND_RECORDS rest

pub appended_log : (s : Shared) (now : ℤ) (d : Driver) (r : MetaRecord) (rs : List MetaRecord) (new : Log) → IsSharedSound s → IsSoundDriver s d → d.stage ≡ stage.AppendRecords (r ∷ rs) → append s.log (epoch_or_zero d.epoch) now (take MAX_APPEND_RECORDS (r ∷ rs)) ≡ Ok new
    → IsAppended s d (r ∷ rs) new
appended_log s now d r rs new kept fine at made =
    let epoch = epoch_or_zero d.epoch in
    let items : List MetaRecord = take MAX_APPEND_RECORDS (r ∷ rs) in
    let some : 1 ≤ length items = some_taken MAX_APPEND_RECORDS r rs few_enough in
    let elected : d.epoch ≢ None = subst (WasElected d.epoch) at fine.elected in
    let a : Appended s.log epoch now items new = append_appends s.log epoch now items new made (first_epoch s d fine elected) some kept.log in
    let held : AtStage s.tree s.log d (stage.AppendRecords (r ∷ rs)) = subst (AtStage s.tree s.log d) at fine.stage in
    let k : IsLeading s d = leading s d fine elected held.0.claimed a.same in
    let was = held.0.unmigrated k.current in
    let f : Fills s.log (r ∷ rs) = held.1 k.current k.leads in
    let translated : All IsTranslated items = All-take IsTranslated MAX_APPEND_RECORDS (r ∷ rs) (all_right IsTranslated f.records (r ∷ rs) f.translated) in
    let more : LogShape (with_batch s.log epoch now items) = subst LogShape (sym a.made) a.shape in
    subst (IsAppended s d (r ∷ rs)) a.made (record {
      elected = elected;
      leads = k.leads;
      migrates = held.0;
      batch = plain_batch s.log epoch now items kept.log more a.same some (all_plain items translated) was (fill_unmigrated s.log epoch now f.from items kept.log translated f.begun (kept.before was));
      own = refl;
      before = f;
      after = more_fills s.log epoch now MAX_APPEND_RECORDS (r ∷ rs) kept.log more translated f;
      same = refl;
    })

pub appended : (s : Shared) (now : ℤ) (d : Driver) (r : MetaRecord) (rs : List MetaRecord) (new : Log) → IsSharedSound s → IsSoundDriver s d → d.stage ≡ stage.AppendRecords (r ∷ rs) → append s.log (epoch_or_zero d.epoch) now (take MAX_APPEND_RECORDS (r ∷ rs)) ≡ Ok new
    → Both s d new (at_stage (stage.AppendRecords (drop MAX_APPEND_RECORDS (r ∷ rs))) d)
appended s now d r rs new kept fine at made =
    let k = appended_log s now d r rs new kept fine at made in
    filled s new d (drop MAX_APPEND_RECORDS (r ∷ rs)) kept fine k.batch k.elected k.migrates k.after (λ g apart leads. not_leading s d g new.epoch k.elected k.own apart leads)
