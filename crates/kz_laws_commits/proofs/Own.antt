-- What a driver's own appends copy.
use Rattle.std.proofs.Common.{◌≡◌, ℕ, zero, suc, ◌≤◌, ℤ, pos, ◌+ℤ◌, List, [], ◌∷◌, ◌++◌, length, take, drop, Option, Some, All, sym, ap, ◌∙◌, subst, arith, append-nil}
use Rattle.std.specs.Prelude.{Ok}
use Rattle.std.proofs.lemmas.List.Elements.{All-take, All-tail}
use Rattle.kz_types.specs.declared.limits.TheConstants.{MAX_APPEND_RECORDS}
use Rattle.kz_types.specs.declared.tree.Row.{Row}
use Rattle.kz_types.specs.declared.driver.Stage.TheVariants as stage
use Rattle.kz_types.specs.declared.record.MetaRecord.{MetaRecord}
use Rattle.kz_spec_data.specs.Tree.{Tree}
use Rattle.kz_spec_data.specs.Log.{Log, append, end_of, begun_of, with_batch}
use Rattle.kz_spec_data.specs.Translation.{translate}
use Rattle.kz_spec_machine.specs.Driver.{Shared, Driver, at_stage, epoch_or_zero, begin_record, commit_records}
use Rattle.kz_spec_machine.specs.Sound.{LogShape, IsCurrent, IsSharedSound, Fills, records_from, IsTranslated, is_filling, AtStage, IsSoundDriver}
use Rattle.kz_spec_machine.specs.Promises.{EndsWith, IsTranslation}
use Rattle.kz_laws_machine.proofs.Growth.{Appended, append_appends}
use Rattle.kz_laws_machine.proofs.Opened.{begin_opens, fill_keeps_open}
use Rattle.kz_laws_machine.proofs.Filled.{begun_within}
use Rattle.kz_laws_events.proofs.Leading.{IsLeading, first_epoch, leading}
use Rattle.kz_laws_events.proofs.Filling.{same_records, IsBegun, begun_log, IsAppended, appended_log}
use Rattle.kz_laws_events.proofs.Committed.{IsReady, ready, commit_agrees}
use Rattle.kz_laws_commits.specs.Commits.{IsUnbroken, IsCopied, Copies, CopiesAtStage}
use Rattle.kz_laws_commits.proofs.Unbroken.{begin_unbroken, more_unbroken}

-- ---- the open transaction is one

same_from : (m : Option ℤ) (a b : ℤ) → m ≡ Some a → m ≡ Some b → a ≡ b
same_from m a b one two = cc

same_rest : (r : MetaRecord) (rs ss : List MetaRecord) → ◌≡◌ {A = List MetaRecord} (r ∷ rs) (r ∷ ss) → rs ≡ ss
same_rest r rs ss is = cc

-- records that are said of it are those that fill it
records_are : (l : Log) (rest : List MetaRecord) (f : Fills l rest) (from : ℤ) (records : List MetaRecord) → begun_of l ≡ Some from → records_from l from ≡ begin_record ∷ records → f.records ≡ records
records_are l rest f from records begun all =
    same_rest begin_record f.records records (sym f.so_far ∙ ap (records_from l) (same_from (begun_of l) f.from from f.begun begun) ∙ all)

-- what fills a log is a copy, where all of it is the translation
pub fills_copy : (t : Tree) (l : Log) (d : Driver) (rest : List MetaRecord) (f : Fills l rest) → (IsCurrent t d.claim → IsCopied t l f.from f.records rest) → CopiesAtStage t l d (stage.AppendRecords rest)
fills_copy t l d rest f all current leads from records begun so_far =
    subst (λ (rs : List MetaRecord). IsCopied t l from rs rest) (records_are l rest f from records begun so_far)
    (subst (λ (o : ℤ). IsCopied t l o f.records rest) (same_from (begun_of l) f.from from f.begun begun) (all current))

-- ---- the begin

one_item : 1 ≤ length (begin_record ∷ [])
one_item = omega arith

-- a Begin that is taken stands by itself at the log's end
begin_stands_last : (s : Shared) (now : ℤ) (d : Driver) (rows : List Row) (records : List MetaRecord) (new : Log) → IsSharedSound s → IsSoundDriver s d → d.stage ≡ stage.BeginMigration rows → append s.log (epoch_or_zero d.epoch) now (begin_record ∷ []) ≡ Ok new
    → (k : IsBegun s d records new) → IsUnbroken new k.fills.from (begin_record ∷ [])
begin_stands_last s now d rows records new kept fine at made k =
    let epoch = epoch_or_zero d.epoch in
    let items : List MetaRecord = begin_record ∷ [] in
    let a : Appended s.log epoch now items new = append_appends s.log epoch now items new made (first_epoch s d fine k.elected) one_item kept.log in
    let lead : IsLeading s d = leading s d fine k.elected k.migrates.claimed a.same in
    let settled = fine.leads lead.leads (ap is_filling at) in
    let more : LogShape (with_batch s.log epoch now items) = subst LogShape (sym a.made) a.shape in
    let begun : begun_of new ≡ Some (end_of s.log +ℤ pos 1) = ap begun_of (sym a.made) ∙ begin_opens s.log epoch now kept.log more settled in
    subst (λ (o : ℤ). IsUnbroken new o items) (same_from (begun_of new) (end_of s.log +ℤ pos 1) k.fills.from begun k.fills.begun)
    (subst (λ (l : Log). IsUnbroken l (end_of s.log +ℤ pos 1) items) a.made (begin_unbroken s.log epoch now kept.log))

pub begin_copies : (s : Shared) (now : ℤ) (d : Driver) (rows : List Row) (records : List MetaRecord) (new : Log) → IsSharedSound s → IsSoundDriver s d → d.stage ≡ stage.BeginMigration rows → translate rows ≡ Ok records → append s.log (epoch_or_zero d.epoch) now (begin_record ∷ []) ≡ Ok new
    → Copies (record s { log = new }) (at_stage (stage.AppendRecords records) d)
begin_copies s now d rows records new kept fine at is made =
    let held : AtStage s.tree s.log d (stage.BeginMigration rows) = subst (AtStage s.tree s.log d) at fine.stage in
    let k : IsBegun s d records new = begun_log s now d rows records new kept fine at is made in
    fills_copy s.tree new (at_stage (stage.AppendRecords records) d) records k.fills (λ current. record {
      translated = ap translate (held.1 current) ∙ is ∙ ap (λ (rs : List MetaRecord). Ok (rs ++ records)) (sym k.none);
      unbroken = subst (λ (rs : List MetaRecord). IsUnbroken new k.fills.from (begin_record ∷ rs)) (sym k.none) (begin_stands_last s now d rows records new kept fine at made k);
    })

-- ---- the records

all_right : (P : MetaRecord → Type 0) (xs ys : List MetaRecord) → All P (xs ++ ys) → All P ys
all_right P [] ys all = all
all_right P (x ∷ xs) ys all = all_right P xs ys (All-tail P x (xs ++ ys) all)

some_taken : (n : ℕ) (r : MetaRecord) (rs : List MetaRecord) → 1 ≤ n → 1 ≤ length (take n (r ∷ rs))
some_taken zero r rs some = absurd (omega (arith, some))
some_taken (suc n) r rs some = omega arith

few_enough : 1 ≤ MAX_APPEND_RECORDS
few_enough = omega arith

-- records that are taken stand after those before them
records_stand_last : (s : Shared) (now : ℤ) (d : Driver) (r : MetaRecord) (rs : List MetaRecord) (new : Log) → IsSharedSound s → IsSoundDriver s d → append s.log (epoch_or_zero d.epoch) now (take MAX_APPEND_RECORDS (r ∷ rs)) ≡ Ok new
    → (k : IsAppended s d (r ∷ rs) new) → IsUnbroken s.log k.before.from (begin_record ∷ k.before.records) → IsUnbroken new k.after.from (begin_record ∷ k.after.records)
records_stand_last s now d r rs new kept fine made k unbroken =
    let epoch = epoch_or_zero d.epoch in
    let items : List MetaRecord = take MAX_APPEND_RECORDS (r ∷ rs) in
    let f : Fills s.log (r ∷ rs) = k.before in
    let a : Appended s.log epoch now items new = append_appends s.log epoch now items new made (first_epoch s d fine k.elected) (some_taken MAX_APPEND_RECORDS r rs few_enough) kept.log in
    let more : LogShape (with_batch s.log epoch now items) = subst LogShape (sym a.made) a.shape in
    let translated : All IsTranslated items = All-take IsTranslated MAX_APPEND_RECORDS (r ∷ rs) (all_right IsTranslated f.records (r ∷ rs) f.translated) in
    let begun : begun_of new ≡ Some f.from = ap begun_of (sym a.made) ∙ fill_keeps_open s.log epoch now items f.from kept.log more translated f.begun in
    subst (λ (all : List MetaRecord). IsUnbroken new k.after.from (begin_record ∷ all)) (sym k.same)
    (subst (λ (o : ℤ). IsUnbroken new o (begin_record ∷ (f.records ++ items))) (same_from (begun_of new) f.from k.after.from begun k.after.begun)
    (subst (λ (l : Log). IsUnbroken l f.from (begin_record ∷ (f.records ++ items))) a.made
    (more_unbroken s.log f.from epoch now items (begin_record ∷ f.records) a.same (begun_within s.log f.from kept.log f.begun) unbroken)))

pub append_copies : (s : Shared) (now : ℤ) (d : Driver) (r : MetaRecord) (rs : List MetaRecord) (new : Log) → IsSharedSound s → IsSoundDriver s d → Copies s d → d.stage ≡ stage.AppendRecords (r ∷ rs) → append s.log (epoch_or_zero d.epoch) now (take MAX_APPEND_RECORDS (r ∷ rs)) ≡ Ok new
    → Copies (record s { log = new }) (at_stage (stage.AppendRecords (drop MAX_APPEND_RECORDS (r ∷ rs))) d)
append_copies s now d r rs new kept fine copies at made =
    let rest : List MetaRecord = drop MAX_APPEND_RECORDS (r ∷ rs) in
    let held : CopiesAtStage s.tree s.log d (stage.AppendRecords (r ∷ rs)) = subst (CopiesAtStage s.tree s.log d) at copies in
    let k : IsAppended s d (r ∷ rs) new = appended_log s now d r rs new kept fine at made in
    fills_copy s.tree new (at_stage (stage.AppendRecords rest) d) rest k.after (λ current.
    let old : IsCopied s.tree s.log k.before.from k.before.records (r ∷ rs) = held current k.leads k.before.from k.before.records k.before.begun k.before.so_far in
    record {
      translated = old.translated
          ∙ ap (λ (all : List MetaRecord). Ok all) (sym (same_records MAX_APPEND_RECORDS k.before.records (r ∷ rs)))
          ∙ ap (λ (some : List MetaRecord). Ok (some ++ rest)) (sym k.same);
      unbroken = records_stand_last s now d r rs new kept fine made k old.unbroken;
    })

-- ---- the commit

pub commit_translates : (s : Shared) (now : ℤ) (d : Driver) (new : Log) → IsSharedSound s → IsSoundDriver s d → Copies s d → d.stage ≡ stage.AppendRecords [] → append s.log (epoch_or_zero d.epoch) now commit_records ≡ Ok new → IsTranslation s.tree new
commit_translates s now d new kept fine copies at made =
    let epoch = epoch_or_zero d.epoch in
    let held : CopiesAtStage s.tree s.log d (stage.AppendRecords []) = subst (CopiesAtStage s.tree s.log d) at copies in
    let both = ready s now d new kept fine at made in
    let k : IsReady s d epoch now = both.1 in
    let f = k.fills in
    let copied : IsCopied s.tree s.log f.from f.records [] = held k.lead.current k.lead.leads f.from f.records f.begun f.so_far in
    let more : IsUnbroken (with_batch s.log epoch now commit_records) f.from (begin_record ∷ (f.records ++ commit_records)) =
    more_unbroken s.log f.from epoch now commit_records (begin_record ∷ f.records) k.same (begun_within s.log f.from kept.log f.begun) copied.unbroken in
    record {
      from = f.from;
      records = f.records;
      translated = copied.translated ∙ ap (λ (all : List MetaRecord). Ok all) (append-nil f.records);
      transaction = subst (λ (l : Log). EndsWith l f.from (begin_record ∷ (f.records ++ commit_records))) both.0.made more.stand;
      commit = (commit_agrees s now d new kept fine at made).0;
    }
