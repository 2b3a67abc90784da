-- Steps of a driver that appends the migration.
use Rattle.std.proofs.Common.{◌≡◌, ◌≢◌, inl, inr, ℕ, zero, suc, ◌+◌, ◌*◌, ◌-◌, ◌≤◌, ℤ, Bool, true, false, List, [], ◌∷◌, ◌++◌, length, take, drop, Some, None, refl, sym, ap, ◌∙◌, subst, arith, length-drop}
use Rattle.std.specs.Prelude.{Result, Ok, Err}
use Rattle.kz_types.specs.declared.limits.TheConstants.{MAX_APPEND_RECORDS}
use Rattle.kz_types.specs.declared.tree.Row.{Row}
use Rattle.kz_types.specs.declared.driver.Stage.{Stage}
use Rattle.kz_types.specs.declared.driver.Stage.TheVariants as stage
use Rattle.kz_types.specs.declared.fault.LogFault.{LogFault}
use Rattle.kz_types.specs.declared.fault.LogFault.TheVariants as log_fault
use Rattle.kz_types.specs.declared.record.MetaRecord.{MetaRecord}
use Rattle.kz_spec_data.specs.Tree.{migrated_rows, area}
use Rattle.kz_spec_data.specs.Image.{empty_image, all_applied}
use Rattle.kz_spec_data.specs.Log.{Log, append, image_of, is_migrated_log}
use Rattle.kz_spec_data.specs.Rendering.{render}
use Rattle.kz_spec_data.specs.Translation.{Unreadable, translate}
use Rattle.kz_spec_machine.specs.Driver.{Shared, Driver, at_stage, epoch_or_zero, begin_record, commit_records, begin_request, next_records, with_log, shared_after, after_append, after_records, after_translation}
use Rattle.kz_spec_machine.specs.Machine.{final_znodes}
use Rattle.kz_spec_machine.specs.Sound.{IsSharedSound, IsCurrent, AtStage, IsSoundDriver}
use Rattle.kz_laws_machine.proofs.Growth.{Appended, append_appends}
use Rattle.kz_laws_events.proofs.Leading.{IsLeading, first_epoch, leading}
use Rattle.kz_laws_events.proofs.Filling.{IsBegun, begun_log, IsAppended, appended_log}
use Rattle.kz_laws_events.proofs.Committed.{IsReady, ready}
use Rattle.kz_spec_machine.specs.Promises.{IsTranslation}
use Rattle.kz_laws_commits.specs.Commits.{Copies, CopiesAtStage}
use Rattle.kz_laws_commits.proofs.Own.{commit_translates}
use Rattle.kz_laws_bounds.proofs.Amounts.{Znodes}
use Rattle.kz_laws_bounds.proofs.Left.{Reaches, Ahead, ahead_least, Appends, Left, Goes}
use Rattle.kz_laws_bounds.proofs.Shorter.{commit_no_more}

-- ---- an append

goes_appended : (s : Shared) (d : Driver) (next : Stage) (r : Result Log LogFault) (n : ℕ) → ((new : Log) → r ≡ Ok new → Left (record s { log = new }) (at_stage next d) n) → Goes (with_log s r) (after_append next d r) n
goes_appended s d next (Ok new) n made = inr (made new refl)
goes_appended s d next (Err (log_fault.Stale epoch)) n made = inl refl
goes_appended s d next (Err log_fault.Failed) n made = inl refl
goes_appended s d next (Err (log_fault.Limit number)) n made = inl refl
goes_appended s d next (Err log_fault.NoMemory) n made = inl refl
goes_appended s d next (Err log_fault.Down) n made = inl refl
goes_appended s d next (Err (log_fault.Full size)) n made = inl refl

-- ---- the begin

same_records : (xs ys : List MetaRecord) → ◌≡◌ {A = Result (List MetaRecord) Unreadable} (Ok xs) (Ok ys) → xs ≡ ys
same_records xs ys is = cc

-- the znodes of a log that isn't migrated yet
pub final_is : (b : Bool) (l : Log) (epoch : ℤ) (t : Result (List MetaRecord) Unreadable) (all : List MetaRecord) → b ≡ false → t ≡ Ok all → final_znodes b l epoch t ≡ render (all_applied epoch all empty_image)
final_is true l epoch t all is made = absurd (cc)
final_is false l epoch t all is made = ap (final_znodes false l epoch) made

-- a driver whose append is taken leads the log
leads_by : (s : Shared) (now : ℤ) (d : Driver) (items : List MetaRecord) (new : Log) → IsSharedSound s → IsSoundDriver s d → d.epoch ≢ None → d.claim ≢ None → 1 ≤ length items → append s.log (epoch_or_zero d.epoch) now items ≡ Ok new → IsLeading s d
leads_by s now d items new kept fine elected claimed some made =
    let a : Appended s.log (epoch_or_zero d.epoch) now items new = append_appends s.log (epoch_or_zero d.epoch) now items new made (first_epoch s d fine elected) some kept.log in
    leading s d fine elected claimed a.same

begun_left : (s : Shared) (now : ℤ) (d : Driver) (rows : List Row) (records : List MetaRecord) (new : Log) (n : ℕ) → IsSharedSound s → IsSoundDriver s d → d.stage ≡ stage.BeginMigration rows → translate rows ≡ Ok records
    → append s.log (epoch_or_zero d.epoch) now (begin_record ∷ []) ≡ Ok new → (IsCurrent s.tree d.claim → Ahead (migrated_rows s.tree) s.log (epoch_or_zero d.epoch) 0 (suc n)) → Left (record s { log = new }) (at_stage (stage.AppendRecords records) d) n
begun_left s now d rows records new n kept fine at is made left =
    let k : IsBegun s d records new = begun_log s now d rows records new kept fine at is made in
    let held : AtStage s.tree s.log d (stage.BeginMigration rows) = subst (AtStage s.tree s.log d) at fine.stage in
    let lead : IsLeading s d = leads_by s now d (begin_record ∷ []) new kept fine k.elected k.migrates.claimed (omega arith) made in
    let a : Ahead (migrated_rows s.tree) s.log (epoch_or_zero d.epoch) 0 (suc n) = left lead.current in
    record {
      some = let least = ahead_least (migrated_rows s.tree) s.log (epoch_or_zero d.epoch) 0 (suc n) a in omega (arith, least);
      at = λ c leads all translated.
          let same : all ≡ records = same_records all records (sym translated ∙ ap translate (held.1 c) ∙ is) in
          record {
            appends = a.appends;
            pages = a.pages;
            writes = a.writes;
            append = a.append k.batch.was records (ap translate (held.1 c) ∙ is);
            read = a.read;
            write = subst (λ (want : Znodes). Reaches (area s.tree) want a.writes) (final_is (is_migrated_log s.log) s.log (epoch_or_zero d.epoch) (translate (migrated_rows s.tree)) all k.batch.was translated) a.write;
            enough = by a.appends a.pages a.writes a.enough;
          };
    }
  where
    by : (x y z : ℕ) → 0 + x + y + z + 6 ≤ suc n → x + y + z + 5 ≤ n
    by x y z enough = omega (arith, enough)

begins_by : (s : Shared) (now : ℤ) (d : Driver) (rows : List Row) (t : Result (List MetaRecord) Unreadable) (n : ℕ) → translate rows ≡ t → IsSharedSound s → IsSoundDriver s d → d.stage ≡ stage.BeginMigration rows
    → (IsCurrent s.tree d.claim → Ahead (migrated_rows s.tree) s.log (epoch_or_zero d.epoch) 0 (suc n))
    → Goes (shared_after s (epoch_or_zero d.epoch) now (begin_request t)) (after_translation s now d t) n
begins_by s now d rows (Err e) n is kept fine at left = inl refl
begins_by s now d rows (Ok records) n is kept fine at left =
    goes_appended s d (stage.AppendRecords records) (append s.log (epoch_or_zero d.epoch) now (begin_record ∷ [])) n (λ new made. begun_left s now d rows records new n kept fine at is made left)

pub goes_begun : (s : Shared) (now : ℤ) (d : Driver) (rows : List Row) (n : ℕ) → IsSharedSound s → IsSoundDriver s d → d.stage ≡ stage.BeginMigration rows → (IsCurrent s.tree d.claim → Ahead (migrated_rows s.tree) s.log (epoch_or_zero d.epoch) 0 (suc n))
    → Goes (shared_after s (epoch_or_zero d.epoch) now (begin_request (translate rows))) (after_translation s now d (translate rows)) n
goes_begun s now d rows n kept fine at left = begins_by s now d rows (translate rows) n refl kept fine at left

-- ---- the records

abbrev LeftToAppend : Shared → Driver → List MetaRecord → ℕ → Type 0
LeftToAppend s d rest n = IsCurrent s.tree d.claim → d.epoch ≡ Some s.log.epoch → (all : List MetaRecord) → translate (migrated_rows s.tree) ≡ Ok all → Appends (migrated_rows s.tree) (epoch_or_zero d.epoch) rest all n

-- one batch less
less_to_append : (s : Shared) (d : Driver) (r : MetaRecord) (rs all : List MetaRecord) (n appends : ℕ) → (f : Appends (migrated_rows s.tree) (epoch_or_zero d.epoch) (r ∷ rs) all (suc n)) → f.appends ≡ appends → Appends (migrated_rows s.tree) (epoch_or_zero d.epoch) (drop MAX_APPEND_RECORDS (r ∷ rs)) all n
less_to_append s d r rs all n zero f is = absurd (none (length rs) f.appends is f.append)
  where
    none : (l x : ℕ) → x ≡ 0 → suc l ≤ 1000 * x → ⊥
    none l x is low = absurd (omega (arith, is, low))
less_to_append s d r rs all n (suc appends) f is = record {
  appends = appends;
  pages = f.pages;
  writes = f.writes;
  append = fewer (length (drop MAX_APPEND_RECORDS (r ∷ rs))) (length (r ∷ rs)) f.appends is (length-drop 1000 (r ∷ rs)) f.append;
  read = f.read;
  write = f.write;
  enough = by f.appends f.pages f.writes is f.enough;
}
  where
    fewer : (k l x : ℕ) → x ≡ suc appends → k ≡ l - 1000 → l ≤ 1000 * x → k ≤ 1000 * appends
    fewer k l x is left low = omega (arith, is, left, low)

    by : (x y z : ℕ) → x ≡ suc appends → x + y + z + 5 ≤ suc n → appends + y + z + 5 ≤ n
    by x y z is enough = omega (arith, is, enough)

appends_least : (s : Shared) (d : Driver) (rest all : List MetaRecord) (n : ℕ) → Appends (migrated_rows s.tree) (epoch_or_zero d.epoch) rest all n → 5 ≤ n
appends_least s d rest all n f = by f.appends f.pages f.writes f.enough
  where
    by : (x y z : ℕ) → x + y + z + 5 ≤ n → 5 ≤ n
    by x y z enough = omega (arith, enough)

some_taken : (n : ℕ) (r : MetaRecord) (rs : List MetaRecord) → 1 ≤ n → 1 ≤ length (take n (r ∷ rs))
some_taken zero r rs some = absurd (omega (arith, some))
some_taken (suc n) r rs some = omega arith

few_enough : 1 ≤ MAX_APPEND_RECORDS
few_enough = omega arith

appended_left : (s : Shared) (now : ℤ) (d : Driver) (r : MetaRecord) (rs : List MetaRecord) (new : Log) (n : ℕ) → IsSharedSound s → IsSoundDriver s d → Copies s d → d.stage ≡ stage.AppendRecords (r ∷ rs)
    → append s.log (epoch_or_zero d.epoch) now (take MAX_APPEND_RECORDS (r ∷ rs)) ≡ Ok new → LeftToAppend s d (r ∷ rs) (suc n) → Left (record s { log = new }) (at_stage (stage.AppendRecords (drop MAX_APPEND_RECORDS (r ∷ rs))) d) n
appended_left s now d r rs new n kept fine copies at made left =
    let k : IsAppended s d (r ∷ rs) new = appended_log s now d r rs new kept fine at made in
    let lead : IsLeading s d = leads_by s now d (take MAX_APPEND_RECORDS (r ∷ rs)) new kept fine k.elected k.migrates.claimed (some_taken MAX_APPEND_RECORDS r rs few_enough) made in
    let copied : CopiesAtStage s.tree s.log d (stage.AppendRecords (r ∷ rs)) = subst (CopiesAtStage s.tree s.log d) at copies in
    let translated = (copied lead.current k.leads k.before.from k.before.records k.before.begun k.before.so_far).translated in
    let own : Appends (migrated_rows s.tree) (epoch_or_zero d.epoch) (r ∷ rs) (k.before.records ++ (r ∷ rs)) (suc n) = left lead.current k.leads (k.before.records ++ (r ∷ rs)) translated in
    record {
      some = let least = appends_least s d (r ∷ rs) (k.before.records ++ (r ∷ rs)) (suc n) own in omega (arith, least);
      at = λ c leads all is. let f = left c k.leads all is in less_to_append s d r rs all n f.appends f refl;
    }

-- ---- the commit

committed_left : (s : Shared) (now : ℤ) (d : Driver) (new : Log) (n : ℕ) → IsSharedSound s → IsSoundDriver s d → Copies s d → d.stage ≡ stage.AppendRecords [] → append s.log (epoch_or_zero d.epoch) now commit_records ≡ Ok new → LeftToAppend s d [] (suc n)
    → Left (record s { log = new }) (at_stage stage.ReadLogForResync d) n
committed_left s now d new n kept fine copies at made left =
    let both = ready s now d new kept fine at made in
    let k : IsReady s d (epoch_or_zero d.epoch) now = both.1 in
    let t : IsTranslation s.tree new = commit_translates s now d new kept fine copies at made in
    let f : Appends (migrated_rows s.tree) (epoch_or_zero d.epoch) [] t.records (suc n) = left k.lead.current k.lead.leads t.records t.translated in
    record {
      some = by_some f.appends f.pages f.writes f.enough;
      at = record {
        pages = f.pages;
        read = f.read;
        least = by_least f.appends f.pages f.writes f.enough;
        current = λ c. (f.writes, f.write (render (image_of new)) (commit_no_more s now d new t.records kept fine copies at made t.translated), by f.appends f.pages f.writes f.enough);
      };
    }
  where
    by_some : (x y z : ℕ) → x + y + z + 5 ≤ suc n → 1 ≤ n
    by_some x y z enough = omega (arith, enough)

    by_least : (x y z : ℕ) → x + y + z + 5 ≤ suc n → y + 2 ≤ n
    by_least x y z enough = omega (arith, enough)

    by : (x y z : ℕ) → x + y + z + 5 ≤ suc n → y + z + 4 ≤ n
    by x y z enough = omega (arith, enough)

pub goes_on_records : (s : Shared) (now : ℤ) (d : Driver) (rest : List MetaRecord) (n : ℕ) → IsSharedSound s → IsSoundDriver s d → Copies s d → d.stage ≡ stage.AppendRecords rest → LeftToAppend s d rest (suc n)
    → Goes (with_log s (append s.log (epoch_or_zero d.epoch) now (next_records rest))) (after_append (after_records rest) d (append s.log (epoch_or_zero d.epoch) now (next_records rest))) n
goes_on_records s now d [] n kept fine copies at left =
    goes_appended s d stage.ReadLogForResync (append s.log (epoch_or_zero d.epoch) now commit_records) n (λ new made. committed_left s now d new n kept fine copies at made left)
goes_on_records s now d (r ∷ rs) n kept fine copies at left =
    goes_appended s d (stage.AppendRecords (drop MAX_APPEND_RECORDS (r ∷ rs))) (append s.log (epoch_or_zero d.epoch) now (take MAX_APPEND_RECORDS (r ∷ rs))) n (λ new made. appended_left s now d r rs new n kept fine copies at made left)
