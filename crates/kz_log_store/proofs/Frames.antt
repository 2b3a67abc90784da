-- One frame more in a log's file.
use Rattle.std.proofs.Common.{◌≡◌, ◌+◌, ℕ, Bool, true, false, cond, List, [], ◌∷◌, ◌++◌, Option, Some, None, is_some, Result, Ok, Err, refl, sym, ap, ◌∙◌, subst}
use Rattle.kz_disk.specs.Disks.{StaysTold}
use Rattle.kz_spec_data.specs.Log.{Log, empty_log}
use Rattle.kz_spec_data.specs.Requests.{Disk, Only, Either}
use Rattle.kz_types.specs.declared.fault.LogWhy.{LogWhy}
use Rattle.kz_spec_data.specs.Frames.{Framed, Journal, journal_with_frame, log_letter, journal_of, journal_with_seal, LeftByAppend, LeftBySeal, end_after}
use Rattle.kz_spec_data.specs.LogFile.{at_place, after_frames, after_payload, whole_or_damaged, why_at, log_in}
use Rattle.kz_journal.specs.Held.{IsSealed}
use Rattle.kz_journal.specs.Changes.{HasFrame, SealsFile}
use Rattle.kz_log_store.specs.Stores.{SealsDisk}
use Rattle.kz_journal.proofs.Stops.{either_by_append, only_by_seal}
use Rattle.kz_log_store.specs.Opened.{no_frames, IsLogFile, LeavesLog, SaysTheSame, log_found, log_stands}
use Rattle.kz_log_store.proofs.Reading.{says_same}

-- ---- a journal with a frame more

record Passed (r : Result Log LogWhy) (go : Log → Result Log (ℕ × LogWhy)) (l : Log) : Type 0 where
  made : Log
  first : r ≡ Ok made
  second : go made ≡ Ok l

passed : (at : ℕ) (r : Result Log LogWhy) (go : Log → Result Log (ℕ × LogWhy)) (l : Log) → at_place at r go ≡ Ok l → Passed r go l
passed at (Ok m) go l h = record { made = m; first = refl; second = h }
passed at (Err e) go l h = absurd (cc)

same_log : (m l : Log) → ◌≡◌ {A = Result Log (ℕ × LogWhy)} (Ok m) (Ok l) → m ≡ l
same_log m l h = cc

frames_more : (fs : List Framed) (f : Framed) (from l new : Log) → after_frames fs from ≡ Ok l → after_payload l f.payload ≡ Ok new → after_frames (fs ++ f ∷ []) from ≡ Ok new
unfolding after_frames
frames_more [] f from l new h makes = ap (λ r. at_place f.at r (after_frames [])) (ap (λ (m : Log). after_payload m f.payload) (same_log from l h) ∙ makes)
frames_more (g ∷ fs) f from l new h makes =
    let p = passed g.at (after_payload from g.payload) (after_frames fs) l h in
    ap (λ r. at_place g.at r (after_frames (fs ++ f ∷ []))) p.first ∙ frames_more fs f p.made l new p.second makes

whole_by : (b : Bool) (e : ℕ × LogWhy) (m l : Log) → cond b (Err e) (Ok m) ≡ Ok l → (m ≡ l) × (b ≡ false)
whole_by true e m l h = absurd (cc)
whole_by false e m l h = (same_log m l h, refl)

whole : (j : Journal) (r : Result Log (ℕ × LogWhy)) (l : Log) → whole_or_damaged j r ≡ Ok l → (r ≡ Ok l) × (j.damaged ≡ false)
whole j (Ok m) l h = let w = whole_by j.damaged (j.end, why_at j.end) m l h in (ap Ok w.0, w.1)
whole j (Err e) l h = absurd (cc)

pub log_more : (j : Journal) (l new : Log) (payload : List ℕ) → log_in j ≡ Ok l → after_payload l payload ≡ Ok new → log_in (journal_with_frame payload j) ≡ Ok new
log_more j l new payload h makes =
    let w = whole j (after_frames j.frames empty_log) l h in
    ap (whole_or_damaged (journal_with_frame payload j)) (frames_more j.frames (record { at = j.end; payload = payload }) empty_log l new w.0 makes)
    ∙ ap (λ b. cond b (Err (end_after j payload, why_at (end_after j payload))) (Ok new)) w.1

some_frames : (fs : List Framed) (f : Framed) → no_frames (fs ++ f ∷ []) ≡ false
some_frames [] f = refl
some_frames (g ∷ fs) f = refl

-- ---- a file with a frame more

some_told : (told : Option (List ℕ)) → is_some told ≡ true → (file : List ℕ) × (told ≡ Some file)
some_told None h = absurd (cc)
some_told (Some file) h = (file, refl)

some_same : (told : Option (List ℕ)) (file new : List ℕ) → told ≡ Some file → told ≡ Some new → new ≡ file
some_same told file new h k = cc

told_before : (old new : Option (List ℕ)) (file : List ℕ) → StaysTold old new → new ≡ Some file → (was : List ℕ) × (old ≡ Some was)
told_before old new file stays is = some_told old (sym stays ∙ ap is_some is)

-- Once a frame is whole in the file, the file stands for the log that its payload makes.
pub same_after : (l new : Log) (fresh : Bool) (payload : List ℕ) (told now : Option (List ℕ)) → StaysTold told now → ((file : List ℕ) → told ≡ Some file → IsLogFile file l fresh)
    → ((file : List ℕ) → told ≡ Some file → HasFrame log_letter payload file now) → after_payload l payload ≡ Ok new → (file : List ℕ) → now ≡ Some file → IsLogFile file new false
same_after l new fresh payload told now stays same appended makes file is =
    let was = told_before told now file stays is in
    let more = appended was.0 was.1 in
    let journal : journal_of log_letter file ≡ journal_with_frame payload (journal_of log_letter was.0) = ap (journal_of log_letter) (some_same now more.0 file more.1 is) ∙ more.2 in
    record {
      log = ap log_in journal ∙ log_more (journal_of log_letter was.0) l new payload (same was.0 was.1).log makes;
      fresh_is = ap (λ (j : Journal). no_frames j.frames) journal ∙ some_frames (journal_of log_letter was.0).frames (record { at = (journal_of log_letter was.0).end; payload = payload });
    }

-- A stop in an append leaves the log from before it, or the one that the payload makes.
pub left_by_change : (l new : Log) (fresh : Bool) (payload : List ℕ) (told now : Option (List ℕ)) (leaves : List ℕ → Type 0) → StaysTold told now
    → ((file : List ℕ) → told ≡ Some file → IsLogFile file l fresh) → ((file : List ℕ) → told ≡ Some file → (left : List ℕ) → leaves left → LeftByAppend log_letter payload (journal_of log_letter file) left)
    → after_payload l payload ≡ Ok new → Either l new (LeavesLog now leaves)
left_by_change l new fresh payload told now leaves stays same stop makes =
    either_by_append (λ j. log_found (log_in j)) log_stands log_letter payload told now leaves l new (λ file. refl) stays stop
    (λ file is. ap log_found (same file is).log)
    (λ file is. ap log_found (log_more (journal_of log_letter file) l new payload (same file is).log makes))

-- ---- a file that was read

-- once a file has been read whole, what is told still stands for its log
pub read_same : (l : Log) (fresh : Bool) (told now : Option (List ℕ)) → StaysTold told now → ((file : List ℕ) → told ≡ Some file → SaysTheSame file now × IsLogFile file l fresh) → (file : List ℕ) → now ≡ Some file → IsLogFile file l fresh
read_same l fresh told now stays h file is =
    let was = told_before told now file stays is in
    let r = h was.0 was.1 in
    says_same l fresh was.0 file (ap (journal_of log_letter) (some_same now r.0.0 file r.0.1 is) ∙ r.0.2) r.1

-- ---- a seal

sealed_log : (j : Journal) (l : Log) → log_in j ≡ Ok l → log_in (journal_with_seal j) ≡ Ok l
sealed_log j l h =
    let w = whole j (after_frames j.frames empty_log) l h in
    ap (whole_or_damaged (journal_with_seal j)) w.0 ∙ ap (λ b. cond b (Err (j.end + 9, why_at (j.end + 9))) (Ok l)) w.1

-- A seal leaves the log as it stands.
pub same_sealed : (l : Log) (fresh : Bool) (done : Bool) (told now : Option (List ℕ)) → StaysTold told now → ((file : List ℕ) → told ≡ Some file → IsLogFile file l fresh)
    → ((file : List ℕ) → told ≡ Some file → IsSealed log_letter file done now) → (file : List ℕ) → now ≡ Some file → IsLogFile file l fresh
same_sealed l fresh true told now stays same sealed file is =
    let was = told_before told now file stays is in
    let old = same was.0 was.1 in
    let more = sealed was.0 was.1 in
    let journal : journal_of log_letter file ≡ journal_with_seal (journal_of log_letter was.0) = ap (journal_of log_letter) (some_same now more.0 file more.1 is) ∙ more.2 in
    record {
      log = ap log_in journal ∙ sealed_log (journal_of log_letter was.0) l old.log;
      fresh_is = ap (λ (j : Journal). no_frames j.frames) journal ∙ old.fresh_is;
    }
same_sealed l fresh false told now stays same sealed file is =
    let was = told_before told now file stays is in
    subst (λ f. IsLogFile f l fresh) (sym (some_same now was.0 file (sealed was.0 was.1).0 is)) (same was.0 was.1)

-- A stop in a seal leaves the log as it stands.
pub left_by_seal : (l : Log) (fresh : Bool) (told now : Option (List ℕ)) (leaves : List ℕ → Type 0) → StaysTold told now
    → ((file : List ℕ) → told ≡ Some file → IsLogFile file l fresh) → ((file : List ℕ) → told ≡ Some file → (left : List ℕ) → leaves left → LeftBySeal log_letter (journal_of log_letter file) left)
    → Only l (LeavesLog now leaves)
left_by_seal l fresh told now leaves stays same stop =
    only_by_seal (λ j. log_found (log_in j)) log_stands log_letter told now leaves l (λ file. refl) stays stop
    (λ file is. ap log_found (same file is).log)
    (λ file is. ap log_found (sealed_log (journal_of log_letter file) l (same file is).log))

-- a seal leaves the store up, and says so
pub seal_up : (done : Bool) (old new : Disk) → SealsFile (Ok done) old new → new.down ≡ old.down
seal_up true old new h = ap (λ (d : Disk). d.down) h.1
seal_up false old new h = ap (λ (d : Disk). d.down) h

pub seal_done : (done : Bool) (old new : Disk) → old.down ≡ false → SealsFile (Ok done) old new → SealsDisk (Ok done) old new
seal_done true old new up h = (up, h.0, h.1)
seal_done false old new up h = (up, h)
