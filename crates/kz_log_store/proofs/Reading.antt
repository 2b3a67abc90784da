-- The log of a journal that is read frame after frame.
use Rattle.std.proofs.Common.{◌≡◌, ℕ, Bool, true, false, cond, List, [], Result, Ok, Err, refl, sym, ap, ◌∙◌}
use Rattle.kz_spec_data.specs.Log.{Log, empty_log}
use Rattle.kz_types.specs.declared.fault.LogWhy.{LogWhy}
use Rattle.kz_spec_data.specs.Frames.{Framed, Journal, after_frame, log_letter, journal_of}
use Rattle.kz_spec_data.specs.LogFile.{at_place, after_frames, after_payload, whole_or_damaged, why_at, log_in, log_of}
use Rattle.kz_journal.specs.Nexts.{IsAllRead, IsDamagedAt}
use Rattle.kz_log_store.specs.Opened.{no_frames, log_after, IsFreshSo, HasRead, IsFrameTaken, IsLogFile}

-- ---- one frame after another

same_end : (f : Framed) (j : Journal) (r : Result Log (ℕ × LogWhy)) → whole_or_damaged (after_frame f j) r ≡ whole_or_damaged j r
same_end f j (Ok l) = refl
same_end f j (Err e) = refl

first_frame : (l : Log) (f : Framed) (j : Journal) → log_after l (after_frame f j) ≡ whole_or_damaged j (at_place f.at (after_payload l f.payload) (after_frames j.frames))
unfolding after_frames
first_frame l f j = same_end f j (at_place f.at (after_payload l f.payload) (after_frames j.frames))

no_frame : (l : Log) → after_frames [] l ≡ Ok l
unfolding after_frames
no_frame l = refl

pub read_first : (first now : Journal) → now ≡ first → HasRead empty_log true first now
read_first first now same = record { same = ap (log_after empty_log) same; seen = ap (λ (j : Journal). j.frames) same }

seen_more : (fresh : Bool) (first now next : Journal) (f : Framed) → IsFreshSo fresh first now → now ≡ after_frame f next → no_frames first.frames ≡ false
seen_more true first now next f seen was = ap no_frames (sym seen) ∙ ap (λ (j : Journal). no_frames j.frames) was
seen_more false first now next f seen was = seen

pub read_more : (l new : Log) (fresh : Bool) (first now next : Journal) → HasRead l fresh first now → IsFrameTaken l new now next → HasRead new false first next
read_more l new fresh first now next read taken =
    let f = taken.frame in
    let step : log_after l now ≡ log_after new next = ap (log_after l) taken.was ∙ first_frame l f next ∙ ap (λ r. whole_or_damaged next (at_place f.at r (after_frames next.frames))) taken.makes in
    record { same = sym step ∙ read.same; seen = seen_more fresh first now next f read.seen taken.was }

-- ---- the end

ends : (l : Log) (j : Journal) → j.frames ≡ [] → log_after l j ≡ whole_or_damaged j (Ok l)
ends l j none = ap (λ fs. whole_or_damaged j (after_frames fs l)) none ∙ ap (whole_or_damaged j) (no_frame l)

pub all_read : (l : Log) (j : Journal) → IsAllRead j → log_after l j ≡ Ok l
all_read l j all = ends l j all.none ∙ ap (λ b. cond b (Err (j.end, why_at j.end)) (Ok l)) all.whole

pub damaged_at : (l : Log) (j : Journal) (at : ℕ) → IsDamagedAt j at → log_after l j ≡ Err (at, why_at at)
damaged_at l j at is = ends l j is.none ∙ ap (λ b. cond b (Err (j.end, why_at j.end)) (Ok l)) is.damaged ∙ ap (λ n. Err (n, why_at n)) is.place

pub refused_at : (l : Log) (f : Framed) (now next : Journal) (why : LogWhy) → now ≡ after_frame f next → after_payload l f.payload ≡ Err why → log_after l now ≡ Err (f.at, why)
refused_at l f now next why was said = ap (log_after l) was ∙ first_frame l f next ∙ ap (λ r. whole_or_damaged next (at_place f.at r (after_frames next.frames))) said

fresh_at_end : (fresh : Bool) (first now : Journal) → IsFreshSo fresh first now → now.frames ≡ [] → no_frames first.frames ≡ fresh
fresh_at_end true first now seen none = ap no_frames (sym seen ∙ none)
fresh_at_end false first now seen none = seen

-- a file of which no frame is left stands for the log
pub read_whole : (l : Log) (fresh : Bool) (file : List ℕ) (first now : Journal) → first ≡ journal_of log_letter file → HasRead l fresh first now → IsAllRead now → IsLogFile file l fresh
read_whole l fresh file first now is read all = record {
  log = ap log_in (sym is) ∙ sym read.same ∙ all_read l now all;
  fresh_is = ap (λ (j : Journal). no_frames j.frames) (sym is) ∙ fresh_at_end fresh first now read.seen all.none;
}

-- what says the same stands for the same log
pub says_same : (l : Log) (fresh : Bool) (file new : List ℕ) → journal_of log_letter new ≡ journal_of log_letter file → IsLogFile file l fresh → IsLogFile new l fresh
says_same l fresh file new same is = record { log = ap log_in same ∙ is.log; fresh_is = ap (λ (j : Journal). no_frames j.frames) same ∙ is.fresh_is }

pub read_damaged : (l : Log) (fresh : Bool) (file : List ℕ) (first now : Journal) (at : ℕ) (why : LogWhy) → first ≡ journal_of log_letter file
    → HasRead l fresh first now → log_after l now ≡ Err (at, why) → log_of file ≡ Err (at, why)
read_damaged l fresh file first now at why is read said = ap log_in (sym is) ∙ sym read.same ∙ said
