-- What a journal stands for that is read frame after frame.
use Rattle.std.proofs.Common.{◌≡◌, ℕ, Bool, false, cond, List, [], Option, Some, None, Ok, Err, refl, sym, ap, ◌∙◌}
use Rattle.kz_spec_data.specs.Frames.{Framed, Journal, after_frame, tree_letter, journal_of}
use Rattle.kz_spec_data.specs.Transactions.{txn_of}
use Rattle.kz_spec_data.specs.TreeFile.{Stored, is_fresh, after_reading, or_damaged, after_frames, whole_or_damaged, stored_in}
use Rattle.kz_journal.specs.Nexts.{IsAllRead, IsDamagedAt}
use Rattle.kz_tree_store.specs.declared.fault.TreeOpenFault.{TreeOpenFault}
use Rattle.kz_tree_store.specs.declared.fault.TreeOpenFault.TheVariants.{DiskFault, Damaged, NoMemory}
use Rattle.kz_tree_store.specs.Opened.{known_in, read_known, IsTreeFile, stored_after, HasRead, TakesFrame, IsFrameTaken, Steps}
use Rattle.kz_spec_data.specs.Tree.{Tree}

-- ---- one frame after another

first_frame : (s : Stored) (f : Framed) (j : Journal) → stored_after s (after_frame f j) ≡ whole_or_damaged j.damaged j.end (or_damaged f.at (after_reading s (txn_of f.payload)) (after_frames j.frames))
unfolding after_frames
first_frame s f j = refl

no_frame : (s : Stored) → after_frames [] s ≡ Ok s
unfolding after_frames
no_frame s = refl

pub read_more : (s new : Stored) (first now next : Journal) → HasRead s first now → IsFrameTaken s new now next → HasRead new first next
read_more s new first now next read taken =
    let f = taken.frame in
    let step : stored_after s now ≡ stored_after new next = ap (stored_after s) taken.was ∙ first_frame s f next ∙ ap (λ r. whole_or_damaged next.damaged next.end (or_damaged f.at r (after_frames next.frames))) taken.makes in
    sym step ∙ read

-- ---- the end

ends : (s : Stored) (j : Journal) → j.frames ≡ [] → stored_after s j ≡ whole_or_damaged j.damaged j.end (Ok s)
ends s j none = ap (λ fs. whole_or_damaged j.damaged j.end (after_frames fs s)) none ∙ ap (whole_or_damaged j.damaged j.end) (no_frame s)

pub all_read : (s : Stored) (j : Journal) → IsAllRead j → stored_after s j ≡ Ok s
all_read s j all = ends s j all.none ∙ ap (λ b. cond b (Err j.end) (Ok s)) all.whole

pub damaged_at : (s : Stored) (j : Journal) (at : ℕ) → IsDamagedAt j at → stored_after s j ≡ Err at
damaged_at s j at is = ends s j is.none ∙ ap (λ b. cond b (Err j.end) (Ok s)) is.damaged ∙ ap (λ n. Err n) is.place

pub refused_at : (s : Stored) (f : Framed) (now next : Journal) → now ≡ after_frame f next → after_reading s (txn_of f.payload) ≡ None → stored_after s now ≡ Err f.at
refused_at s f now next was said = ap (stored_after s) was ∙ first_frame s f next ∙ ap (λ r. whole_or_damaged next.damaged next.end (or_damaged f.at r (after_frames next.frames))) said

-- a file of which no frame is left stands for what was read
pub read_whole : (s : Stored) (file : List ℕ) (first now : Journal) → first ≡ journal_of tree_letter file → HasRead s first now → IsAllRead now → stored_in (journal_of tree_letter file) ≡ Ok s
read_whole s file first now is read all = ap stored_in (sym is) ∙ sym read ∙ all_read s now all

-- what is known of it then
pub known_whole : (s : Stored) (tree : Tree) (new : Bool) (file : List ℕ) → stored_in (journal_of tree_letter file) ≡ Ok s → tree ≡ s.tree → new ≡ is_fresh s.load → IsTreeFile file (read_known tree new)
known_whole s tree new file is tree_is new_is = ap (known_in false) is ∙ ap (λ t. Ok (read_known t (is_fresh s.load))) (sym tree_is) ∙ ap (λ b. Ok (read_known tree b)) (sym new_is)

-- a frame that isn't taken
pub frame_refused : (f : TreeOpenFault) (file : List ℕ) (s new : Stored) (frame : Framed) (before after : Journal) (told : Option (List ℕ)) → told ≡ Some file → before ≡ after_frame frame after
    → TakesFrame {T = Unit {0}} (Err f) frame.at (after_reading s (txn_of frame.payload)) new → Steps file (Err f) s new before after told
frame_refused DiskFault file s new frame before after told is was takes = tt
frame_refused (Damaged at) file s new frame before after told is was takes = (is, refused_at s frame before after was takes.1 ∙ ap (λ n. Err n) (sym takes.0))
frame_refused NoMemory file s new frame before after told is was takes = is
