-- What reading the next frame of a log's file answers, and what reading all of them does.
use Rattle.std.proofs.Common.{◌≡◌, ℕ, Bool, true, false, List, Option, Some, None, Result, Ok, Err, refl, sym, ap, ◌∙◌, subst}
use Rattle.kz_types.specs.Causes.{Rose}
use Rattle.kz_spec_data.specs.Log.{Log}
use Rattle.kz_spec_data.specs.Requests.{Disk}
use Rattle.kz_types.specs.declared.fault.LogWhy.{LogWhy}
use Rattle.kz_spec_data.specs.Frames.{Framed, Journal, after_frame, log_letter, journal_of}
use Rattle.kz_spec_data.specs.LogFile.{after_payload, why_at}
use Rattle.kz_journal.specs.declared.fault.JournalFault.{JournalFault}
use Rattle.kz_journal.specs.declared.fault.JournalFault.TheVariants as fault
use Rattle.kz_journal.specs.declared.journal.Frame.{Frame}
use Rattle.kz_journal.specs.declared.journal.Journal as journals
use Rattle.kz_journal.specs.Held.{letter_of, unread, AnswersNext, EndsAt, LeavesFewer, EndsCall}
use Rattle.kz_journal.specs.Nexts.{IsDamagedAt}
use Rattle.kz_log_store.specs.declared.fault.LogOpenFault.{LogOpenFault}
use Rattle.kz_log_store.specs.declared.fault.LogOpenFault.TheVariants.{DiskFault, Damaged, NoMemory}
use Rattle.kz_log_store.specs.Opened.{HasRead, TakesFrame, TakesNext, EndsFrames, Steps, Reads, EndsReading, log_after}
use Rattle.kz_log_store.proofs.Reading.{damaged_at, refused_at, read_whole, read_damaged}

-- a frame that isn't taken
pub frame_refused : (f : LogOpenFault) (file : List ℕ) (old new : Log) (fr : Framed) (before after : Journal) (told : Option (List ℕ)) → told ≡ Some file → before ≡ after_frame fr after
    → TakesFrame {T = Unit {0}} (Err f) fr.at (after_payload old fr.payload) new → Steps file (Err f) old new before after told
frame_refused DiskFault file old new fr before after told is was takes = absurd takes
frame_refused (Damaged at why) file old new fr before after told is was takes = (is, refused_at old fr before after why was takes.1 ∙ ap (λ n. Err (n, why)) (sym takes.0))
frame_refused NoMemory file old new fr before after told is was takes = is

-- a damaged place
pub place_damaged : (l : Log) (j : Journal) (at : ℕ) (why : LogWhy) → why ≡ why_at at → IsDamagedAt j at → log_after l j ≡ Err (at, why)
place_damaged l j at why is damaged = damaged_at l j at damaged ∙ ap (λ w. Err (at, w)) (sym is)

-- where a frame isn't taken, no call has failed
pub refused_ends : (f : LogOpenFault) (at : ℕ) (said : Result Log LogWhy) (l : Log) (old new : Disk) (failed : Bool) → TakesFrame {T = Unit {0}} (Err f) at said l → new.down ≡ false → new.faults ≡ old.faults → EndsReading {T = Bool} (Err f) old new failed
refused_ends DiskFault at said l old new failed takes up same = absurd takes
refused_ends (Damaged place why) at said l old new failed takes up same = (up, same)
refused_ends NoMemory at said l old new failed takes up same = (up, same)

-- reading that ends in a fault ends so since it began
pub ends_since : (f : LogOpenFault) (first mid last : Disk) (failed : Bool) → mid.faults ≡ first.faults → EndsReading {T = Bool} (Err f) mid last failed → EndsReading {T = Log × Bool} (Err f) first last failed
ends_since DiskFault first mid last failed is ends = (subst (λ n. Rose n last.faults) is ends.0, ends.1)
ends_since (Damaged at why) first mid last failed is ends = (ends.0, ends.1 ∙ is)
ends_since NoMemory first mid last failed is ends = (ends.0, ends.1 ∙ is)

-- a file is damaged, or its reading ends otherwise
pub file_refused : (f : LogOpenFault) (file : List ℕ) (old new : Log) (fresh : Bool) (first before after : Journal) (told : Option (List ℕ)) → first ≡ journal_of log_letter file → HasRead old fresh first before
    → Steps file (Err f) old new before after told → Reads file (Err f) told
file_refused DiskFault file old new fresh first before after told is read steps = tt
file_refused (Damaged at why) file old new fresh first before after told is read steps = (steps.0, read_damaged old fresh file first before at why is read steps.1)
file_refused NoMemory file old new fresh first before after told is read steps = steps

-- a file of which no frame is left
pub file_read : (file : List ℕ) (found : Log) (old new : Log) (fresh : Bool) (first before after : Journal) (told : Option (List ℕ)) → found ≡ new → first ≡ journal_of log_letter file → HasRead old fresh first before
    → Steps file (Ok false) old new before after told → Reads file (Ok (found, fresh)) told
file_read file found old new fresh first before after told held is read steps =
    (steps.0, read_whole found fresh file first before is (subst (λ l. HasRead l fresh first before) (sym (held ∙ steps.2)) read) steps.1)

-- ---- the answer of a journal, and what is made of it

module _ {D : Type 0} {disk : _} where
  -- what reading the next frame answers
  pub next_steps : (next : Result (Option Frame) JournalFault) (r : Result Bool LogOpenFault) (file : List ℕ) (old new : journals.Journal D disk) (l m : Log) (told : Option (List ℕ)) → letter_of old ≡ log_letter
      → AnswersNext file old next new told → TakesNext next r l m → Steps file r l m (unread old file) (unread new file) told
  next_steps (Ok (Some frame)) (Ok true) file old new l m told letter a t = (a.0, record { frame = record { at = frame.at; payload = frame.payload }; was = a.1; makes = t })
  next_steps (Ok (Some frame)) (Ok false) file old new l m told letter a t = absurd t
  next_steps (Ok (Some frame)) (Err e) file old new l m told letter a t = frame_refused e file l m (record { at = frame.at; payload = frame.payload }) (unread old file) (unread new file) told a.0 a.1 t
  next_steps (Ok None) (Ok true) file old new l m told letter a t = absurd t
  next_steps (Ok None) (Ok false) file old new l m told letter a t = ((a.1.new, a.1.is, subst (λ n. journal_of n a.1.new ≡ journal_of n file) letter a.1.journal), a.0, t)
  next_steps (Ok None) (Err e) file old new l m told letter a t = absurd t
  next_steps (Err fault.DiskFault) r file old new l m told letter a t = subst (λ x. Steps file x l m (unread old file) (unread new file) told) (sym t) tt
  next_steps (Err (fault.Damaged at)) r file old new l m told letter a t = subst (λ x. Steps file x l m (unread old file) (unread new file) told) (sym t) (a.0, place_damaged l (unread old file) at (why_at at) refl a.1)
  next_steps (Err (fault.Full length)) r file old new l m told letter a t = absurd a
  next_steps (Err fault.NoMemory) r file old new l m told letter a t = subst (λ x. Steps file x l m (unread old file) (unread new file) told) (sym t) a.0
  next_steps (Err fault.Down) r file old new l m told letter a t = subst (λ x. Steps file x l m (unread old file) (unread new file) told) (sym t) tt

-- whether a frame can be appended, and that fewer bytes are left
pub next_ends : (next : Result (Option Frame) JournalFault) (r : Result Bool LogOpenFault) (l m : Log) (ended_old ended : Bool) (before now : ℕ) → EndsAt next ended_old ended → LeavesFewer next before now → TakesNext next r l m → EndsFrames r ended before now
next_ends (Ok (Some frame)) (Ok true) l m ended_old ended before now at fewer t = fewer
next_ends (Ok (Some frame)) (Ok false) l m ended_old ended before now at fewer t = absurd t
next_ends (Ok (Some frame)) (Err e) l m ended_old ended before now at fewer t = tt
next_ends (Ok None) (Ok true) l m ended_old ended before now at fewer t = absurd t
next_ends (Ok None) (Ok false) l m ended_old ended before now at fewer t = at
next_ends (Ok None) (Err e) l m ended_old ended before now at fewer t = tt
next_ends (Err e) r l m ended_old ended before now at fewer t = subst (λ x. EndsFrames x ended before now) (sym t) tt

-- how reading the next frame ends
pub next_cause : (next : Result (Option Frame) JournalFault) (r : Result Bool LogOpenFault) (l m : Log) (old new : Disk) (failed : Bool) → old.down ≡ false → EndsCall next old new failed → TakesNext next r l m → EndsReading r old new failed
next_cause (Ok (Some frame)) (Ok true) l m old new failed up h t = (h.1, h.2)
next_cause (Ok (Some frame)) (Ok false) l m old new failed up h t = absurd t
next_cause (Ok (Some frame)) (Err e) l m old new failed up h t = refused_ends e frame.at (after_payload l frame.payload) m old new failed t h.1 h.2
next_cause (Ok None) (Ok true) l m old new failed up h t = absurd t
next_cause (Ok None) (Ok false) l m old new failed up h t = (h.1, h.2)
next_cause (Ok None) (Err e) l m old new failed up h t = absurd t
next_cause (Err fault.DiskFault) r l m old new failed up h t = subst (λ x. EndsReading x old new failed) (sym t) (h.2, h.3)
next_cause (Err (fault.Damaged at)) r l m old new failed up h t = subst (λ x. EndsReading x old new failed) (sym t) (h.1, h.2)
next_cause (Err (fault.Full length)) r l m old new failed up h t = absurd h
next_cause (Err fault.NoMemory) r l m old new failed up h t = subst (λ x. EndsReading x old new failed) (sym t) (h.1, h.2)
next_cause (Err fault.Down) r l m old new failed up h t = let down = h.0 in absurd (cc)

pub stop_keeps : (letter : ℕ) (file left : List ℕ) → letter ≡ log_letter → journal_of letter left ≡ journal_of letter file → journal_of log_letter left ≡ journal_of log_letter file
stop_keeps letter file left is same = subst (λ n. journal_of n left ≡ journal_of n file) is same
