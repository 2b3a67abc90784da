-- What the front of a journal's file says of the whole file.
use Rattle.std.proofs.Common.{◌≡◌, ◌≢◌, ◌⊎◌, inl, inr, ⊎_elim, ℕ, zero, suc, ◌+◌, ◌-◌, ◌^◌, ◌<◌, ◌≤◌, min, Bool, true, false, cond, List, [], ◌∷◌, ◌++◌, length, take, drop, refl, sym, ap, ◌∙◌, subst, arith, length-append, length-take, length-drop, append_assoc}
use Rattle.std.specs.Prelude.{bytes_eq}
use Rattle.std.proofs.lemmas.Bool.{cases_Bool}
use Rattle.std.proofs.lemmas.List.{take-append-le, drop-append-le, append-nil, take_at, drop_at, drop_all}
use Rattle.std.proofs.lemmas.Slice.Eq.{bytes_eq-Decides}
use Rattle.kz_types.proofs.NumberLemmas.{bytes_eq-true}
use Rattle.kz_spec_data.specs.Checksum.{crc32c}
use Rattle.kz_spec_data.specs.Frames.{Found, Frame, Seal, Damaged, End, Framed, Journal, after_frame, going_on, size_before, found_at, journal_within, journal_from, journal_of, summed_header, plain_header, journal_with_frame, journal_with_seal, frame_written, seal_written, open_gate, seal_mark, end_after}
use Rattle.kz_laws_values.specs.Fronts.{IsFront, after_all, sum_of}
use Rattle.kz_laws_values.proofs.Found.{IsFrameAt, IsSealAt, five, frame_found, seal_found, frame_at, seal_at, cases_found, nothing_here, frame_longer, frame_length, seal_longer, frame_written_at, seal_written_at}

-- ---- one step

abbrev step : ℕ → List ℕ → Bool → ℕ → Found → Journal
step n file summed at f = going_on summed at f (journal_within n file)

one_step : (n : ℕ) (file : List ℕ) (summed : Bool) (at : ℕ) (f : Found) → found_at summed (take at file) (drop at file) ≡ f → journal_within (suc n) file summed at ≡ step n file summed at f
unfolding journal_within
one_step n file summed at f is = ap (step n file summed at) is

-- nothing counts from here on
pub ends_here : (n : ℕ) (file : List ℕ) (summed : Bool) (at : ℕ) → found_at summed (take at file) (drop at file) ≡ End → journal_within n file summed at ≡ record { frames = []; end = at; summed = summed; damaged = false }
unfolding journal_within
ends_here zero file summed at is = refl
ends_here (suc n) file summed at is = ap (step n file summed at) is

past_end : (n : ℕ) (file : List ℕ) (summed : Bool) (at : ℕ) → length file ≤ at → journal_within n file summed at ≡ record { frames = []; end = at; summed = summed; damaged = false }
past_end n file summed at past = ends_here n file summed at (ap (found_at summed (take at file)) (drop_all at file past) ∙ nothing_here summed (take at file))

-- where the next gate stands after a frame, within the file
pub frame_within : (file : List ℕ) (summed : Bool) (at : ℕ) (p : List ℕ) → at ≤ length file → found_at summed (take at file) (drop at file) ≡ Frame p → at + size_before summed + length p ≤ length file
frame_within file summed at p within is =
    let f = frame_at summed (take at file) (drop at file) p is in
    let whole = f.whole in
    let n = frame_length summed (drop at file) p f in
    omega (arith, length-drop at file)

pub seal_within : (file : List ℕ) (summed : Bool) (at : ℕ) → at ≤ length file → found_at summed (take at file) (drop at file) ≡ Seal → at + 9 ≤ length file
seal_within file summed at within is =
    let s = seal_at summed (take at file) (drop at file) is in
    let whole = s.whole in
    omega (arith, length-drop at file)

-- ---- any number of steps that is enough

pub enough : (n m : ℕ) (file : List ℕ) (summed : Bool) (at : ℕ) → length file ≤ at + n → length file ≤ at + m → journal_within n file summed at ≡ journal_within m file summed at
enough zero m file summed at hn hm = past_end zero file summed at (omega arith) ∙ sym (past_end m file summed at (omega arith))
enough (suc n) zero file summed at hn hm = past_end (suc n) file summed at (omega arith) ∙ sym (past_end zero file summed at (omega arith))
enough (suc n) (suc m) file summed at hn hm =
    let least = five summed in
    elim (cases_found (found_at summed (take at file) (drop at file))) [
      | inl f ↦
          let next = at + size_before summed + length f.0 in
          one_step n file summed at (Frame f.0) f.1
          ∙ ap (after_frame (record { at = at; payload = f.0 })) (enough n m file summed next (omega arith) (omega arith))
          ∙ sym (one_step m file summed at (Frame f.0) f.1)
      | inr (inl is) ↦ one_step n file summed at Seal is ∙ enough n m file true (at + 9) (omega arith) (omega arith) ∙ sym (one_step m file summed at Seal is)
      | inr (inr (inl is)) ↦ one_step n file summed at Damaged is ∙ sym (one_step m file summed at Damaged is)
      | inr (inr (inr is)) ↦ one_step n file summed at End is ∙ sym (one_step m file summed at End is)
    ]

-- ---- a front

-- From a gate on, these bytes are whole and end in a gate, with sums there or not.
record Reaches (n : ℕ) (front : List ℕ) (summed : Bool) (at : ℕ) (sums : Bool) : Type 0 where
  whole : (journal_within n front summed at).damaged ≡ false
  ends : (journal_within n front summed at).end ≡ length front
  sums_are : (journal_within n front summed at).summed ≡ sums

here_already : (m : ℕ) (file front : List ℕ) (summed sums : Bool) (at : ℕ) (j : Journal) → j ≡ record { frames = []; end = at; summed = summed; damaged = false } → j.end ≡ length front → j.summed ≡ sums
    → journal_within m file summed at ≡ after_all j.frames (journal_within m file sums (length front))
here_already m file front summed sums at j is ends sums_are =
    let place : at ≡ length front = sym (ap (λ (k : Journal). k.end) is) ∙ ends in
    let same : summed ≡ sums = sym (ap (λ (k : Journal). k.summed) is) ∙ sums_are in
    let none : j.frames ≡ [] = ap (λ (k : Journal). k.frames) is in
    (λ i. journal_within m file (same i) (place i)) ∙ ap (λ (fs : List Framed). after_all fs (journal_within m file sums (length front))) (sym none)

-- what bytes in front say, with these behind them
abbrev GoesOn : ℕ → ℕ → List ℕ → List ℕ → Bool → Bool → ℕ → Type 0
GoesOn n m front tail summed sums at = journal_within m (front ++ tail) summed at ≡ after_all (journal_within n front summed at).frames (journal_within m (front ++ tail) sums (length front))

-- the same for what stands after this gate
abbrev RestGoesOn : ℕ → List ℕ → List ℕ → Bool → Type 0
RestGoesOn n front tail sums = (m : ℕ) (summed : Bool) (at : ℕ) → at ≤ length front → length front ≤ at + n → length front + length tail ≤ at + m → Reaches n front summed at sums → GoesOn n m front tail summed sums at

after_a_frame : (n m : ℕ) (front tail : List ℕ) (summed sums : Bool) (at : ℕ) (p : List ℕ) → at ≤ length front → length front ≤ at + suc n → length front + length tail ≤ at + m → Reaches (suc n) front summed at sums
    → found_at summed (take at front) (drop at front) ≡ Frame p → RestGoesOn n front tail sums → GoesOn (suc n) m front tail summed sums at
after_a_frame n zero front tail summed sums at p within hn hm r is rest = let bound = frame_within front summed at p within is in let least = five summed in absurd (omega arith)
after_a_frame n (suc m) front tail summed sums at p within hn hm r is rest =
    let least = five summed in
    let next = at + size_before summed + length p in
    let bound : next ≤ length front = frame_within front summed at p within is in
    let all = length-append front tail in
    let one : journal_within (suc n) front summed at ≡ after_frame (record { at = at; payload = p }) (journal_within n front summed next) = one_step n front summed at (Frame p) is in
    let left : Reaches n front summed next sums = record { whole = sym (ap (λ (k : Journal). k.damaged) one) ∙ r.whole; ends = sym (ap (λ (k : Journal). k.end) one) ∙ r.ends; sums_are = sym (ap (λ (k : Journal). k.summed) one) ∙ r.sums_are } in
    let longer = frame_longer summed (drop at front) tail p (frame_at summed (take at front) (drop at front) p is) in
    let found : found_at summed (take at (front ++ tail)) (drop at (front ++ tail)) ≡ Frame p =
    frame_found summed (take at (front ++ tail)) (drop at (front ++ tail)) p (subst (λ (h : List ℕ). IsFrameAt summed h p) (sym (drop-append-le at front tail within)) longer) in
    one_step m (front ++ tail) summed at (Frame p) found
    ∙ ap (after_frame (record { at = at; payload = p })) (rest m summed next bound (omega arith) (omega arith) left)
    ∙ ap (λ (k : Journal). after_frame (record { at = at; payload = p }) (after_all (journal_within n front summed next).frames k)) (enough m (suc m) (front ++ tail) sums (length front) (omega arith) (omega arith))
    ∙ ap (λ (k : Journal). after_all k.frames (journal_within (suc m) (front ++ tail) sums (length front))) (sym one)

after_a_seal : (n m : ℕ) (front tail : List ℕ) (summed sums : Bool) (at : ℕ) → at ≤ length front → length front ≤ at + suc n → length front + length tail ≤ at + m → Reaches (suc n) front summed at sums
    → found_at summed (take at front) (drop at front) ≡ Seal → RestGoesOn n front tail sums → GoesOn (suc n) m front tail summed sums at
after_a_seal n zero front tail summed sums at within hn hm r is rest = let bound = seal_within front summed at within is in absurd (omega arith)
after_a_seal n (suc m) front tail summed sums at within hn hm r is rest =
    let next = at + 9 in
    let bound : next ≤ length front = seal_within front summed at within is in
    let all = length-append front tail in
    let one : journal_within (suc n) front summed at ≡ journal_within n front true next = one_step n front summed at Seal is in
    let left : Reaches n front true next sums = record { whole = sym (ap (λ (k : Journal). k.damaged) one) ∙ r.whole; ends = sym (ap (λ (k : Journal). k.end) one) ∙ r.ends; sums_are = sym (ap (λ (k : Journal). k.summed) one) ∙ r.sums_are } in
    let seal = seal_longer summed (take at front) (drop at front) tail (seal_at summed (take at front) (drop at front) is) in
    let behind = subst (λ (h : List ℕ). IsSealAt summed (take at front) h) (sym (drop-append-le at front tail within)) seal in
    let found : found_at summed (take at (front ++ tail)) (drop at (front ++ tail)) ≡ Seal =
    seal_found summed (take at (front ++ tail)) (drop at (front ++ tail)) (subst (λ (b : List ℕ). IsSealAt summed b (drop at (front ++ tail))) (sym (take-append-le at front tail within)) behind) in
    one_step m (front ++ tail) summed at Seal found
    ∙ rest m true next bound (omega arith) (omega arith) left
    ∙ ap (λ (k : Journal). after_all (journal_within n front true next).frames k) (enough m (suc m) (front ++ tail) sums (length front) (omega arith) (omega arith))
    ∙ ap (λ (k : Journal). after_all k.frames (journal_within (suc m) (front ++ tail) sums (length front))) (sym one)

goes_on_within : (n m : ℕ) (front tail : List ℕ) (summed sums : Bool) (at : ℕ) → at ≤ length front → length front ≤ at + n → length front + length tail ≤ at + m → Reaches n front summed at sums → GoesOn n m front tail summed sums at
goes_on_within zero m front tail summed sums at within hn hm r =
    here_already m (front ++ tail) front summed sums at (journal_within zero front summed at) (past_end zero front summed at (omega arith)) r.ends r.sums_are
goes_on_within (suc n) m front tail summed sums at within hn hm r = elim (cases_found (found_at summed (take at front) (drop at front))) [
  | inl f ↦ after_a_frame n m front tail summed sums at f.0 within hn hm r f.1 (λ k s a b c d e. goes_on_within n k front tail s sums a b c d e)
  | inr (inl is) ↦ after_a_seal n m front tail summed sums at within hn hm r is (λ k s a b c d e. goes_on_within n k front tail s sums a b c d e)
  | inr (inr (inl is)) ↦
      let broken : true ≡ false = sym (ap (λ (k : Journal). k.damaged) (one_step n front summed at Damaged is)) ∙ r.whole in
      absurd (cc)
  | inr (inr (inr is)) ↦ here_already m (front ++ tail) front summed sums at (journal_within (suc n) front summed at) (ends_here (suc n) front summed at is) r.ends r.sums_are
]

-- ---- the whole file

-- by the tests of its header
abbrev journal_by : Bool → Bool → List ℕ → Journal
journal_by new old file = cond new (journal_from file true 16) (cond old (journal_from file false 16) (record { frames = []; end = 0; summed = false; damaged = true }))

by_header : (letter : ℕ) (file : List ℕ) (new old : Bool) → bytes_eq (take 16 file) (summed_header letter) ≡ new → bytes_eq (take 16 file) (plain_header letter) ≡ old → journal_of letter file ≡ journal_by new old file
unfolding journal_of
by_header letter file new old e f = λ i. journal_by (e i) (f i) file

header_fits : (file header : List ℕ) → length header ≡ 16 → bytes_eq (take 16 file) header ≡ true → 16 ≤ length file
header_fits file header long is = let same = ap length (bytes_eq-true (take 16 file) header is) in omega (arith, length-take 16 file)

goes_on_from : (letter : ℕ) (front tail : List ℕ) (summed first : Bool) → 16 ≤ length front → journal_of letter front ≡ journal_from front first 16 → journal_of letter (front ++ tail) ≡ journal_from (front ++ tail) first 16 → IsFront letter front summed
    → journal_of letter (front ++ tail) ≡ after_all (journal_of letter front).frames (journal_from (front ++ tail) summed (length front))
goes_on_from letter front tail summed first long is all f =
    all
    ∙ goes_on_within (length front) (length (front ++ tail)) front tail first summed 16 long (omega arith) (omega (arith, length-append front tail))
    (record { whole = sym (ap (λ (k : Journal). k.damaged) is) ∙ f.whole; ends = sym (ap (λ (k : Journal). k.end) is) ∙ f.ends; sums_are = sym (ap (λ (k : Journal). k.summed) is) ∙ f.sums })
    ∙ ap (λ (k : Journal). after_all k.frames (journal_from (front ++ tail) summed (length front))) (sym is)

pub front_goes_on : (letter : ℕ) (front tail : List ℕ) (summed : Bool) → IsFront letter front summed
    → journal_of letter (front ++ tail) ≡ after_all (journal_of letter front).frames (journal_from (front ++ tail) summed (length front))
front_goes_on letter front tail summed f = elim (cases_Bool (bytes_eq (take 16 front) (summed_header letter))) [
  | inl new ↦
      let long = header_fits front (summed_header letter) refl new in
      let same : take 16 (front ++ tail) ≡ take 16 front = take-append-le 16 front tail long in
      goes_on_from letter front tail summed true long (by_header letter front true _ new refl) (by_header letter (front ++ tail) true _ (ap (λ (h : List ℕ). bytes_eq h (summed_header letter)) same ∙ new) refl) f
  | inr not_new ↦ elim (cases_Bool (bytes_eq (take 16 front) (plain_header letter))) [
    | inl old ↦
        let long = header_fits front (plain_header letter) refl old in
        let same : take 16 (front ++ tail) ≡ take 16 front = take-append-le 16 front tail long in
        goes_on_from letter front tail summed false long (by_header letter front false true not_new old)
        (by_header letter (front ++ tail) false true (ap (λ (h : List ℕ). bytes_eq h (summed_header letter)) same ∙ not_new) (ap (λ (h : List ℕ). bytes_eq h (plain_header letter)) same ∙ old)) f
    | inr not_old ↦
        let broken : true ≡ false = sym (ap (λ (k : Journal). k.damaged) (by_header letter front false false not_new not_old)) ∙ f.whole in
        absurd (cc)
  ]
]

-- ---- what stands behind a front

behind : (front tail : List ℕ) (summed : Bool) → found_at summed (take (length front) (front ++ tail)) (drop (length front) (front ++ tail)) ≡ found_at summed front tail
behind front tail summed = λ i. found_at summed (take_at front tail (length front) refl i) (drop_at front tail (length front) refl i)

-- what a journal's record becomes by its fields
from_parts : (j : Journal) (end : ℕ) (summed damaged : Bool) → j.end ≡ end → j.summed ≡ summed → j.damaged ≡ damaged → record { frames = j.frames ++ []; end = end; summed = summed; damaged = damaged } ≡ j
from_parts j end summed damaged e s d = λ i. record { frames = append-nil j.frames i; end = sym e i; summed = sym s i; damaged = sym d i }

pub front_ends : (letter : ℕ) (front tail : List ℕ) (summed : Bool) → IsFront letter front summed → found_at summed front tail ≡ End → journal_of letter (front ++ tail) ≡ journal_of letter front
front_ends letter front tail summed f is =
    front_goes_on letter front tail summed f
    ∙ ap (after_all (journal_of letter front).frames) (ends_here (length (front ++ tail)) (front ++ tail) summed (length front) (behind front tail summed ∙ is))
    ∙ from_parts (journal_of letter front) (length front) summed false f.ends f.sums f.whole

-- one step more than there are bytes
more_steps : (file : List ℕ) (summed : Bool) (at : ℕ) → journal_from file summed at ≡ journal_within (suc (length file)) file summed at
more_steps file summed at = enough (length file) (suc (length file)) file summed at (omega arith) (omega arith)

-- what a file says from a gate on, by what stands there
pub from_gate : (file : List ℕ) (summed : Bool) (at : ℕ) (f : Found) → found_at summed (take at file) (drop at file) ≡ f → journal_from file summed at ≡ going_on summed at f (journal_within (length file) file)
from_gate file summed at f is = more_steps file summed at ∙ one_step (length file) file summed at f is

pub front_damaged : (letter : ℕ) (front tail : List ℕ) (summed : Bool) → IsFront letter front summed → found_at summed front tail ≡ Damaged → journal_of letter (front ++ tail) ≡ record (journal_of letter front) { damaged = true }
front_damaged letter front tail summed f is =
    let file = front ++ tail in
    front_goes_on letter front tail summed f
    ∙ ap (after_all (journal_of letter front).frames) (more_steps file summed (length front) ∙ one_step (length file) file summed (length front) Damaged (behind front tail summed ∙ is))
    ∙ from_parts (record (journal_of letter front) { damaged = true }) (length front) summed true f.ends f.sums refl

-- A front and what is made of it by one frame or seal more.
pub record Grows (letter : ℕ) (front : List ℕ) (summed : Bool) (made : Journal) : Type 0 where
  pub front_is : IsFront letter front summed
  pub is : journal_of letter front ≡ made

pub frame_more : (letter : ℕ) (front piece p : List ℕ) (summed : Bool) → IsFront letter front summed → IsFrameAt summed piece p → length piece ≡ size_before summed + length p
    → Grows letter (front ++ piece) summed (journal_with_frame p (journal_of letter front))
frame_more letter front piece p summed f at_gate long =
    let file = front ++ piece in
    let j = journal_of letter front in
    let next = length front + size_before summed + length p in
    let all = length-append front piece in
    let ended : length file ≡ next = omega arith in
    let read : journal_of letter file ≡ record { frames = j.frames ++ record { at = length front; payload = p } ∷ []; end = next; summed = summed; damaged = false } =
    front_goes_on letter front piece summed f
    ∙ ap (after_all j.frames) (more_steps file summed (length front)
    ∙ one_step (length file) file summed (length front) (Frame p) (behind front piece summed ∙ frame_found summed front piece p at_gate)
    ∙ ap (after_frame (record { at = length front; payload = p })) (past_end (length file) file summed next (omega arith))) in
    record {
      front_is = record { whole = ap (λ (k : Journal). k.damaged) read; ends = ap (λ (k : Journal). k.end) read ∙ sym ended; sums = ap (λ (k : Journal). k.summed) read };
      is = read ∙ (λ i. record { frames = j.frames ++ record { at = sym f.ends i; payload = p } ∷ []; end = sym f.ends i + size_before (sym f.sums i) + length p; summed = sym f.sums i; damaged = sym f.whole i });
    }

pub seal_more : (letter : ℕ) (front piece : List ℕ) (summed : Bool) → IsFront letter front summed → IsSealAt summed front piece → length piece ≡ 9 → Grows letter (front ++ piece) true (journal_with_seal (journal_of letter front))
seal_more letter front piece summed f at_gate long =
    let file = front ++ piece in
    let j = journal_of letter front in
    let next = length front + 9 in
    let all = length-append front piece in
    let ended : length file ≡ next = omega arith in
    let read : journal_of letter file ≡ record { frames = j.frames ++ []; end = next; summed = true; damaged = false } =
    front_goes_on letter front piece summed f
    ∙ ap (after_all j.frames) (more_steps file summed (length front)
    ∙ one_step (length file) file summed (length front) Seal (behind front piece summed ∙ seal_found summed front piece at_gate)
    ∙ past_end (length file) file true next (omega arith)) in
    record {
      front_is = record { whole = ap (λ (k : Journal). k.damaged) read; ends = ap (λ (k : Journal). k.end) read ∙ sym ended; sums = ap (λ (k : Journal). k.summed) read };
      is = read ∙ (λ i. record { frames = append-nil j.frames i; end = sym f.ends i + 9; summed = true; damaged = sym f.whole i });
    }

written_length : (summed : Bool) (p : List ℕ) → length (open_gate ∷ frame_written summed p) ≡ size_before summed + length p
written_length true p = omega arith
written_length false p = omega arith

pub frame_is_read : (letter : ℕ) (front p : List ℕ) (summed : Bool) → IsFront letter front summed → length p < seal_mark → (summed ≡ true → sum_of p < 2 ^ 32)
    → IsFront letter (front ++ open_gate ∷ frame_written summed p) summed × (journal_of letter (front ++ open_gate ∷ frame_written summed p) ≡ journal_with_frame p (journal_of letter front))
frame_is_read letter front p summed f few fits =
    let g = frame_more letter front (open_gate ∷ frame_written summed p) p summed f (frame_written_at summed p few fits) (written_length summed p) in
    (g.front_is, g.is)

pub seal_is_read : (letter : ℕ) (front : List ℕ) → IsFront letter front false → crc32c front < 2 ^ 32
    → IsFront letter (front ++ open_gate ∷ seal_written front) true × (journal_of letter (front ++ open_gate ∷ seal_written front) ≡ journal_with_seal (journal_of letter front))
seal_is_read letter front f fits =
    let g = seal_more letter front (open_gate ∷ seal_written front) false f (seal_written_at front fits) refl in
    (g.front_is, g.is)

same_text : (text : List ℕ) → bytes_eq text text ≡ true
same_text text = (bytes_eq-Decides text text).1 refl

-- a header alone is a front
pub header_said : (letter : ℕ) → IsFront letter (summed_header letter) true
header_said letter =
    let said : journal_of letter (summed_header letter) ≡ record { frames = []; end = 16; summed = true; damaged = false } =
    by_header letter (summed_header letter) true _ (same_text (summed_header letter)) refl ∙ past_end 16 (summed_header letter) true 16 (omega arith) in
    record { whole = ap (λ (k : Journal). k.damaged) said; ends = ap (λ (k : Journal). k.end) said; sums = ap (λ (k : Journal). k.summed) said }
