-- What a file says while a piece is written after its last gate and the gate is opened, and once that is done. The piece is a frame
-- or a seal.
use Rattle.std.proofs.Common.{◌≡◌, ◌≢◌, ◌⊎◌, inl, inr, ⊎_elim, ℕ, zero, suc, ◌+◌, ◌-◌, ◌<◌, ◌≤◌, max, Bool, List, [], ◌∷◌, ◌++◌, length, take, drop, get_or, Option, Some, refl, sym, ap, ◌∙◌, subst, arith, append_assoc, length-append, length-drop, take-take, get_or-take}
use Rattle.std.proofs.lemmas.Bool.{cases_eq}
use Rattle.std.proofs.lemmas.List.{take-append-le, length-take-le, take_at, drop_at, get_or-append_right}
use Rattle.kz_disk.specs.Disks.{Torn, with_piece, NothingPends}
use Rattle.kz_spec_data.specs.Frames.{Journal, journal_of, open_gate, closed_gate}
use Rattle.kz_laws_values.specs.Fronts.{IsFront}
use Rattle.kz_laws_values.proofs.Found.{closed_here}
use Rattle.kz_laws_values.proofs.Fronts.{Grows, front_ends}
use Rattle.kz_journal.specs.Appends.{with_open_gate, IsCutAppend, IsResting}

-- a list at one of its places
pub split_at : (k : ℕ) (l : List ℕ) → k < length l → l ≡ take k l ++ get_or l k 0 ∷ drop (k + 1) l
split_at k [] lt = absurd (omega arith)
split_at zero (b ∷ l) lt = refl
split_at (suc k) (b ∷ l) lt =
    let e : suc (k + 1) ≡ suc k + 1 = omega arith in
    ap (λ (m : List ℕ). b ∷ m) (split_at k l (omega arith)) ∙ ap (λ (n : ℕ). b ∷ (take k l ++ get_or l k 0 ∷ drop n (b ∷ l))) e

pub same_front : (k : ℕ) (a b : List ℕ) → take (k + 1) a ≡ take (k + 1) b → take k a ≡ take k b
same_front k a b same = sym (take-take k (k + 1) a (omega arith)) ∙ ap (take k) same ∙ take-take k (k + 1) b (omega arith)

pub same_place : (k : ℕ) (a b : List ℕ) → take (k + 1) a ≡ take (k + 1) b → get_or a k 0 ≡ get_or b k 0
same_place k a b same = sym (get_or-take (k + 1) a k 0 (omega arith)) ∙ ap (λ (l : List ℕ). get_or l k 0) same ∙ get_or-take (k + 1) b k 0 (omega arith)

pub shut : 0 ≢ open_gate
shut is = absurd (omega (arith, is))

-- a file whose gate is closed says what its front says
closed_file : (letter gate : ℕ) (summed : Bool) (front file : List ℕ) → IsFront letter front summed → take gate file ≡ front → gate < length file → get_or file gate 0 ≡ closed_gate → journal_of letter file ≡ journal_of letter front
closed_file letter gate summed front file f is stands closed =
    let parts : file ≡ front ++ closed_gate ∷ drop (gate + 1) file = split_at gate file stands ∙ (λ i. is i ++ closed i ∷ drop (gate + 1) file) in
    ap (journal_of letter) parts ∙ front_ends letter front (closed_gate ∷ drop (gate + 1) file) summed f (closed_here summed front (drop (gate + 1) file) closed_gate shut)

-- a file that rests says what its front says
pub resting_file : (letter gate : ℕ) (summed : Bool) (file : List ℕ) → IsResting letter gate summed file → journal_of letter file ≡ journal_of letter (take gate file)
resting_file letter gate summed file rest = closed_file letter gate summed (take gate file) file rest.front refl rest.stands rest.closed

module _ (letter gate : ℕ) (summed sums : Bool) (piece file : List ℕ) (made : Journal) (rest : IsResting letter gate summed file) (grown : Grows letter (take gate file ++ open_gate ∷ piece) sums made) where
  resting : journal_of letter file ≡ journal_of letter (take gate file)
  resting = resting_file letter gate summed file rest

  -- while the piece is written
  after_torn : (n : ℕ) (left : List ℕ) → Torn (gate + 1) n file left → journal_of letter left ≡ journal_of letter file
  after_torn n left torn =
      let long = torn.no_shorter in
      let stands = rest.stands in
      closed_file letter gate summed (take gate file) left rest.front (same_front gate left file torn.before) (omega arith) (same_place gate left file torn.before ∙ rest.closed) ∙ sym resting

  mid_parts : with_piece (gate + 1) (piece ++ closed_gate ∷ []) file ≡ take (gate + 1) file ++ ((piece ++ closed_gate ∷ []) ++ drop (gate + 1 + length (piece ++ closed_gate ∷ [])) file)
  mid_parts = append_assoc (take (gate + 1) file) (piece ++ closed_gate ∷ []) (drop (gate + 1 + length (piece ++ closed_gate ∷ [])) file)

  first_part : length (take (gate + 1) file) ≡ gate + 1
  first_part = let stands = rest.stands in length-take-le (gate + 1) file (omega arith)

  mid_front : take gate (with_piece (gate + 1) (piece ++ closed_gate ∷ []) file) ≡ take gate file
  mid_front =
      let long = first_part in
      ap (take gate) mid_parts
      ∙ take-append-le gate (take (gate + 1) file) ((piece ++ closed_gate ∷ []) ++ drop (gate + 1 + length (piece ++ closed_gate ∷ [])) file) (omega arith)
      ∙ take-take gate (gate + 1) file (omega arith)

  mid_rest : drop (gate + 1) (with_piece (gate + 1) (piece ++ closed_gate ∷ []) file) ≡ (piece ++ closed_gate ∷ []) ++ drop (gate + 1 + length (piece ++ closed_gate ∷ [])) file
  mid_rest = ap (drop (gate + 1)) mid_parts ∙ drop_at (take (gate + 1) file) ((piece ++ closed_gate ∷ []) ++ drop (gate + 1 + length (piece ++ closed_gate ∷ [])) file) (gate + 1) first_part

  mid_long : gate + 1 ≤ length (with_piece (gate + 1) (piece ++ closed_gate ∷ []) file)
  mid_long =
      let long = first_part in
      omega (arith, ap length mid_parts, length-append (take (gate + 1) file) ((piece ++ closed_gate ∷ []) ++ drop (gate + 1 + length (piece ++ closed_gate ∷ [])) file))

  -- the piece, whole, and a closed gate
  says_made : (junk : List ℕ) → journal_of letter ((take gate file ++ open_gate ∷ piece) ++ closed_gate ∷ junk) ≡ made
  says_made junk =
      front_ends letter (take gate file ++ open_gate ∷ piece) (closed_gate ∷ junk) sums grown.front_is (closed_here sums (take gate file ++ open_gate ∷ piece) junk closed_gate shut)
      ∙ grown.is

  joined_whole : (junk : List ℕ) → take gate file ++ open_gate ∷ ((piece ++ closed_gate ∷ []) ++ junk) ≡ (take gate file ++ open_gate ∷ piece) ++ closed_gate ∷ junk
  joined_whole junk =
      ap (λ (l : List ℕ). take gate file ++ open_gate ∷ l) (append_assoc piece (closed_gate ∷ []) junk)
      ∙ sym (append_assoc (take gate file) (open_gate ∷ piece) (closed_gate ∷ junk))

  -- while the gate is opened
  gate_torn : (left : List ℕ) → Torn gate 1 (with_piece (gate + 1) (piece ++ closed_gate ∷ []) file) left → (journal_of letter left ≡ journal_of letter file) ⊎ (journal_of letter left ≡ made)
  gate_torn left torn =
      let long = torn.no_shorter in
      let enough = mid_long in
      let junk = drop (gate + 1 + length (piece ++ closed_gate ∷ [])) file in
      let parts : left ≡ take gate file ++ get_or left gate 0 ∷ ((piece ++ closed_gate ∷ []) ++ junk) =
      split_at gate left (omega arith) ∙ (λ i. (torn.before ∙ mid_front) i ++ get_or left gate 0 ∷ (torn.after ∙ mid_rest) i) in
      elim (cases_eq (get_or left gate 0) open_gate) [
        | inl opens ↦
            let all : left ≡ (take gate file ++ open_gate ∷ piece) ++ closed_gate ∷ junk =
            parts ∙ ap (λ (x : ℕ). take gate file ++ x ∷ ((piece ++ closed_gate ∷ []) ++ junk)) opens ∙ joined_whole junk in
            inr (ap (journal_of letter) all ∙ says_made junk)
        | inr not_open ↦ inl (ap (journal_of letter) parts
            ∙ front_ends letter (take gate file) (get_or left gate 0 ∷ ((piece ++ closed_gate ∷ []) ++ junk)) summed rest.front (closed_here summed (take gate file) ((piece ++ closed_gate ∷ []) ++ junk) (get_or left gate 0) not_open)
            ∙ sym resting)
      ]

  -- A stop leaves the file from before, or with the piece whole.
  pub left_by_writing : (left : List ℕ) → IsCutAppend gate (piece ++ closed_gate ∷ []) file left → (journal_of letter left ≡ journal_of letter file) ⊎ (journal_of letter left ≡ made)
  left_by_writing left cut = ⊎_elim (λ torn. inl (after_torn (length (piece ++ closed_gate ∷ [])) left torn)) (gate_torn left) cut

  -- once it is done
  pub done_parts : with_open_gate gate (piece ++ closed_gate ∷ []) file ≡ (take gate file ++ open_gate ∷ piece) ++ closed_gate ∷ drop (gate + 1 + length (piece ++ closed_gate ∷ [])) file
  done_parts =
      append_assoc (take gate (with_piece (gate + 1) (piece ++ closed_gate ∷ []) file)) (open_gate ∷ []) (drop (gate + 1) (with_piece (gate + 1) (piece ++ closed_gate ∷ []) file))
      ∙ (λ i. mid_front i ++ open_gate ∷ mid_rest i)
      ∙ joined_whole (drop (gate + 1 + length (piece ++ closed_gate ∷ [])) file)

  pub says_done : journal_of letter (with_open_gate gate (piece ++ closed_gate ∷ []) file) ≡ made
  says_done = ap (journal_of letter) done_parts ∙ says_made (drop (gate + 1 + length (piece ++ closed_gate ∷ [])) file)

  front_long : length (take gate file ++ open_gate ∷ piece) ≡ gate + 1 + length piece
  front_long =
      let stands = rest.stands in
      let old = length-take-le gate file (omega arith) in
      omega (arith, length-append (take gate file) (open_gate ∷ piece))

  pub front_done : (next : ℕ) → next ≡ gate + 1 + length piece → take next (with_open_gate gate (piece ++ closed_gate ∷ []) file) ≡ take gate file ++ open_gate ∷ piece
  front_done next is =
      let junk = drop (gate + 1 + length (piece ++ closed_gate ∷ [])) file in
      ap (take next) done_parts ∙ take_at (take gate file ++ open_gate ∷ piece) (closed_gate ∷ junk) next (front_long ∙ sym is)

  pub rests_done : (next : ℕ) → next ≡ gate + 1 + length piece → IsResting letter next sums (with_open_gate gate (piece ++ closed_gate ∷ []) file)
  rests_done next is =
      let junk = drop (gate + 1 + length (piece ++ closed_gate ∷ [])) file in
      let front = take gate file ++ open_gate ∷ piece in
      let long : length front ≡ next = front_long ∙ sym is in
      record {
        front = subst (λ (f : List ℕ). IsFront letter f sums) (sym (front_done next is)) grown.front_is;
        stands = omega (arith, ap length done_parts, length-append front (closed_gate ∷ junk));
        closed = ap (λ (f : List ℕ). get_or f next 0) done_parts ∙ get_or-append_right front (closed_gate ∷ junk) next next 0 long (omega arith) ∙ ap (λ (k : ℕ). get_or (closed_gate ∷ junk) k 0) (none next);
      }
    where
      none : (n : ℕ) → n - n ≡ 0
      none n = omega arith

  pub long_done : (next : ℕ) → next ≡ gate + 1 + length piece → length (with_open_gate gate (piece ++ closed_gate ∷ []) file) ≡ max (length file) (next + 1)
  long_done next is =
      let junk = drop (gate + 1 + length (piece ++ closed_gate ∷ [])) file in
      let front = take gate file ++ open_gate ∷ piece in
      let all = ap length done_parts in
      let one = length-append front (closed_gate ∷ junk) in
      let two = front_long in
      let three = length-drop (gate + 1 + length (piece ++ closed_gate ∷ [])) file in
      let four = length-append piece (closed_gate ∷ []) in
      omega arith

-- before any call, a stop leaves the file
pub left_alone : (told : Option (List ℕ)) (leaves : List ℕ → Type 0) (letter : ℕ) (file left : List ℕ) → NothingPends told leaves → told ≡ Some file → leaves left → journal_of letter left ≡ journal_of letter file
left_alone told leaves letter file left none is now =
    let same : Some left ≡ Some file = sym (none left now) ∙ is in
    let e : left ≡ file = cc in
    ap (journal_of letter) e
