-- What is known of a file once it has been read up to a further gate.
use Rattle.std.proofs.Common.{◌≡◌, ℕ, ◌+◌, ◌<◌, ◌≤◌, max, Bool, true, false, List, [], ◌∷◌, ◌++◌, length, take, drop, get_or, Option, Some, refl, sym, ap, ◌∙◌, subst, arith, take-add, take-append-drop, length-take-le}
use Rattle.kz_spec_data.specs.Checksum.{crc32c}
use Rattle.kz_spec_data.specs.Frames.{Found, Frame, Seal, Damaged, End, Journal, after_frame, going_on, size_before, closed_gate, found_at, journal_within, journal_of, journal_with_frame, journal_with_seal}
use Rattle.kz_laws_values.specs.Fronts.{IsFront}
use Rattle.kz_laws_values.proofs.Found.{frame_at, seal_at, frame_alone, seal_alone, frame_length, closed_here}
use Rattle.kz_laws_values.proofs.Fronts.{Grows, frame_more, seal_more, front_ends, from_gate}
use Rattle.kz_journal.specs.declared.place.Place.{Place}
use Rattle.kz_journal.specs.Closings.{StillEnds, IsClosed}
use Rattle.kz_journal.specs.Journals.{IsReadTo, HasClosedGate, journal_at, file_at, file_of}
use Rattle.kz_journal.specs.Nexts.{IsAllRead, SaysTheSame, IsReadPast, IsReadWhole, IsDamagedAt}
use Rattle.kz_journal.proofs.Files.{shut}
use Rattle.kz_journal.proofs.Shutting.{from_place}

-- a file is its front, and what stands after it
pub in_two : (gate : ℕ) (file : List ℕ) → file ≡ take gate file ++ drop gate file
in_two gate file = sym (take-append-drop gate file)

-- no frame is found at a closed gate
pub closed_found : (place : Place) (file : List ℕ) → HasClosedGate place file → place.gate < length file → found_at place.summed (take place.gate file) (drop place.gate file) ≡ End
closed_found place file closed stands =
    ap (found_at place.summed (take place.gate file)) (from_place place.gate file stands ∙ ap (λ (k : ℕ). k ∷ drop (place.gate + 1) file) closed)
    ∙ closed_here place.summed (take place.gate file) (drop (place.gate + 1) file) closed_gate shut

module _ (letter : ℕ) (place : Place) (file : List ℕ) (read : IsReadTo letter place file) (room : place.gate ≤ place.length) where
  within : place.gate ≤ length file
  within = let long = read.measured.long in omega arith

  front_long : length (take place.gate file) ≡ place.gate
  front_long = length-take-le place.gate file within

  grown_by_frame : (payload : List ℕ) → Frame payload ≡ found_at place.summed (take place.gate file) (drop place.gate file)
      → Grows letter (take (place.gate + (size_before place.summed + length payload)) file) place.summed (journal_with_frame payload (journal_of letter (take place.gate file)))
  grown_by_frame payload is =
      let here = drop place.gate file in
      let size = size_before place.summed + length payload in
      let f = frame_at place.summed (take place.gate file) here payload (sym is) in
      let whole = f.whole in
      let n = frame_length place.summed here payload f in
      let long : length (take size here) ≡ size = length-take-le size here (omega arith) in
      subst (λ (l : List ℕ). Grows letter l place.summed (journal_with_frame payload (journal_of letter (take place.gate file)))) (sym (take-add place.gate size file))
      (frame_more letter (take place.gate file) (take size here) payload place.summed read.front (frame_alone place.summed here payload f) long)

  pub read_past_frame : (next : Place) (payload : List ℕ) → Frame payload ≡ found_at place.summed (take place.gate file) (drop place.gate file)
      → next.gate ≡ place.gate + size_before place.summed + length payload → next.summed ≡ place.summed → next.length ≡ place.length → (place.summed ≡ false → next.sum ≡ crc32c (take next.gate file)) → IsReadTo letter next file
  read_past_frame next payload is gate_is sums long sum =
      let g = grown_by_frame payload is in
      let same : next.gate ≡ place.gate + (size_before place.summed + length payload) = omega (arith, gate_is) in
      record {
        measured = record { long = long ∙ read.measured.long; sum = λ plain. sum (sym sums ∙ plain) };
        front = subst (λ (s : Bool). IsFront letter (take next.gate file) s) (sym sums) (subst (λ (k : ℕ). IsFront letter (take k file) place.summed) (sym same) g.front_is);
      }

  -- what is still to be read, by what stands at the gate
  unread : (f : Found) → f ≡ found_at place.summed (take place.gate file) (drop place.gate file) → journal_at place file ≡ going_on place.summed place.gate f (journal_within (length file) file)
  unread f is = from_gate file place.summed place.gate f (sym is)

  pub unread_frame : (next : Place) (payload : List ℕ) → Frame payload ≡ found_at place.summed (take place.gate file) (drop place.gate file)
      → next.gate ≡ place.gate + size_before place.summed + length payload → next.summed ≡ place.summed → journal_at place file ≡ after_frame (record { at = place.gate; payload = payload }) (journal_at next file)
  unread_frame next payload is gate_is sums =
      unread (Frame payload) is ∙ (λ i. after_frame (record { at = place.gate; payload = payload }) (journal_within (length file) file (sym sums i) (sym gate_is i)))

  grown_by_seal : Seal ≡ found_at place.summed (take place.gate file) (drop place.gate file) → Grows letter (take (place.gate + 9) file) true (journal_with_seal (journal_of letter (take place.gate file)))
  grown_by_seal is =
      let here = drop place.gate file in
      let s = seal_at place.summed (take place.gate file) here (sym is) in
      subst (λ (l : List ℕ). Grows letter l true (journal_with_seal (journal_of letter (take place.gate file)))) (sym (take-add place.gate 9 file))
      (seal_more letter (take place.gate file) (take 9 here) place.summed read.front (seal_alone place.summed (take place.gate file) here s) (length-take-le 9 here s.whole))

  pub read_past_seal : (next : Place) → Seal ≡ found_at place.summed (take place.gate file) (drop place.gate file) → next.gate ≡ place.gate + 9 → next.summed ≡ true → next.length ≡ place.length → IsReadTo letter next file
  read_past_seal next is gate_is sums long =
      let g = grown_by_seal is in
      record {
        measured = record { long = long ∙ read.measured.long; sum = λ plain. absurd (cc) };
        front = subst (λ (s : Bool). IsFront letter (take next.gate file) s) (sym sums) (subst (λ (k : ℕ). IsFront letter (take k file) true) (sym gate_is) g.front_is);
      }

  pub unread_seal : (next : Place) → Seal ≡ found_at place.summed (take place.gate file) (drop place.gate file) → next.gate ≡ place.gate + 9 → next.summed ≡ true → journal_at place file ≡ journal_at next file
  unread_seal next is gate_is sums = unread Seal is ∙ (λ i. journal_within (length file) file (sym sums i) (sym gate_is i))

  pub unread_damaged : Damaged ≡ found_at place.summed (take place.gate file) (drop place.gate file) → journal_at place file ≡ record { frames = []; end = place.gate; summed = place.summed; damaged = true }
  unread_damaged is = unread Damaged is

  pub unread_end : End ≡ found_at place.summed (take place.gate file) (drop place.gate file) → journal_at place file ≡ record { frames = []; end = place.gate; summed = place.summed; damaged = false }
  unread_end is = unread End is

  -- the frames end here
  pub ends_there : (left : List ℕ) → StillEnds place.summed place.gate file left → journal_of letter left ≡ journal_of letter (take place.gate file)
  ends_there left ends =
      let same : IsFront letter (take place.gate left) place.summed = subst (λ (l : List ℕ). IsFront letter l place.summed) (sym ends.front) read.front in
      ap (journal_of letter) (in_two place.gate left) ∙ front_ends letter (take place.gate left) (drop place.gate left) place.summed same ends.none ∙ ap (journal_of letter) ends.front

  pub ends_here : End ≡ found_at place.summed (take place.gate file) (drop place.gate file) → journal_of letter file ≡ journal_of letter (take place.gate file)
  ends_here is = ends_there file (record { front = refl; none = sym is })

  -- a closed file still ends there
  pub closed_ends : (told : Option (List ℕ)) (c : IsClosed place.gate file told) → StillEnds place.summed place.gate file c.new
  closed_ends told c =
      let long = c.long in
      let stands : place.gate < length c.new = omega arith in
      record {
        front = c.front;
        none = ap (found_at place.summed (take place.gate c.new)) (from_place place.gate c.new stands ∙ ap (λ (k : ℕ). k ∷ drop (place.gate + 1) c.new) c.closed) ∙ closed_here place.summed (take place.gate c.new) (drop (place.gate + 1) c.new) closed_gate shut;
      }

  pub read_closed : (next : Place) (told : Option (List ℕ)) (c : IsClosed place.gate file told) → next.gate ≡ place.gate → next.summed ≡ place.summed → next.sum ≡ place.sum → next.length ≡ max place.length (place.gate + 1) → IsReadTo letter next c.new
  read_closed next told c gate_is sums sum long =
      let old = read.measured.long in
      let front : take next.gate c.new ≡ take place.gate file = ap (λ (k : ℕ). take k c.new) gate_is ∙ c.front in
      record {
        measured = record {
          long = long ∙ ap (λ (k : ℕ). max k (place.gate + 1)) old ∙ sym c.long;
          sum = λ plain. sum ∙ read.measured.sum (sym sums ∙ plain) ∙ ap crc32c (sym front);
        };
        front = subst (λ (s : Bool). IsFront letter (take next.gate c.new) s) (sym sums) (subst (λ (l : List ℕ). IsFront letter l place.summed) (sym front) read.front);
      }

-- what a file says that has been read up to a closed gate
pub says_closed : (letter : ℕ) (place : Place) (file : List ℕ) → IsReadTo letter place file → HasClosedGate place file → place.gate < place.length
    → journal_of letter file ≡ journal_of letter (take place.gate file)
says_closed letter place file read closed stands =
    let long = read.measured.long in
    let at : place.gate < length file = omega arith in
    ap (journal_of letter) (in_two place.gate file)
    ∙ front_ends letter (take place.gate file) (drop place.gate file) place.summed read.front (closed_found place file closed at)

-- ---- what comes next

-- a frame
pub read_past : (letter : ℕ) (place here further : Place) (file payload : List ℕ) (told : Option (List ℕ)) → told ≡ Some file → IsReadTo letter here file × (journal_at place file ≡ journal_at here file) → here.gate ≤ here.length
    → Frame payload ≡ found_at here.summed (take here.gate file) (drop here.gate file) → further.gate ≡ here.gate + size_before here.summed + length payload → further.summed ≡ here.summed → further.length ≡ here.length
    → (here.summed ≡ false → further.sum ≡ crc32c (take (here.gate + 5 + length payload) file)) → IsReadPast letter file place here.gate payload further told
read_past letter place here further file payload told same at room is gate_is sums long sum = record {
  same = same;
  read = read_past_frame letter here file at.0 room further payload is gate_is sums long (λ plain. sum plain ∙ ap (λ (k : ℕ). crc32c (take k file)) (plain_gate plain));
  frame = at.1 ∙ unread_frame letter here file at.0 room further payload is gate_is sums;
}
  where
    plain_gate : here.summed ≡ false → here.gate + 5 + length payload ≡ further.gate
    plain_gate plain = sym (gate_is ∙ ap (λ (s : Bool). here.gate + size_before s + length payload) plain)

-- a damaged place
pub read_damaged : (letter : ℕ) (place here : Place) (file : List ℕ) → IsReadTo letter here file × (journal_at place file ≡ journal_at here file) → here.gate ≤ here.length
    → Damaged ≡ found_at here.summed (take here.gate file) (drop here.gate file) → IsDamagedAt (journal_at place file) here.gate
read_damaged letter place here file at room is =
    let all = at.1 ∙ unread_damaged letter here file at.0 room is in
    record { none = ap (λ (j : Journal). j.frames) all; damaged = ap (λ (j : Journal). j.damaged) all; place = ap (λ (j : Journal). j.end) all }

-- the end
pub read_whole : (letter : ℕ) (place further : Place) (file : List ℕ) (told : Option (List ℕ)) → IsReadTo letter place file → place.gate ≤ place.length → End ≡ found_at place.summed (take place.gate file) (drop place.gate file)
    → IsClosed place.gate file told → further.gate ≡ place.gate → further.summed ≡ place.summed → further.sum ≡ place.sum → further.length ≡ max place.length (place.gate + 1) → IsReadWhole letter file place further told
read_whole letter place further file told read room is c gate_is sums sum long =
    let all = unread_end letter place file read room is in
    record {
      all = record { none = ap (λ (j : Journal). j.frames) all; whole = ap (λ (j : Journal). j.damaged) all };
      new = c.new;
      is = c.is;
      journal = ends_there letter place file read room c.new (closed_ends letter place file read room told c) ∙ sym (ends_here letter place file read room is);
      read = read_closed letter place file read room further told c gate_is sums sum long;
      closed = ap (λ (k : ℕ). get_or c.new k 0) gate_is ∙ c.closed;
      grown = one_more (length c.new) (length file) place.gate place.length read.measured.long room c.long;
    }
  where
    one_more : (new long gate n : ℕ) → n ≡ long → gate ≤ n → new ≡ max long (gate + 1) → new ≤ long + 1
    one_more new long gate n same room is = omega (arith, same, room, is)

-- what still ends there says the same
pub still_says : (letter : ℕ) (place : Place) (file left : List ℕ) → IsReadTo letter place file → place.gate ≤ place.length → End ≡ found_at place.summed (take place.gate file) (drop place.gate file)
    → StillEnds place.summed place.gate file left → journal_of letter left ≡ journal_of letter file
still_says letter place file left read room is ends = ends_there letter place file read room left ends ∙ sym (ends_here letter place file read room is)

-- ---- the end, once it is closed

pub gate_is_end : (letter : ℕ) (place : Place) (file : List ℕ) → IsReadTo letter place file → HasClosedGate place file → place.gate < place.length → place.gate ≡ (journal_of letter file).end
gate_is_end letter place file read closed stands =
    let long = read.measured.long in
    let front_long : length (take place.gate file) ≡ place.gate = length-take-le place.gate file (omega arith) in
    sym front_long ∙ sym read.front.ends ∙ sym (ap (λ (j : Journal). j.end) (says_closed letter place file read closed stands))

pub sums_at_end : (letter : ℕ) (place : Place) (file : List ℕ) → IsReadTo letter place file → HasClosedGate place file → place.gate < place.length → place.summed ≡ (journal_of letter file).summed
sums_at_end letter place file read closed stands = sym read.front.sums ∙ sym (ap (λ (j : Journal). j.summed) (says_closed letter place file read closed stands))

-- the file as stores tell it
pub held_closed : (letter : ℕ) (place : Place) (file : List ℕ) → IsReadTo letter place file → HasClosedGate place file → place.gate < place.length → file_at place ≡ file_of letter file
held_closed letter place file read closed stands =
    (λ i. record { length = read.measured.long i; end = gate_is_end letter place file read closed stands i + 1; around = size_before (sums_at_end letter place file read closed stands i) })

pub ended_says : (letter : ℕ) (place : Place) (file : List ℕ) (told : Option (List ℕ)) → IsReadTo letter place file → HasClosedGate place file → place.gate < place.length → told ≡ Some file
    → IsAllRead (journal_at place file) × SaysTheSame letter file told (file_at place)
ended_says letter place file told read closed stands is =
    let long = read.measured.long in
    let at : place.gate < length file = omega arith in
    let all = unread_end letter place file read (omega arith) (sym (closed_found place file closed at)) in (
      record { none = ap (λ (j : Journal). j.frames) all; whole = ap (λ (j : Journal). j.damaged) all },
      record { new = file; is = is; journal = refl; held_is = held_closed letter place file read closed stands; grown = omega arith },
    )

pub whole_says : (letter : ℕ) (place further : Place) (file : List ℕ) (told : Option (List ℕ)) → IsReadWhole letter file place further told → further.gate < further.length → IsAllRead (journal_at place file) × SaysTheSame letter file told (file_at further)
whole_says letter place further file told whole stands = (
  whole.all,
  record { new = whole.new; is = whole.is; journal = whole.journal; held_is = held_closed letter further whole.new whole.read whole.closed stands; grown = whole.grown },
)
