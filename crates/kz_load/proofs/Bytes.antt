-- Bytes of a line that come together.
use Rattle.std.proofs.Common.{◌≡◌, ◌≢◌, ⊎_elim, ℕ, ◌+◌, ◌-◌, ◌<◌, ◌≤◌, List, [], ◌∷◌, ◌++◌, length, take, drop, get_or, Result, Ok, Err, sym, ap, ◌∙◌, subst, append_assoc, append-nil, length-append, length-take-le, length-drop, take-add, get_or-drop, le_refl, arith}
use Rattle.std.specs.Prelude.{OnOk}
use Rattle.std.specs.List.{slice_range}
use Rattle.std.proofs.lemmas.List.{take_more, take_all}
use Rattle.std.proofs.str.Laws.{order}
use Rattle.kz_types.specs.declared.limits.TheConstants.{MAX_INPUT_BYTES, MAX_LINE_BYTES}
use Rattle.kz_types.specs.declared.outside.Status.{Status}
use Rattle.kz_spec_data.specs.Forms.{AllFit}
use Rattle.kz_spec_data.specs.Tree.{Tree}
use Rattle.kz_laws_values.specs.Coming.{lines_after}
use Rattle.kz_load.specs.declared.place.Place.{Place}
use Rattle.kz_load.specs.declared.reader.Reader.{Reader}
use Rattle.kz_load.specs.declared.stop.LoadStop.{LoadStop}
use Rattle.kz_load.specs.declared.stop.LoadStop.TheVariants as stop
use Rattle.kz_load.specs.Stops.{IsLineStop}
use Rattle.kz_load.specs.Pending.{load_of_lines, load_to_come, GoesOn, Stops}
use Rattle.kz_load.proofs.Steps.{load_byte, stops_long, stops_much, goes_on, stops_after}

-- no byte of these ends a line
abbrev NoEnds : List ℕ → Type 0
NoEnds bytes = AllFit (λ b. b ≢ 10) bytes

none_added : (xs : List ℕ) (x : ℕ) → NoEnds xs → x ≢ 10 → NoEnds (xs ++ x ∷ [])
none_added [] x all one = (one, tt)
none_added (y ∷ ys) x all one = (all.0, none_added ys x all.1 one)

one_longer : (l : List ℕ) (b : ℕ) → length (l ++ b ∷ []) ≡ length l + 1
one_longer l b = length-append l (b ∷ [])

-- within both limits
pub load_bytes : (p : Place) (l : List ℕ) (t : ℕ) (bs rest : List ℕ) → AllFit (λ b. b ≢ 10) bs → length bs ≤ MAX_LINE_BYTES - length l → t + length bs ≤ MAX_INPUT_BYTES
    → load_of_lines p (lines_after l t (bs ++ rest)) ≡ load_of_lines p (lines_after (l ++ bs) (t + length bs) rest)
load_bytes p l t [] rest no_ends room more = ap (λ (x : List ℕ). load_of_lines p (lines_after x t rest)) (sym (append-nil l)) ∙ ap (λ n. load_of_lines p (lines_after (l ++ []) n rest)) (let e : t ≡ t + 0 = omega arith in e)
load_bytes p l t (b ∷ bs) rest no_ends room more =
    let longer = one_longer l b in
    let e : t + 1 + length bs ≡ t + length (b ∷ bs) = omega arith in
    load_byte p l t b (bs ++ rest) no_ends.0 (omega (arith, room)) (omega (arith, more))
    ∙ load_bytes p (l ++ b ∷ []) (t + 1) bs rest no_ends.1 (omega (arith, room, longer)) (omega (arith, more))
    ∙ ap (λ (x : List ℕ). load_of_lines p (lines_after x (t + 1 + length bs) rest)) (append_assoc l (b ∷ []) bs)
    ∙ ap (λ n. load_of_lines p (lines_after (l ++ b ∷ bs) n rest)) e

-- what stops a load after a byte stops it at the byte
at_byte : (p : Place) (l : List ℕ) (t b : ℕ) (rest : List ℕ) (why : LoadStop) → b ≢ 10 → length l < MAX_LINE_BYTES → t < MAX_INPUT_BYTES
    → IsLineStop (load_of_lines p (lines_after (l ++ b ∷ []) (t + 1) rest)) why → IsLineStop (load_of_lines p (lines_after l t (b ∷ rest))) why
at_byte p l t b rest why no_end room more h = subst (λ (load : Result Tree Status). IsLineStop load why) (sym (load_byte p l t b rest no_end room more)) h

-- the limit of a line is passed at one of them
pub long_in : (p : Place) (l : List ℕ) (t : ℕ) (bs rest : List ℕ) → AllFit (λ b. b ≢ 10) bs → MAX_LINE_BYTES - length l < length bs → t + (MAX_LINE_BYTES - length l) ≤ MAX_INPUT_BYTES
    → IsLineStop (load_of_lines p (lines_after l t (bs ++ rest))) stop.LongLine
long_in p l t [] rest no_ends full more = absurd (omega (arith, full))
long_in p l t (b ∷ bs) rest no_ends full more =
    ⊎_elim
    (λ room.
    let longer = one_longer l b in
    at_byte p l t b (bs ++ rest) stop.LongLine no_ends.0 room (omega (arith, room, more))
    (long_in p (l ++ b ∷ []) (t + 1) bs rest no_ends.1 (omega (arith, room, full, longer)) (omega (arith, room, more, longer))))
    (λ none. stops_long p l t b (bs ++ rest) no_ends.0 none)
    (order (length l) MAX_LINE_BYTES)

-- the limit of the input is
pub much_in : (p : Place) (l : List ℕ) (t : ℕ) (bs rest : List ℕ) → AllFit (λ b. b ≢ 10) bs → MAX_INPUT_BYTES - t < length bs → MAX_INPUT_BYTES - t < MAX_LINE_BYTES - length l
    → IsLineStop (load_of_lines p (lines_after l t (bs ++ rest))) stop.LongInput
much_in p l t [] rest no_ends full room = absurd (omega (arith, full))
much_in p l t (b ∷ bs) rest no_ends full room =
    ⊎_elim
    (λ more.
    let longer = one_longer l b in
    at_byte p l t b (bs ++ rest) stop.LongInput no_ends.0 (omega (arith, room)) more
    (much_in p (l ++ b ∷ []) (t + 1) bs rest no_ends.1 (omega (arith, more, full)) (omega (arith, more, room, longer))))
    (λ none. stops_much p l t b (bs ++ rest) no_ends.0 (omega (arith, room)) none)
    (order t MAX_INPUT_BYTES)

-- ---- the bytes of a piece since a line began

pub none_yet : (bs : List ℕ) (at : ℕ) → AllFit (λ b. b ≢ 10) (slice_range bs at at)
none_yet bs at = let e : at - at ≡ 0 = omega arith in subst (λ n. NoEnds (take n (drop at bs))) (sym e) tt

pub one_more : (bs : List ℕ) (from at : ℕ) → from ≤ at → at < length bs → get_or bs at 0 ≢ 10 → AllFit (λ b. b ≢ 10) (slice_range bs from at) → AllFit (λ b. b ≢ 10) (slice_range bs from (at + 1))
one_more bs from at begun lt no_end no_ends =
    let inner : at - from < length (drop from bs) = omega (arith, lt, length-drop from bs) in
    let one : (at + 1) - from ≡ (at - from) + 1 = omega arith in
    let same : get_or (drop from bs) (at - from) 0 ≡ get_or bs at 0 = get_or-drop from bs (at - from) 0 ∙ ap (λ n. get_or bs n 0) (let e : from + (at - from) ≡ at = omega arith in e) in
    let more : slice_range bs from (at + 1) ≡ slice_range bs from at ++ get_or bs at 0 ∷ [] =
    ap (λ n. take n (drop from bs)) one ∙ take_more (drop from bs) (at - from) 0 inner ∙ ap (λ b. slice_range bs from at ++ b ∷ []) same in
    subst NoEnds (sym more) (none_added (slice_range bs from at) (get_or bs at 0) no_ends no_end)

front : (bs : List ℕ) (from at : ℕ) → from ≤ at → take at bs ≡ take from bs ++ slice_range bs from at
front bs from at begun = let e : from + (at - from) ≡ at = omega arith in ap (λ n. take n bs) (sym e) ∙ take-add from (at - from) bs

pub line_length : (bs : List ℕ) (from at : ℕ) → from ≤ at → at ≤ length bs → length (slice_range bs from at) ≡ at - from
line_length bs from at begun fits = length-take-le (at - from) (drop from bs) (omega (arith, begun, fits, length-drop from bs))

-- up to the end of a line
pub with_line : (bs : List ℕ) (from at : ℕ) → from ≤ at → at < length bs → get_or bs at 0 ≡ 10 → take from bs ++ (slice_range bs from at ++ 10 ∷ []) ≡ take (at + 1) bs
with_line bs from at begun lt is_end =
    sym (take_more bs at 0 lt ∙ ap (λ b. take at bs ++ b ∷ []) is_end ∙ ap (λ (l : List ℕ). l ++ 10 ∷ []) (front bs from at begun) ∙ append_assoc (take from bs) (slice_range bs from at) (10 ∷ []))

-- up to the end of a piece
pub whole_piece : (bs : List ℕ) (from : ℕ) → from ≤ length bs → take from bs ++ slice_range bs from (length bs) ≡ bs
whole_piece bs from begun = sym (front bs from (length bs) begun) ∙ take_all (length bs) bs (le_refl (length bs))

-- ---- what takes them

-- a stop at some bytes is one at these and further ones
pub stops_before : (a : Reader) (xs ys : List ℕ) (why : LoadStop) → Stops a xs why → Stops a (xs ++ ys) why
stops_before a xs ys why h rest = subst (λ (t : List ℕ). IsLineStop (load_to_come a t) why) (sym (append_assoc xs ys rest)) (h (ys ++ rest))

-- one after bytes that it went over is one at all of them
pub stops_next : (a b : Reader) (xs ys : List ℕ) (why : LoadStop) → GoesOn a b xs → Stops b ys why → Stops a (xs ++ ys) why
stops_next a b xs ys why go h rest = subst (λ (t : List ℕ). IsLineStop (load_to_come a t) why) (sym (append_assoc xs ys rest)) (stops_after a b xs ys why go h rest)

-- the last of a piece is taken
pub goes_to : (r : Result (Unit {0}) LoadStop) (a b d : Reader) (xs ys all : List ℕ) → xs ++ ys ≡ all → GoesOn a b xs → OnOk r (GoesOn b d ys) → OnOk r (GoesOn a d all)
goes_to (Ok done) a b d xs ys all same first h = subst (λ (t : List ℕ). GoesOn a d t) same (goes_on a b d xs ys first h)
goes_to (Err why) a b d xs ys all same first h = tt
