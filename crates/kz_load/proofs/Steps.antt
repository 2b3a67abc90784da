-- What a line and a byte of the input do to a load.
use Rattle.std.proofs.Common.{◌≡◌, ◌≢◌, ℕ, ◌+◌, ◌<◌, ◌≤◌, List, [], ◌∷◌, ◌++◌, take, drop, get_or, length, Result, Err, Bool, true, arith, Option, Some, None, IfErr, IfSome, refl, sym, ap, ◌∙◌, subst, append_assoc, add-one, drop-cons, take-append-drop}
use Rattle.std.specs.Io.KnownBytes.{Consumes}
use Rattle.kz_types.specs.declared.limits.TheConstants.{MAX_INPUT_BYTES, MAX_LINE_BYTES}
use Rattle.kz_spec_data.specs.Lines.{Item, line, long, much}
use Rattle.kz_types.specs.declared.outside.Status.{Status}
use Rattle.kz_spec_data.specs.Tree.{Tree}
use Rattle.kz_spec_machine.specs.declared.dumps.LoadLine.{LoadLine}
use Rattle.kz_spec_machine.specs.Endings.{EndsAtFailure}
use Rattle.kz_spec_machine.specs.LoadLines.{load_line}
use Rattle.kz_spec_machine.specs.Loading.{tree_after, at_head, at_line, loaded, tree_of_items}
use Rattle.kz_laws_values.specs.Coming.{lines_after}
use Rattle.kz_laws_values.proofs.CutLines.{coming_byte, coming_end, coming_long, coming_much, coming_end_much}
use Rattle.kz_load.specs.declared.part.Part.{Part}
use Rattle.kz_load.specs.declared.reader.Reader.{Reader}
use Rattle.kz_load.specs.declared.place.Place.{Place}
use Rattle.kz_load.specs.declared.place.Place.TheVariants as place
use Rattle.kz_load.specs.declared.stop.LoadStop.{LoadStop}
use Rattle.kz_load.specs.declared.stop.LoadStop.TheVariants as stop
use Rattle.kz_load.specs.Stops.{IsLineStop, IsStopOf}
use Rattle.kz_load.specs.Pending.{load_of_lines, load_to_come, GoesOn, Stops}

-- ---- lines

-- the first line, and why a load stops there
pub first_stops : (p : Place) (l : List ℕ) (said : LoadLine) (why : LoadStop) → p ≡ place.Start → load_line l ≡ Some said
    → ((is : List Item) → IsLineStop (at_head (Some said) (λ zxid sessions. tree_after 2 zxid sessions [] is)) why) → (is : List Item) → IsLineStop (load_of_lines p (line l ∷ is)) why
first_stops p l said why at says h is =
    subst (λ (q : Place). IsLineStop (load_of_lines q (line l ∷ is)) why) (sym at)
    (subst (λ (o : Option LoadLine). IsLineStop (at_head o (λ zxid sessions. tree_after 2 zxid sessions [] is)) why) (sym says) (h is))

-- a later line, and why a load stops there
pub later_stops : (p : Place) (part : Part) (l : List ℕ) (said : LoadLine) (why : LoadStop) → p ≡ place.After part → load_line l ≡ Some said
    → ((is : List Item) → IsLineStop (at_line part.number part.check.zxid part.check.sessions part.check.rows (Some said) (λ rows. tree_after (part.number + 1) part.check.zxid part.check.sessions rows is)) why)
    → (is : List Item) → IsLineStop (load_of_lines p (line l ∷ is)) why
later_stops p part l said why at says h is =
    subst (λ (q : Place). IsLineStop (load_of_lines q (line l ∷ is)) why) (sym at)
    (subst (λ (o : Option LoadLine). IsLineStop (at_line part.number part.check.zxid part.check.sessions part.check.rows o (λ rows. tree_after (part.number + 1) part.check.zxid part.check.sessions rows is)) why) (sym says) (h is))

-- a line that is too long
pub long_line : (p : Place) (is : List Item) → IsLineStop (load_of_lines p (long ∷ is)) stop.LongLine
long_line place.Start is = refl
long_line (place.After part) is = refl

-- an input that is too long
pub long_input : (p : Place) (is : List Item) → IsLineStop (load_of_lines p (much ∷ is)) stop.LongInput
long_input place.Start is = refl
long_input (place.After part) is = refl

-- ---- bytes

-- a byte of a line
pub load_byte : (p : Place) (l : List ℕ) (t b : ℕ) (rest : List ℕ) → b ≢ 10 → length l < MAX_LINE_BYTES → t < MAX_INPUT_BYTES → load_of_lines p (lines_after l t (b ∷ rest)) ≡ load_of_lines p (lines_after (l ++ b ∷ []) (t + 1) rest)
load_byte p l t b rest no_end room more = ap (load_of_lines p) (coming_byte l t b rest no_end room more)

-- the end of a line
pub load_end : (p q : Place) (l : List ℕ) (t : ℕ) (rest : List ℕ) → t < MAX_INPUT_BYTES → ((is : List Item) → load_of_lines p (line l ∷ is) ≡ load_of_lines q is) → load_of_lines p (lines_after l t (10 ∷ rest)) ≡ load_of_lines q (lines_after [] (t + 1) rest)
load_end p q l t rest more step = ap (load_of_lines p) (coming_end l t rest more) ∙ step (lines_after [] (t + 1) rest)

-- what stops a load at the lines that come stops it at these bytes
stops_at : (p : Place) (is js : List Item) (why : LoadStop) → is ≡ js → IsLineStop (load_of_lines p js) why → IsLineStop (load_of_lines p is) why
stops_at p is js why same h = subst (λ (ks : List Item). IsLineStop (load_of_lines p ks) why) (sym same) h

pub stops_long : (p : Place) (l : List ℕ) (t b : ℕ) (rest : List ℕ) → b ≢ 10 → MAX_LINE_BYTES ≤ length l → IsLineStop (load_of_lines p (lines_after l t (b ∷ rest))) stop.LongLine
stops_long p l t b rest no_end full = stops_at p _ _ stop.LongLine (coming_long l t b rest no_end full) (long_line p [])

pub stops_much : (p : Place) (l : List ℕ) (t b : ℕ) (rest : List ℕ) → b ≢ 10 → length l < MAX_LINE_BYTES → MAX_INPUT_BYTES ≤ t → IsLineStop (load_of_lines p (lines_after l t (b ∷ rest))) stop.LongInput
stops_much p l t b rest no_end room full = stops_at p _ _ stop.LongInput (coming_much l t b rest no_end room full) (long_input p [])

pub stops_end_much : (p : Place) (l : List ℕ) (t : ℕ) (rest : List ℕ) → MAX_INPUT_BYTES ≤ t → IsLineStop (load_of_lines p (lines_after l t (10 ∷ rest))) stop.LongInput
stops_end_much p l t rest full = stops_at p _ _ stop.LongInput (coming_end_much l t rest full) (long_input p [])

pub stops_end : (p : Place) (l : List ℕ) (t : ℕ) (rest : List ℕ) (why : LoadStop) → t < MAX_INPUT_BYTES → ((is : List Item) → IsLineStop (load_of_lines p (line l ∷ is)) why) → IsLineStop (load_of_lines p (lines_after l t (10 ∷ rest))) why
stops_end p l t rest why more step = stops_at p _ _ why (coming_end l t rest more) (step (lines_after [] (t + 1) rest))

-- ---- one part after another

pub goes_on : (a b d : Reader) (xs ys : List ℕ) → GoesOn a b xs → GoesOn b d ys → GoesOn a d (xs ++ ys)
goes_on a b d xs ys first second rest = ap (load_to_come a) (append_assoc xs ys rest) ∙ first (ys ++ rest) ∙ second rest

pub stops_after : (a b : Reader) (xs ys : List ℕ) (why : LoadStop) → GoesOn a b xs → Stops b ys why → (rest : List ℕ) → IsLineStop (load_to_come a (xs ++ (ys ++ rest))) why
stops_after a b xs ys why go h rest = subst (λ (load : Result Tree Status). IsLineStop load why) (sym (go (ys ++ rest))) (h rest)

-- a list, cut at one of its members
pub cut_at : (xs rest : List ℕ) (i : ℕ) → i < length xs → take i xs ++ (get_or xs i 0 ∷ (drop (i + 1) xs ++ rest)) ≡ xs ++ rest
cut_at xs rest i h =
    let cut : drop i xs ≡ get_or xs i 0 ∷ drop (i + 1) xs = rw (add-one, drop-cons xs i 0 h) refl in
    sym (append_assoc (take i xs) (get_or xs i 0 ∷ drop (i + 1) xs) rest) ∙ ap (λ t. (take i xs ++ t) ++ rest) (sym cut) ∙ ap (λ t. t ++ rest) (take-append-drop i xs)

-- ---- the whole input

pub from_start : (l input : List ℕ) → l ≡ [] → tree_of_items (lines_after l 0 input) ≡ loaded input
unfolding loaded
from_start l input none = rw none refl

-- a stop by the lines isn't one by the source
pub no_read : {T : Type 0} (load : Result Tree Status) (r : Result T LoadStop) → IfErr r (IsLineStop load) → r ≢ Err stop.ReadFault
no_read {T = T} load r h is = subst (λ (q : Result T LoadStop). IfErr q (IsLineStop load)) is h

is_stop : (load : Result Tree Status) (why : LoadStop) → IsLineStop load why → IsStopOf load why
is_stop load (stop.BadLine number) h = h
is_stop load (stop.Limit number) h = h
is_stop load stop.LongLine h = h
is_stop load stop.LongInput h = h
is_stop load stop.ReadFault h = absurd h
is_stop load stop.NoMemory h = h

-- what stops a load at these bytes stops it at the whole input
pub whole_stops : (r : Reader) (read got : List ℕ) (why : LoadStop) → ((rest : List ℕ) → loaded (read ++ rest) ≡ load_to_come r rest) → Stops r got why → (rest : List ℕ) → IsStopOf (loaded ((read ++ got) ++ rest)) why
whole_stops r read got why lead h rest =
    is_stop (loaded ((read ++ got) ++ rest)) why (subst (λ (load : Result Tree Status). IsLineStop load why) (sym (ap loaded (append_assoc read got rest) ∙ lead (got ++ rest))) (h rest))

-- what holds whatever follows what was read
pub told : (old new : Option (List ℕ)) (read : List ℕ) (P : List ℕ → Type 0) → Consumes old new read → ((rest : List ℕ) → P (read ++ rest)) → IfSome old P
told None new read P e h = tt
told (Some x) None read P e h = absurd e
told (Some x) (Some y) read P e h = subst P (sym e) (h y)

-- ---- the source

-- no read has failed
pub no_failure : {A : Type 0} (own result : A) (f g : ℕ) (b d : Bool) → result ≢ own → g ≡ f → (d ≡ true → b ≡ true) → EndsAtFailure own result f g b d
no_failure own result f g b d other same none = record { cause = λ is. absurd (other is); last = λ is. absurd (other is); calm = λ _. same; none = λ _. none }

-- each turn takes a byte
pub next_turn : (turn old new count len : ℕ) → turn ≤ old → new ≡ old + len → count ≡ len → (count ≡ 0 → ⊥) → turn + 1 ≤ new
next_turn turn old new count len a b d e = omega arith
