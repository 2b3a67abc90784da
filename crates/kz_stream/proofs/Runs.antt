-- Parts of a run, one after another.
use Rattle.std.proofs.Common.{◌≡◌, ℕ, ◌+◌, ◌<◌, Bool, true, false, List, [], ◌∷◌, ◌++◌, Contains, length, take, drop, get_or, refl, sym, ap, ◌∙◌, subst, append_assoc, append-nil, add-one, drop-cons, take-append-drop, Option, Some, None, IfSome, Result, Ok, Err, OnOk, IfErr, arith, length-append}
use Rattle.std.specs.Io.KnownBytes.{Consumes}
use Rattle.kz_types.specs.declared.outside.Status.{Status}
use Rattle.kz_types.specs.declared.outside.Status.TheVariants as status
use Rattle.kz_spec_machine.specs.Output.{Outcome, Progress, after, progress_after}
use Rattle.kz_spec_machine.specs.Machine.{World}
use Rattle.kz_spec_machine.specs.Sound.{Sound}
use Rattle.kz_spec_machine.specs.Endings.{IsFront, EndsAs, EndsAtLimit, is_file_limit}
use Rattle.kz_stream.specs.declared.ending.Next.{Next}
use Rattle.kz_stream.specs.declared.ending.Next.TheVariants as next_is
use Rattle.kz_stream.specs.declared.ending.Stop.{Stop}
use Rattle.kz_stream.specs.declared.ending.Stop.TheVariants as stop
use Rattle.kz_stream.specs.Endings.{Stops}
use Rattle.kz_spec_machine.specs.Moments.{Moment, moment_after, LeavesMoment}
use Rattle.kz_spec_data.specs.Tree.{Tree}
use Rattle.kz_spec_data.specs.Log.{Log}
use Rattle.kz_stream.specs.Pending.{State, outcome_to_come, moments_to_come, pending_lines, Takes, GoesOn, GoesSoundly, StopsSoundly}
use Rattle.kz_stream.proofs.Moments.{leaves_later}

after-append : (xs ys : List ℕ) (o : Outcome) → after xs (after ys o) ≡ after (xs ++ ys) o
after-append xs ys o = ap (λ t. record o { text = t }) (sym (append_assoc xs ys o.text))

progress-append : (xs ys : List ℕ) (p : Progress) → progress_after xs (progress_after ys p) ≡ progress_after (xs ++ ys) p
progress-append xs ys p = ap (λ t. record p { text = t }) (sym (append_assoc xs ys p.text))

-- one part after another, for whatever is told of a run
one_by_one : {X : Type 0} (told : State → List ℕ → X) (joined : List ℕ → X → X) → ((xs ys : List ℕ) (x : X) → joined xs (joined ys x) ≡ joined (xs ++ ys) x)
    → (a b d : State) (xs ys sent more : List ℕ) → ((rest : List ℕ) → told a (xs ++ rest) ≡ joined sent (told b rest)) → ((rest : List ℕ) → told b (ys ++ rest) ≡ joined more (told d rest))
    → (rest : List ℕ) → told a ((xs ++ ys) ++ rest) ≡ joined (sent ++ more) (told d rest)
one_by_one told joined joins a b d xs ys sent more first second rest =
    ap (told a) (append_assoc xs ys rest) ∙ first (ys ++ rest) ∙ ap (joined sent) (second rest) ∙ joins sent more (told d rest)

-- the moments of one part after another
moments_on : (a d : State) (xs ys rest sent more : List ℕ) (m : Moment) → Contains (moments_to_come a (xs ++ (ys ++ rest))) (moment_after sent (moment_after more m)) → Contains (moments_to_come a ((xs ++ ys) ++ rest)) (moment_after (sent ++ more) m)
moments_on a d xs ys rest sent more m h =
    subst (λ (bytes : List ℕ). Contains (moments_to_come a bytes) (moment_after (sent ++ more) m)) (sym (append_assoc xs ys rest))
    (subst (λ (text : List ℕ). Contains (moments_to_come a (xs ++ (ys ++ rest))) (record { text = text; reply = m.reply; pair = m.pair })) (sym (append_assoc sent more m.text)) h)

pub goes_on : (a b d : State) (xs ys sent more : List ℕ) → GoesOn a b xs sent → GoesOn b d ys more → GoesOn a d (xs ++ ys) (sent ++ more)
goes_on a b d xs ys sent more first second = record {
  begins = one_by_one outcome_to_come after after-append a b d xs ys sent more first.begins second.begins;
  lines = λ goes. one_by_one pending_lines progress_after progress-append a b d xs ys sent more (first.lines refl) (second.lines refl);
  count = λ goes. omega (arith, first.count refl, second.count refl, length-append xs ys);
  moments = λ goes rest m among. moments_on a d xs ys rest sent more m (first.moments refl (ys ++ rest) (moment_after more m) (second.moments refl rest m among));
}

-- at the beginning
pub goes_nowhere : (a : State) → GoesOn a a [] []
goes_nowhere a = record { begins = λ rest. refl; lines = λ goes rest. refl; count = λ goes. omega arith; moments = λ goes rest m among. among }

-- what holds of a part that goes on
pub takes_on : (old new : State) (bytes text : List ℕ) (what : Next) → what ≡ next_is.GoesOn → Takes old new bytes text what → GoesOn old new bytes text
takes_on old new bytes text what goes h = subst (λ (n : Next). Takes old new bytes text n) goes h

-- what is written for the lines of the bytes that were taken, where no line has begun
pub lines_taken : (a b : State) (bytes sent : List ℕ) → GoesOn a b bytes sent → pending_lines a bytes ≡ record { text = sent; world = b.place.world }
lines_taken a b bytes sent h = ap (pending_lines a) (sym (append-nil bytes)) ∙ h.lines refl [] ∙ ap (λ t. record { text = t; world = b.place.world }) (append-nil sent)

front_after : (o : Outcome) (sent more : List ℕ) → IsFront more o.text → IsFront (sent ++ more) (sent ++ o.text)
front_after o sent more h = (h.0, ap (λ t. sent ++ t) h.1 ∙ sym (append_assoc sent more h.0))

-- what was written before a stop stands in front of it
Stops-after : (o : Outcome) (sent more : List ℕ) (w : World) (s : Stop) → Stops o more w s → Stops (after sent o) (sent ++ more) w s
Stops-after o sent more w (stop.Ends e) h = ap (after sent) h
Stops-after o sent more w (stop.Fails f) h = front_after o sent more h
Stops-after o sent more w stop.SinkFailed h = front_after o sent more h

pub stops_after : (a b : State) (xs ys sent more : List ℕ) (w : World) (s : Stop) → GoesOn a b xs sent → Stops (outcome_to_come b ys) more w s → Stops (outcome_to_come a (xs ++ ys)) (sent ++ more) w s
stops_after a b xs ys sent more w s go h = subst (λ (o : Outcome). Stops o (sent ++ more) w s) (sym (go.begins ys)) (Stops-after (outcome_to_come b ys) sent more w s h)

-- what was written before an end stands in front of it
at_limit : (b : Bool) (o : Outcome) (sent more : List ℕ) (w : World) (s : Status) → EndsAtLimit b o more w s → EndsAtLimit b (after sent o) (sent ++ more) w s
at_limit true o sent more w s h = front_after o sent more h
at_limit false o sent more w s h = ap (after sent) h

EndsAs-after : (o : Outcome) (p : Progress) (sent more : List ℕ) (w : World) (s : Status) → EndsAs o p more w s → EndsAs (after sent o) (progress_after sent p) (sent ++ more) w s
EndsAs-after o p sent more w status.Done h = ap (after sent) h
EndsAs-after o p sent more w status.Usage h = h
EndsAs-after o p sent more w (status.Script line) h = ap (after sent) h
EndsAs-after o p sent more w status.ReadFault h = ap (progress_after sent) h
EndsAs-after o p sent more w status.WriteFault h = front_after o sent more h
EndsAs-after o p sent more w status.TreeFault h = front_after o sent more h
EndsAs-after o p sent more w status.LogFault h = front_after o sent more h
EndsAs-after o p sent more w (status.TreeDamaged at) h = h
EndsAs-after o p sent more w (status.LogDamaged at why) h = h
EndsAs-after o p sent more w status.NoMemory h = front_after o sent more h
EndsAs-after o p sent more w (status.Limit which number) h = at_limit (is_file_limit which) o sent more w (status.Limit which number) h
EndsAs-after o p sent more w status.NotEmpty h = h
EndsAs-after o p sent more w (status.Disagrees path) h = h
EndsAs-after o p sent more w (status.NoOffset base end) h = h

-- at the end of the input
pub ends_after : (a b : State) (bytes sent more : List ℕ) (w : World) (s : Status) → GoesOn a b bytes sent → ((p : Progress) → EndsAs (outcome_to_come b []) p more w s)
    → EndsAs (outcome_to_come a (bytes ++ [])) (pending_lines a (bytes ++ [])) (sent ++ more) w s
ends_after a b bytes sent more w s go h =
    subst (λ (o : Outcome). EndsAs o (pending_lines a (bytes ++ [])) (sent ++ more) w s) (sym (go.begins []))
    (subst (λ (p : Progress). EndsAs (after sent (outcome_to_come b [])) p (sent ++ more) w s) (sym (go.lines refl [])) (EndsAs-after (outcome_to_come b []) (pending_lines b []) sent more w s (h (pending_lines b []))))

-- ---- from a sound world on

pub goes_soundly : (a b d : State) (xs ys sent more : List ℕ) → GoesSoundly a b xs sent → GoesSoundly b d ys more → GoesSoundly a d (xs ++ ys) (sent ++ more)
goes_soundly a b d xs ys sent more first second sound = let x = first sound in let y = second x.1 in (goes_on a b d xs ys sent more x.0 y.0, y.1)

pub goes_nowhere_soundly : (a : State) → GoesSoundly a a [] []
goes_nowhere_soundly a sound = (goes_nowhere a, sound)

pub stops_soundly : (a b : State) (xs ys sent more : List ℕ) (w : World) (s : Stop) → GoesSoundly a b xs sent → StopsSoundly b ys more w s → (rest : List ℕ) → Sound a.place.world → Stops (outcome_to_come a (xs ++ (ys ++ rest))) (sent ++ more) w s
stops_soundly a b xs ys sent more w s go h rest sound = let x = go sound in stops_after a b xs (ys ++ rest) sent more w s x.0 (h x.1 rest)

-- a stop after a part leaves a moment of the whole
pub leaves_after : (a b : State) (xs ys sent more : List ℕ) (tree_left : Option Tree → Type 0) (log_left : Option Log → Type 0) → GoesOn a b xs sent → LeavesMoment (moments_to_come b ys) more tree_left log_left → LeavesMoment (moments_to_come a (xs ++ ys)) (sent ++ more) tree_left log_left
leaves_after a b xs ys sent more tree_left log_left go h = leaves_later sent (moments_to_come b ys) (moments_to_come a (xs ++ ys)) more tree_left log_left (go.moments refl ys) h

-- a list, cut at one of its members
pub cut_at : (xs rest : List ℕ) (i : ℕ) → i < length xs → take i xs ++ (get_or xs i 0 ∷ (drop (i + 1) xs ++ rest)) ≡ xs ++ rest
cut_at xs rest i h =
    let cut : drop i xs ≡ get_or xs i 0 ∷ drop (i + 1) xs = rw (add-one, drop-cons xs i 0 h) refl in
    sym (append_assoc (take i xs) (get_or xs i 0 ∷ drop (i + 1) xs) rest) ∙ ap (λ t. (take i xs ++ t) ++ rest) (sym cut) ∙ ap (λ t. t ++ rest) (take-append-drop i xs)

-- what holds whatever follows what was read
pub told : (old new : Option (List ℕ)) (read : List ℕ) (P : List ℕ → Type 0) → Consumes old new read → ((rest : List ℕ) → P (read ++ rest)) → IfSome old P
told None new read P e h = tt
told (Some x) None read P e h = absurd e
told (Some x) (Some y) read P e h = subst P (sym e) (h y)

-- what holds of every script holds of the one that is told
pub always : (o : Option (List ℕ)) (P : List ℕ → Type 0) → ((script : List ℕ) → P script) → IfSome o P
always None P h = tt
always (Some x) P h = h x

-- what is told of each reason to stop
pub each_stop : {T : Type 0} (r : Result T Stop) (P Q : Stop → Type 0) → ((s : Stop) → P s → Q s) → IfErr r P → IfErr r Q
each_stop (Ok x) P Q f h = h
each_stop (Err s) P Q f h = f s h

pub each_ok : {T P Q : Type 0} (r : Result T Stop) → (P → Q) → OnOk r P → OnOk r Q
each_ok (Ok x) f h = f h
each_ok (Err s) f h = tt
