-- Puts one after another, and how they end.
use Rattle.std.proofs.Common.{◌≡◌, ◌≢◌, ℕ, Bool, List, [], ◌++◌, Option, Result, Ok, Err, refl, sym, ap, ◌∙◌, subst, append_assoc, append-nil}
use Rattle.std.specs.Prelude.{⊤}
use Rattle.std.specs.Io.KnownBytes.{Appends}
use Rattle.std.proofs.KnownBytes.{Appends-nil, Appends-trans}
use Rattle.kz_types.specs.Causes.{Rose}
use Rattle.kz_output.specs.declared.output.OutputFault.{OutputFault}
use Rattle.kz_output.specs.declared.output.OutputFault.TheVariants as fault
use Rattle.kz_output.specs.Outputs.{Puts, WritesFront, HasNotFailed, EndsAtSink}

-- nothing is put yet
pub nothing_put : (taken : Option (List ℕ)) (held : List ℕ) → Puts taken held taken held []
nothing_put taken held = ([], Appends-nil taken, append-nil held)

joined : (h i j a b s r : List ℕ) → h ++ a ≡ s ++ i → i ++ b ≡ r ++ j → h ++ (a ++ b) ≡ (s ++ r) ++ j
joined h i j a b s r first next = sym (append_assoc h a b) ∙ ap (λ x. x ++ b) first ∙ append_assoc s i b ∙ ap (λ x. s ++ x) next ∙ sym (append_assoc s r j)

-- one more text
pub one_more : (t u v : Option (List ℕ)) (h i j a b : List ℕ) → Puts t h u i a → Puts u i v j b → Puts t h v j (a ++ b)
one_more t u v h i j a b first next = (first.0 ++ next.0, Appends-trans t u v first.0 next.0 first.1 next.1, joined h i j a b first.0 next.0 first.2 next.2)

-- a flush at the end, of an output that was new
pub flushed : (t u v : Option (List ℕ)) (h i a : List ℕ) → h ≡ [] → Puts t h u i a → Appends u v i → Appends t v a
flushed t u v h i a none first last = subst (λ x. Appends t v x) (sym (ap (λ x. x ++ a) (sym none) ∙ first.2)) (Appends-trans t u v first.0 i first.1 last)

-- a front of what is put to a new output
pub from_nothing : (t u : Option (List ℕ)) (h a : List ℕ) → h ≡ [] → WritesFront t u (h ++ a) → WritesFront t u a
from_nothing t u h a none w = subst (λ x. WritesFront t u x) (ap (λ x. x ++ a) none) w

-- a front of a text is a front of each that goes on from there
pub front_of_more : (t u : Option (List ℕ)) (a b : List ℕ) → WritesFront t u a → WritesFront t u (a ++ b)
front_of_more t u a b w = (w.0, w.1, (w.2.0 ++ b, ap (λ x. x ++ b) w.2.1 ∙ append_assoc w.0 w.2.0 b))

-- nothing is written yet
pub nothing_written : (t : Option (List ℕ)) (a : List ℕ) → WritesFront t t a
nothing_written t a = ([], Appends-nil t, (a, refl))

-- what is written so far
pub front_so_far : (t u : Option (List ℕ)) (h i a : List ℕ) → Puts t h u i a → WritesFront t u (h ++ a)
front_so_far t u h i a first = (first.0, first.1, (i, first.2))

-- a put fails after others
pub front_then : (t u v : Option (List ℕ)) (h i a b : List ℕ) → Puts t h u i a → WritesFront u v (i ++ b) → WritesFront t v (h ++ (a ++ b))
front_then t u v h i a b first w = (
  first.0 ++ w.0,
  Appends-trans t u v first.0 w.0 first.1 w.1,
  (w.2.0, joined h i w.2.0 a b first.0 w.0 first.2 w.2.1),
)

-- a flush fails after puts
pub front_of_flush : (t u v : Option (List ℕ)) (h i a : List ℕ) → Puts t h u i a → WritesFront u v i → WritesFront t v (h ++ a)
front_of_flush t u v h i a first w = subst (λ x. WritesFront t v (h ++ x)) (append-nil a)
    (front_then t u v h i a [] first (subst (λ x. WritesFront u v x) (sym (append-nil i)) w))

-- no call yet
pub no_call : (f : ℕ) (b : Bool) → HasNotFailed f f b b
no_call f b = (refl, λ failed. failed)

-- one part after another
pub calm_then : (f g h : ℕ) (b d e : Bool) → HasNotFailed f g b d → HasNotFailed g h d e → HasNotFailed f h b e
calm_then f g h b d e first next = (next.0 ∙ first.0, λ failed. first.1 (next.1 failed))

-- a result that isn't the sink's
abbrev pub IsOther : {T : Type 0} → Result T OutputFault → Type 0
IsOther (Ok value) = ⊤
IsOther (Err fault.SinkFailed) = ⊥
IsOther (Err fault.NoMemory) = ⊤

is_other : {T : Type 0} (result : Result T OutputFault) → IsOther result → result ≢ Err fault.SinkFailed
is_other result other is = subst IsOther is other

-- With another result than the sink's, no call of it has failed; and the other way round.
pub calm_of : {T : Type 0} (result : Result T OutputFault) (f g : ℕ) (b d : Bool) → IsOther result → EndsAtSink result f g b d → HasNotFailed f g b d
calm_of result f g b d other ends = (ends.calm (is_other result other), ends.none (is_other result other))

pub ends_otherwise : {T : Type 0} (result : Result T OutputFault) (f g : ℕ) (b d : Bool) → IsOther result → HasNotFailed f g b d → EndsAtSink result f g b d
ends_otherwise result f g b d other calm = record {
  cause = λ is. absurd (is_other result other is);
  last = λ is. absurd (is_other result other is);
  calm = λ _. calm.0;
  none = λ _. calm.1;
}

-- the last part, after others in which no call failed
pub ends_after : {T : Type 0} (result : Result T OutputFault) (f g h : ℕ) (b d e : Bool) → HasNotFailed f g b d → EndsAtSink result g h d e → EndsAtSink result f h b e
ends_after result f g h b d e calm ends = record {
  cause = λ is. subst (λ (n : ℕ). Rose n h) calm.0 (ends.cause is);
  last = ends.last;
  calm = λ other. ends.calm other ∙ calm.0;
  none = λ other failed. calm.1 (ends.none other failed);
}
