-- A run ends at the call that failed.
use Rattle.std.proofs.Common.{◌≡◌, ◌≢◌, ℕ, Bool, true, ◌∙◌, subst}
use Rattle.kz_types.specs.Causes.{Rose}
use Rattle.kz_spec_machine.specs.Endings.{EndsAtFailure}

-- a call failed
pub at_failure : {A : Type 0} (own result : A) (f g : ℕ) (b d : Bool) → result ≡ own → Rose f g → d ≡ true → EndsAtFailure own result f g b d
at_failure own result f g b d is rose failed = record { cause = λ same. rose; last = λ same. failed; calm = λ other. absurd (other is); none = λ other. absurd (other is) }

-- no call has failed
pub no_failure : {A : Type 0} (own result : A) (f g : ℕ) (b d : Bool) → result ≢ own → g ≡ f → (d ≡ true → b ≡ true) → EndsAtFailure own result f g b d
no_failure own result f g b d other same none = record { cause = λ is. absurd (other is); last = λ is. absurd (other is); calm = λ _. same; none = λ _. none }

-- no call has failed before
pub after_calm : {A : Type 0} (own result : A) (f g h : ℕ) (b d e : Bool) → g ≡ f → (d ≡ true → b ≡ true) → EndsAtFailure own result g h d e → EndsAtFailure own result f h b e
after_calm own result f g h b d e same none ends = record {
  cause = λ is. subst (λ (n : ℕ). Rose n h) same (ends.cause is);
  last = ends.last;
  calm = λ other. ends.calm other ∙ same;
  none = λ other failed. none (ends.none other failed);
}

-- the same under another result
pub as_result : {A B : Type 0} (own result : A) (its told : B) (f g : ℕ) (b d : Bool) → (told ≡ its → result ≡ own) → (result ≡ own → told ≡ its) → EndsAtFailure own result f g b d
    → EndsAtFailure its told f g b d
as_result own result its told f g b d to from ends = record {
  cause = λ is. ends.cause (to is);
  last = λ is. ends.last (to is);
  calm = λ other. ends.calm (λ is. other (from is));
  none = λ other. ends.none (λ is. other (from is));
}
