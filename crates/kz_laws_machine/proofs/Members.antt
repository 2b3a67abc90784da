-- Records that stand in a list, and those that a test finds.
use Rattle.std.proofs.Common.{◌≡◌, ◌⊎◌, inl, inr, ℤ, Bool, true, false, ◌||◌, cond, List, [], ◌∷◌, filter, Some, All, refl, sym, ap, ◌∙◌, subst}
use Rattle.std.specs.Prelude.{◌<ℤ◌}
use Rattle.std.specs.List.{list_any, find}
use Rattle.std.proofs.lemmas.List.Elements.{All-head, All-tail}
use Rattle.kz_types.specs.declared.log.Entry.{Entry}
use Rattle.kz_laws_machine.proofs.Numbers.{less_itself, at_most_by}
use Rattle.kz_laws_machine.proofs.LogBatches.{AllAfter}
use Rattle.kz_laws_machine.proofs.Rising.{RisesAfter, all_after}

abbrev pub Within : Entry → List Entry → Type 0
Within x [] = ⊥
Within x (e ∷ es) = (x ≡ e) ⊎ Within x es

-- a record that passes a test
pub record Passes (p : Entry → Bool) (es : List Entry) : Type 0 where
  pub entry : Entry
  pub among : Within entry es
  pub passes : p entry ≡ true

later_passes : (p : Entry → Bool) (e : Entry) (es : List Entry) → Passes p es → Passes p (e ∷ es)
later_passes p e es f = record { entry = f.entry; among = inr f.among; passes = f.passes }

any_by : (p : Entry → Bool) (e : Entry) (es : List Entry) (b : Bool) → p e ≡ b → (list_any p es ≡ true → Passes p es) → (b || list_any p es) ≡ true → Passes p (e ∷ es)
any_by p e es true test rest any = record { entry = e; among = inl refl; passes = test }
any_by p e es false test rest any = later_passes p e es (rest any)

pub any_passes : (p : Entry → Bool) (es : List Entry) → list_any p es ≡ true → Passes p es
any_passes p [] is = absurd (cc)
any_passes p (e ∷ es) is = any_by p e es (p e) refl (any_passes p es) is

some_entry : (x y : Entry) → Some x ≡ Some y → x ≡ y
some_entry x y is = cc

found_by : (p : Entry → Bool) (e : Entry) (es : List Entry) (x : Entry) (b : Bool) → p e ≡ b → (find p es ≡ Some x → Within x es × (p x ≡ true)) → cond b (Some e) (find p es) ≡ Some x → Within x (e ∷ es) × (p x ≡ true)
found_by p e es x true test rest found = let same : e ≡ x = some_entry e x found in (inl (sym same), ap p (sym same) ∙ test)
found_by p e es x false test rest found = let later = rest found in (inr later.0, later.1)

pub found_passes : (p : Entry → Bool) (es : List Entry) (x : Entry) → find p es ≡ Some x → Within x es × (p x ≡ true)
found_passes p [] x is = absurd (cc)
found_passes p (e ∷ es) x is = found_by p e es x (p e) refl (found_passes p es x) is

-- ---- one record at an offset

after_each : (at : ℤ) (es : List Entry) (x : Entry) → AllAfter at es → Within x es → at <ℤ x.offset
after_each at [] x after among = absurd among
after_each at (e ∷ es) x after (inl same) = subst (λ (y : Entry). at <ℤ y.offset) (sym same) after.0
after_each at (e ∷ es) x after (inr among) = after_each at es x after.1 among

pub one_at : (at : ℤ) (es : List Entry) (x y : Entry) → RisesAfter at es → Within x es → Within y es → x.offset ≡ y.offset → x ≡ y
one_at at [] x y rises one other same = absurd one
one_at at (e ∷ es) x y rises (inl one) (inl other) same = one ∙ sym other
one_at at (e ∷ es) x y rises (inl one) (inr other) same =
    absurd (less_itself e.offset y.offset (after_each e.offset es y (all_after e.offset es rises.1) other) (at_most_by y.offset e.offset (sym same ∙ ap (λ (z : Entry). z.offset) one)))
one_at at (e ∷ es) x y rises (inr one) (inl other) same =
    absurd (less_itself e.offset x.offset (after_each e.offset es x (all_after e.offset es rises.1) one) (at_most_by x.offset e.offset (same ∙ ap (λ (z : Entry). z.offset) other)))
one_at at (e ∷ es) x y rises (inr one) (inr other) same = one_at e.offset es x y rises.1 one other same

-- ---- what is true of those that pass

pub passes_all : (P : Entry → Type 0) (p : Entry → Bool) (es : List Entry) (x : Entry) → All P (filter p es) → Within x es → p x ≡ true → P x
passes_all P p [] x all among is = absurd among
passes_all P p (e ∷ es) x all (inl same) is =
    let test : p e ≡ true = ap p (sym same) ∙ is in
    subst P (sym same) (All-head P e (filter p es) (subst (λ (b : Bool). All P (cond b (e ∷ filter p es) (filter p es))) test all))
passes_all P p (e ∷ es) x all (inr among) is = passes_all P p es x (by (p e) all) among is
  where
    by : (b : Bool) → All P (cond b (e ∷ filter p es) (filter p es)) → All P (filter p es)
    by true first = All-tail P e (filter p es) first
    by false first = first
