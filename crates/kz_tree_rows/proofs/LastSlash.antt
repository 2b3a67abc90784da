-- The parts of a path at its last `/`, byte after byte.
use Rattle.std.proofs.Common.{◌≡◌, ◌≢◌, ℕ, ◌+◌, ◌<◌, ◌≤◌, Bool, true, false, cond, ◌||◌, List, [], ◌∷◌, ◌++◌, length, get_or, take, drop, refl, sym, ap, ◌∙◌, arith, ne_eqb, length-take}
use Rattle.std.specs.Bool.{nat_eq}
use Rattle.std.specs.List.{list_any}
use Rattle.std.proofs.lemmas.List.{take_more, drop_all, drop-append-le}
use Rattle.std.proofs.lemmas.List.Folds.{list_any-append}
use Rattle.kz_spec_data.specs.Tree.{parent_of, name_of}

pub or_true : (a : Bool) → (a || true) ≡ true
or_true true = refl
or_true false = refl

pub or_false : (a : Bool) → (a || false) ≡ a
or_false true = refl
or_false false = refl

any_slash : (xs : List ℕ) → list_any (λ x. nat_eq x 47) (xs ++ 47 ∷ []) ≡ true
any_slash xs = list_any-append (λ x. nat_eq x 47) xs (47 ∷ []) ∙ or_true (list_any (λ x. nat_eq x 47) xs)

any_other : (xs : List ℕ) (b : ℕ) → b ≢ 47 → list_any (λ x. nat_eq x 47) (xs ++ b ∷ []) ≡ list_any (λ x. nat_eq x 47) xs
any_other xs b h =
    list_any-append (λ x. nat_eq x 47) xs (b ∷ []) ∙ ap (λ c. list_any (λ x. nat_eq x 47) xs || (c || false)) (ne_eqb b 47 h) ∙ or_false (list_any (λ x. nat_eq x 47) xs)

pub parent_slash : (xs : List ℕ) → parent_of (xs ++ 47 ∷ []) ≡ xs
parent_slash [] = refl
parent_slash (x ∷ xs) = rw (any_slash xs) (ap (λ l. x ∷ l) (parent_slash xs))

parent_other : (xs : List ℕ) (b : ℕ) → b ≢ 47 → parent_of (xs ++ b ∷ []) ≡ parent_of xs
parent_other [] b h = refl
parent_other (x ∷ xs) b h = rw (any_other xs b h) (ap (λ l. cond (list_any (λ y. nat_eq y 47) xs) (x ∷ l) []) (parent_other xs b h))

-- where the parent's path ends, once this many bytes are seen
pub record EndsAt (path : List ℕ) (i end : ℕ) : Type 0 where
  pub parent : parent_of (take i path) ≡ take end path
  pub within : end ≤ i

pub ends_here : (path : List ℕ) (i : ℕ) → i < length path → get_or path i 0 ≡ 47 → EndsAt path (i + 1) i
ends_here path i h e = record {
  parent = rw (take_more path i 0 h, e) (parent_slash (take i path));
  within = omega arith;
}

pub ends_before : (path : List ℕ) (i end : ℕ) → i < length path → get_or path i 0 ≢ 47 → EndsAt path i end → EndsAt path (i + 1) end
ends_before path i end h e was = record {
  parent = rw (take_more path i 0 h) (parent_other (take i path) (get_or path i 0) e ∙ was.parent);
  within = omega (arith, was.within);
}

-- ---- the last part

name_slash : (xs : List ℕ) → name_of (xs ++ 47 ∷ []) ≡ []
name_slash [] = refl
name_slash (x ∷ xs) = rw (ap (λ b. nat_eq x 47 || b) (any_slash xs) ∙ or_true (nat_eq x 47)) (name_slash xs)

either : (c : Bool) (a b : List ℕ) (x : ℕ) → cond c (a ++ x ∷ []) (b ++ x ∷ []) ≡ cond c a b ++ x ∷ []
either true a b x = refl
either false a b x = refl

name_other : (xs : List ℕ) (b : ℕ) → b ≢ 47 → name_of (xs ++ b ∷ []) ≡ name_of xs ++ b ∷ []
name_other [] b h = rw (ne_eqb b 47 h) refl
name_other (x ∷ xs) b h =
    rw (any_other xs b h) (ap (λ l. cond (nat_eq x 47 || list_any (λ y. nat_eq y 47) xs) l (x ∷ (xs ++ b ∷ []))) (name_other xs b h)
    ∙ either (nat_eq x 47 || list_any (λ y. nat_eq y 47) xs) (name_of xs) (x ∷ xs) b)

-- where the last part begins, once this many bytes are seen
pub record BeginsAt (path : List ℕ) (i start : ℕ) : Type 0 where
  pub name : name_of (take i path) ≡ drop start (take i path)
  pub within : start ≤ i

pub begins_after : (path : List ℕ) (i : ℕ) → i < length path → get_or path i 0 ≡ 47 → BeginsAt path (i + 1) (i + 1)
begins_after path i h e = record {
  name = rw (take_more path i 0 h, e) (name_slash (take i path)) ∙ sym (drop_all (i + 1) (take (i + 1) path) (omega (arith, length-take (i + 1) path)));
  within = omega arith;
}

pub begins_before : (path : List ℕ) (i start : ℕ) → i < length path → get_or path i 0 ≢ 47 → BeginsAt path i start → BeginsAt path (i + 1) start
begins_before path i start h e was = record {
  name =
      rw (take_more path i 0 h) (name_other (take i path) (get_or path i 0) e ∙ ap (λ l. l ++ get_or path i 0 ∷ []) was.name
      ∙ sym (drop-append-le start (take i path) (get_or path i 0 ∷ []) (omega (arith, was.within, length-take i path))));
  within = omega (arith, was.within);
}
