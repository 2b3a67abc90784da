-- What holds of each item of a list, one item after another.
use Rattle.std.proofs.Common.{◌≡◌, ℕ, ◌+◌, ◌<◌, ◌≤◌, List, [], ◌∷◌, ◌++◌, length, take, get_or, sym, subst}
use Rattle.std.proofs.lemmas.List.{take_more, take_all}
use Rattle.kz_spec_data.specs.Forms.{AllFit}

fit_push : {X : Type 0} (P : X → Type 0) (xs : List X) (x : X) → AllFit P xs → P x → AllFit P (xs ++ x ∷ [])
fit_push P [] x all p = (p, tt)
fit_push P (y ∷ ys) x all p = (all.0, fit_push P ys x all.1 p)

pub all_more_at : {X : Type 0} (P : X → Type 0) (xs : List X) (i : ℕ) (d : X) → i < length xs → P (get_or xs i d) → AllFit P (take i xs) → AllFit P (take (i + 1) xs)
all_more_at P xs i d lt p all = subst (AllFit P) (sym (take_more xs i d lt)) (fit_push P (take i xs) (get_or xs i d) all p)

pub all_more : {X : Type 0} (P : X → Type 0) (xs : List X) (i : ℕ) (x : X) → i < length xs → x ≡ get_or xs i x → P x → AllFit P (take i xs) → AllFit P (take (i + 1) xs)
all_more P xs i x lt is p all = all_more_at P xs i x lt (subst P is p) all

pub all_taken : {X : Type 0} (P : X → Type 0) (xs : List X) (i : ℕ) → length xs ≤ i → AllFit P (take i xs) → AllFit P xs
all_taken P xs i h all = subst (AllFit P) (take_all i xs h) all
