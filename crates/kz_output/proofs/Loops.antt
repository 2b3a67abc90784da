-- A loop that puts the text of each item of a list.
use Rattle.std.proofs.Common.{◌≡◌, ◌<◌, ℕ, ◌+◌, List, [], ◌∷◌, ◌++◌, Option, length, take, drop, get_or, sym, ap, ◌∙◌, subst, append_assoc, append-nil, take-append-drop}
use Rattle.std.specs.List.{flat_map}
use Rattle.std.proofs.lemmas.List.{take_more}
use Rattle.std.proofs.lemmas.Grind.{flat_map-append}
use Rattle.kz_output.specs.Outputs.{Puts, WritesFront}
use Rattle.kz_output.proofs.Chains.{one_more, front_of_more, front_then}

-- what is out is a front of what was held and a text, and so of each text that goes on from there
pub front_goes_on : (t u : Option (List ℕ)) (h a rest whole : List ℕ) → WritesFront t u (h ++ a) → whole ≡ a ++ rest → WritesFront t u (h ++ whole)
front_goes_on t u h a rest whole w is = subst (λ x. WritesFront t u x) (append_assoc h a rest ∙ ap (λ x. h ++ x) (sym is)) (front_of_more t u (h ++ a) rest w)

up_to : {X : Type 0} (f : X → List ℕ) (xs : List X) (n : ℕ) (x : X) → n < length xs → x ≡ get_or xs n x → flat_map f (take (n + 1) xs) ≡ flat_map f (take n xs) ++ f x
up_to f xs n x lt is = ap (λ ys. flat_map f ys) (take_more xs n x lt ∙ ap (λ y. take n xs ++ y ∷ []) (sym is)) ∙ flat_map-append f (take n xs) (x ∷ [])
    ∙ ap (λ y. flat_map f (take n xs) ++ y) (append-nil (f x))

in_two : {X : Type 0} (f : X → List ℕ) (xs : List X) (n : ℕ) → flat_map f xs ≡ flat_map f (take n xs) ++ flat_map f (drop n xs)
in_two f xs n = ap (λ ys. flat_map f ys) (sym (take-append-drop n xs)) ∙ flat_map-append f (take n xs) (drop n xs)

-- The loop goes on: the text of item `n` is put.
pub puts_next : {X : Type 0} (f : X → List ℕ) (xs : List X) (n : ℕ) (x : X) (t u v : Option (List ℕ)) (h i j : List ℕ) → n < length xs → x ≡ get_or xs n x
    → Puts t h u i (flat_map f (take n xs)) → Puts u i v j (f x) → Puts t h v j (flat_map f (take (n + 1) xs))
puts_next f xs n x t u v h i j lt is first next = subst (λ a. Puts t h v j a) (sym (up_to f xs n x lt is)) (one_more t u v h i j _ _ first next)

-- The loop ends: all items are put.
pub puts_all : {X : Type 0} (f : X → List ℕ) (xs : List X) (n : ℕ) (t u : Option (List ℕ)) (h i : List ℕ) → take n xs ≡ xs
    → Puts t h u i (flat_map f (take n xs)) → Puts t h u i (flat_map f xs)
puts_all f xs n t u h i all first = subst (λ ys. Puts t h u i (flat_map f ys)) all first

-- The put of item `n` fails.
pub front_of_list : {X : Type 0} (f : X → List ℕ) (xs : List X) (n : ℕ) (x : X) (t u v : Option (List ℕ)) (h i : List ℕ) → n < length xs → x ≡ get_or xs n x
    → Puts t h u i (flat_map f (take n xs)) → WritesFront u v (i ++ f x) → WritesFront t v (h ++ flat_map f xs)
front_of_list f xs n x t u v h i lt is first w = front_goes_on t v h (flat_map f (take n xs) ++ f x) (flat_map f (drop (n + 1) xs)) (flat_map f xs)
    (front_then t u v h i _ _ first w) (in_two f xs (n + 1) ∙ ap (λ y. y ++ flat_map f (drop (n + 1) xs)) (up_to f xs n x lt is))
