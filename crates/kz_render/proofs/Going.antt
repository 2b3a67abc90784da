-- Lists that are made while another one is gone over.
use Rattle.std.proofs.Common.{◌≡◌, List, [], ◌∷◌, ◌++◌, map, ap, ◌∙◌, subst, sym, append_assoc}
use Rattle.std.specs.List.{All, flat_map}
use Rattle.std.proofs.lemmas.List.Elements.{All-head}

-- what an item gives is added
pub flat_map_next : {X Y : Type 0} (f : X → List Y) (made more whole : List Y) (left rest : List X) (x : X)
    → made ++ flat_map f left ≡ whole → left ≡ x ∷ rest → more ≡ made ++ f x → more ++ flat_map f rest ≡ whole
flat_map_next f made more whole left rest x before step added =
    ap (λ m. m ++ flat_map f rest) added ∙ append_assoc made (f x) (flat_map f rest) ∙ subst (λ xs. made ++ flat_map f xs ≡ whole) step before

-- what stands for an item is added
pub map_next : {X Y : Type 0} (f : X → Y) (made more whole : List Y) (left rest : List X) (x : X)
    → made ++ map f left ≡ whole → left ≡ x ∷ rest → more ≡ made ++ f x ∷ [] → more ++ map f rest ≡ whole
map_next f made more whole left rest x before step added =
    ap (λ m. m ++ map f rest) added ∙ append_assoc made (f x ∷ []) (map f rest) ∙ subst (λ xs. made ++ map f xs ≡ whole) step before

-- what holds of all items holds of the next one
pub all_next : {X : Type 0} (P : X → Type 0) (left rest : List X) (x : X) → All P left → left ≡ x ∷ rest → P x
all_next P left rest x all step = All-head P x rest (subst (All P) step all)

-- what holds of all items of a list holds of all that are left at its begin
pub all_left : {X : Type 0} (P : X → Type 0) (items left : List X) → All P items → left ≡ items → All P left
all_left P items left all same = subst (All P) (sym same) all
