-- Lemmas on JSON values.
use Rattle.std.proofs.Common.{◌≡◌, ℕ, List, [], ◌∷◌, ◌++◌, append_assoc, Some, None, refl, sym, ap, ◌∙◌}
use Rattle.std.specs.Prelude.{Option, option_map, option_and_then}
use Rattle.serde_json.specs.Data.{Data, Members, member}
use Rattle.serde_json.specs.Find.{as_str}
use Rattle.kz_types.specs.declared.bodies.Pair.{Pair}
use Rattle.kz_spec_data.specs.Bodies.{texts_in}

-- ---- the members of a configuration, one after another

onto_more : (pairs : List Pair) (pair : Pair) (o : Option (List Pair)) → option_map (λ more. pairs ++ more) (option_map (λ ps. pair ∷ ps) o) ≡ option_map (λ more. (pairs ++ pair ∷ []) ++ more) o
onto_more pairs pair None = refl
onto_more pairs pair (Some ps) = ap (λ qs. Some qs) (sym (append_assoc pairs (pair ∷ []) ps))

-- the next member is a text
pub next_text : (all : Option (List Pair)) (pairs more : List Pair) (name text : List ℕ) (d : Data) (rest : Members) (pair : Pair)
    → all ≡ option_map (λ m. pairs ++ m) (texts_in (member name d rest)) → Some text ≡ as_str d → pair ≡ record { name = name; value = text } → more ≡ pairs ++ pair ∷ []
    → all ≡ option_map (λ m. more ++ m) (texts_in rest)
next_text all pairs more name text d rest pair so_far is made pushed =
    let p : Pair = record { name = name; value = text } in
    so_far
    ∙ ap (λ o. option_map (λ m. pairs ++ m) (option_and_then (λ (v : List ℕ). option_map (λ (ps : List Pair). record { name = name; value = v } ∷ ps) (texts_in rest)) o)) (sym is)
    ∙ onto_more pairs p (texts_in rest)
    ∙ ap (λ (q : List Pair). option_map (λ m. q ++ m) (texts_in rest)) (ap (λ q. pairs ++ q ∷ []) (sym made) ∙ sym pushed)
