-- What is written of values, one after another.
use Rattle.std.proofs.Common.{◌≡◌, ℕ, zero, suc, ◌+◌, ◌<◌, ◌^◌, List, [], ◌∷◌, ◌++◌, length, map, take, get_or, refl, sym, ap, ◌∙◌, append_assoc, arith}
use Rattle.std.specs.Global.{Vec}
use Rattle.std.proofs.lemmas.List.{append-nil, take_more, map_push, length-map, length-take}
use Rattle.kz_spec_data.specs.Forms.{AllFit}
use Rattle.kz_spec_data.specs.Batches.{entry, content_with, records_written, Holds31}

pub records_push : (n : ℕ) (vs : List (List ℕ)) (v : List ℕ) → records_written n (vs ++ v ∷ []) ≡ records_written n vs ++ entry.written (content_with (n + length vs) v)
records_push n [] v = let e : n ≡ n + 0 = omega arith in append-nil (entry.written (content_with n v)) ∙ ap (λ (k : ℕ). entry.written (content_with k v)) e
records_push n (u ∷ vs) v =
    let e : n + 1 + length vs ≡ n + suc (length vs) = omega arith in
    ap (λ (l : List ℕ). entry.written (content_with n u) ++ l) (records_push (n + 1) vs v ∙ ap (λ (k : ℕ). records_written (n + 1) vs ++ entry.written (content_with k v)) e)
    ∙ sym (append_assoc (entry.written (content_with n u)) (records_written (n + 1) vs) (entry.written (content_with (n + suc (length vs)) v)))

pub holds_at : (vs : List (Vec ℕ)) (i : ℕ) (d : Vec ℕ) → AllFit Holds31 (map (λ v. v.items) vs) → i < length vs → Holds31 (get_or vs i d).items
holds_at [] i d all lt = absurd (omega arith)
holds_at (v ∷ vs) zero d all lt = all.0
holds_at (v ∷ vs) (suc i) d all lt = holds_at vs i d all.1 (omega arith)

pub seq : (old a mid b new : List ℕ) → mid ≡ old ++ a → new ≡ mid ++ b → new ≡ old ++ (a ++ b)
seq old a mid b new e f = f ∙ ap (λ (l : List ℕ). l ++ b) e ∙ append_assoc old a b

-- one more value
pub records_more : (vs : List (Vec ℕ)) (i : ℕ) (z : Vec ℕ) → i < length vs → z ≡ get_or vs i z
    → records_written 0 (map (λ v. v.items) (take (i + 1) vs)) ≡ records_written 0 (map (λ v. v.items) (take i vs)) ++ entry.written (content_with i z.items)
records_more vs i z lt is =
    let items : List (Vec ℕ) → List (List ℕ) = map (λ v. v.items) in
    let more : take (i + 1) vs ≡ take i vs ++ z ∷ [] = take_more vs i z lt ∙ ap (λ y. take i vs ++ y ∷ []) (sym is) in
    let n : 0 + length (items (take i vs)) ≡ i = omega (arith, length-map (take i vs) (λ (v : Vec ℕ). v.items), length-take i vs) in
    ap (λ l. records_written 0 (items l)) more ∙ ap (records_written 0) (map_push (λ (v : Vec ℕ). v.items) (take i vs) z) ∙ records_push 0 (items (take i vs)) z.items
    ∙ ap (λ (k : ℕ). records_written 0 (items (take i vs)) ++ entry.written (content_with k z.items)) n
