-- Fields that are appended one after another, and how long they are.
use Rattle.std.proofs.Common.{◌≡◌, ℕ, zero, suc, ◌*◌, ◌<◌, ℤ, List, [], ◌∷◌, ◌++◌, length, get_or, refl, sym, ap, ◌∙◌, append_assoc, arith}
use Rattle.std.proofs.lemmas.List.{length-append, append-nil}
use Rattle.kz_spec_data.specs.Forms.{items_written, AllFit}
use Rattle.kz_spec_data.specs.Transactions.{session}

pub seq : (old a mid b new : List ℕ) → mid ≡ old ++ a → new ≡ mid ++ b → new ≡ old ++ (a ++ b)
seq old a mid b new e f = f ∙ ap (λ (l : List ℕ). l ++ b) e ∙ append_assoc old a b

pub AllFit_at : {X : Type 0} (fits : X → Type 0) (xs : List X) (i : ℕ) (d : X) → AllFit fits xs → i < length xs → fits (get_or xs i d)
AllFit_at fits [] i d all lt = absurd (omega arith)
AllFit_at fits (x ∷ xs) zero d all lt = all.0
AllFit_at fits (x ∷ xs) (suc i) d all lt = AllFit_at fits xs i d all.1 (omega arith)

pub items_written_push : {X : Type 0} (written : X → List ℕ) (xs : List X) (x : X) → items_written written (xs ++ x ∷ []) ≡ items_written written xs ++ written x
items_written_push written [] x = append-nil (written x)
items_written_push written (y ∷ ys) x = ap (λ (l : List ℕ). written y ++ l) (items_written_push written ys x) ∙ sym (append_assoc (written y) (items_written written ys) (written x))

pub sessions_length : (xs : List ℤ) → length (items_written session.written xs) ≡ 8 * length xs
sessions_length [] = refl
sessions_length (x ∷ xs) =
    let h = sessions_length xs in
    let parts = length-append (session.written x) (items_written session.written xs) in
    omega (arith, h, parts)
