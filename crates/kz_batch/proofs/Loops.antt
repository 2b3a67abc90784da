-- Steps of loops over items.
use Rattle.std.proofs.Common.{◌≡◌, ℕ, zero, suc, ◌+◌, ◌-◌, ◌<◌, ◌≤◌, ℤ, pos, Bool, true, false, ◌&&◌, List, [], ◌∷◌, ◌++◌, length, map, Result, Ok, Err, is_ok, refl, sym, ap, ◌∙◌, append_assoc, arith}
use Rattle.std.specs.Ordering.{int_eq}
use Rattle.std.proofs.lemmas.List.{append-nil, length-append}
use Rattle.std.proofs.Math.Bool.{and_assoc}
use Rattle.kz_types.specs.declared.record.BatchFault.{BatchFault}
use Rattle.kz_spec_data.specs.Fields.{Reading, ◌>>=◌}
use Rattle.kz_spec_data.specs.Forms.{items_at}
use Rattle.kz_spec_data.specs.Batches.{Content, entry, delta_of, value_of, is_numbered}
use Rattle.kz_batch.specs.Answers.{values_read, values_in}

-- what was read before, and what is still read
abbrev pub with_front : {X : Type 0} → List X → Result (List X × Reading) BatchFault → Result (List X × Reading) BatchFault
with_front front read = read >>= λ x. Ok (front ++ x.0, x.1)

pub no_front : {X : Type 0} (read : Result (List X × Reading) BatchFault) → with_front [] read ≡ read
no_front (Ok x) = refl
no_front (Err e) = refl

regroup : {X : Type 0} (front : List X) (x : X) (read : Result (List X × Reading) BatchFault) → with_front front (read >>= λ xs. Ok (x ∷ xs.0, xs.1)) ≡ with_front (front ++ x ∷ []) read
regroup front x (Ok xs) = ap (λ l. Ok (l, xs.1)) (simp append_assoc)
regroup front x (Err e) = refl

pub items_step : {X : Type 0} (item : Reading → Result (X × Reading) BatchFault) (front : List X) (count i : ℕ) (r : Reading) (x : X) (after : Reading) (total : Result (List X × Reading) BatchFault)
    → i < count → item r ≡ Ok (x, after) → with_front front (items_at item (count - i) r) ≡ total → with_front (front ++ x ∷ []) (items_at item (count - (i + 1)) after) ≡ total
unfolding items_at
items_step item front count i r x after total lt e so_far =
    let k : count - i ≡ suc (count - (i + 1)) = omega arith in
    let one : with_front front (items_at item (count - i) r) ≡ with_front (front ++ x ∷ []) (items_at item (count - (i + 1)) after) = rw (k, e) (regroup front x (items_at item (count - (i + 1)) after)) in
    sym one ∙ so_far

pub items_fault : {X : Type 0} (e : BatchFault) (item : Reading → Result (X × Reading) BatchFault) (front : List X) (count i : ℕ) (r : Reading) (total : Result (List X × Reading) BatchFault)
    → i < count → item r ≡ Err e → with_front front (items_at item (count - i) r) ≡ total → total ≡ Err e
unfolding items_at
items_fault e item front count i r total lt at_fault so_far =
    let k : count - i ≡ suc (count - (i + 1)) = omega arith in
    let one : with_front front (items_at item (count - i) r) ≡ Err e = rw (k, at_fault) refl in
    sym so_far ∙ one

pub items_done : {X : Type 0} (item : Reading → Result (X × Reading) BatchFault) (front : List X) (count i : ℕ) (r : Reading) (total : Result (List X × Reading) BatchFault)
    → count ≤ i → with_front front (items_at item (count - i) r) ≡ total → total ≡ Ok (front, r)
unfolding items_at
items_done item front count i r total le so_far =
    let k : count - i ≡ 0 = omega arith in
    let one : with_front front (items_at item (count - i) r) ≡ Ok (front, r) = rw k (ap (λ l. Ok (l, r)) (append-nil front)) in
    sym so_far ∙ one

one_more : (b : Bool) → (b && true) ≡ b
one_more true = refl
one_more false = refl

-- one more record in order, or not
pub numbered_push : (n : ℕ) (cs : List Content) (c : Content) → is_numbered n (cs ++ c ∷ []) ≡ (is_numbered n cs && int_eq (delta_of c) (pos (n + length cs)))
numbered_push n [] c = let e : n + 0 ≡ n = omega arith in one_more (int_eq (delta_of c) (pos n)) ∙ ap (λ k. int_eq (delta_of c) (pos k)) (sym e)
numbered_push n (d ∷ cs) c =
    let e : n + 1 + length cs ≡ n + suc (length cs) = omega arith in
    let here = int_eq (delta_of d) (pos n) in
    ap (λ b. here && b) (numbered_push (n + 1) cs c ∙ ap (λ k. is_numbered (n + 1) cs && int_eq (delta_of c) (pos k)) e) ∙ sym (and_assoc here (is_numbered (n + 1) cs) (int_eq (delta_of c) (pos (n + suc (length cs)))))

pub from_none : {X : Type 0} (item : Reading → Result (X × Reading) BatchFault) (count : ℕ) (r : Reading) → with_front [] (items_at item (count - 0) r) ≡ items_at item count r
from_none item count r = let k : count - 0 ≡ count = omega arith in no_front (items_at item (count - 0) r) ∙ ap (λ (n : ℕ). items_at item n r) k

rest_of : (c : Content) (rest all : Result (List Content × Reading) BatchFault) → all ≡ (rest >>= λ xs. Ok (c ∷ xs.0, xs.1)) → is_ok all ≡ true
    → (values_read all ≡ value_of c ∷ values_read rest) × (is_ok rest ≡ true)
rest_of c (Ok xs) all e ok = (ap values_read e, refl)
rest_of c (Err f) all e ok = let no : is_ok all ≡ false = ap is_ok e in absurd (cc)

-- the first of so many records
pub next_values : (count : ℕ) (r after : Reading) (c : Content) → 0 < count → entry.read r ≡ Ok (c, after) → is_ok (items_at entry.read count r) ≡ true
    → (values_in count r ≡ value_of c ∷ values_in (count - 1) after) × (is_ok (items_at entry.read (count - 1) after) ≡ true)
unfolding items_at
next_values zero r after c lt e ok = absurd (omega arith)
next_values (suc n) r after c lt e ok =
    let k : suc n - 1 ≡ n = omega arith in
    let one : items_at entry.read (suc n) r ≡ (items_at entry.read n after >>= λ xs. Ok (c ∷ xs.0, xs.1)) = rw e refl in
    rw k (rest_of c (items_at entry.read n after) (items_at entry.read (suc n) r) one ok)

pub next_there : (count : ℕ) (r : Reading) (e : BatchFault) → 0 < count → entry.read r ≡ Err e → is_ok (items_at entry.read count r) ≡ true → ⊥
unfolding items_at
next_there zero r e lt fault ok = omega arith
next_there (suc n) r e lt fault ok =
    let one : items_at entry.read (suc n) r ≡ Err e = rw fault refl in
    let no : is_ok (items_at entry.read (suc n) r) ≡ false = ap is_ok one in
    cc

pub none_left : (r : Reading) → values_in 0 r ≡ []
unfolding items_at
none_left r = refl
