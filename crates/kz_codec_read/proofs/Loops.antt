-- Steps of the loops over tags and items.
use Rattle.std.proofs.Common.{◌≡◌, ℕ, suc, ◌+◌, ◌-◌, ◌<◌, ◌≤◌, List, [], ◌∷◌, ◌++◌, Result, Ok, Err, refl, sym, ap, ◌∙◌, append_assoc, arith}
use Rattle.std.proofs.lemmas.List.{append-nil}
use Rattle.kz_types.specs.declared.record.CodecFault.{CodecFault}
use Rattle.kz_types.specs.declared.record.CodecFault.TheVariants.{Short, UnknownKey, UnknownVersion, BadField, Rest, NoMemory}
use Rattle.kz_spec_data.specs.Fields.{Reading, ◌>>=◌}
use Rattle.kz_spec_data.specs.Forms.{tag_at, tags_at, items_at}
use Rattle.kz_spec_data.specs.Records.{Fails}

-- a fault of a part is the fault of the whole
pub fails_as : {Y Z : Type 0} (e : CodecFault) (a : Result Y CodecFault) (b : Result Z CodecFault) → ((f : CodecFault) → a ≡ Err f → b ≡ Err f) → Fails e a → Fails e b
fails_as (Short at) a b h p = h (Short at) p
fails_as (UnknownKey key) a b h p = h (UnknownKey key) p
fails_as (UnknownVersion key version) a b h p = h (UnknownVersion key version) p
fails_as (BadField at) a b h p = h (BadField at) p
fails_as (Rest at) a b h p = h (Rest at) p
fails_as NoMemory a b h p = tt

-- one more tag is read
pub tags_step : {S : Type 0} (take : ℕ → ℕ → Reading → S → Result S CodecFault) (count i least : ℕ) (s next : S) (r : Reading) (number : ℕ) (field after : Reading) (total : Result (S × Reading) CodecFault)
    → i < count → tag_at least r ≡ Ok ((number, field), after) → take number r.at field s ≡ Ok next
    → tags_at take (count - i) least s r ≡ total → tags_at take (count - (i + 1)) (number + 1) next after ≡ total
unfolding tags_at
tags_step take count i least s next r number field after total lt e t so_far =
    let k : count - i ≡ suc (count - (i + 1)) = omega arith in
    let one : tags_at take (count - i) least s r ≡ tags_at take (count - (i + 1)) (number + 1) next after = rw (k, e, t) refl in
    sym one ∙ so_far

-- the next tag is at fault
pub tags_fault : {S : Type 0} (e : CodecFault) (take : ℕ → ℕ → Reading → S → Result S CodecFault) (count i least : ℕ) (s : S) (r : Reading) (total : Result (S × Reading) CodecFault)
    → i < count → Fails e (tag_at least r) → tags_at take (count - i) least s r ≡ total → Fails e total
unfolding tags_at
tags_fault e take count i least s r total lt fails so_far =
    fails_as e (tag_at least r) total (λ f at_fault.
    let k : count - i ≡ suc (count - (i + 1)) = omega arith in
    let one : tags_at take (count - i) least s r ≡ Err f = rw (k, at_fault) refl in
    sym so_far ∙ one) fails

-- what the next tag says is at fault
pub take_fault : {S : Type 0} (e : CodecFault) (take : ℕ → ℕ → Reading → S → Result S CodecFault) (count i least : ℕ) (s : S) (r : Reading) (number : ℕ) (field after : Reading) (total : Result (S × Reading) CodecFault)
    → i < count → tag_at least r ≡ Ok ((number, field), after) → Fails e (take number r.at field s) → tags_at take (count - i) least s r ≡ total → Fails e total
unfolding tags_at
take_fault e take count i least s r number field after total lt found fails so_far =
    fails_as e (take number r.at field s) total (λ f at_fault.
    let k : count - i ≡ suc (count - (i + 1)) = omega arith in
    let one : tags_at take (count - i) least s r ≡ Err f = rw (k, found, at_fault) refl in
    sym so_far ∙ one) fails

-- no tag is left
pub tags_done : {S : Type 0} (take : ℕ → ℕ → Reading → S → Result S CodecFault) (count i least : ℕ) (s : S) (r : Reading) (total : Result (S × Reading) CodecFault)
    → count ≤ i → tags_at take (count - i) least s r ≡ total → total ≡ Ok (s, r)
unfolding tags_at
tags_done take count i least s r total le so_far =
    let k : count - i ≡ 0 = omega arith in
    let one : tags_at take (count - i) least s r ≡ Ok (s, r) = rw k refl in
    sym so_far ∙ one

-- what was read before, and what is still read
abbrev pub with_front : {X : Type 0} → List X → Result (List X × Reading) CodecFault → Result (List X × Reading) CodecFault
with_front front read = read >>= λ x. Ok (front ++ x.0, x.1)

regroup : {X : Type 0} (front : List X) (x : X) (read : Result (List X × Reading) CodecFault) → with_front front (read >>= λ xs. Ok (x ∷ xs.0, xs.1)) ≡ with_front (front ++ x ∷ []) read
regroup front x (Ok xs) = ap (λ l. Ok (l, xs.1)) (simp append_assoc)
regroup front x (Err e) = refl

pub items_step : {X : Type 0} (item : Reading → Result (X × Reading) CodecFault) (front : List X) (count i : ℕ) (r : Reading) (x : X) (after : Reading) (total : Result (List X × Reading) CodecFault)
    → i < count → item r ≡ Ok (x, after) → with_front front (items_at item (count - i) r) ≡ total → with_front (front ++ x ∷ []) (items_at item (count - (i + 1)) after) ≡ total
unfolding items_at
items_step item front count i r x after total lt e so_far =
    let k : count - i ≡ suc (count - (i + 1)) = omega arith in
    let one : with_front front (items_at item (count - i) r) ≡ with_front (front ++ x ∷ []) (items_at item (count - (i + 1)) after) = rw (k, e) (regroup front x (items_at item (count - (i + 1)) after)) in
    sym one ∙ so_far

pub items_fault : {X : Type 0} (e : CodecFault) (item : Reading → Result (X × Reading) CodecFault) (front : List X) (count i : ℕ) (r : Reading) (total : Result (List X × Reading) CodecFault)
    → i < count → Fails e (item r) → with_front front (items_at item (count - i) r) ≡ total → Fails e total
unfolding items_at
items_fault e item front count i r total lt fails so_far =
    fails_as e (item r) total (λ f at_fault.
    let k : count - i ≡ suc (count - (i + 1)) = omega arith in
    let one : with_front front (items_at item (count - i) r) ≡ Err f = rw (k, at_fault) refl in
    sym so_far ∙ one) fails

pub items_done : {X : Type 0} (item : Reading → Result (X × Reading) CodecFault) (front : List X) (count i : ℕ) (r : Reading) (total : Result (List X × Reading) CodecFault)
    → count ≤ i → with_front front (items_at item (count - i) r) ≡ total → total ≡ Ok (front, r)
unfolding items_at
items_done item front count i r total le so_far =
    let k : count - i ≡ 0 = omega arith in
    let one : with_front front (items_at item (count - i) r) ≡ Ok (front, r) = rw k (ap (λ l. Ok (l, r)) (append-nil front)) in
    sym so_far ∙ one
