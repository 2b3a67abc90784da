-- Steps of the loops that read items.
use Rattle.std.proofs.Common.{◌≡◌, ℕ, suc, ◌+◌, ◌-◌, ◌<◌, ◌≤◌, ℤ, pos, List, [], ◌∷◌, ◌++◌, Result, Ok, Err, refl, sym, ap, ◌∙◌, append_assoc, arith, Bool, false, cond, length}
use Rattle.std.specs.Prelude.{◌==◌}
use Rattle.std.proofs.lemmas.Bool.{ne_eqb}
use Rattle.std.proofs.lemmas.List.{append-nil}
use Rattle.std.specs.Int.{w8, w64}
use Rattle.kz_spec_data.specs.Fields.{Reading, ◌>>=◌, start}
use Rattle.kz_spec_data.specs.Forms.{items_at}
use Rattle.kz_spec_data.specs.Transactions.{Flaw, at_byte, IsAt, within, max_session, sessions_at, fields_at, txn_alone, txn_of}
use Rattle.kz_spec_data.specs.declared.files.Txn.{Txn}
use Rattle.kz_txn.specs.declared.fault.TxnFault.{TxnFault}
use Rattle.kz_txn.specs.declared.fault.TxnFault.TheVariants.{Malformed, NoMemory}
use Rattle.kz_txn.specs.Reads.{Fails}

-- a fault of a part is the fault of the whole
pub fails_as : {Y Z : Type 0} (e : TxnFault) (a : Result Y Flaw) (b : Result Z Flaw) → ((f : Flaw) → a ≡ Err f → b ≡ Err f) → Fails e a → Fails e b
fails_as (Malformed at) a b h p = (p.0, h p.0 p.1, p.2)
fails_as NoMemory a b h p = tt

-- what was read before, and what is still read
abbrev pub with_front : {X : Type 0} → List X → Result (List X × Reading) Flaw → Result (List X × Reading) Flaw
with_front front read = read >>= λ x. Ok (front ++ x.0, x.1)

regroup : {X : Type 0} (front : List X) (x : X) (read : Result (List X × Reading) Flaw) → with_front front (read >>= λ xs. Ok (x ∷ xs.0, xs.1)) ≡ with_front (front ++ x ∷ []) read
regroup front x (Ok xs) = ap (λ l. Ok (l, xs.1)) (simp append_assoc)
regroup front x (Err e) = refl

pub items_step : {X : Type 0} (item : Reading → Result (X × Reading) Flaw) (front : List X) (count i : ℕ) (r : Reading) (x : X) (after : Reading) (total : Result (List X × Reading) Flaw)
    → i < count → item r ≡ Ok (x, after) → with_front front (items_at item (count - i) r) ≡ total → with_front (front ++ x ∷ []) (items_at item (count - (i + 1)) after) ≡ total
unfolding items_at
items_step item front count i r x after total lt e so_far =
    let k : count - i ≡ suc (count - (i + 1)) = omega arith in
    let one : with_front front (items_at item (count - i) r) ≡ with_front (front ++ x ∷ []) (items_at item (count - (i + 1)) after) = rw (k, e) (regroup front x (items_at item (count - (i + 1)) after)) in
    sym one ∙ so_far

pub items_fault : {X : Type 0} (e : TxnFault) (item : Reading → Result (X × Reading) Flaw) (front : List X) (count i : ℕ) (r : Reading) (total : Result (List X × Reading) Flaw)
    → i < count → Fails e (item r) → with_front front (items_at item (count - i) r) ≡ total → Fails e total
unfolding items_at
items_fault e item front count i r total lt fails so_far =
    fails_as e (item r) total (λ f at_fault.
    let k : count - i ≡ suc (count - (i + 1)) = omega arith in
    let one : with_front front (items_at item (count - i) r) ≡ Err f = rw (k, at_fault) refl in
    sym so_far ∙ one) fails

pub items_done : {X : Type 0} (item : Reading → Result (X × Reading) Flaw) (front : List X) (count i : ℕ) (r : Reading) (total : Result (List X × Reading) Flaw)
    → count ≤ i → with_front front (items_at item (count - i) r) ≡ total → total ≡ Ok (front, r)
unfolding items_at
items_done item front count i r total le so_far =
    let k : count - i ≡ 0 = omega arith in
    let one : with_front front (items_at item (count - i) r) ≡ Ok (front, r) = rw k (ap (λ l. Ok (l, r)) (append-nil front)) in
    sym so_far ∙ one

-- ---- sessions: after each there is room for those that follow

pub sessions_step : (front : List ℤ) (count i least s : ℕ) (r after : Reading) (total : Result (List ℤ × Reading) Flaw)
    → i < count → (within w64 least (max_session - (count - (i + 1)))).read r ≡ Ok (s, after) → with_front front (sessions_at (count - i) least r) ≡ total
    → with_front (front ++ pos s ∷ []) (sessions_at (count - (i + 1)) (s + 1) after) ≡ total
unfolding sessions_at
sessions_step front count i least s r after total lt e so_far =
    let k : count - i ≡ suc (count - (i + 1)) = omega arith in
    let one : with_front front (sessions_at (count - i) least r) ≡ with_front (front ++ pos s ∷ []) (sessions_at (count - (i + 1)) (s + 1) after) = rw (k, e) (regroup front (pos s) (sessions_at (count - (i + 1)) (s + 1) after)) in
    sym one ∙ so_far

pub sessions_fault : (e : TxnFault) (front : List ℤ) (count i least : ℕ) (r : Reading) (total : Result (List ℤ × Reading) Flaw)
    → i < count → Fails e ((within w64 least (max_session - (count - (i + 1)))).read r) → with_front front (sessions_at (count - i) least r) ≡ total → Fails e total
unfolding sessions_at
sessions_fault e front count i least r total lt fails so_far =
    fails_as e ((within w64 least (max_session - (count - (i + 1)))).read r) total (λ f at_fault.
    let k : count - i ≡ suc (count - (i + 1)) = omega arith in
    let one : with_front front (sessions_at (count - i) least r) ≡ Err f = rw (k, at_fault) refl in
    sym so_far ∙ one) fails

pub sessions_done : (front : List ℤ) (count i least : ℕ) (r : Reading) (total : Result (List ℤ × Reading) Flaw)
    → count ≤ i → with_front front (sessions_at (count - i) least r) ≡ total → total ≡ Ok (front, r)
unfolding sessions_at
sessions_done front count i least r total le so_far =
    let k : count - i ≡ 0 = omega arith in
    let one : with_front front (sessions_at (count - i) least r) ≡ Ok (front, r) = rw k (ap (λ l. Ok (l, r)) (append-nil front)) in
    sym so_far ∙ one

-- ---- what stands after a transaction

-- a byte is left: it is the first bad one
pub more_left : (bytes : List ℕ) (first r : Reading) (t : Txn) (b : ℕ) (rest : List ℕ) (at : ℕ) → first ≡ start bytes → (within w8 1 5).read first >>= fields_at ≡ Ok (t, r) → r.left ≡ b ∷ rest → at ≡ r.at
    → (flaw : Flaw) × (txn_of bytes ≡ Err flaw) × IsAt flaw at
unfolding txn_of
more_left bytes first r t b rest at begins read left place =
    let count : length r.left ≡ length (b ∷ rest) = ap length left in
    let some : (length r.left == 0) ≡ false = ne_eqb (length r.left) 0 (λ none. omega (arith, count, none)) in (
      at_byte r.at,
      ap (λ (s : Reading). ((within w8 1 5).read s >>= fields_at) >>= txn_alone) (sym begins)
          ∙ ap (λ m. m >>= txn_alone) read
          ∙ ap (λ (c : Bool). cond c (Ok t) (Err (at_byte r.at))) some,
      place,
    )
