-- What is written for a transaction that fits is read as it.
use Rattle.std.proofs.Common.{◌≡◌, ℕ, zero, suc, ◌+◌, ◌-◌, ◌*◌, ◌/◌, ◌%◌, ◌^◌, ◌<◌, ◌≤◌, ℤ, pos, negsuc, Bool, true, false, cond, nat_lt, List, [], ◌∷◌, ◌++◌, length, Option, Some, None, Result, Ok, Err, refl, sym, ap, ◌∙◌, subst, append_assoc, append-nil, length-append, add_assoc, add-zero, arith, le-ltb, ltb-true}
use Rattle.std.specs.Prelude.{nat_le, ◌==◌}
use Rattle.std.specs.Ordering.{int_cmp}
use Rattle.std.specs.declared.cmp.Ordering.TheVariants.{Less, Equal, Greater}
use Rattle.std.specs.Int.{w8, w32, w64, to_be_bytes, byte_at, bytes_high_first, cast_signed, cast_unsigned}
use Rattle.std.proofs.Math.Nat.{pow-suc, div-one, div-eq_of_lt, div-add-mod, div-div-eq-div-mul}
use Rattle.std.proofs.lemmas.Nat.{mod_below, div-add-mod'}
use Rattle.std.proofs.lemmas.Bool.{le-leb}
use Rattle.std.proofs.lemmas.Int.{ints, to_z-of_z}
use Rattle.std.proofs.lemmas.List.{take_at, drop_at}
use Rattle.kz_types.specs.Ordered.{Rises, RisesAbove}
use Rattle.kz_types.specs.PathRule.{is_path}
use Rattle.kz_types.specs.declared.tree.Op.{Op}
use Rattle.kz_types.specs.declared.tree.Op.TheVariants.{Create, Set, Delete, Check}
use Rattle.kz_spec_data.specs.Fields.{Reading, Format, ◌>>=◌, start, front, past}
use Rattle.kz_spec_data.specs.Forms.{◌⊗◌, items_at, items_written, AllFit}
use Rattle.kz_spec_data.specs.declared.files.Txn.{Txn}
use Rattle.kz_spec_data.specs.declared.files.Txn.TheVariants.{Multi, LoadRows, LoadEnd, Begin, End}
use Rattle.kz_spec_data.specs.Transactions.{Flaw, at_byte, goes_on, digits_at, within, int, count, field_or_flaw, byte_field, path_or_flaw, path, max_session, session, owner_of, owner, flag, list_of, sessions_at, sessions, create, set, at_version, op_at, op, row_of, fields_of, row, multi, load_rows, load_end, move, fields_at, txn_alone, txn_of, txn_written, TxnFits}
use Rattle.kz_txn.proofs.Numbers.{scale_some, owner_some, both_true}

-- This reading takes these bytes as this value, whatever follows.
abbrev pub Takes : {X : Type 0} → (Reading → Result (X × Reading) Flaw) → X → List ℕ → List ℕ → ℕ → Type 0
Takes read x bytes rest at = read (record { at = at; left = bytes ++ rest }) ≡ Ok (x, record { at = at + length bytes; left = rest })

-- What is written for a value that fits is read as it, whatever follows.
pub record Back {X : Type 0} (f : Format Flaw X) : Type 0 where
  pub back : (x : X) (rest : List ℕ) (at : ℕ) → f.fits x → Takes f.read x (f.written x) rest at

-- two readings, one after the other
taken_then : {X Y : Type 0} (m : Reading → Result (X × Reading) Flaw) (k : X × Reading → Result (Y × Reading) Flaw) (x : X) (y : Y) (a b rest : List ℕ) (at : ℕ)
    → Takes m x a (b ++ rest) at
    → k (x, record { at = at + length a; left = b ++ rest }) ≡ Ok (y, record { at = (at + length a) + length b; left = rest })
    → m (record { at = at; left = (a ++ b) ++ rest }) >>= k ≡ Ok (y, record { at = at + length (a ++ b); left = rest })
taken_then m k x y a b rest at h g =
    ap (λ bytes. m (record { at = at; left = bytes }) >>= k) (append_assoc a b rest)
    ∙ ap (λ n. n >>= k) h
    ∙ g
    ∙ ap (λ n. Ok (y, record { at = n; left = rest })) (add_assoc at (length a) (length b) ∙ ap (λ n. at + n) (sym (length-append a b)))

pair_back : {X Y : Type 0} (f : Format Flaw X) (g : Format Flaw Y) → Back f → Back g → Back (f ⊗ g)
pair_back f g bf bg = record {
  back = λ p rest at fits.
      taken_then f.read (λ x. g.read x.1 >>= λ y. Ok ((x.0, y.0), y.1)) p.0 p (f.written p.0) (g.written p.1) rest at
      (bf.back p.0 (g.written p.1 ++ rest) at fits.0)
      (ap (λ m. m >>= λ y. Ok ((p.0, y.0), y.1)) (bg.back p.1 rest (at + length (f.written p.0)) fits.1));
}

cond_true : {A : Type 0} (b : Bool) (x y : A) → b ≡ true → cond b x y ≡ x
cond_true true x y e = refl
cond_true false x y e = absurd (cc)

cond_false : {A : Type 0} (b : Bool) (x y : A) → b ≡ false → cond b x y ≡ y
cond_false true x y e = absurd (cc)
cond_false false x y e = refl

-- ---- numbers

byte_is : (n x : ℕ) → byte_at n x ≡ x / 256 ^ n % 256
byte_is zero x = ap (λ (k : ℕ). k % 256) (sym (div-one x))
byte_is (suc n) x = refl

next_number : (n x : ℕ) → x / 256 ^ suc n * 256 + byte_at n x ≡ x / 256 ^ n
next_number n x =
    let power : 256 ^ suc n ≡ 256 ^ n * 256 = pow-suc 256 n in
    let parts : x / 256 ^ n / 256 ≡ x / (256 ^ n * 256) = div-div-eq-div-mul x (256 ^ n) 256 in
    let high : x / 256 ^ suc n ≡ x / 256 ^ n / 256 = ap (λ (k : ℕ). x / k) power ∙ sym parts in
    let whole : x / 256 ^ n / 256 * 256 + x / 256 ^ n % 256 ≡ x / 256 ^ n = div-add-mod' (x / 256 ^ n) 256 in
    ap (λ (k : ℕ). k * 256 + byte_at n x) high ∙ ap (λ (k : ℕ). x / 256 ^ n / 256 * 256 + k) (byte_is n x) ∙ whole

goes : (n x least most : ℕ) → least ≤ x → x ≤ most → goes_on n (x / 256 ^ n) least most ≡ true
goes n x least most low high =
    let some : 0 < 256 ^ n = scale_some n in
    let whole : 256 ^ n * (x / 256 ^ n) + x % 256 ^ n ≡ x = div-add-mod x (256 ^ n) in
    let rest : x % 256 ^ n < 256 ^ n = mod_below x (256 ^ n) some in
    let up : least ≤ x / 256 ^ n * 256 ^ n + (256 ^ n - 1) = omega (arith, some, whole, rest) in
    let down : x / 256 ^ n * 256 ^ n ≤ most = omega (arith, whole) in
    both_true (nat_le least (x / 256 ^ n * 256 ^ n + (256 ^ n - 1))) (nat_le (x / 256 ^ n * 256 ^ n) most)
    (le-leb least (x / 256 ^ n * 256 ^ n + (256 ^ n - 1)) up) (le-leb (x / 256 ^ n * 256 ^ n) most down)

digits_back : (n x least most at : ℕ) (rest : List ℕ) → least ≤ x → x ≤ most → digits_at n (x / 256 ^ n) least most at (bytes_high_first n x ++ rest) ≡ Ok (x, record { at = at + n; left = rest })
unfolding digits_at
digits_back zero x least most at rest low high =
    ap (λ (k : ℕ). Ok (k, record { at = at; left = rest })) (div-one x) ∙ ap (λ (k : ℕ). Ok (x, record { at = k; left = rest })) (sym (add-zero at))
digits_back (suc n) x least most at rest low high =
    ap (λ (k : ℕ). cond (goes_on n k least most) (digits_at n k least most (at + 1) (bytes_high_first n x ++ rest)) (Err (at_byte at))) (next_number n x)
    ∙ cond_true (goes_on n (x / 256 ^ n) least most) (digits_at n (x / 256 ^ n) least most (at + 1) (bytes_high_first n x ++ rest)) (Err (at_byte at)) (goes n x least most low high)
    ∙ digits_back n x least most (at + 1) rest low high
    ∙ ap (λ (k : ℕ). Ok (x, record { at = k; left = rest })) (omega arith)

number_back : (n x least most at : ℕ) (rest : List ℕ) → x < 256 ^ n → least ≤ x → x ≤ most → digits_at n 0 least most at (bytes_high_first n x ++ rest) ≡ Ok (x, record { at = at + n; left = rest })
number_back n x least most at rest lt low high =
    subst (λ (k : ℕ). digits_at n k least most at (bytes_high_first n x ++ rest) ≡ Ok (x, record { at = at + n; left = rest })) (div-eq_of_lt lt) (digits_back n x least most at rest low high)

kind_back : (kind least most at : ℕ) (rest : List ℕ) → kind < 256 → least ≤ kind → kind ≤ most → Takes (within w8 least most).read kind (bytes_high_first 1 kind) rest at
kind_back kind least most at rest lt low high = number_back 1 kind least most at rest lt low high

wide_back : (x least most at : ℕ) (rest : List ℕ) → x < 2 ^ 64 → least ≤ x → x ≤ most → Takes (within w64 least most).read x (to_be_bytes w64 x) rest at
wide_back x least most at rest lt low high = number_back 8 x least most at rest lt low high

count_back : (n at : ℕ) (rest : List ℕ) → n < 2 ^ 32 → Takes count.read n (to_be_bytes w32 n) rest at
count_back n at rest lt = number_back 4 n 0 (2 ^ 32 - 1) at rest lt (omega arith) (omega arith)

-- a number that was read, seen as another one
as_number : (m : Result (ℕ × Reading) Flaw) (made : ℕ → ℤ) (n : ℕ) (z : ℤ) (r : Reading) → m ≡ Ok (n, r) → made n ≡ z → ◌>>=◌ {B = ℤ × Reading} m (λ x. Ok (made x.0, x.1)) ≡ Ok (z, r)
as_number m made n z r e same = ap (λ (k : Result (ℕ × Reading) Flaw). ◌>>=◌ {B = ℤ × Reading} k (λ x. Ok (made x.0, x.1))) e ∙ ap (λ (k : ℤ). Ok (k, r)) same

int32_back : Back (int w32)
int32_back = record {
  back = λ z rest at fits.
      let bound : cast_unsigned w32 z < 2 ^ 32 = omega (arith, ints) in
      as_number (count.read (record { at = at; left = to_be_bytes w32 (cast_unsigned w32 z) ++ rest })) (cast_signed w32) (cast_unsigned w32 z) z (record { at = at + 4; left = rest })
      (count_back (cast_unsigned w32 z) at rest bound) (to_z-of_z w32 z fits);
}

int64_back : Back (int w64)
int64_back = record {
  back = λ z rest at fits.
      let bound : cast_unsigned w64 z < 2 ^ 64 = omega (arith, ints) in
      as_number ((within w64 0 (2 ^ 64 - 1)).read (record { at = at; left = to_be_bytes w64 (cast_unsigned w64 z) ++ rest })) (cast_signed w64) (cast_unsigned w64 z) z (record { at = at + 8; left = rest })
      (wide_back (cast_unsigned w64 z) 0 (2 ^ 64 - 1) at rest bound (omega arith) (omega (arith, bound))) (to_z-of_z w64 z fits);
}

-- ---- bytes and paths

front_back : (x rest : List ℕ) (at : ℕ) → field_or_flaw ((front (length x)).read (record { at = at; left = x ++ rest })) ≡ Ok (x, record { at = at + length x; left = rest })
front_back x rest at =
    let long : length x ≤ length (x ++ rest) = omega (arith, length-append x rest) in
    ap field_or_flaw
    (cond_false (nat_lt (length (x ++ rest)) (length x)) _ _ (le-ltb (length (x ++ rest)) (length x) long)
    ∙ ap (λ t. Ok (t, past (length x) (record { at = at; left = x ++ rest }))) (take_at x rest (length x) refl)
    ∙ ap (λ d. Ok (x, record { at = at + length x; left = d })) (drop_at x rest (length x) refl))

bytes_back : Back byte_field
bytes_back = record {
  back = λ x rest at fits.
      taken_then count.read (λ n. field_or_flaw ((front n.0).read n.1)) (length x) x (to_be_bytes w32 (length x)) x rest at
      (count_back (length x) at (x ++ rest) fits) (front_back x rest (at + 4));
}

path_back : Back path
path_back = record {
  back = λ x rest at fits.
      ap (λ m. m >>= path_or_flaw) (bytes_back.back x rest at fits.1)
      ∙ cond_true (is_path x) _ _ fits.0;
}

-- ---- sessions and owners

session_at : (s : ℤ) (rest : List ℕ) (at : ℕ) → session.fits s → Takes session.read s (session.written s) rest at
session_at (pos n) rest at fits =
    let low : 1 ≤ n = omega (arith, ints, fits.0) in
    let high : n ≤ max_session = omega (arith, ints, fits.1) in
    ap (λ m. m >>= λ x. Ok (pos x.0, x.1)) (wide_back n 1 max_session at rest (omega (arith, high)) low high)
session_at (negsuc n) rest at fits = absurd (omega (arith, ints, fits.0))

session_back : Back session
session_back = record { back = session_at }

owner_at : (o : Option ℤ) (rest : List ℕ) (at : ℕ) → owner.fits o → Takes owner.read o (owner.written o) rest at
owner_at None rest at fits = ap (λ m. m >>= λ x. Ok (owner_of x.0, x.1)) (wide_back 0 0 max_session at rest (omega arith) (omega arith) (omega arith))
owner_at (Some (pos n)) rest at fits =
    let low : 1 ≤ n = omega (arith, ints, fits.0) in
    let high : n ≤ max_session = omega (arith, ints, fits.1) in
    ap (λ m. m >>= λ x. Ok (owner_of x.0, x.1)) (wide_back n 0 max_session at rest (omega (arith, high)) (omega arith) high)
    ∙ ap (λ (k : Option ℤ). Ok (k, record { at = at + 8; left = rest })) (owner_some n (λ e. omega (arith, low, e)))
owner_at (Some (negsuc n)) rest at fits = absurd (omega (arith, ints, fits.0))

owner_back : Back owner
owner_back = record { back = owner_at }

flag_at : (b : Bool) (rest : List ℕ) (at : ℕ) → Takes flag.read b (flag.written b) rest at
flag_at false rest at = ap (λ m. m >>= λ x. Ok (x.0 == 1, x.1)) (kind_back 0 0 1 at rest (omega arith) (omega arith) (omega arith))
flag_at true rest at = ap (λ m. m >>= λ x. Ok (x.0 == 1, x.1)) (kind_back 1 0 1 at rest (omega arith) (omega arith) (omega arith))

flag_back : Back flag
flag_back = record { back = λ b rest at fits. flag_at b rest at }

-- ---- lists

items_back : {X : Type 0} (f : Format Flaw X) → Back f → (xs : List X) (rest : List ℕ) (at : ℕ) → AllFit f.fits xs → Takes (items_at f.read (length xs)) xs (items_written f.written xs) rest at
unfolding items_at
items_back f bf [] rest at fits = ap (λ (k : ℕ). Ok ([], record { at = k; left = rest })) (sym (add-zero at))
items_back f bf (x ∷ xs) rest at fits =
    taken_then f.read (λ y. items_at f.read (length xs) y.1 >>= λ ys. Ok (y.0 ∷ ys.0, ys.1)) x (x ∷ xs) (f.written x) (items_written f.written xs) rest at
    (bf.back x (items_written f.written xs ++ rest) at fits.0)
    (ap (λ m. m >>= λ ys. Ok (x ∷ ys.0, ys.1)) (items_back f bf xs rest (at + length (f.written x)) fits.1))

list_back : {X : Type 0} (f : Format Flaw X) → Back f → Back (list_of f)
list_back f bf = record {
  back = λ xs rest at fits.
      taken_then count.read (λ n. items_at f.read n.0 n.1) (length xs) xs (to_be_bytes w32 (length xs)) (items_written f.written xs) rest at
      (count_back (length xs) at (items_written f.written xs ++ rest) fits.0)
      (items_back f bf xs rest (at + 4) fits.1);
}

-- ---- sessions that rise

is_less : (b c : Bool) → cond b Less (cond c Greater Equal) ≡ Less → b ≡ true
is_less true c e = refl
is_less false true e = absurd (cc)
is_less false false e = absurd (cc)

below_next : (k n : ℕ) → int_cmp (pos k) (pos n) ≡ Less → k < n
below_next k n e = ltb-true k n (is_less (nat_lt k n) (nat_lt n k) e)

-- above a session there is room for those that follow
room_above : (k : ℕ) (ss : List ℤ) → RisesAbove int_cmp (λ s. s) (pos k) ss → AllFit session.fits ss → k ≤ max_session → k + length ss ≤ max_session
room_above k [] rises fits le = omega (arith, le)
room_above k (pos n ∷ ss) rises fits le =
    let lt : k < n = below_next k n rises.0 in
    let high : n ≤ max_session = omega (arith, ints, fits.0.1) in
    let more : n + length ss ≤ max_session = room_above n ss rises.1 fits.1 high in
    omega (arith, lt, more)
room_above k (negsuc n ∷ ss) rises fits le = absurd (omega (arith, ints, fits.0.0))

rises_on : (s : ℤ) (ss : List ℤ) → RisesAbove int_cmp (λ x. x) s ss → Rises int_cmp (λ x. x) ss
rises_on s [] rises = tt
rises_on s (x ∷ ss) rises = rises.1

first_above : (s k : ℤ) (ss more : List ℤ) → ss ≡ k ∷ more → RisesAbove int_cmp (λ x. x) s ss → int_cmp s k ≡ Less
first_above s k ss more e rises = (subst (λ l. RisesAbove int_cmp (λ x. x) s l) e rises).0

some_least : (ss : List ℤ) → AllFit session.fits ss → (n : ℕ) (more : List ℤ) → ss ≡ pos n ∷ more → 1 ≤ n
some_least ss fits n more e =
    let all = subst (λ l. AllFit session.fits l) e fits in
    omega (arith, ints, all.0.0)

rising_back : (ss : List ℤ) (least : ℕ) (rest : List ℕ) (at : ℕ) → Rises int_cmp (λ s. s) ss → AllFit session.fits ss → ((n : ℕ) (more : List ℤ) → ss ≡ pos n ∷ more → least ≤ n)
    → Takes (sessions_at (length ss) least) ss (items_written session.written ss) rest at
unfolding sessions_at
rising_back [] least rest at rises fits from = ap (λ (k : ℕ). Ok ([], record { at = k; left = rest })) (sym (add-zero at))
rising_back (pos n ∷ ss) least rest at rises fits from =
    let low : least ≤ n = from n ss refl in
    let high : n ≤ max_session = omega (arith, ints, fits.0.1) in
    let room : n + length ss ≤ max_session = room_above n ss rises fits.1 high in
    let most : n ≤ max_session - length ss = omega (arith, room) in
    taken_then (within w64 least (max_session - length ss)).read (λ s. sessions_at (length ss) (s.0 + 1) s.1 >>= λ more. Ok (pos s.0 ∷ more.0, more.1)) n (pos n ∷ ss) (session.written (pos n)) (items_written session.written ss) rest at
    (wide_back n least (max_session - length ss) at (items_written session.written ss ++ rest) (omega (arith, high)) low most)
    (ap (λ m. m >>= λ more. Ok (pos n ∷ more.0, more.1))
    (rising_back ss (n + 1) rest (at + 8) (rises_on (pos n) ss rises) fits.1 (λ k more e. let lt : n < k = below_next n k (first_above (pos n) (pos k) ss more e rises) in omega (arith, lt))))
rising_back (negsuc n ∷ ss) least rest at rises fits from = absurd (omega (arith, ints, fits.0.0))

sessions_back : Back sessions
sessions_back = record {
  back = λ ss rest at fits.
      taken_then count.read (λ n. sessions_at n.0 1 n.1) (length ss) ss (to_be_bytes w32 (length ss)) (items_written session.written ss) rest at
      (count_back (length ss) at (items_written session.written ss ++ rest) fits.1.0)
      (rising_back ss 1 rest (at + 4) fits.0 fits.1.1 (some_least ss fits.1.1));
}

-- ---- operations and znodes

create_back : Back create
create_back = pair_back _ _ path_back (pair_back _ _ bytes_back owner_back)

set_back : Back set
set_back = pair_back _ _ path_back (pair_back _ _ int32_back bytes_back)

at_version_back : Back at_version
at_version_back = pair_back _ _ path_back int32_back

op_back_at : (o : Op) (rest : List ℕ) (at : ℕ) → op.fits o → Takes op.read o (op.written o) rest at
op_back_at (Create p body o) rest at fits =
    taken_then (within w8 1 4).read op_at 1 (Create p body o) (1 ∷ []) (create.written (p, (body, o))) rest at
    (kind_back 1 1 4 at (create.written (p, (body, o)) ++ rest) (omega arith) (omega arith) (omega arith))
    (ap (λ m. m >>= λ x. Ok (Create x.0.0 x.0.1.0 x.0.1.1, x.1)) (create_back.back (p, (body, o)) rest (at + 1) fits))
op_back_at (Set p body version) rest at fits =
    taken_then (within w8 1 4).read op_at 2 (Set p body version) (2 ∷ []) (set.written (p, (version, body))) rest at
    (kind_back 2 1 4 at (set.written (p, (version, body)) ++ rest) (omega arith) (omega arith) (omega arith))
    (ap (λ m. m >>= λ x. Ok (Set x.0.0 x.0.1.1 x.0.1.0, x.1)) (set_back.back (p, (version, body)) rest (at + 1) fits))
op_back_at (Delete p version) rest at fits =
    taken_then (within w8 1 4).read op_at 3 (Delete p version) (3 ∷ []) (at_version.written (p, version)) rest at
    (kind_back 3 1 4 at (at_version.written (p, version) ++ rest) (omega arith) (omega arith) (omega arith))
    (ap (λ m. m >>= λ x. Ok (Delete x.0.0 x.0.1, x.1)) (at_version_back.back (p, version) rest (at + 1) fits))
op_back_at (Check p version) rest at fits =
    taken_then (within w8 1 4).read op_at 4 (Check p version) (4 ∷ []) (at_version.written (p, version)) rest at
    (kind_back 4 1 4 at (at_version.written (p, version) ++ rest) (omega arith) (omega arith) (omega arith))
    (ap (λ m. m >>= λ x. Ok (Check x.0.0 x.0.1, x.1)) (at_version_back.back (p, version) rest (at + 1) fits))

op_back : Back op
op_back = record { back = op_back_at }

row_fields_back : Back (path ⊗ byte_field ⊗ int w32 ⊗ owner ⊗ int w64 ⊗ int w64 ⊗ int w64)
row_fields_back = pair_back _ _ path_back (pair_back _ _ bytes_back (pair_back _ _ int32_back (pair_back _ _ owner_back (pair_back _ _ int64_back (pair_back _ _ int64_back int64_back)))))

row_back : Back row
row_back = record { back = λ r rest at fits. ap (λ m. m >>= λ x. Ok (row_of x.0, x.1)) (row_fields_back.back (fields_of r) rest at fits) }

-- ---- transactions

multi_back : Back multi
multi_back = pair_back _ _ int64_back (list_back op op_back)

load_rows_back : Back load_rows
load_rows_back = pair_back _ _ flag_back (list_back row row_back)

load_end_back : Back load_end
load_end_back = pair_back _ _ int64_back sessions_back

move_back : Back move
move_back = pair_back _ _ int64_back session_back

fields_back : (t : Txn) (rest : List ℕ) (at : ℕ) → TxnFits t → Takes (λ r. (within w8 1 5).read r >>= fields_at) t (txn_written t) rest at
unfolding txn_written
fields_back (Multi zxid ops) rest at fits =
    taken_then (within w8 1 5).read fields_at 1 (Multi zxid ops) (1 ∷ []) (multi.written (zxid, ops)) rest at
    (kind_back 1 1 5 at (multi.written (zxid, ops) ++ rest) (omega arith) (omega arith) (omega arith))
    (ap (λ m. m >>= λ x. Ok (Multi x.0.0 x.0.1, x.1)) (multi_back.back (zxid, ops) rest (at + 1) fits))
fields_back (LoadRows first rows) rest at fits =
    taken_then (within w8 1 5).read fields_at 2 (LoadRows first rows) (2 ∷ []) (load_rows.written (first, rows)) rest at
    (kind_back 2 1 5 at (load_rows.written (first, rows) ++ rest) (omega arith) (omega arith) (omega arith))
    (ap (λ m. m >>= λ x. Ok (LoadRows x.0.0 x.0.1, x.1)) (load_rows_back.back (first, rows) rest (at + 1) fits))
fields_back (LoadEnd zxid live) rest at fits =
    taken_then (within w8 1 5).read fields_at 3 (LoadEnd zxid live) (3 ∷ []) (load_end.written (zxid, live)) rest at
    (kind_back 3 1 5 at (load_end.written (zxid, live) ++ rest) (omega arith) (omega arith) (omega arith))
    (ap (λ m. m >>= λ x. Ok (LoadEnd x.0.0 x.0.1, x.1)) (load_end_back.back (zxid, live) rest (at + 1) fits))
fields_back (Begin zxid s) rest at fits =
    taken_then (within w8 1 5).read fields_at 4 (Begin zxid s) (4 ∷ []) (move.written (zxid, s)) rest at
    (kind_back 4 1 5 at (move.written (zxid, s) ++ rest) (omega arith) (omega arith) (omega arith))
    (ap (λ m. m >>= λ x. Ok (Begin x.0.0 x.0.1, x.1)) (move_back.back (zxid, s) rest (at + 1) fits))
fields_back (End zxid s) rest at fits =
    taken_then (within w8 1 5).read fields_at 5 (End zxid s) (5 ∷ []) (move.written (zxid, s)) rest at
    (kind_back 5 1 5 at (move.written (zxid, s) ++ rest) (omega arith) (omega arith) (omega arith))
    (ap (λ m. m >>= λ x. Ok (End x.0.0 x.0.1, x.1)) (move_back.back (zxid, s) rest (at + 1) fits))

-- what is written for a transaction that fits is read as it
pub read_back : (t : Txn) → TxnFits t → txn_of (txn_written t) ≡ Ok t
unfolding txn_of
read_back t fits =
    ap (λ bytes. ((within w8 1 5).read (start bytes) >>= fields_at) >>= txn_alone) (sym (append-nil (txn_written t)))
    ∙ ap (λ m. m >>= txn_alone) (fields_back t [] 0 fits)
