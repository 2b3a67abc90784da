-- Bytes and numbers of fixed size, and single fields of a record.
use Rattle.std.proofs.Common.{◌≡◌, ℕ, zero, suc, ◌+◌, ◌%◌, ◌^◌, ◌<◌, ◌≤◌, ℤ, Bool, true, false, cond, nat_lt, ◌==◌, List, [], ◌∷◌, ◌++◌, length, get_or, take, Option, Some, None, Result, Ok, Err, refl, sym, ap, ◌∙◌, subst, length-append, arith, rules, le-ltb, ltb-false, eqb-true, FitsSigned}
use Rattle.std.specs.Int.{Width, w8, w16, w32, w64, byte_len, from_be_bytes, to_be_bytes, cast_signed, cast_unsigned}
use Rattle.std.proofs.lemmas.Int.{ints, of_z-to_z, to_z-of_z}
use Rattle.std.proofs.lemmas.List.{take_at, drop_at, take-append-drop, length-take-le}
use Rattle.std.proofs.lemmas.Nat.{be_bytes_2, be_bytes_4, be_bytes_8, from_be_bytes-to_be_bytes_2, from_be_bytes-to_be_bytes_4, from_be_bytes-to_be_bytes_8}
use mir.Val.{bits}
use Rattle.kz_types.specs.declared.record.ByteFault.{ByteFault}
use Rattle.kz_types.specs.declared.record.ByteFault.TheVariants as bytes
use Rattle.kz_types.specs.declared.record.CodecFault.{CodecFault}
use Rattle.kz_types.specs.declared.record.CodecFault.TheVariants as codec
use Rattle.kz_spec_data.specs.Fields.{Reading, Format, ◌>>=◌, front, end_of, past, unsigned_number, signed_number, id}
use Rattle.kz_spec_data.specs.Forms.{field, with_field_fault, non_null, there, flag, flag_at, flag_byte}
use Rattle.kz_laws_values.proofs.Exact.{AreSmall, came, ok_same, Takes, Comes, Exact, small_front, mapped_exact}

-- ---- tests

-- a test that fails at true was passed
pub passed_false : {A E : Type 0} (b : Bool) (e : E) (m : Result A E) (y : A) → cond b (Err e) m ≡ Ok y → (b ≡ false) × (m ≡ Ok y)
passed_false true e m y h = absurd (cc)
passed_false false e m y h = (refl, h)

-- a test that fails at false was passed
pub passed_true : {A E : Type 0} (b : Bool) (e : E) (m : Result A E) (y : A) → cond b m (Err e) ≡ Ok y → (b ≡ true) × (m ≡ Ok y)
passed_true true e m y h = (refl, h)
passed_true false e m y h = absurd (cc)

pub cond_true : {A : Type 0} (b : Bool) (x y : A) → b ≡ true → cond b x y ≡ x
cond_true true x y e = refl
cond_true false x y e = absurd (cc)

pub cond_false : {A : Type 0} (b : Bool) (x y : A) → b ≡ false → cond b x y ≡ y
cond_false true x y e = absurd (cc)
cond_false false x y e = refl

-- ---- so many bytes

pub front_takes : (n : ℕ) (x rest : List ℕ) (at : ℕ) → length x ≡ n → Takes (front n).read x x rest at
front_takes n x rest at l =
    let long : n ≤ length (x ++ rest) = omega (arith, l, length-append x rest) in
    cond_false (nat_lt (length (x ++ rest)) n) _ _ (le-ltb (length (x ++ rest)) n long)
    ∙ ap (λ t. Ok (t, past n (record { at = at; left = x ++ rest }))) (take_at x rest n l)
    ∙ ap (λ d. Ok (x, record { at = at + n; left = d })) (drop_at x rest n l)
    ∙ ap (λ m. Ok (x, record { at = at + m; left = rest })) (sym l)

front_taken : (n : ℕ) (x bytes rest : List ℕ) (at : ℕ) → (front n).spells x bytes → Takes (front n).read x bytes rest at
front_taken n x bytes rest at s = subst (λ b. Takes (front n).read x b rest at) (sym s.1) (front_takes n x rest at s.0)

front_given : (n : ℕ) (x : List ℕ) (r next : Reading) → AreSmall r.left → (front n).read r ≡ Ok (x, next) → Comes (front n) x r.left next.left
front_given n x r next small h =
    let c = passed_false (nat_lt (length r.left) n) (bytes.Short (end_of r)) (Ok (take n r.left, past n r)) (x, next) h in
    let long : n ≤ length r.left = ltb-false (length r.left) n c.0 in
    subst (λ q. Comes (front n) q.0 r.left q.1.left) (ok_same (take n r.left, past n r) (x, next) c.1)
    (record { bytes = take n r.left; split = sym (take-append-drop n r.left); spelled = (length-take-le n r.left long, refl) })

pub front_exact : (n : ℕ) → Exact (front n)
front_exact n = record { taken = front_taken n; given = front_given n }

-- ---- numbers of a width

-- a number of this width and its bytes
pub record HasBytes (w : Width) : Type 0 where
  pub size : (n : ℕ) → length (to_be_bytes w n) ≡ byte_len w
  pub again : (n : ℕ) → n < 2 ^ bits w → from_be_bytes w (to_be_bytes w n) ≡ n
  pub below : (bs : List ℕ) → length bs ≡ byte_len w → AreSmall bs → from_be_bytes w bs < 2 ^ bits w
  pub there : (bs : List ℕ) → length bs ≡ byte_len w → AreSmall bs → to_be_bytes w (from_be_bytes w bs) ≡ bs

small_at : (bs : List ℕ) → AreSmall bs → (i : ℕ) → get_or bs i 0 < 256
small_at [] s i = omega arith
small_at (b ∷ bs) s zero = s.0
small_at (b ∷ bs) s (suc i) = small_at bs s.1 i

byte_below : (bs : List ℕ) → length bs ≡ 1 → AreSmall bs → from_be_bytes w8 bs < 2 ^ 8
byte_below bs l s = omega (arith, small_at bs s 0)

one_byte : (bs : List ℕ) → length bs ≡ 1 → AreSmall bs → to_be_bytes w8 (from_be_bytes w8 bs) ≡ bs
one_byte [] l s = absurd (omega arith)
one_byte (b ∷ []) l s = let h : b % 256 ≡ b = omega (arith, s.0) in ap (λ n. n ∷ []) h
one_byte (b ∷ c ∷ bs) l s = absurd (omega arith)

byte_again : (n : ℕ) → n < 2 ^ 8 → from_be_bytes w8 (to_be_bytes w8 n) ≡ n
byte_again n h = omega arith

pub bytes_8 : HasBytes w8
bytes_8 = record { size = λ n. refl; again = byte_again; below = byte_below; there = one_byte }

two_below : (bs : List ℕ) → length bs ≡ 2 → AreSmall bs → from_be_bytes w16 bs < 2 ^ 16
two_below bs l s = omega (arith, small_at bs s 0, small_at bs s 1)

pub bytes_16 : HasBytes w16
bytes_16 = record { size = λ n. refl; again = from_be_bytes-to_be_bytes_2; below = two_below; there = λ bs l s. be_bytes_2 bs _ l (small_at bs s) refl }

four_below : (bs : List ℕ) → length bs ≡ 4 → AreSmall bs → from_be_bytes w32 bs < 2 ^ 32
four_below bs l s = omega (arith, small_at bs s 0, small_at bs s 1, small_at bs s 2, small_at bs s 3)

pub bytes_32 : HasBytes w32
bytes_32 = record { size = λ n. refl; again = from_be_bytes-to_be_bytes_4; below = four_below; there = λ bs l s. be_bytes_4 bs _ l (small_at bs s) refl }

eight_below : (bs : List ℕ) → length bs ≡ 8 → AreSmall bs → from_be_bytes w64 bs < 2 ^ 64
eight_below bs l s = omega (arith, small_at bs s 0, small_at bs s 1, small_at bs s 2, small_at bs s 3, small_at bs s 4, small_at bs s 5, small_at bs s 6, small_at bs s 7)

pub bytes_64 : HasBytes w64
bytes_64 = record { size = λ n. refl; again = from_be_bytes-to_be_bytes_8; below = eight_below; there = λ bs l s. be_bytes_8 bs _ l (small_at bs s) refl }

unsigned_takes : (w : Width) → HasBytes w → (n : ℕ) (rest : List ℕ) (at : ℕ) → n < 2 ^ bits w → Takes (unsigned_number w).read n (to_be_bytes w n) rest at
unsigned_takes w has n rest at fits =
    ap (λ m. m >>= λ x. Ok (from_be_bytes w x.0, x.1)) (front_takes (byte_len w) (to_be_bytes w n) rest at (has.size n))
    ∙ ap (λ k. Ok (k, record { at = at + length (to_be_bytes w n); left = rest })) (has.again n fits)

unsigned_taken : (w : Width) → HasBytes w → (n : ℕ) (bytes rest : List ℕ) (at : ℕ) → (unsigned_number w).spells n bytes → Takes (unsigned_number w).read n bytes rest at
unsigned_taken w has n bytes rest at s = subst (λ b. Takes (unsigned_number w).read n b rest at) (sym s.1) (unsigned_takes w has n rest at s.0)

unsigned_given : (w : Width) → HasBytes w → (n : ℕ) (r next : Reading) → AreSmall r.left → (unsigned_number w).read r ≡ Ok (n, next) → Comes (unsigned_number w) n r.left next.left
unsigned_given w has n r next small h =
    let c = came ((front (byte_len w)).read r) (λ x. Ok (from_be_bytes w x.0, x.1)) (n, next) h in
    let one = front_given (byte_len w) c.value.0 r c.value.1 small c.first in
    let same : one.bytes ≡ c.value.0 = one.spelled.1 in
    let bound : AreSmall c.value.0 = subst AreSmall same (small_front one.bytes c.value.1.left (subst AreSmall one.split small)) in
    subst (λ q. Comes (unsigned_number w) q.0 r.left q.1.left) (ok_same (from_be_bytes w c.value.0, c.value.1) (n, next) c.second)
    (record {
      bytes = one.bytes;
      split = one.split;
      spelled = (has.below c.value.0 one.spelled.0 bound, same ∙ sym (has.there c.value.0 one.spelled.0 bound));
    })

pub unsigned_exact : (w : Width) → HasBytes w → Exact (unsigned_number w)
unsigned_exact w has = record { taken = unsigned_taken w has; given = unsigned_given w has }

-- a number of this width in two's complement
pub record HasSigns (w : Width) : Type 0 where
  pub bound : (z : ℤ) → FitsSigned w z → cast_unsigned w z < 2 ^ bits w
  pub fits : (n : ℕ) → n < 2 ^ bits w → FitsSigned w (cast_signed w n)

signed_taken : (w : Width) → HasBytes w → HasSigns w → (z : ℤ) (bytes rest : List ℕ) (at : ℕ) → (signed_number w).spells z bytes → Takes (signed_number w).read z bytes rest at
signed_taken w has signs z bytes rest at s =
    ap (λ m. m >>= λ x. Ok (cast_signed w x.0, x.1)) (unsigned_taken w has (cast_unsigned w z) bytes rest at (signs.bound z s.0, s.1))
    ∙ ap (λ k. Ok (k, record { at = at + length bytes; left = rest })) (to_z-of_z w z s.0)

signed_given : (w : Width) → HasBytes w → HasSigns w → (z : ℤ) (r next : Reading) → AreSmall r.left → (signed_number w).read r ≡ Ok (z, next) → Comes (signed_number w) z r.left next.left
signed_given w has signs z r next small h =
    let c = came ((unsigned_number w).read r) (λ x. Ok (cast_signed w x.0, x.1)) (z, next) h in
    let one = unsigned_given w has c.value.0 r c.value.1 small c.first in
    subst (λ q. Comes (signed_number w) q.0 r.left q.1.left) (ok_same (cast_signed w c.value.0, c.value.1) (z, next) c.second)
    (record {
      bytes = one.bytes;
      split = one.split;
      spelled = (signs.fits c.value.0 one.spelled.0, one.spelled.1 ∙ ap (to_be_bytes w) (sym (of_z-to_z w c.value.0 one.spelled.0)));
    })

pub signed_exact : (w : Width) → HasBytes w → HasSigns w → Exact (signed_number w)
signed_exact w has signs = record { taken = signed_taken w has signs; given = signed_given w has signs }

pub signs_8 : HasSigns w8
signs_8 = record { bound = λ z f. omega (arith, ints); fits = λ n h. search rules }

pub signs_16 : HasSigns w16
signs_16 = record { bound = λ z f. omega (arith, ints); fits = λ n h. search rules }

pub signs_32 : HasSigns w32
signs_32 = record { bound = λ z f. omega (arith, ints); fits = λ n h. search rules }

pub signs_64 : HasSigns w64
signs_64 = record { bound = λ z f. omega (arith, ints); fits = λ n h. search rules }

-- ---- single fields

pub id_exact : Exact id
id_exact = mapped_exact (λ x. record { bytes = x }) (λ i. i.bytes) (front 16) (record { there = λ x. refl; again = λ y. refl }) (front_exact 16)

pub lifted_same : {A : Type 0} (m : Result A ByteFault) (y : A) → with_field_fault m ≡ Ok y → m ≡ Ok y
lifted_same (Ok x) y h = cc
lifted_same (Err e) y h = absurd (cc)

pub field_exact : {X : Type 0} (f : Format ByteFault X) → Exact f → Exact (field f)
field_exact f ef = record {
  taken = λ x bytes rest at s. ap with_field_fault (ef.taken x bytes rest at s);
  given = λ x r next small h. let c = ef.given x r next small (lifted_same (f.read r) (x, next) h) in record { bytes = c.bytes; split = c.split; spelled = c.spelled };
}

there_same : {X : Type 0} (at : ℕ) (o : Option X) (mid : Reading) (x : X) (next : Reading) → there at (o, mid) ≡ Ok (x, next) → (o ≡ Some x) × (mid ≡ next)
there_same {X = X} at None mid x next h = absurd (cc)
there_same {X = X} at (Some y) mid x next h =
    let e : (y, mid) ≡ (x, next) = ok_same (y, mid) (x, next) h in
    (ap (λ (p : X × Reading). Some p.0) e, ap (λ (p : X × Reading). p.1) e)

present_given : {X : Type 0} (f : Format ByteFault (Option X)) → Exact f → (x : X) (r next : Reading) → AreSmall r.left → (non_null f).read r ≡ Ok (x, next) → Comes (non_null f) x r.left next.left
present_given f ef x r next small h =
    let c = came (with_field_fault (f.read r)) (there r.at) (x, next) h in
    let one = ef.given c.value.0 r c.value.1 small (lifted_same (f.read r) c.value c.first) in
    let same = there_same r.at c.value.0 c.value.1 x next c.second in
    record {
      bytes = one.bytes;
      split = one.split ∙ ap (λ (n : Reading). one.bytes ++ n.left) same.1;
      spelled = subst (λ o. f.spells o one.bytes) same.0 one.spelled;
    }

pub present_exact : {X : Type 0} (f : Format ByteFault (Option X)) → Exact f → Exact (non_null f)
present_exact f ef = record {
  taken = λ x bytes rest at s. ap (λ m. with_field_fault m >>= there at) (ef.taken (Some x) bytes rest at s);
  given = present_given f ef;
}

flag_takes : (b : Bool) (rest : List ℕ) (at : ℕ) → Takes flag.read b (flag_byte b ∷ []) rest at
flag_takes true rest at = refl
flag_takes false rest at = refl

flag_comes : (c : ℕ) (tail : List ℕ) (at : ℕ) (b : Bool) (next : Reading) (is_0 is_1 : Bool) → (c == 0) ≡ is_0 → (c == 1) ≡ is_1
    → cond {A = Result (Bool × Reading) CodecFault} is_0 (Ok (false, record { at = at + 1; left = tail })) (cond is_1 (Ok (true, record { at = at + 1; left = tail })) (Err (codec.BadField at))) ≡ Ok (b, next)
    → Comes flag b (c ∷ tail) next.left
flag_comes c tail at b next true is_1 e f h =
    subst (λ q. Comes flag q.0 (c ∷ tail) q.1.left) (ok_same (false, record { at = at + 1; left = tail }) (b, next) h)
    (record { bytes = 0 ∷ []; split = ap (λ n. n ∷ tail) (eqb-true c 0 e); spelled = refl })
flag_comes c tail at b next false true e f h =
    subst (λ q. Comes flag q.0 (c ∷ tail) q.1.left) (ok_same (true, record { at = at + 1; left = tail }) (b, next) h)
    (record { bytes = 1 ∷ []; split = ap (λ n. n ∷ tail) (eqb-true c 1 f); spelled = refl })
flag_comes c tail at b next false false e f h = absurd (cc)

flag_left : (left : List ℕ) (at : ℕ) (b : Bool) (next : Reading) → flag_at at left ≡ Ok (b, next) → Comes flag b left next.left
flag_left [] at b next h = absurd (cc)
flag_left (c ∷ tail) at b next h = flag_comes c tail at b next (c == 0) (c == 1) refl refl h

pub flag_exact : Exact flag
flag_exact = record {
  taken = λ b bytes rest at s. subst (λ l. Takes flag.read b l rest at) (sym s) (flag_takes b rest at);
  given = λ b r next small h. flag_left r.left r.at b next h;
}
