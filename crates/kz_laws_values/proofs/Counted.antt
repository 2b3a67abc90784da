-- Numbers of variable size, and what they count.
use Rattle.std.proofs.Common.{◌≡◌, ℕ, zero, suc, ◌+◌, ◌-◌, ◌*◌, ◌^◌, ◌<◌, ◌≤◌, ℤ, Bool, true, false, cond, nat_lt, ◌==◌, List, [], ◌∷◌, ◌++◌, length, Option, Some, None, option_map, Result, Ok, refl, sym, ap, ◌∙◌, subst, append_assoc, arith, le-ltb, lt-ltb, ltb-false, ltb-true, eqb-true, ne_eqb}
use Rattle.std.specs.Int.{w32, from_be_bytes, to_be_bytes, cast_signed, cast_unsigned}
use Rattle.std.specs.Str.{is_utf8}
use Rattle.std.proofs.lemmas.Str.{IsUtf8-from_is_utf8, is_utf8-from_IsUtf8}
use Rattle.std.proofs.lemmas.Int.{to_z-of_z, of_z-to_z}
use borrow.Author.Tests.{eqb-false}
use Rattle.kz_types.specs.declared.record.ByteFault.{ByteFault}
use Rattle.kz_types.specs.declared.record.ByteFault.TheVariants.{Overlong, NotUtf8}
use Rattle.kz_spec_data.specs.Fields.{Reading, ◌>>=◌, front, uvarint, groups_at, IsGroups, items_with_count, nullable_bytes, nullable_text, text_or_fault, IsText, text_fault, ints_of, int_bytes, AreInts}
use Rattle.kz_spec_data.specs.Forms.{nullable_ints, AreIntsOrNull}
use Rattle.kz_laws_values.proofs.Exact.{AreSmall, came, ok_same, Takes, taken_then, Comes, Exact, small_front, small_rest, small_after}
use Rattle.kz_laws_values.proofs.Basics.{passed_true, cond_true, cond_false, front_takes, front_exact, bytes_32, signs_32}

-- ---- numbers of variable size

-- so far goes a number with so many groups before the last
abbrev pub limit : ℕ → ℕ → ℕ
limit zero last = last
limit (suc more) last = 128 * limit more last

pub groups_takes : (more last n : ℕ) (bytes rest : List ℕ) (at : ℕ) → 0 < last → last ≤ 128
    → IsGroups n bytes → length bytes ≤ more + 1 → n < limit more last
    → groups_at more last at (bytes ++ rest) ≡ Ok (n, record { at = at + length bytes; left = rest })
unfolding groups_at
groups_takes more last n [] rest at some few g l fits = absurd g
groups_takes zero last n (b ∷ []) rest at some few g l fits =
    let low : b < last = omega (arith, g.1, fits) in
    cond_true (nat_lt b last) _ _ (lt-ltb b last low) ∙ ap (λ m. Ok (m, record { at = at + 1; left = rest })) (sym g.1)
groups_takes (suc more) last n (b ∷ []) rest at some few g l fits =
    cond_true (nat_lt b 128) _ _ (lt-ltb b 128 g.0) ∙ ap (λ m. Ok (m, record { at = at + 1; left = rest })) (sym g.1)
groups_takes zero last n (b ∷ c ∷ tail) rest at some few g l fits = absurd (omega (arith, l))
groups_takes (suc more) last n (b ∷ c ∷ tail) rest at some few g l fits =
    let higher : g.2.0 < limit more last = omega (arith, g.0, g.1, g.2.1, fits) in
    let short : length (c ∷ tail) ≤ more + 1 = omega (arith, l) in
    let value : b + 128 * g.2.0 - 128 ≡ n = omega (arith, g.0, g.2.1) in
    let place : (at + 1) + length (c ∷ tail) ≡ at + length (b ∷ c ∷ tail) = omega arith in
    cond_false (nat_lt b 128) _ _ (le-ltb b 128 g.0)
    ∙ ap (λ m. m >>= λ high. Ok (b + 128 * high.0 - 128, high.1)) (groups_takes more last g.2.0 (c ∷ tail) rest (at + 1) some few g.2.2 short higher)
    ∙ ap (λ m. Ok (m, record { at = (at + 1) + length (c ∷ tail); left = rest })) value
    ∙ ap (λ p. Ok (n, record { at = p; left = rest })) place

-- groups that were read
pub record Groups (more last n : ℕ) (left rest : List ℕ) : Type 0 where
  pub bytes : List ℕ
  pub split : left ≡ bytes ++ rest
  pub groups : IsGroups n bytes
  pub few : length bytes ≤ more + 1
  pub fits : n < limit more last

pub more_groups : (b high n : ℕ) (bytes : List ℕ) → 128 ≤ b → b < 256 → n + 128 ≡ b + 128 * high → IsGroups high bytes → IsGroups n (b ∷ bytes)
more_groups b high n [] least most e g = absurd g
more_groups b high n (c ∷ tail) least most e g = (least, most, (high, e, g))

abbrev number_read : ℕ → Reading → ℕ × Reading
number_read n r = (n, r)

abbrev OkRead : ℕ × Reading → Result (ℕ × Reading) ByteFault
OkRead x = Ok x

last_group : (more last at n b : ℕ) (tail : List ℕ) (next : Reading) → b < 128 → b < limit more last
    → OkRead (b, record { at = at + 1; left = tail }) ≡ Ok (n, next) → Groups more last n (b ∷ tail) next.left
last_group more last at n b tail next low fits h =
    subst (λ q. Groups more last q.0 (b ∷ tail) q.1.left) (ok_same (b, record { at = at + 1; left = tail }) (n, next) h)
    (record { bytes = b ∷ []; split = refl; groups = (low, refl); few = omega arith; fits = fits })

higher_group : (more last at n b : ℕ) (tail : List ℕ) (high : ℕ) (after next : Reading) → 128 ≤ b → b < 256
    → Groups more last high tail after.left
    → number_read (b + 128 * high - 128) after ≡ number_read n next → Groups (suc more) last n (b ∷ tail) next.left
higher_group more last at n b tail high after next least most g e =
    subst (λ q. Groups (suc more) last q.0 (b ∷ tail) q.1.left) e
    (record {
      bytes = b ∷ g.bytes;
      split = ap (λ l. b ∷ l) g.split;
      groups = more_groups b high (b + 128 * high - 128) g.bytes least most (omega (arith, least)) g.groups;
      few = omega (arith, g.few);
      fits = omega (arith, most, g.fits);
    })

pub some_limit : (more last : ℕ) → 0 < last → 0 < limit more last
some_limit zero last some = some
some_limit (suc more) last some = let h = some_limit more last some in omega arith

group_step : (more last at n b : ℕ) (tail : List ℕ) (next : Reading) → AreSmall (b ∷ tail) → 0 < last → last ≤ 128
    → (low : Bool) → nat_lt b 128 ≡ low
    → cond {A = Result (ℕ × Reading) ByteFault} low (Ok (b, record { at = at + 1; left = tail })) (groups_at more last (at + 1) tail >>= λ high. Ok (b + 128 * high.0 - 128, high.1)) ≡ Ok (n, next)
    → ((high : ℕ) (after : Reading) → groups_at more last (at + 1) tail ≡ Ok (high, after) → Groups more last high tail after.left)
    → Groups (suc more) last n (b ∷ tail) next.left
group_step more last at n b tail next small some few true e h go =
    let low : b < 128 = ltb-true b 128 e in
    let any = some_limit more last some in
    last_group (suc more) last at n b tail next low (omega (arith, low, any)) h
group_step more last at n b tail next small some few false e h go =
    let c = came (groups_at more last (at + 1) tail) (λ high. Ok (b + 128 * high.0 - 128, high.1)) (n, next) h in
    higher_group more last at n b tail c.value.0 c.value.1 next (ltb-false b 128 e) small.0 (go c.value.0 c.value.1 c.first)
    (ok_same (b + 128 * c.value.0 - 128, c.value.1) (n, next) c.second)

pub groups_given : (more last at n : ℕ) (left : List ℕ) (next : Reading) → AreSmall left → 0 < last → last ≤ 128
    → groups_at more last at left ≡ Ok (n, next) → Groups more last n left next.left
unfolding groups_at
groups_given zero last at n [] next small some few h = absurd (cc)
groups_given (suc more) last at n [] next small some few h = absurd (cc)
groups_given zero last at n (b ∷ tail) next small some few h =
    let c = passed_true (nat_lt b last) (Overlong at) (Ok (b, record { at = at + 1; left = tail })) (n, next) h in
    let low : b < last = ltb-true b last c.0 in
    last_group zero last at n b tail next (omega (arith, low)) low c.1
groups_given (suc more) last at n (b ∷ tail) next small some few h =
    group_step more last at n b tail next small some few (nat_lt b 128) refl h (λ high after e. groups_given more last (at + 1) high tail after small.1 some few e)

uvarint_given : (n : ℕ) (r next : Reading) → AreSmall r.left → uvarint.read r ≡ Ok (n, next) → Comes uvarint n r.left next.left
uvarint_given n r next small h =
    let g = groups_given 4 16 r.at n r.left next small (omega arith) (omega arith) h in
    record { bytes = g.bytes; split = g.split; spelled = (g.groups, g.few, omega (arith, g.fits)) }

pub uvarint_exact : Exact uvarint
uvarint_exact = record {
  taken = λ n bytes rest at s. groups_takes 4 16 n bytes rest at (omega arith) (omega arith) s.0 s.1 (omega (arith, s.2));
  given = uvarint_given;
}

-- ---- lengths and what they count

abbrev pub counted_rest : ℕ → ℕ × Reading → Result (Option (List ℕ) × Reading) ByteFault
counted_rest size count = cond (count.0 == 0) (Ok (None, count.1)) ((front (size * (count.0 - 1))).read count.1 >>= λ items. Ok (Some items.0, items.1))

counted_taken : (size : ℕ) (value : Option (List ℕ)) (bytes rest : List ℕ) (at : ℕ) → (items_with_count size).spells value bytes → Takes (items_with_count size).read value bytes rest at
counted_taken size None bytes rest at s = ap (λ m. m >>= counted_rest size) (uvarint_exact.taken 0 bytes rest at s)
counted_taken size (Some items) bytes rest at s =
    let count : length items ≡ size * ((s.0 + 1) - 1) = s.2 ∙ ap (λ n. size * n) (omega arith) in
    subst (λ b. Takes (items_with_count size).read (Some items) b rest at) (sym s.4)
    (taken_then uvarint.read (counted_rest size) (s.0 + 1) (Some items) s.1 items rest at
    (uvarint_exact.taken (s.0 + 1) s.1 (items ++ rest) at s.3)
    (cond_false (s.0 + 1 == 0) _ _ (ne_eqb (s.0 + 1) 0 (λ e. omega arith))
    ∙ ap (λ m. m >>= λ x. Ok (Some x.0, x.1)) (front_takes (size * ((s.0 + 1) - 1)) items rest (at + length s.1) count)))

counted_after : (size n : ℕ) (value : Option (List ℕ)) (left : List ℕ) (mid next : Reading) (none : Bool)
    → AreSmall left → Comes uvarint n left mid.left → (n == 0) ≡ none
    → cond {A = Result (Option (List ℕ) × Reading) ByteFault} none (Ok (None, mid)) ((front (size * (n - 1))).read mid >>= λ items. Ok (Some items.0, items.1)) ≡ Ok (value, next)
    → Comes (items_with_count size) value left next.left
counted_after size n value left mid next true small one e h =
    subst (λ q. Comes (items_with_count size) q.0 left q.1.left) (ok_same (None, mid) (value, next) h)
    (record { bytes = one.bytes; split = one.split; spelled = subst (λ k. uvarint.spells k one.bytes) (eqb-true n 0 e) one.spelled })
counted_after size n value left mid next false small one e h =
    let c = came ((front (size * (n - 1))).read mid) (λ items. Ok (Some items.0, items.1)) (value, next) h in
    let two = (front_exact (size * (n - 1))).given c.value.0 mid c.value.1 (small_after uvarint n left mid.left one small) c.first in
    let some : n ≡ (n - 1) + 1 = omega (arith, eqb-false n 0 e) in
    subst (λ q. Comes (items_with_count size) q.0 left q.1.left) (ok_same (Some c.value.0, c.value.1) (value, next) c.second)
    (record {
      bytes = one.bytes ++ two.bytes;
      split = one.split ∙ ap (λ b. one.bytes ++ b) two.split ∙ sym (append_assoc one.bytes two.bytes c.value.1.left);
      spelled = (n - 1, one.bytes, two.spelled.0, subst (λ k. uvarint.spells k one.bytes) some one.spelled, ap (λ b. one.bytes ++ b) two.spelled.1);
    })

counted_given : (size : ℕ) (value : Option (List ℕ)) (r next : Reading) → AreSmall r.left → (items_with_count size).read r ≡ Ok (value, next) → Comes (items_with_count size) value r.left next.left
counted_given size value r next small h =
    let c = came (uvarint.read r) (counted_rest size) (value, next) h in
    counted_after size c.value.0 value r.left c.value.1 next (c.value.0 == 0) small (uvarint_exact.given c.value.0 r c.value.1 small c.first) refl c.second

pub counted_exact : (size : ℕ) → Exact (items_with_count size)
counted_exact size = record { taken = counted_taken size; given = counted_given size }

-- ---- texts

pub judged_is : (end : ℕ) (value : Option (List ℕ)) → IsText value → text_or_fault end value ≡ Ok value
judged_is end None t = refl
judged_is end (Some text) t = cond_true (is_utf8 text) _ _ (is_utf8-from_IsUtf8 text t)

pub judged_good : (end : ℕ) (value other : Option (List ℕ)) → text_or_fault end value ≡ Ok other → IsText other × (value ≡ other)
judged_good end None other h =
    let e : None ≡ other = ok_same None other h in
    (subst IsText e tt, e)
judged_good end (Some text) other h =
    let c = passed_true (is_utf8 text) (NotUtf8 (end - length text + text_fault text)) (Ok (Some text)) other h in
    let e : Some text ≡ other = ok_same (Some text) other c.1 in
    (subst IsText e (IsUtf8-from_is_utf8 text c.0), e)

text_taken : (value : Option (List ℕ)) (bytes rest : List ℕ) (at : ℕ) → nullable_text.spells value bytes → Takes nullable_text.read value bytes rest at
text_taken value bytes rest at s =
    ap (λ m. m >>= λ x. text_or_fault x.1.at x.0 >>= λ text. Ok (text, x.1)) (counted_taken 1 value bytes rest at s.1)
    ∙ ap (λ m. m >>= λ text. Ok (text, record { at = at + length bytes; left = rest })) (judged_is (at + length bytes) value s.0)

text_given : (value : Option (List ℕ)) (r next : Reading) → AreSmall r.left → nullable_text.read r ≡ Ok (value, next) → Comes nullable_text value r.left next.left
text_given value r next small h =
    let c = came (nullable_bytes.read r) (λ x. text_or_fault x.1.at x.0 >>= λ text. Ok (text, x.1)) (value, next) h in
    let d = came (text_or_fault c.value.1.at c.value.0) (λ text. Ok (text, c.value.1)) (value, next) c.second in
    let one = counted_given 1 c.value.0 r c.value.1 small c.first in
    let good = judged_good c.value.1.at c.value.0 d.value d.first in
    subst (λ q. Comes nullable_text q.0 r.left q.1.left) (ok_same (d.value, c.value.1) (value, next) d.second)
    (record { bytes = one.bytes; split = one.split; spelled = (good.0, subst (λ v. nullable_bytes.spells v one.bytes) good.1 one.spelled) })

pub text_exact : Exact nullable_text
text_exact = record { taken = text_taken; given = text_given }

-- ---- numbers of 32 bits

ints_again : (zs : List ℤ) → AreInts zs → ints_of (int_bytes zs) ≡ zs
ints_again [] fit = refl
ints_again (z ∷ zs) fit =
    let value : cast_signed w32 (from_be_bytes w32 (to_be_bytes w32 (cast_unsigned w32 z))) ≡ z =
    ap (cast_signed w32) (bytes_32.again (cast_unsigned w32 z) (signs_32.bound z fit.0)) ∙ to_z-of_z w32 z fit.0 in
    ap (λ y. y ∷ ints_of (int_bytes zs)) value ∙ ap (λ ys. z ∷ ys) (ints_again zs fit.1)

-- bytes are numbers of 32 bits
record Ints (items : List ℕ) : Type 0 where
  fit : AreInts (ints_of items)
  there : int_bytes (ints_of items) ≡ items

four_more : (a b c d : ℕ) (rest : List ℕ) → AreSmall (a ∷ b ∷ c ∷ d ∷ []) → Ints rest → Ints (a ∷ b ∷ c ∷ d ∷ rest)
four_more a b c d rest small i =
    let n = from_be_bytes w32 (a ∷ b ∷ c ∷ d ∷ []) in
    let below : from_be_bytes w32 (a ∷ b ∷ c ∷ d ∷ []) < 2 ^ 32 = bytes_32.below (a ∷ b ∷ c ∷ d ∷ []) refl small in
    record {
      fit = (signs_32.fits (from_be_bytes w32 (a ∷ b ∷ c ∷ d ∷ [])) below, i.fit);
      there =
          ap (λ k. to_be_bytes w32 k ++ int_bytes (ints_of rest)) (of_z-to_z w32 (from_be_bytes w32 (a ∷ b ∷ c ∷ d ∷ [])) below)
          ∙ ap (λ bs. bs ++ int_bytes (ints_of rest)) (bytes_32.there (a ∷ b ∷ c ∷ d ∷ []) refl small)
          ∙ ap (λ bs. a ∷ b ∷ c ∷ d ∷ bs) i.there;
    }

ints_there : (count : ℕ) (items : List ℕ) → length items ≡ 4 * count → AreSmall items → Ints items
ints_there count [] l small = record { fit = tt; there = refl }
ints_there count (a ∷ []) l small = absurd (omega arith)
ints_there count (a ∷ b ∷ []) l small = absurd (omega arith)
ints_there count (a ∷ b ∷ c ∷ []) l small = absurd (omega arith)
ints_there zero (a ∷ b ∷ c ∷ d ∷ rest) l small = absurd (omega arith)
ints_there (suc count) (a ∷ b ∷ c ∷ d ∷ rest) l small =
    four_more a b c d rest (small.0, (small.1.0, (small.1.1.0, (small.1.1.1.0, tt)))) (ints_there count rest (omega (arith, l)) small.1.1.1.1)

again_or_null : (value : Option (List ℤ)) → AreIntsOrNull value → option_map ints_of (option_map int_bytes value) ≡ value
again_or_null None fit = refl
again_or_null (Some zs) fit = ap Some (ints_again zs fit)

-- what was read is null or numbers
record IntsOrNull (value : Option (List ℕ)) : Type 0 where
  fit : AreIntsOrNull (option_map ints_of value)
  there : option_map int_bytes (option_map ints_of value) ≡ value

there_or_null : (value : Option (List ℕ)) (bytes : List ℕ) → AreSmall bytes → (items_with_count 4).spells value bytes → IntsOrNull value
there_or_null None bytes small s = record { fit = tt; there = refl }
there_or_null (Some items) bytes small s =
    let i = ints_there s.0 items s.2 (small_rest s.1 items (subst AreSmall s.4 small)) in
    record { fit = i.fit; there = ap Some i.there }

ints_taken : (value : Option (List ℤ)) (bytes rest : List ℕ) (at : ℕ) → nullable_ints.spells value bytes → Takes nullable_ints.read value bytes rest at
ints_taken value bytes rest at s =
    ap (λ m. m >>= λ x. Ok (option_map ints_of x.0, x.1)) (counted_taken 4 (option_map int_bytes value) bytes rest at s.1)
    ∙ ap (λ v. Ok (v, record { at = at + length bytes; left = rest })) (again_or_null value s.0)

ints_given : (value : Option (List ℤ)) (r next : Reading) → AreSmall r.left → nullable_ints.read r ≡ Ok (value, next) → Comes nullable_ints value r.left next.left
ints_given value r next small h =
    let c = came ((items_with_count 4).read r) (λ x. Ok (option_map ints_of x.0, x.1)) (value, next) h in
    let one = counted_given 4 c.value.0 r c.value.1 small c.first in
    let i = there_or_null c.value.0 one.bytes (small_front one.bytes c.value.1.left (subst AreSmall one.split small)) one.spelled in
    subst (λ q. Comes nullable_ints q.0 r.left q.1.left) (ok_same (option_map ints_of c.value.0, c.value.1) (value, next) c.second)
    (record { bytes = one.bytes; split = one.split; spelled = (i.fit, subst (λ v. (items_with_count 4).spells v one.bytes) (sym i.there) one.spelled) })

pub ints_exact : Exact nullable_ints
ints_exact = record { taken = ints_taken; given = ints_given }
