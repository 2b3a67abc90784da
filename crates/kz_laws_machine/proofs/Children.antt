-- A path with a name after it: its parent, and its place in path order.
use Rattle.std.proofs.Common.{◌≡◌, ℕ, zero, suc, ◌+◌, ◌/◌, ◌%◌, nat_lt, ◌==◌, Bool, true, false, ◌||◌, if◌then◌else◌, ℤ, pos, negsuc, List, [], ◌∷◌, ◌++◌, Less, refl, sym, ap, ◌∙◌, subst, arith}
use Rattle.std.specs.Fmt.{digit_glyph, digits_onto, digits, decimal, signed_decimal}
use Rattle.std.specs.Ordering.{ordering_then}
use Rattle.std.proofs.lemmas.Bool.{ne_eqb}
use Rattle.std.proofs.lemmas.List.Elements.{All-nil, All-cons, All-head, All-tail}
use Rattle.kz_types.specs.Order.{bytes_cmp}
use Rattle.kz_types.proofs.Order.{nat_order}
use Rattle.kz_spec_data.specs.Tree.{parent_of, is_root}
use Rattle.kz_laws_values.proofs.Parts.{HasNoSlash}
use Rattle.kz_laws_machine.proofs.Below.{has_slash, slash_inside, parent_and_name, has_name}

-- ---- the parent of a path with a name after it

no_slash : (part : List ℕ) → HasNoSlash part → has_slash part ≡ false
no_slash [] none = refl
no_slash (b ∷ bs) none =
    ap (λ c. c || has_slash bs) (All-head (λ x. (x == 47) ≡ false) b bs none) ∙ no_slash bs (All-tail (λ x. (x == 47) ≡ false) b bs none)

-- after a name without a slash the path itself is the parent
pub parent_of_child : (a part : List ℕ) → HasNoSlash part → parent_of (a ++ 47 ∷ part) ≡ a
parent_of_child [] part none = ap (λ c. if c then 47 ∷ parent_of part else []) (no_slash part none)
parent_of_child (b ∷ a) part none =
    ap (λ c. if c then b ∷ parent_of (a ++ 47 ∷ part) else []) (slash_inside a part) ∙ ap (λ q. b ∷ q) (parent_of_child a part none)

-- ---- a parent comes first

front_is_less : (p : List ℕ) (b : ℕ) (x : List ℕ) → bytes_cmp p (p ++ b ∷ x) ≡ Less
front_is_less [] b x = refl
front_is_less (c ∷ p) b x = ap (λ o. ordering_then o (bytes_cmp p (p ++ b ∷ x))) (nat_order.itself c) ∙ front_is_less p b x

-- a parent other than the root comes before its child
pub parent_is_less : (p : List ℕ) → is_root (parent_of p) ≡ false → bytes_cmp (parent_of p) p ≡ Less
parent_is_less p up =
    let named = parent_and_name p (has_name p up) in
    subst (λ q. bytes_cmp (parent_of p) q ≡ Less) (sym named.1) (front_is_less (parent_of p) 47 named.0)

-- ---- numbers have no slash

digit_is_none : (d : ℕ) (low : Bool) → nat_lt d 10 ≡ low → ((if low then 48 + d else 87 + d) == 47) ≡ false
digit_is_none d true is = ne_eqb (48 + d) 47 (λ same. omega (arith, same))
digit_is_none d false is = ne_eqb (87 + d) 47 (λ same. omega (arith, same))

digits_have_none : (k base n : ℕ) (acc : List ℕ) → HasNoSlash acc → HasNoSlash (digits_onto k base false n acc)
digits_have_none zero base n acc none = none
digits_have_none (suc k) base n acc none =
    let next = All-cons (λ b. (b == 47) ≡ false) (digit_glyph false (n % base)) acc (digit_is_none (n % base) (nat_lt (n % base) 10) refl) none in
    either (n / base == 0) (digit_glyph false (n % base) ∷ acc) _ next (digits_have_none k base (n / base) (digit_glyph false (n % base) ∷ acc) next)
  where
    either : (last : Bool) (x y : List ℕ) → HasNoSlash x → HasNoSlash y → HasNoSlash (if last then x else y)
    either true x y first second = first
    either false x y first second = second

decimal_has_none : (n : ℕ) → HasNoSlash (decimal n)
unfolding digits
decimal_has_none n = digits_have_none 64 10 n [] (All-nil (λ b. (b == 47) ≡ false))

-- a number of any size
pub signed_has_none : (z : ℤ) → HasNoSlash (signed_decimal z)
signed_has_none (pos n) = decimal_has_none n
signed_has_none (negsuc n) = All-cons (λ b. (b == 47) ≡ false) 45 (decimal (suc n)) refl (decimal_has_none (suc n))
