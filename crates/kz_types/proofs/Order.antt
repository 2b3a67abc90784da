-- Total orders: the three cases of two keys, and the orders of numbers and of byte strings.
use Rattle.std.proofs.Common.{◌≡◌, ◌≢◌, true, false, Ordering, Less, Equal, Greater, is_eq, nat_cmp, int_cmp, refl, sym, ap, ◌∙◌, subst}
use Rattle.std.specs.Cmp.{IsTotalOrder}
use Rattle.std.specs.Ordering.{ordering_reverse, flip_args}
use Rattle.std.proofs.lemmas.Cmp.{nat_cmp_total, int_cmp_total, nat_list_cmp_total, tied_itself}
use Rattle.std.proofs.lemmas.Map.Lookups.{exact_unsigned, exact_signed, exact_bytes}
use Rattle.kz_types.specs.Order.{TotalOrder, bytes_cmp}

-- std's laws of an order make one of ours, where only equal keys tie
pub total_from_std : {K : Type 0} {cmp : K → K → Ordering} → IsTotalOrder cmp → ((x y : K) → cmp x y ≡ Equal → x ≡ y) → TotalOrder cmp
total_from_std laws exact = record { itself = λ x. tied_itself laws x; same = exact; mirror = laws.antisymm; chain = laws.trans }

pub nat_order : TotalOrder nat_cmp
nat_order = total_from_std nat_cmp_total exact_unsigned

pub int_order : TotalOrder int_cmp
int_order = total_from_std int_cmp_total exact_signed

pub bytes_order : TotalOrder bytes_cmp
bytes_order = total_from_std nat_list_cmp_total exact_bytes

-- the order the other way round
pub flipped : {K : Type 0} {cmp : K → K → Ordering} → TotalOrder cmp → TotalOrder (flip_args cmp)
flipped o = record {
  itself = o.itself;
  same = λ x y e. sym (o.same y x e);
  mirror = λ x y. o.mirror y x;
  chain = λ x y z h g. o.chain z y x g h;
}

-- Where one key stands beside another.
pub data Place {K : Type 0} (cmp : K → K → Ordering) (x y : K) : Type 0 where
  below : cmp x y ≡ Less → Place cmp x y
  equal : x ≡ y → Place cmp x y
  above : cmp y x ≡ Less → Place cmp x y

module _ {K : Type 0} {cmp : K → K → Ordering} (o : TotalOrder cmp) where
  place_by : (x y : K) (r : Ordering) → cmp x y ≡ r → Place cmp x y
  place_by x y Less e = below e
  place_by x y Equal e = equal (o.same x y e)
  place_by x y Greater e = above (o.mirror y x ∙ ap ordering_reverse e)

  pub place : (x y : K) → Place cmp x y
  place x y = place_by x y (cmp x y) refl

  pub cmp_equal : (x y : K) → x ≡ y → cmp x y ≡ Equal
  cmp_equal x y e = subst (λ z. cmp x z ≡ Equal) e (o.itself x)

  pub cmp_greater : (x y : K) → cmp y x ≡ Less → cmp x y ≡ Greater
  cmp_greater x y h = o.mirror x y ∙ ap ordering_reverse h

  pub less_differs : (x y : K) → cmp x y ≡ Less → x ≢ y
  less_differs x y h e = let tied = cmp_equal x y e in cc

  pub less_differs_back : (x y : K) → cmp y x ≡ Less → x ≢ y
  less_differs_back x y h e = less_differs y x h (sym e)

  pub is_eq_same : (x y : K) → x ≡ y → is_eq (cmp x y) ≡ true
  is_eq_same x y e = ap is_eq (cmp_equal x y e)

  is_eq_by : (x y : K) (r : Ordering) → cmp x y ≡ r → x ≢ y → is_eq r ≡ false
  is_eq_by x y Less e ne = refl
  is_eq_by x y Equal e ne = absurd (ne (o.same x y e))
  is_eq_by x y Greater e ne = refl

  pub is_eq_other : (x y : K) → x ≢ y → is_eq (cmp x y) ≡ false
  is_eq_other x y ne = is_eq_by x y (cmp x y) refl ne
