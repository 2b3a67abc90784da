-- The first entry of quotas above a path and a slash tells whether one is below the path.
use Rattle.std.proofs.Common.{◌≡◌, ◌≢◌, ◌⊎◌, ℕ, Bool, true, false, cond, List, [], ◌∷◌, ◌++◌, filter, length, drop, Option, Some, None, Ordering, Less, Equal, Greater, nat_cmp, Contains, refl, sym, ap, ◌∙◌, subst, inl, inr, codes}
use Rattle.std.specs.Prelude.{slice_get}
use Rattle.std.specs.Ordering.{match_ordering, ordering_then}
use Rattle.std.proofs.lemmas.Bool.{false≢true}
use Rattle.std.proofs.lemmas.Bool.Decides.{Decides-eqb}
use Rattle.std.proofs.lemmas.Slice.Eq.{starts_is}
use Rattle.kz_types.specs.declared.image.QuotaEntry.{QuotaEntry}
use Rattle.kz_types.specs.Paths.{is_below}
use Rattle.kz_types.specs.Order.{bytes_cmp}
use Rattle.kz_types.specs.Ordered.{Rises}
use Rattle.kz_types.proofs.Order.{nat_order, bytes_order, below, equal, above, place, cmp_equal, cmp_greater}
use Rattle.kz_types.proofs.Lookup.{some_is_none, same_some, rest_rises, contained_is_above, Contains-head, Contains-tail, Contains-nil, Contains-cons_cases}
use Rattle.kz_spec_data.specs.Metadata.{Image, path_of_quotas}
use Rattle.kz_spec_data.specs.Lookups.{is_above, first_above, is_entry_below, has_quotas_below}

-- ---- what begins alike

after_front : (front : List ℕ) (b : ℕ) (bs : List ℕ) → bytes_cmp front (front ++ (b ∷ bs)) ≡ Less
after_front [] b bs = refl
after_front (c ∷ cs) b bs = ap (λ o. ordering_then o (bytes_cmp cs (cs ++ (b ∷ bs)))) (nat_order.itself c) ∙ after_front cs b bs

-- what is above a front, and not above something that begins with it, begins with it
between : (front y rest : List ℕ) → bytes_cmp front y ≡ Less → bytes_cmp y (front ++ rest) ≢ Greater → (more : List ℕ) × (y ≡ front ++ more)
between [] y rest low high = (y, refl)
between (c ∷ cs) [] rest low high = absurd (cc (low))
between (c ∷ cs) (d ∷ ds) rest low high = elim (place nat_order c d) [
  | below less ↦ absurd (high (ap (λ o. ordering_then o (bytes_cmp ds (cs ++ rest))) (cmp_greater nat_order d c less)))
  | equal e ↦
      let tied : nat_cmp c d ≡ Equal = cmp_equal nat_order c d e in
      let back : nat_cmp d c ≡ Equal = cmp_equal nat_order d c (sym e) in
      let more = between cs ds rest (sym (ap (λ o. ordering_then o (bytes_cmp cs ds)) tied) ∙ low) (λ g. high (ap (λ o. ordering_then o (bytes_cmp ds (cs ++ rest))) back ∙ g)) in
      (more.0, λ i. sym e i ∷ more.1 i)
  | above less ↦ absurd (let no_less : Greater ≡ Less = sym (ap (λ o. ordering_then o (bytes_cmp cs ds)) (cmp_greater nat_order c d less)) ∙ low in cc (no_less))
]

-- ---- the first entry above a path

found_above : (k : List ℕ) (qs : List QuotaEntry) (q : QuotaEntry) → first_above k qs ≡ Some q → Contains qs q
found_above k [] q e = absurd (some_is_none (sym e))
found_above k (x ∷ xs) q e = by (is_above k x) e (λ rest. found_above k xs q rest)
  where
    by : (t : Bool) → slice_get (cond t (x ∷ filter (is_above k) xs) (filter (is_above k) xs)) 0 ≡ Some q → (first_above k xs ≡ Some q → Contains xs q) → Contains (x ∷ xs) q
    by true e later = subst (Contains (x ∷ xs)) (same_some x q e) (Contains-head x xs)
    by false e later = Contains-tail x xs q (later e)

-- The first entry above a path, beside another one above it.
record First (k : List ℕ) (found : Option QuotaEntry) (x : QuotaEntry) : Type 0 where
  entry : QuotaEntry
  is : found ≡ Some entry
  low : bytes_cmp k entry.path ≡ Less
  high : bytes_cmp entry.path x.path ≢ Greater

not_greater : (y : QuotaEntry) (ys : List QuotaEntry) (x : QuotaEntry) → Rises bytes_cmp path_of_quotas (y ∷ ys) → (y ≡ x) ⊎ Contains ys x → bytes_cmp y.path x.path ≢ Greater
not_greater y ys x rises (inl same) = λ g. let tied : Equal ≡ Greater = sym (cmp_equal bytes_order y.path x.path (ap path_of_quotas same)) ∙ g in cc (tied)
not_greater y ys x rises (inr later) = λ g. let less : Less ≡ Greater = sym (contained_is_above bytes_order path_of_quotas y.path ys x rises later) ∙ g in cc (less)

first_there : (k : List ℕ) (qs : List QuotaEntry) (x : QuotaEntry) → Rises bytes_cmp path_of_quotas qs → Contains qs x → bytes_cmp k x.path ≡ Less → First k (first_above k qs) x
first_there k [] x rises has low = absurd (Contains-nil x has)
first_there k (y ∷ ys) x rises has low = by (bytes_cmp k y.path) refl (Contains-cons_cases y ys x has) (λ later. first_there k ys x (rest_rises bytes_order path_of_quotas y ys rises) later low)
  where
    by : (r : Ordering) → bytes_cmp k y.path ≡ r → (y ≡ x) ⊎ Contains ys x → (Contains ys x → First k (first_above k ys) x)
        → First k (slice_get (cond (match_ordering r true false false) (y ∷ filter (is_above k) ys) (filter (is_above k) ys)) 0) x
    by Less e cases rest = record { entry = y; is = refl; low = e; high = not_greater y ys x rises cases }
    by Equal e (inl same) rest = absurd (let tied : Less ≡ Equal = sym low ∙ ap (λ (q : QuotaEntry). bytes_cmp k q.path) (sym same) ∙ e in cc (tied))
    by Equal e (inr later) rest = rest later
    by Greater e (inl same) rest = absurd (let more : Less ≡ Greater = sym low ∙ ap (λ (q : QuotaEntry). bytes_cmp k q.path) (sym same) ∙ e in cc (more))
    by Greater e (inr later) rest = rest later

-- ---- an entry below a path

pub below_found : (p : List ℕ) (i : Image) → Rises bytes_cmp path_of_quotas i.quotas → (x : QuotaEntry) → Contains i.quotas x → (b : ℕ) (bs : List ℕ) → x.path ≡ (p ++ codes "/") ++ (b ∷ bs) → has_quotas_below p i ≡ true
below_found p i rises x has b bs is =
    let k : List ℕ = p ++ codes "/" in
    let f = first_there k i.quotas x rises has (ap (bytes_cmp k) is ∙ after_front k b bs) in
    let q : QuotaEntry = f.entry in
    let m = between k q.path (b ∷ bs) f.low (subst (λ z. bytes_cmp q.path z ≢ Greater) is f.high) in
    ap (is_entry_below p) f.is ∙ (starts_is Decides-eqb q.path k (is_below p q.path) refl).1 m.0 m.1

pub below_gives : (p : List ℕ) (i : Image) → has_quotas_below p i ≡ true → (q : QuotaEntry) × Contains i.quotas q × ((rest : List ℕ) × (q.path ≡ (p ++ codes "/") ++ rest))
below_gives p i h = by (first_above (p ++ codes "/") i.quotas) refl h
  where
    by : (found : Option QuotaEntry) → first_above (p ++ codes "/") i.quotas ≡ found → is_entry_below p found ≡ true → (q : QuotaEntry) × Contains i.quotas q × ((rest : List ℕ) × (q.path ≡ (p ++ codes "/") ++ rest))
    by None e h = absurd (false≢true h)
    by (Some q) e h =
        let k : List ℕ = p ++ codes "/" in
        (q, found_above k i.quotas q e, (drop (length k) q.path, (starts_is Decides-eqb q.path k (is_below p q.path) refl).0 h))
