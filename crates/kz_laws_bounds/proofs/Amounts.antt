-- How many operations lead from one rendering to another, and their bytes.
use Rattle.std.proofs.Common.{◌≡◌, ℕ, ◌+◌, ◌≤◌, Bool, true, false, if◌then◌else◌, List, [], ◌∷◌, ◌++◌, length, map, Option, Some, None, Ordering, Less, Equal, Greater, is_eq, sym, subst, arith, length-append}
use Rattle.std.proofs.lemmas.List.{map-append}
use Rattle.std.specs.Prelude.{sum}
use Rattle.std.specs.Ordering.{match_ordering}
use Rattle.kz_types.specs.declared.limits.TheConstants.{OP_BYTES}
use Rattle.kz_types.specs.declared.tree.Op.{Op}
use Rattle.kz_types.specs.declared.tree.Rendered.{Rendered}
use Rattle.kz_types.specs.Order.{bytes_cmp}
use Rattle.kz_types.specs.Ordered.{Rises, find, put, without}
use Rattle.kz_types.specs.Difference.{Edit, drop_key, make, alter, after_edit, all_edited, drop_unless, drops, make_or_alter, makes, difference}
use Rattle.kz_types.proofs.Order.{bytes_order}
use Rattle.kz_types.proofs.Difference.{difference_leads}
use Rattle.kz_spec_data.specs.Tree.{path_of_rendered}
use Rattle.kz_spec_data.specs.Difference.{same_body, op_of, op_size, diff}
use Rattle.kz_spec_machine.specs.Machine.{znode_size}
use Rattle.kz_laws_machine.proofs.Render.{decides_body}
use Rattle.kz_laws_bounds.proofs.Chunks.{sum_cons, bytes_of, bytes_cons, bytes_append}

abbrev pub Znodes : Type 0
Znodes = List Rendered

abbrev Edits : Type 0
Edits = List (Edit Rendered (List ℕ))

abbrev pub size_of : Znodes → ℕ
size_of znodes = sum (map znode_size znodes)

size_cons : (r : Rendered) (rs : Znodes) → size_of (r ∷ rs) ≡ znode_size r + size_of rs
size_cons r rs = sum_cons (znode_size r) (map znode_size rs)

-- operations of so many, with so many bytes
pub record AtMost (ops : List Op) (count bytes : ℕ) : Type 0 where
  pub counts : length ops ≤ count
  pub weighs : bytes_of ops ≤ bytes

-- ---- edits

add_counts : (all a b x y : ℕ) → all ≡ a + b → a ≤ x → b ≤ y → all ≤ x + y
add_counts all a b x y is one other = omega (arith, is, one, other)

both : (xs ys : List Op) (c b d e : ℕ) → AtMost xs c b → AtMost ys d e → AtMost (xs ++ ys) (c + d) (b + e)
both xs ys c b d e one other = record {
  counts = add_counts (length (xs ++ ys)) (length xs) (length ys) c d (length-append xs ys) one.counts other.counts;
  weighs = add_counts (bytes_of (xs ++ ys)) (bytes_of xs) (bytes_of ys) b e (bytes_append xs ys) one.weighs other.weighs;
}

abbrev edited : Edits → List Op
edited es = map op_of es

both_edited : (xs ys : Edits) (c b d e : ℕ) → AtMost (edited xs) c b → AtMost (edited ys) d e → AtMost (edited (xs ++ ys)) (c + d) (b + e)
both_edited xs ys c b d e one other = subst (λ (ops : List Op). AtMost ops (c + d) (b + e)) (sym (map-append op_of xs ys)) (both (edited xs) (edited ys) c b d e one other)

none_most : (n m : ℕ) → AtMost [] n m
none_most n m = record { counts = omega arith; weighs = omega arith }

one_most : (o : Op) (m : ℕ) → op_size o ≤ m → AtMost (o ∷ []) 1 m
one_most o m low = record { counts = omega arith; weighs = by (bytes_of (o ∷ [])) (op_size o) m (bytes_cons o []) low }
  where
    by : (a x m : ℕ) → a ≡ x + 0 → x ≤ m → a ≤ m
    by a x m is low = omega (arith, is, low)

drop_size : (r : Rendered) → OP_BYTES + length r.path ≤ znode_size r
drop_size r = by (OP_BYTES + length r.path) (length r.body)
  where
    by : (a b : ℕ) → a ≤ a + b
    by a b = omega arith

dropped_most : (r : Rendered) (m : Option Rendered) → AtMost (edited (drop_unless r.path m)) 1 (znode_size r)
dropped_most r (Some y) = none_most 1 (znode_size r)
dropped_most r None = one_most (op_of (drop_key r.path)) (znode_size r) (drop_size r)

at_most_itself : (n : ℕ) → n ≤ n
at_most_itself n = omega arith

altered_most : (x y : Rendered) (b : Bool) → AtMost (edited (if b then [] else alter x ∷ [])) 1 (znode_size x)
altered_most x y true = none_most 1 (znode_size x)
altered_most x y false = one_most (op_of (alter x)) (znode_size x) (at_most_itself (znode_size x))

made_most : (x : Rendered) (m : Option Rendered) → AtMost (edited (make_or_alter same_body x m)) 1 (znode_size x)
made_most x None = one_most (op_of (make x)) (znode_size x) (at_most_itself (znode_size x))
made_most x (Some y) = altered_most x y (same_body y x)

weaker : (ops : List Op) (c b d e : ℕ) → c ≤ d → b ≤ e → AtMost ops c b → AtMost ops d e
weaker ops c b d e few light most = record { counts = then_most (length ops) c d most.counts few; weighs = then_most (bytes_of ops) b e most.weighs light }
  where
    then_most : (x y z : ℕ) → x ≤ y → y ≤ z → x ≤ z
    then_most x y z one other = omega (arith, one, other)

plus_one : (x : Rendered) (a : Znodes) → length a + 1 ≤ length (x ∷ a)
plus_one x a = omega arith

one_plus : (x : Rendered) (a : Znodes) → 1 + length a ≤ length (x ∷ a)
one_plus x a = omega arith

swapped : (a b c : ℕ) → c ≡ a + b → b + a ≤ c
swapped a b c is = omega (arith, is)

in_order : (a b c : ℕ) → c ≡ a + b → a + b ≤ c
in_order a b c is = omega (arith, is)

drops_most : (a b : Znodes) → AtMost (edited (drops bytes_cmp path_of_rendered a b)) (length a) (size_of a)
drops_most [] b = none_most 0 0
drops_most (x ∷ a) b =
    weaker (edited (drops bytes_cmp path_of_rendered (x ∷ a) b)) (length a + 1) (size_of a + znode_size x) (length (x ∷ a)) (size_of (x ∷ a)) (plus_one x a) (swapped (znode_size x) (size_of a) (size_of (x ∷ a)) (size_cons x a))
    (both_edited (drops bytes_cmp path_of_rendered a b) (drop_unless x.path (find bytes_cmp path_of_rendered x.path b)) (length a) (size_of a) 1 (znode_size x) (drops_most a b) (dropped_most x (find bytes_cmp path_of_rendered x.path b)))

makes_most : (a b : Znodes) → AtMost (edited (makes bytes_cmp path_of_rendered same_body a b)) (length b) (size_of b)
makes_most a [] = none_most 0 0
makes_most a (x ∷ b) =
    weaker (edited (makes bytes_cmp path_of_rendered same_body a (x ∷ b))) (1 + length b) (znode_size x + size_of b) (length (x ∷ b)) (size_of (x ∷ b)) (one_plus x b) (in_order (znode_size x) (size_of b) (size_of (x ∷ b)) (size_cons x b))
    (both_edited (make_or_alter same_body x (find bytes_cmp path_of_rendered x.path a)) (makes bytes_cmp path_of_rendered same_body a b) 1 (znode_size x) (length b) (size_of b) (made_most x (find bytes_cmp path_of_rendered x.path a)) (makes_most a b))

-- no more than the znodes of both
pub diff_most : (a b : Znodes) → AtMost (diff a b) (length a + length b) (size_of a + size_of b)
unfolding diff
diff_most a b = both_edited (drops bytes_cmp path_of_rendered a b) (makes bytes_cmp path_of_rendered same_body a b) (length a) (size_of a) (length b) (size_of b) (drops_most a b) (makes_most a b)

-- ---- what edits leave

pub record FewZnodes (znodes : Znodes) (count bytes : ℕ) : Type 0 where
  pub counts : length znodes ≤ count
  pub weighs : size_of znodes ≤ bytes

one_more : (a x : ℕ) → a ≤ a + x
one_more a x = omega arith

at_most_is : (a b : ℕ) → a ≡ b → a ≤ b
at_most_is a b is = omega (arith, is)

put_by : (o : Ordering) (x y : Rendered) (ys rest : Znodes) → FewZnodes rest (1 + length ys) (znode_size x + size_of ys) → FewZnodes (match_ordering o (x ∷ y ∷ ys) (x ∷ ys) (y ∷ rest)) (1 + length (y ∷ ys)) (znode_size x + size_of (y ∷ ys))
put_by Less x y ys rest few = record { counts = omega arith; weighs = at_most_is (size_of (x ∷ y ∷ ys)) (znode_size x + size_of (y ∷ ys)) (size_cons x (y ∷ ys)) }
put_by Equal x y ys rest few = record { counts = omega arith; weighs = by (size_of (x ∷ ys)) (znode_size x) (size_of ys) (size_of (y ∷ ys)) (znode_size y) (size_cons x ys) (size_cons y ys) }
  where
    by : (all x s t y : ℕ) → all ≡ x + s → t ≡ y + s → all ≤ x + t
    by all x s t y one other = omega (arith, one, other)
put_by Greater x y ys rest few = record {
  counts = let low = few.counts in omega (arith, low);
  weighs = by (size_of (y ∷ rest)) (znode_size y) (size_of rest) (znode_size x) (size_of ys) (size_of (y ∷ ys)) (size_cons y rest) (size_cons y ys) few.weighs;
}
  where
    by : (all y r x s t : ℕ) → all ≡ y + r → t ≡ y + s → r ≤ x + s → all ≤ x + t
    by all y r x s t one other low = omega (arith, one, other, low)

put_few : (x : Rendered) (ys : Znodes) → FewZnodes (put bytes_cmp path_of_rendered x ys) (1 + length ys) (znode_size x + size_of ys)
put_few x [] = record { counts = omega arith; weighs = by (size_of (x ∷ [])) (znode_size x) (size_cons x []) }
  where
    by : (all x : ℕ) → all ≡ x + 0 → all ≤ x + 0
    by all x is = omega (arith, is)
put_few x (y ∷ ys) = put_by (bytes_cmp x.path y.path) x y ys (put bytes_cmp path_of_rendered x ys) (put_few x ys)

without_by : (b : Bool) (x : Rendered) (xs rest : Znodes) → FewZnodes rest (length xs) (size_of xs) → FewZnodes (if b then xs else x ∷ rest) (length (x ∷ xs)) (size_of (x ∷ xs))
without_by true x xs rest few = record { counts = omega arith; weighs = by (size_of xs) (znode_size x) (size_of (x ∷ xs)) (size_cons x xs) }
  where
    by : (s x all : ℕ) → all ≡ x + s → s ≤ all
    by s x all is = omega (arith, is)
without_by false x xs rest few = record { counts = let low = few.counts in omega (arith, low); weighs = by (size_of (x ∷ rest)) (znode_size x) (size_of rest) (size_of xs) (size_of (x ∷ xs)) (size_cons x rest) (size_cons x xs) few.weighs }
  where
    by : (all x r s t : ℕ) → all ≡ x + r → t ≡ x + s → r ≤ s → all ≤ t
    by all x r s t one other low = omega (arith, one, other, low)

without_few : (path : List ℕ) (xs : Znodes) → FewZnodes (without bytes_cmp path_of_rendered path xs) (length xs) (size_of xs)
without_few path [] = record { counts = omega arith; weighs = omega arith }
without_few path (x ∷ xs) = without_by (is_eq (bytes_cmp path x.path)) x xs (without bytes_cmp path_of_rendered path xs) (without_few path xs)

few_more : (znodes : Znodes) (c b d e : ℕ) → c ≤ d → b ≤ e → FewZnodes znodes c b → FewZnodes znodes d e
few_more znodes c b d e low light few = record { counts = then_most (length znodes) c d few.counts low; weighs = then_most (size_of znodes) b e few.weighs light }
  where
    then_most : (x y z : ℕ) → x ≤ y → y ≤ z → x ≤ z
    then_most x y z one other = omega (arith, one, other)

more_by : (a x : ℕ) → a ≤ x + a
more_by a x = omega arith

edit_few : (e : Edit Rendered (List ℕ)) (xs : Znodes) → FewZnodes (after_edit bytes_cmp path_of_rendered e xs) (1 + length xs) (op_size (op_of e) + size_of xs)
edit_few (drop_key path) xs = few_more (without bytes_cmp path_of_rendered path xs) (length xs) (size_of xs) (1 + length xs) (op_size (op_of (drop_key path)) + size_of xs) (more_by (length xs) 1) (more_by (size_of xs) (op_size (op_of (drop_key path)))) (without_few path xs)
edit_few (make x) xs = put_few x xs
edit_few (alter x) xs = put_few x xs

one_operation : (o : Op) (os : List Op) → length (o ∷ os) ≡ 1 + length os
one_operation o os = omega arith

edits_few : (es : Edits) (xs : Znodes) → FewZnodes (all_edited bytes_cmp path_of_rendered es xs) (length xs + length (edited es)) (size_of xs + bytes_of (edited es))
edits_few [] xs = record { counts = one_more (length xs) 0; weighs = one_more (size_of xs) 0 }
edits_few (e ∷ es) xs =
    let next = after_edit bytes_cmp path_of_rendered e xs in
    let one = edit_few e xs in
    few_more (all_edited bytes_cmp path_of_rendered es next) (length next + length (edited es)) (size_of next + bytes_of (edited es)) (length xs + length (edited (e ∷ es))) (size_of xs + bytes_of (edited (e ∷ es)))
    (counts (length next) (length xs) (length (edited es)) (length (edited (e ∷ es))) one.counts (one_operation (op_of e) (edited es)))
    (weighs (size_of next) (size_of xs) (op_size (op_of e)) (bytes_of (edited es)) (bytes_of (edited (e ∷ es))) one.weighs (bytes_cons (op_of e) (edited es)))
    (edits_few es next)
  where
    counts : (n x l all : ℕ) → n ≤ 1 + x → all ≡ 1 + l → n + l ≤ x + all
    counts n x l all low is = omega (arith, low, is)

    weighs : (n x o b all : ℕ) → n ≤ o + x → all ≡ o + b → n + b ≤ x + all
    weighs n x o b all low is = omega (arith, low, is)

-- the second rendering has no more than the first and the operations that lead to it
pub want_few : (a b : Znodes) → Rises bytes_cmp path_of_rendered a → Rises bytes_cmp path_of_rendered b → FewZnodes b (length a + length (diff a b)) (size_of a + bytes_of (diff a b))
unfolding diff
want_few a b h w =
    subst (λ (znodes : Znodes). FewZnodes znodes (length a + length (edited (difference bytes_cmp path_of_rendered same_body a b))) (size_of a + bytes_of (edited (difference bytes_cmp path_of_rendered same_body a b))))
    (difference_leads bytes_order path_of_rendered same_body decides_body a b h w) (edits_few (difference bytes_cmp path_of_rendered same_body a b) a)
