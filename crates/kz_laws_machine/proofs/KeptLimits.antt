-- Operations that aren't refused keep the limits of a tree.
use Rattle.std.proofs.Common.{◌≡◌, ℕ, ◌+◌, ◌≤◌, ◌<◌, nat_le, ℤ, pos, negsuc, ◌+ℤ◌, ◌≤ℤ◌, int_le, Bool, true, false, not, if◌then◌else◌, cond, List, [], ◌∷◌, length, map, filter, Option, Some, None, is_some, refl, sym, ap, ◌∙◌, subst, arith}
use Rattle.std.specs.Prelude.{nat_lt}
use Rattle.std.specs.List.{count_by}
use Rattle.std.proofs.lemmas.Bool.Decides.{nat_tests}
use Rattle.std.proofs.lemmas.Int.{ints}
use Rattle.std.proofs.lemmas.List.Sums.{sum_by-cons}
use Rattle.kz_types.specs.declared.limits.TheConstants.{MAX_BODY_BYTES, MAX_VERSION, MAX_ZNODES}
use Rattle.kz_types.specs.declared.tree.Row.{Row}
use Rattle.kz_types.specs.declared.tree.Op.{Op}
use Rattle.kz_types.specs.declared.tree.Op.TheVariants.{Create, Set, Delete, Check}
use Rattle.kz_types.specs.Paths.{is_migrated}
use Rattle.kz_types.specs.Order.{bytes_cmp}
use Rattle.kz_types.specs.Ordered.{Rises}
use Rattle.kz_types.proofs.Order.{bytes_order, below, equal, above, place, cmp_equal, cmp_greater, is_eq_same, is_eq_other, less_differs, less_differs_back}
use Rattle.kz_types.proofs.Lookup.{some_is_none, key_of_found, find_skip, find_below_first, rest_rises}
use Rattle.kz_spec_data.specs.Tree.{path_of_row, row_at, put_row, without_row, parent_of, has_parent, is_ephemeral, may_own, fits_version, count_beside, limit_beside, Refusal, code, limit, create_refusal, set_refusal, op_refusal, created_row, set_row, with_child_change, after_set, after_op}
use Rattle.kz_spec_machine.specs.Sound.{IsSmall}
use Rattle.kz_laws_machine.proofs.Rows.{op_rises}
use Rattle.kz_laws_machine.proofs.Runs.{ran, Passes}
use Rattle.kz_laws_machine.proofs.Each.{Keeps}
use Rattle.kz_laws_machine.proofs.Parents.{passed_first}

-- ---- what a refusal tells

not_more : (a b : ℕ) → nat_lt b a ≡ false → a ≤ b
not_more a b is = grind (arith, nat_tests)

fewer : (a b : ℕ) → nat_le b a ≡ false → a < b
fewer a b is = grind (arith, nat_tests)

-- the body and the number of znodes at a create that isn't refused
record Roomy (path text : List ℕ) (rows : List Row) : Type 0 where
  body : length text ≤ MAX_BODY_BYTES
  few : count_beside path rows < MAX_ZNODES

created_roomy : (sessions : List ℤ) (path body : List ℕ) (owner : Option ℤ) (rows : List Row) → create_refusal sessions path body owner rows ≡ None → Roomy path body rows
created_roomy sessions path body owner rows pass =
    let fifth : List (Bool × Refusal) = (nat_le MAX_ZNODES (count_beside path rows), limit (limit_beside path)) ∷ [] in
    let fourth : List (Bool × Refusal) = (nat_lt MAX_BODY_BYTES (length body), limit 2) ∷ fifth in
    let third : List (Bool × Refusal) = (is_ephemeral (row_at (parent_of path) rows), code (negsuc 107)) ∷ fourth in
    let second : List (Bool × Refusal) = (is_some (row_at path rows), code (negsuc 109)) ∷ third in
    let a = passed_first (not (may_own owner sessions)) (code (negsuc 111)) ((not (has_parent path rows), code (negsuc 100)) ∷ second) pass in
    let b = passed_first (not (has_parent path rows)) (code (negsuc 100)) second a.1 in
    let c = passed_first (is_some (row_at path rows)) (code (negsuc 109)) third b.1 in
    let d = passed_first (is_ephemeral (row_at (parent_of path) rows)) (code (negsuc 107)) fourth c.1 in
    let e = passed_first (nat_lt MAX_BODY_BYTES (length body)) (limit 2) fifth d.1 in
    let f = passed_first (nat_le MAX_ZNODES (count_beside path rows)) (limit (limit_beside path)) [] e.1 in
    record { body = not_more (length body) MAX_BODY_BYTES e.0; few = fewer (count_beside path rows) MAX_ZNODES f.0 }

below_most : (v : ℤ) → int_le MAX_VERSION v ≡ false → (v +ℤ pos 1) ≤ℤ MAX_VERSION
below_most v is = grind (arith, ints)

set_small : (body : List ℕ) (version : ℤ) (r : Row) → set_refusal body version (Some r) ≡ None → (length body ≤ MAX_BODY_BYTES) × ((r.version +ℤ pos 1) ≤ℤ MAX_VERSION)
set_small body version r pass =
    let second : List (Bool × Refusal) = (int_le MAX_VERSION r.version, limit 5) ∷ [] in
    let a = passed_first (not (fits_version version r)) (code (negsuc 102)) ((nat_lt MAX_BODY_BYTES (length body), limit 2) ∷ second) pass in
    let b = passed_first (nat_lt MAX_BODY_BYTES (length body)) (limit 2) second a.1 in
    let c = passed_first (int_le MAX_VERSION r.version) (limit 5) [] b.1 in
    (not_more (length body) MAX_BODY_BYTES b.0, below_most r.version c.0)

pub small_keep : (sessions : List ℤ) (zxid : ℤ) → Keeps IsSmall sessions zxid
small_keep sessions zxid = record {
  made = λ path body owner rows pass shaped. record { body = (created_roomy sessions path body owner rows pass).body; version = omega (arith, ints) };
  set = λ path body version r pass shaped key old. let small = set_small body version r pass in record { body = small.0; version = small.1 };
  touched = λ r old. record { body = old.body; version = old.version };
}

-- ---- how many znodes have such a path

abbrev pub many : (List ℕ → Bool) → List Row → ℕ
many p [] = 0
many p (r ∷ rows) = cond (p r.path) 1 0 + many p rows

pub many_is : (p : List ℕ → Bool) (rows : List Row) → count_by (λ (r : Row). p r.path) rows ≡ many p rows
many_is p [] = refl
many_is p (r ∷ rows) = sum_by-cons (λ (x : Row). cond (p x.path) 1 0) r rows ∙ ap (λ n. cond (p r.path) 1 0 + n) (many_is p rows)

not_less : (a : ℕ) → a ≤ a
not_less a = omega arith

left_out : (a b c : ℕ) → a + c ≤ a + (b + c)
left_out a b c = omega arith

after : (a b c d : ℕ) → c ≤ a + d → b + c ≤ a + (b + d)
after a b c d h = omega arith

many_put : (p : List ℕ → Bool) (r : Row) (rows : List Row) → many p (put_row r rows) ≤ cond (p r.path) 1 0 + many p rows
many_put p r [] = not_less (cond (p r.path) 1 0 + 0)
many_put p r (y ∷ ys) = elim (place bytes_order r.path y.path) [
  | below h ↦ rw h (not_less (cond (p r.path) 1 0 + (cond (p y.path) 1 0 + many p ys)))
  | equal h ↦ rw (cmp_equal bytes_order r.path y.path h) (left_out (cond (p r.path) 1 0) (cond (p y.path) 1 0) (many p ys))
  | above h ↦ rw (cmp_greater bytes_order r.path y.path h) (after (cond (p r.path) 1 0) (cond (p y.path) 1 0) (many p (put_row r ys)) (many p ys) (many_put p r ys))
]

also : (a b c : ℕ) → b ≤ c → a + b ≤ a + c
also a b c h = omega arith

more : (a b c : ℕ) → b ≤ c → b ≤ a + c
more a b c h = omega arith

-- a znode takes the place of the one at its path
many_again : (p : List ℕ → Bool) (r s : Row) (rows : List Row) → Rises bytes_cmp path_of_row rows → row_at r.path rows ≡ Some s → many p (put_row r rows) ≤ many p rows
many_again p r s [] rise found = absurd (some_is_none (sym found))
many_again p r s (y ∷ ys) rise found = elim (place bytes_order r.path y.path) [
  | below h ↦ absurd (some_is_none (sym found ∙ find_below_first bytes_order path_of_row r.path y ys rise h))
  | equal h ↦ rw (cmp_equal bytes_order r.path y.path h) (subst (λ q. cond (p q) 1 0 + many p ys ≤ cond (p y.path) 1 0 + many p ys) (sym h) (not_less (cond (p y.path) 1 0 + many p ys)))
  | above h ↦ rw (cmp_greater bytes_order r.path y.path h) (also (cond (p y.path) 1 0) (many p (put_row r ys)) (many p ys)
      (many_again p r s ys (rest_rises bytes_order path_of_row y ys rise) (sym (find_skip bytes_order path_of_row r.path y ys (less_differs_back bytes_order r.path y.path h)) ∙ found)))
]

many_without : (p : List ℕ → Bool) (path : List ℕ) (rows : List Row) → many p (without_row path rows) ≤ many p rows
many_without p path [] = not_less 0
many_without p path (y ∷ ys) = elim (place bytes_order path y.path) [
  | below h ↦ rw (is_eq_other bytes_order path y.path (less_differs bytes_order path y.path h)) (also (cond (p y.path) 1 0) (many p (without_row path ys)) (many p ys) (many_without p path ys))
  | equal h ↦ rw (is_eq_same bytes_order path y.path h) (more (cond (p y.path) 1 0) (many p ys) (many p ys) (not_less (many p ys)))
  | above h ↦ rw (is_eq_other bytes_order path y.path (less_differs_back bytes_order path y.path h)) (also (cond (p y.path) 1 0) (many p (without_row path ys)) (many p ys) (many_without p path ys))
]

many_kept : (p : List ℕ → Bool) (b : Bool) (r : Row) (left rows : List Row) → many p left ≤ many p rows → many p (cond b (r ∷ left) left) ≤ many p (r ∷ rows)
many_kept p true r left rows few = also (cond (p r.path) 1 0) (many p left) (many p rows) few
many_kept p false r left rows few = more (cond (p r.path) 1 0) (many p left) (many p rows) few

pub many_filter : (p : List ℕ → Bool) (q : Row → Bool) (rows : List Row) → many p (filter q rows) ≤ many p rows
many_filter p q [] = not_less 0
many_filter p q (r ∷ rows) = many_kept p (q r) r (filter q rows) rows (many_filter p q rows)

pub many_map : (p : List ℕ → Bool) (f : Row → Row) (rows : List Row) → ((r : Row) → path_of_row (f r) ≡ path_of_row r) → many p (map f rows) ≡ many p rows
many_map p f [] same = refl
many_map p f (r ∷ rows) same = ap (λ q. cond (p q) 1 0 + many p (map f rows)) (same r) ∙ ap (λ n. cond (p r.path) 1 0 + n) (many_map p f rows same)

-- ---- one operation

many_touched : (p : List ℕ → Bool) (zxid : ℤ) (q : List ℕ) (rows : List Row) (m : Option Row) → row_at q rows ≡ m → Rises bytes_cmp path_of_row rows → many p (with_child_change zxid m rows) ≤ many p rows
many_touched p zxid q rows None is rise = not_less (many p rows)
many_touched p zxid q rows (Some r) is rise = many_again p (record r { pzxid = zxid }) r rows rise (ap (λ x. row_at x rows) (key_of_found bytes_order path_of_row q rows r is) ∙ is)

many_set : (p : List ℕ → Bool) (zxid : ℤ) (q body : List ℕ) (rows : List Row) (m : Option Row) → row_at q rows ≡ m → Rises bytes_cmp path_of_row rows → many p (after_set zxid body m rows) ≤ many p rows
many_set p zxid q body rows None is rise = not_less (many p rows)
many_set p zxid q body rows (Some r) is rise = many_again p (set_row zxid body r) r rows rise (ap (λ x. row_at x rows) (key_of_found bytes_order path_of_row q rows r is) ∙ is)

-- one side of the border of the migrated area
abbrev pub side : Bool → List ℕ → Bool
side b path = if b then is_migrated path else not (is_migrated path)

side_is : (b m : Bool) → (if b then m else not m) ≡ true → m ≡ b
side_is true m is = is
side_is false true is = absurd (cc)
side_is false false is = refl

at_most_one_more : (a b c : ℕ) → a ≤ 1 + b → b ≤ c → c < MAX_ZNODES → a ≤ MAX_ZNODES
at_most_one_more a b c x y z = omega arith

no_more : (a b c : ℕ) → a ≤ 0 + b → b ≤ c → c ≤ MAX_ZNODES → a ≤ MAX_ZNODES
no_more a b c x y z = omega arith

-- a create adds one on its own side
created_few : (b own : Bool) (path : List ℕ) (rows between new : List Row) → side b path ≡ own → count_beside path rows < MAX_ZNODES
    → many (side b) new ≤ cond own 1 0 + many (side b) between → many (side b) between ≤ many (side b) rows → many (side b) rows ≤ MAX_ZNODES → many (side b) new ≤ MAX_ZNODES
created_few b true path rows between new is room one touch few =
    let count : count_beside path rows ≡ many (side b) rows = ap (λ c. count_by (λ (r : Row). if c then is_migrated r.path else not (is_migrated r.path)) rows) (side_is b (is_migrated path) is) ∙ many_is (side b) rows in
    at_most_one_more (many (side b) new) (many (side b) between) (many (side b) rows) one touch (subst (λ (n : ℕ). n < MAX_ZNODES) count room)
created_few b false path rows between new is room one touch few = no_more (many (side b) new) (many (side b) between) (many (side b) rows) one touch few

chain : (a b c : ℕ) → a ≤ b → b ≤ c → a ≤ c
chain a b c x y = omega arith

op_few : (b : Bool) (sessions : List ℤ) (zxid : ℤ) (o : Op) (rows : List Row) → op_refusal sessions o rows ≡ None → Rises bytes_cmp path_of_row rows → many (side b) rows ≤ MAX_ZNODES → many (side b) (after_op zxid o rows) ≤ MAX_ZNODES
op_few b sessions zxid (Create path body owner) rows pass rise few =
    let between = with_child_change zxid (row_at (parent_of path) rows) rows in
    created_few b (side b path) path rows between (after_op zxid (Create path body owner) rows) refl (created_roomy sessions path body owner rows pass).few
    (many_put (side b) (created_row zxid path body owner) between) (many_touched (side b) zxid (parent_of path) rows (row_at (parent_of path) rows) refl rise) few
op_few b sessions zxid (Set path body version) rows pass rise few =
    chain (many (side b) (after_op zxid (Set path body version) rows)) (many (side b) rows) MAX_ZNODES (many_set (side b) zxid path body rows (row_at path rows) refl rise) few
op_few b sessions zxid (Delete path version) rows pass rise few =
    let between = with_child_change zxid (row_at (parent_of path) rows) rows in
    chain (many (side b) (without_row path between)) (many (side b) between) MAX_ZNODES (many_without (side b) path between)
    (chain (many (side b) between) (many (side b) rows) MAX_ZNODES (many_touched (side b) zxid (parent_of path) rows (row_at (parent_of path) rows) refl rise) few)
op_few b sessions zxid (Check path version) rows pass rise few = few

ran_few : (b : Bool) (sessions : List ℤ) (zxid : ℤ) (os : List Op) (rows : List Row) → Passes sessions zxid os rows → Rises bytes_cmp path_of_row rows → many (side b) rows ≤ MAX_ZNODES → many (side b) (ran zxid os rows) ≤ MAX_ZNODES
ran_few b sessions zxid [] rows passes rise few = few
ran_few b sessions zxid (o ∷ os) rows passes rise few = ran_few b sessions zxid os (after_op zxid o rows) passes.1 (op_rises zxid o rows rise) (op_few b sessions zxid o rows passes.0 rise few)

-- ---- the limits, said of the counts

pub few_of : (b : Bool) (rows : List Row) → count_by (λ (r : Row). side b r.path) rows ≤ MAX_ZNODES → many (side b) rows ≤ MAX_ZNODES
few_of b rows few = subst (λ (n : ℕ). n ≤ MAX_ZNODES) (many_is (side b) rows) few

pub count_of : (b : Bool) (rows : List Row) → many (side b) rows ≤ MAX_ZNODES → count_by (λ (r : Row). side b r.path) rows ≤ MAX_ZNODES
count_of b rows few = subst (λ (n : ℕ). n ≤ MAX_ZNODES) (sym (many_is (side b) rows)) few

pub ran_counts : (b : Bool) (sessions : List ℤ) (zxid : ℤ) (os : List Op) (rows : List Row) → Passes sessions zxid os rows → Rises bytes_cmp path_of_row rows
    → count_by (λ (r : Row). side b r.path) rows ≤ MAX_ZNODES → count_by (λ (r : Row). side b r.path) (ran zxid os rows) ≤ MAX_ZNODES
ran_counts b sessions zxid os rows passes rise few = count_of b (ran zxid os rows) (ran_few b sessions zxid os rows passes rise (few_of b rows few))

-- fewer znodes, whose paths stay
pub left_counts : (b : Bool) (f : Row → Row) (q : Row → Bool) (rows : List Row) → ((r : Row) → path_of_row (f r) ≡ path_of_row r) → count_by (λ (r : Row). side b r.path) rows ≤ MAX_ZNODES
    → count_by (λ (r : Row). side b r.path) (map f (filter q rows)) ≤ MAX_ZNODES
left_counts b f q rows same few = count_of b (map f (filter q rows)) (subst (λ (n : ℕ). n ≤ MAX_ZNODES) (sym (many_map (side b) f (filter q rows) same))
    (chain (many (side b) (filter q rows)) (many (side b) rows) MAX_ZNODES (many_filter (side b) q rows) (few_of b rows few)))
