-- The zxid of a multi plays no part in what is refused.
use Rattle.std.proofs.Common.{◌≡◌, ℕ, ◌+◌, ℤ, pos, Bool, true, false, cond, not, ◌||◌, List, [], ◌∷◌, map, Option, Some, None, is_some, option_map, Result, Ok, Err, Less, Equal, Greater, refl, sym, ap, ◌∙◌}
use Rattle.std.specs.Ordering.{match_ordering, is_eq}
use Rattle.std.specs.Str.{bytes_eq}
use Rattle.std.specs.declared.cmp.Ordering.{Ordering}
use Rattle.std.proofs.lemmas.List.Folds.{fold-map}
use Rattle.kz_types.specs.Paths.{is_migrated}
use Rattle.kz_types.specs.declared.tree.Row.{Row}
use Rattle.kz_types.specs.declared.tree.Op.{Op}
use Rattle.kz_types.specs.declared.tree.Op.TheVariants.{Create, Set, Delete, Check}
use Rattle.kz_types.specs.declared.fault.TreeFault.{TreeFault}
use Rattle.kz_types.specs.Order.{bytes_cmp}
use Rattle.kz_spec_data.specs.Tree.{Refusal, code, limit, row_at, put_row, without_row, parent_of, has_children, is_ephemeral, count_beside, create_refusal, set_refusal, delete_refusal, check_refusal, op_refusal, created_row, set_row, with_child_change, after_set, after_op, rows_unless_refused, after_ops}

-- a znode without its zxids
abbrev bare : Row → Row
bare r = record r { czxid = pos 0; mzxid = pos 0; pzxid = pos 0 }

abbrev pub all_bare : List Row → List Row
all_bare rows = map bare rows

bare_twice : (rows : List Row) → all_bare (all_bare rows) ≡ all_bare rows
bare_twice [] = refl
bare_twice (r ∷ rs) = ap (λ l. bare r ∷ l) (bare_twice rs)

-- ---- look-ups and changes

pick : (b : Bool) (r : Row) (rest : Option Row) (bare_rest : Option Row) → bare_rest ≡ option_map bare rest → cond b (Some (bare r)) bare_rest ≡ option_map bare (cond b (Some r) rest)
pick true r rest bare_rest e = refl
pick false r rest bare_rest e = e

found_bare : (path : List ℕ) (rows : List Row) → row_at path (all_bare rows) ≡ option_map bare (row_at path rows)
found_bare path [] = refl
found_bare path (r ∷ rs) = pick (is_eq (bytes_cmp path r.path)) r (row_at path rs) (row_at path (all_bare rs)) (found_bare path rs)

put_case : (o : Ordering) (x y : Row) (ys placed : List Row) → all_bare placed ≡ put_row (bare x) (all_bare ys)
    → all_bare (match_ordering o (x ∷ y ∷ ys) (x ∷ ys) (y ∷ placed)) ≡ match_ordering o (bare x ∷ bare y ∷ all_bare ys) (bare x ∷ all_bare ys) (bare y ∷ put_row (bare x) (all_bare ys))
put_case Less x y ys placed e = refl
put_case Equal x y ys placed e = refl
put_case Greater x y ys placed e = ap (λ l. bare y ∷ l) e

bare_put : (x : Row) (rows : List Row) → all_bare (put_row x rows) ≡ put_row (bare x) (all_bare rows)
bare_put x [] = refl
bare_put x (y ∷ ys) = put_case (bytes_cmp x.path y.path) x y ys (put_row x ys) (bare_put x ys)

without_case : (b : Bool) (x : Row) (xs rest : List Row) (path : List ℕ) → all_bare rest ≡ without_row path (all_bare xs) → all_bare (cond b xs (x ∷ rest)) ≡ cond b (all_bare xs) (bare x ∷ without_row path (all_bare xs))
without_case true x xs rest path e = refl
without_case false x xs rest path e = ap (λ l. bare x ∷ l) e

bare_without : (path : List ℕ) (rows : List Row) → all_bare (without_row path rows) ≡ without_row path (all_bare rows)
bare_without path [] = refl
bare_without path (x ∷ xs) = without_case (is_eq (bytes_cmp path x.path)) x xs (without_row path xs) path (bare_without path xs)

-- ---- refusals

some_bare : (o : Option Row) → is_some (option_map bare o) ≡ is_some o
some_bare None = refl
some_bare (Some r) = refl

ephemeral_bare : (o : Option Row) → is_ephemeral (option_map bare o) ≡ is_ephemeral o
ephemeral_bare None = refl
ephemeral_bare (Some r) = refl

children_bare : (path : List ℕ) (rows : List Row) → has_children path (all_bare rows) ≡ has_children path rows
children_bare path [] = refl
children_bare path (r ∷ rs) = ap (λ b. bytes_eq (parent_of r.path) path || b) (children_bare path rs)

count_bare : (path : List ℕ) (rows : List Row) → count_beside path (all_bare rows) ≡ count_beside path rows
count_bare path rows = fold-map (λ n (r : Row). n + cond (cond (is_migrated path) (is_migrated r.path) (not (is_migrated r.path))) 1 0) bare 0 rows

there_bare : (path : List ℕ) (rows : List Row) → is_some (row_at path (all_bare rows)) ≡ is_some (row_at path rows)
there_bare path rows = ap (λ (o : Option Row). is_some o) (found_bare path rows) ∙ some_bare (row_at path rows)

create_bare : (sessions : List ℤ) (path body : List ℕ) (owner : Option ℤ) (rows : List Row) → create_refusal sessions path body owner (all_bare rows) ≡ create_refusal sessions path body owner rows
create_bare sessions path body owner rows =
    rw (there_bare (parent_of path) rows, there_bare path rows, ap is_ephemeral (found_bare (parent_of path) rows) ∙ ephemeral_bare (row_at (parent_of path) rows), count_bare path rows) refl

set_bare : (body : List ℕ) (version : ℤ) (o : Option Row) → set_refusal body version (option_map bare o) ≡ set_refusal body version o
set_bare body version None = refl
set_bare body version (Some r) = refl

delete_bare : (path : List ℕ) (version : ℤ) (rows : List Row) (o : Option Row) → delete_refusal path version (all_bare rows) (option_map bare o) ≡ delete_refusal path version rows o
delete_bare path version rows None = refl
delete_bare path version rows (Some r) = rw (children_bare path rows) refl

check_bare : (version : ℤ) (o : Option Row) → check_refusal version (option_map bare o) ≡ check_refusal version o
check_bare version None = refl
check_bare version (Some r) = refl

refusal_bare : (sessions : List ℤ) (o : Op) (rows : List Row) → op_refusal sessions o (all_bare rows) ≡ op_refusal sessions o rows
refusal_bare sessions (Create path body owner) rows = create_bare sessions path body owner rows
refusal_bare sessions (Set path body version) rows = ap (set_refusal body version) (found_bare path rows) ∙ set_bare body version (row_at path rows)
refusal_bare sessions (Delete path version) rows = ap (delete_refusal path version (all_bare rows)) (found_bare path rows) ∙ delete_bare path version rows (row_at path rows)
refusal_bare sessions (Check path version) rows = ap (check_refusal version) (found_bare path rows) ∙ check_bare version (row_at path rows)

-- ---- effects

touched_bare : (z : ℤ) (o : Option Row) (rows : List Row) → all_bare (with_child_change z o rows) ≡ all_bare (with_child_change (pos 0) (option_map bare o) (all_bare rows))
touched_bare z None rows = sym (bare_twice rows)
touched_bare z (Some r) rows =
    bare_put (record r { pzxid = z }) rows ∙ ap (put_row (bare r)) (sym (bare_twice rows)) ∙ sym (bare_put (record (bare r) { pzxid = pos 0 }) (all_bare rows))

after_set_bare : (z : ℤ) (body : List ℕ) (o : Option Row) (rows : List Row) → all_bare (after_set z body o rows) ≡ all_bare (after_set (pos 0) body (option_map bare o) (all_bare rows))
after_set_bare z body None rows = sym (bare_twice rows)
after_set_bare z body (Some r) rows =
    bare_put (set_row z body r) rows ∙ ap (put_row (bare (set_row (pos 0) body (bare r)))) (sym (bare_twice rows)) ∙ sym (bare_put (set_row (pos 0) body (bare r)) (all_bare rows))

parent_touched : (z : ℤ) (path : List ℕ) (rows : List Row) → all_bare (with_child_change z (row_at path rows) rows) ≡ all_bare (with_child_change (pos 0) (row_at path (all_bare rows)) (all_bare rows))
parent_touched z path rows = touched_bare z (row_at path rows) rows ∙ ap (λ o. all_bare (with_child_change (pos 0) o (all_bare rows))) (sym (found_bare path rows))

effect_bare : (z : ℤ) (o : Op) (rows : List Row) → all_bare (after_op z o rows) ≡ all_bare (after_op (pos 0) o (all_bare rows))
effect_bare z (Create path body owner) rows =
    bare_put (created_row z path body owner) (with_child_change z (row_at (parent_of path) rows) rows) ∙ ap (put_row (bare (created_row (pos 0) path body owner))) (parent_touched z (parent_of path) rows)
    ∙ sym (bare_put (created_row (pos 0) path body owner) (with_child_change (pos 0) (row_at (parent_of path) (all_bare rows)) (all_bare rows)))
effect_bare z (Set path body version) rows = after_set_bare z body (row_at path rows) rows ∙ ap (λ o. all_bare (after_set (pos 0) body o (all_bare rows))) (sym (found_bare path rows))
effect_bare z (Delete path version) rows =
    bare_without path (with_child_change z (row_at (parent_of path) rows) rows) ∙ ap (without_row path) (parent_touched z (parent_of path) rows)
    ∙ sym (bare_without path (with_child_change (pos 0) (row_at (parent_of path) (all_bare rows)) (all_bare rows)))
effect_bare z (Check path version) rows = sym (bare_twice rows)

-- ---- a multi

abbrev pub Alike : Result (List Row) TreeFault → Result (List Row) TreeFault → Type 0
Alike (Ok a) (Ok b) = all_bare a ≡ all_bare b
Alike (Ok a) (Err f) = ⊥
Alike (Err e) (Ok b) = ⊥
Alike (Err e) (Err f) = e ≡ f

alike_step : (index : ℕ) (r : Option Refusal) (a b : Result (List Row) TreeFault) → Alike a b → Alike (rows_unless_refused index r a) (rows_unless_refused index r b)
alike_step index None a b h = h
alike_step index (Some (code c)) a b h = refl
alike_step index (Some (limit n)) a b h = refl

pub ops_alike : (sessions : List ℤ) (y z : ℤ) (index : ℕ) (ops : List Op) (a b : List Row) → all_bare a ≡ all_bare b → Alike (after_ops sessions y index ops a) (after_ops sessions z index ops b)
ops_alike sessions y z index [] a b h = h
ops_alike sessions y z index (o ∷ os) a b h =
    let same : op_refusal sessions o b ≡ op_refusal sessions o a = sym (refusal_bare sessions o b) ∙ ap (op_refusal sessions o) (sym h) ∙ refusal_bare sessions o a in
    let next : all_bare (after_op y o a) ≡ all_bare (after_op z o b) = effect_bare y o a ∙ ap (λ rows. all_bare (after_op (pos 0) o rows)) h ∙ sym (effect_bare z o b) in
    rw same (alike_step index (op_refusal sessions o a) (after_ops sessions y (index + 1) os (after_op y o a)) (after_ops sessions z (index + 1) os (after_op z o b))
    (ops_alike sessions y z (index + 1) os (after_op y o a) (after_op z o b) next))

refused_alike : (a b : Result (List Row) TreeFault) (e : TreeFault) → Alike a b → a ≡ Err e → b ≡ Err e
refused_alike (Ok a) b e h is = absurd (cc)
refused_alike (Err f) (Ok b) e h is = absurd h
refused_alike (Err f) (Err g) e h is = ap (λ x. Err x) (sym h) ∙ is

-- what is refused with one zxid is with another
pub refused_whatever : (sessions : List ℤ) (y z : ℤ) (ops : List Op) (rows : List Row) (e : TreeFault) → after_ops sessions y 0 ops rows ≡ Err e → after_ops sessions z 0 ops rows ≡ Err e
refused_whatever sessions y z ops rows e is = refused_alike (after_ops sessions y 0 ops rows) (after_ops sessions z 0 ops rows) e (ops_alike sessions y z 0 ops rows rows refl) is

accepted_alike : (a b : Result (List Row) TreeFault) (rows : List Row) → Alike a b → a ≡ Ok rows → (other : List Row) × (b ≡ Ok other)
accepted_alike (Ok a) (Ok b) rows h is = (b, refl)
accepted_alike (Ok a) (Err f) rows h is = absurd h
accepted_alike (Err f) b rows h is = absurd (cc)

-- what is accepted with one zxid is with another
pub accepted_whatever : (sessions : List ℤ) (y z : ℤ) (ops : List Op) (rows first : List Row) → after_ops sessions y 0 ops first ≡ Ok rows → (other : List Row) × (after_ops sessions z 0 ops first ≡ Ok other)
accepted_whatever sessions y z ops rows first is = accepted_alike (after_ops sessions y 0 ops first) (after_ops sessions z 0 ops first) rows (ops_alike sessions y z 0 ops first first refl) is
