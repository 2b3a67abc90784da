-- Operations one after another.
use Rattle.std.proofs.Common.{◌≡◌, ◌≢◌, ℕ, zero, suc, ◌+◌, ℤ, true, false, List, [], ◌∷◌, ◌++◌, Option, Some, None, option_map, refl, ap, ◌∙◌, map, take}
use Rattle.std.specs.Prelude.{Result, Ok, ⊤}
use Rattle.kz_types.specs.declared.tree.Row.{Row}
use Rattle.kz_types.specs.declared.tree.Op.{Op}
use Rattle.kz_types.specs.declared.tree.Rendered.{Rendered}
use Rattle.kz_types.specs.declared.fault.TreeFault.{TreeFault}
use Rattle.kz_types.specs.Paths.{is_migrated}
use Rattle.kz_types.specs.Order.{bytes_cmp}
use Rattle.kz_types.specs.Ordered.{Rises}
use Rattle.kz_types.specs.Difference.{Edit, drop_key, make, alter, all_edited}
use Rattle.kz_spec_data.specs.Tree.{path_of_op, path_of_row, row_at, after_op, after_ops, rows_unless_refused, Refusal, code, limit, op_refusal, path_of_rendered}
use Rattle.kz_spec_data.specs.Difference.{op_of}
use Rattle.kz_laws_machine.proofs.Rows.{still, others_kept, op_rises}
use Rattle.kz_laws_machine.proofs.Area.{area_of, edit_path, area_changed, area_left}

-- the znodes after these operations, were none refused
abbrev pub ran : ℤ → List Op → List Row → List Row
ran zxid [] rows = rows
ran zxid (o ∷ os) rows = ran zxid os (after_op zxid o rows)

-- none of them is refused
abbrev pub Passes : List ℤ → ℤ → List Op → List Row → Type 0
Passes sessions zxid [] rows = ⊤
Passes sessions zxid (o ∷ os) rows = (op_refusal sessions o rows ≡ None) × Passes sessions zxid os (after_op zxid o rows)

not_refused : (index : ℕ) (r : Option Refusal) (rest : Result (List Row) TreeFault) (new : List Row) → rows_unless_refused index r rest ≡ Ok new → (r ≡ None) × (rest ≡ Ok new)
not_refused index None rest new is = (refl, is)
not_refused index (Some (code c)) rest new is = absurd (cc)
not_refused index (Some (limit n)) rest new is = absurd (cc)

pub passed : (sessions : List ℤ) (zxid : ℤ) (index : ℕ) (os : List Op) (rows new : List Row) → after_ops sessions zxid index os rows ≡ Ok new → Passes sessions zxid os rows
passed sessions zxid index [] rows new is = tt
passed sessions zxid index (o ∷ os) rows new is =
    let both = not_refused index (op_refusal sessions o rows) (after_ops sessions zxid (index + 1) os (after_op zxid o rows)) new is in
    (both.0, passed sessions zxid (index + 1) os (after_op zxid o rows) new both.1)

pub ran_is : (sessions : List ℤ) (zxid : ℤ) (index : ℕ) (os : List Op) (rows new : List Row) → after_ops sessions zxid index os rows ≡ Ok new → new ≡ ran zxid os rows
ran_is sessions zxid index [] rows new is = cc
ran_is sessions zxid index (o ∷ os) rows new is =
    let both = not_refused index (op_refusal sessions o rows) (after_ops sessions zxid (index + 1) os (after_op zxid o rows)) new is in
    ran_is sessions zxid (index + 1) os (after_op zxid o rows) new both.1

pub ran_append : (zxid : ℤ) (xs ys : List Op) (rows : List Row) → ran zxid (xs ++ ys) rows ≡ ran zxid ys (ran zxid xs rows)
ran_append zxid [] ys rows = refl
ran_append zxid (x ∷ xs) ys rows = ran_append zxid xs ys (after_op zxid x rows)

pub passes_left : (sessions : List ℤ) (zxid : ℤ) (xs ys : List Op) (rows : List Row) → Passes sessions zxid (xs ++ ys) rows → Passes sessions zxid xs rows
passes_left sessions zxid [] ys rows p = tt
passes_left sessions zxid (x ∷ xs) ys rows p = (p.0, passes_left sessions zxid xs ys (after_op zxid x rows) p.1)

pub passes_right : (sessions : List ℤ) (zxid : ℤ) (xs ys : List Op) (rows : List Row) → Passes sessions zxid (xs ++ ys) rows → Passes sessions zxid ys (ran zxid xs rows)
passes_right sessions zxid [] ys rows p = p
passes_right sessions zxid (x ∷ xs) ys rows p = passes_right sessions zxid xs ys (after_op zxid x rows) p.1

pub ran_rises : (zxid : ℤ) (os : List Op) (rows : List Row) → Rises bytes_cmp path_of_row rows → Rises bytes_cmp path_of_row (ran zxid os rows)
ran_rises zxid [] rows h = h
ran_rises zxid (o ∷ os) rows h = ran_rises zxid os (after_op zxid o rows) (op_rises zxid o rows h)

-- none of these is at the path
abbrev pub Avoids : List ℕ → List Op → Type 0
Avoids p [] = ⊤
Avoids p (o ∷ os) = (p ≢ path_of_op o) × Avoids p os

pub avoids_append : (p : List ℕ) (xs ys : List Op) → Avoids p xs → Avoids p ys → Avoids p (xs ++ ys)
avoids_append p [] ys a b = b
avoids_append p (x ∷ xs) ys a b = (a.0, avoids_append p xs ys a.1 b)

pub ran_keeps : (zxid : ℤ) (p : List ℕ) (os : List Op) (rows : List Row) → Avoids p os → option_map still (row_at p (ran zxid os rows)) ≡ option_map still (row_at p rows)
ran_keeps zxid p [] rows a = refl
ran_keeps zxid p (o ∷ os) rows a = ran_keeps zxid p os (after_op zxid o rows) a.1 ∙ others_kept zxid o p rows a.0

-- ---- the area

-- these edits are of the migrated area
abbrev pub Inside : List (Edit Rendered (List ℕ)) → Type 0
Inside [] = ⊤
Inside (e ∷ es) = (is_migrated (edit_path e) ≡ true) × Inside es

pub area_ran : (sessions : List ℤ) (zxid : ℤ) (es : List (Edit Rendered (List ℕ))) (rows : List Row) → Rises bytes_cmp path_of_row rows → Inside es → Passes sessions zxid (map op_of es) rows
    → area_of (ran zxid (map op_of es) rows) ≡ all_edited bytes_cmp path_of_rendered es (area_of rows)
area_ran sessions zxid [] rows h inside pass = refl
area_ran sessions zxid (e ∷ es) rows h inside pass =
    area_ran sessions zxid es (after_op zxid (op_of e) rows) (op_rises zxid (op_of e) rows h) inside.1 pass.1
    ∙ ap (all_edited bytes_cmp path_of_rendered es) (area_changed sessions zxid e rows h inside.0 pass.0)

-- these operations are outside of the area
abbrev pub Outside : List Op → Type 0
Outside [] = ⊤
Outside (o ∷ os) = (is_migrated (path_of_op o) ≡ false) × Outside os

pub area_ran_left : (zxid : ℤ) (os : List Op) (rows : List Row) → Rises bytes_cmp path_of_row rows → Outside os → area_of (ran zxid os rows) ≡ area_of rows
area_ran_left zxid [] rows h outside = refl
area_ran_left zxid (o ∷ os) rows h outside = area_ran_left zxid os (after_op zxid o rows) (op_rises zxid o rows h) outside.1 ∙ area_left zxid o rows h outside.0

pub inside_take : (n : ℕ) (es : List (Edit Rendered (List ℕ))) → Inside es → Inside (take n es)
inside_take zero es inside = tt
inside_take (suc n) [] inside = tt
inside_take (suc n) (e ∷ es) inside = (inside.0, inside_take n es inside.1)

-- a path outside of the area is avoided by edits of the area
pub avoids_inside : (p : List ℕ) (es : List (Edit Rendered (List ℕ))) → is_migrated p ≡ false → Inside es → Avoids p (map op_of es)
avoids_inside p [] out inside = tt
avoids_inside p (drop_key q ∷ es) out inside = (λ is. let e = ap is_migrated is in cc (inside.0), avoids_inside p es out inside.1)
avoids_inside p (make r ∷ es) out inside = (λ is. let e = ap is_migrated is in cc (inside.0), avoids_inside p es out inside.1)
avoids_inside p (alter r ∷ es) out inside = (λ is. let e = ap is_migrated is in cc (inside.0), avoids_inside p es out inside.1)
