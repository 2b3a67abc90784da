-- Operations that pass, or pass a limit: none is refused with a code.
use Rattle.std.proofs.Common.{◌≡◌, ℕ, ℤ, negsuc, Bool, true, false, not, List, [], ◌∷◌, Option, Some, None, is_some, refl, length, nat_lt, nat_le}
use Rattle.std.specs.Prelude.{⊤, int_le}
use Rattle.kz_types.specs.declared.limits.TheConstants.{MAX_BODY_BYTES, MAX_VERSION, MAX_ZNODES}
use Rattle.kz_types.specs.declared.tree.Row.{Row}
use Rattle.kz_spec_data.specs.Tree.{row_at, parent_of, has_parent, has_children, is_ephemeral, count_beside, limit_beside, Refusal, code, limit, first_refusal, create_refusal, set_refusal, delete_refusal}

-- no code is told
abbrev pub Taken : Option Refusal → Type 0
Taken None = ⊤
Taken (Some (code c)) = ⊥
Taken (Some (limit n)) = ⊤

past : (b : Bool) (r : Refusal) (cs : List (Bool × Refusal)) → b ≡ false → Taken (first_refusal cs) → Taken (first_refusal ((b, r) ∷ cs))
past true r cs none rest = absurd (cc)
past false r cs none rest = rest

past_limit : (b : Bool) (n : ℕ) (cs : List (Bool × Refusal)) → Taken (first_refusal cs) → Taken (first_refusal ((b, limit n) ∷ cs))
past_limit true n cs rest = tt
past_limit false n cs rest = rest

not_true : (b : Bool) → b ≡ true → not b ≡ false
not_true true is = refl
not_true false is = absurd (cc)

-- a create without an owner, below what is there and lasts, where nothing is yet
pub create_taken : (sessions : List ℤ) (path body : List ℕ) (rows : List Row) → has_parent path rows ≡ true → is_some (row_at path rows) ≡ false → is_ephemeral (row_at (parent_of path) rows) ≡ false
    → Taken (create_refusal sessions path body None rows)
create_taken sessions path body rows parent absent lasts =
    let limits : List (Bool × Refusal) = (nat_lt MAX_BODY_BYTES (length body), limit 2) ∷ (nat_le MAX_ZNODES (count_beside path rows), limit (limit_beside path)) ∷ [] in
    let last : List (Bool × Refusal) = (is_ephemeral (row_at (parent_of path) rows), code (negsuc 107)) ∷ limits in
    let there : List (Bool × Refusal) = (is_some (row_at path rows), code (negsuc 109)) ∷ last in
    past (not (has_parent path rows)) (code (negsuc 100)) there (not_true (has_parent path rows) parent)
    (past (is_some (row_at path rows)) (code (negsuc 109)) last absent
    (past (is_ephemeral (row_at (parent_of path) rows)) (code (negsuc 107)) limits lasts
    (past_limit (nat_lt MAX_BODY_BYTES (length body)) 2 ((nat_le MAX_ZNODES (count_beside path rows), limit (limit_beside path)) ∷ [])
    (past_limit (nat_le MAX_ZNODES (count_beside path rows)) (limit_beside path) [] tt))))

-- a set of what is there, at any version
pub set_taken : (body : List ℕ) (m : Option Row) → is_some m ≡ true → Taken (set_refusal body (negsuc 0) m)
set_taken body None there = absurd (cc)
set_taken body (Some r) there =
    past_limit (nat_lt MAX_BODY_BYTES (length body)) 2 ((int_le MAX_VERSION r.version, limit 5) ∷ []) (past_limit (int_le MAX_VERSION r.version) 5 [] tt)

-- a delete of what is there and has no children, at any version
pub delete_taken : (path : List ℕ) (rows : List Row) (m : Option Row) → is_some m ≡ true → has_children path rows ≡ false → Taken (delete_refusal path (negsuc 0) rows m)
delete_taken path rows None there none = absurd (cc)
delete_taken path rows (Some r) there none = past (has_children path rows) (code (negsuc 110)) [] none tt
