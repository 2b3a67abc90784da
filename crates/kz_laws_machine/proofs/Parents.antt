-- Operations that aren't refused leave each znode its parent.
use Rattle.std.proofs.Common.{◌≡◌, ◌≢◌, ℕ, ℤ, negsuc, Bool, true, false, not, ◌||◌, List, [], ◌∷◌, Option, Some, None, option_map, is_some, All, refl, sym, ap, ◌∙◌, subst}
use Rattle.std.specs.Prelude.{length, nat_lt, nat_le}
use Rattle.std.specs.Str.{bytes_eq}
use Rattle.std.specs.List.{list_any}
use Rattle.std.proofs.lemmas.Slice.Eq.{bytes_eq-Decides}
use Rattle.std.proofs.lemmas.List.Elements.{All-nil, All-cons, All-contains}
use Rattle.kz_types.specs.declared.limits.TheConstants.{MAX_BODY_BYTES, MAX_ZNODES}
use Rattle.kz_types.specs.declared.tree.Row.{Row}
use Rattle.kz_types.specs.declared.tree.Op.{Op}
use Rattle.kz_types.specs.declared.tree.Op.TheVariants.{Create, Set, Delete, Check}
use Rattle.kz_types.specs.Order.{bytes_cmp}
use Rattle.kz_types.specs.Ordered.{Rises}
use Rattle.kz_types.proofs.Order.{bytes_order}
use Rattle.kz_types.proofs.Lookup.{found_is_contained, key_of_found}
use Rattle.kz_spec_data.specs.Tree.{path_of_op, path_of_row, row_at, parent_of, is_root, has_parent, has_children, is_ephemeral, may_own, fits_version, count_beside, limit_beside, Refusal, code, limit, first_refusal, create_refusal, set_refusal, delete_refusal, op_refusal, after_op}
use Rattle.kz_spec_machine.specs.Sound.{HaveParents}
use Rattle.kz_laws_machine.proofs.Rows.{still, same, other, compare, others_kept, op_rises, created_found, set_found, deleted_found}
use Rattle.kz_laws_machine.proofs.Runs.{ran, Passes}

-- something is there
abbrev pub Is : List ℕ → List Row → Type 0
Is p rows = is_some (row_at p rows) ≡ true

some_still : (m : Option Row) → is_some (option_map still m) ≡ is_some m
some_still None = refl
some_still (Some r) = refl

pub some_alike : (m n : Option Row) → option_map still m ≡ option_map still n → is_some m ≡ is_some n
some_alike m n e = sym (some_still m) ∙ ap is_some e ∙ some_still n

pub there_kept : (zxid : ℤ) (o : Op) (p : List ℕ) (rows : List Row) → p ≢ path_of_op o → is_some (row_at p (after_op zxid o rows)) ≡ is_some (row_at p rows)
there_kept zxid o p rows differ = some_alike (row_at p (after_op zxid o rows)) (row_at p rows) (others_kept zxid o p rows differ)

pub found_some : (p : List ℕ) (rows : List Row) (m : Option Row) → row_at p rows ≡ m → is_some m ≡ true → (r : Row) × (row_at p rows ≡ Some r)
found_some p rows None is there = absurd (cc)
found_some p rows (Some r) is there = (r, is)

-- ---- refusals

pub passed_first : (b : Bool) (r : Refusal) (cs : List (Bool × Refusal)) → first_refusal ((b, r) ∷ cs) ≡ None → (b ≡ false) × (first_refusal cs ≡ None)
passed_first true r cs is = absurd (cc)
passed_first false r cs is = (refl, is)

pub not_not : (b : Bool) → not b ≡ false → b ≡ true
not_not true is = refl
not_not false is = absurd (cc)

create_has_parent : (sessions : List ℤ) (path body : List ℕ) (owner : Option ℤ) (rows : List Row) → create_refusal sessions path body owner rows ≡ None → has_parent path rows ≡ true
create_has_parent sessions path body owner rows pass =
    let rest : List (Bool × Refusal) = (is_some (row_at path rows), code (negsuc 109)) ∷ (is_ephemeral (row_at (parent_of path) rows), code (negsuc 107)) ∷ (nat_lt MAX_BODY_BYTES (length body), limit 2) ∷ (nat_le MAX_ZNODES (count_beside path rows), limit (limit_beside path)) ∷ [] in
    let first = passed_first (not (may_own owner sessions)) (code (negsuc 111)) ((not (has_parent path rows), code (negsuc 100)) ∷ rest) pass in
    not_not (has_parent path rows) (passed_first (not (has_parent path rows)) (code (negsuc 100)) rest first.1).0

delete_has_no_children : (path : List ℕ) (version : ℤ) (rows : List Row) (m : Option Row) → delete_refusal path version rows m ≡ None → has_children path rows ≡ false
delete_has_no_children path version rows None pass = absurd (cc)
delete_has_no_children path version rows (Some r) pass =
    let rest : List (Bool × Refusal) = (has_children path rows, code (negsuc 110)) ∷ [] in
    (passed_first (has_children path rows) (code (negsuc 110)) [] (passed_first (not (fits_version version r)) (code (negsuc 102)) rest pass).1).0

none_true : (p : Row → Bool) (xs : List Row) → list_any p xs ≡ false → All (λ x. p x ≡ false) xs
none_true p [] none = All-nil (λ x. p x ≡ false)
none_true p (x ∷ xs) none = let both = or_false (p x) (list_any p xs) none in All-cons (λ y. p y ≡ false) x xs both.0 (none_true p xs both.1)
  where
    or_false : (a b : Bool) → (a || b) ≡ false → (a ≡ false) × (b ≡ false)
    or_false true b is = absurd (cc)
    or_false false b is = (refl, is)

-- the parent of what is there isn't deleted
no_parent_deleted : (path : List ℕ) (rows : List Row) (p : List ℕ) → has_children path rows ≡ false → Is p rows → parent_of p ≢ path
no_parent_deleted path rows p none there is =
    let found = found_some p rows (row_at p rows) refl there in
    let key : found.0.path ≡ p = key_of_found bytes_order path_of_row p rows found.0 found.1 in
    let no_test = All-contains (λ (r : Row). bytes_eq (parent_of r.path) path ≡ false) rows found.0 (none_true (λ (r : Row). bytes_eq (parent_of r.path) path) rows none) (found_is_contained bytes_order path_of_row p rows found.0 found.1) in
    let test = (bytes_eq-Decides (parent_of found.0.path) path).1 (ap parent_of key ∙ is) in
    cc

-- ---- one operation

abbrev Parented : List ℕ → List Row → Type 0
Parented p rows = has_parent p rows ≡ true

pub parented_by : (root there now : Bool) → (root || there) ≡ true → (there ≡ true → now ≡ true) → (root || now) ≡ true
parented_by true there now is kept = refl
parented_by false there now is kept = kept is

-- what is there stays, unless it is deleted
stays_there : (zxid : ℤ) (o : Op) (p : List ℕ) (rows : List Row) → ((path : List ℕ) (version : ℤ) → o ≡ Delete path version → p ≢ path) → Is p rows → Is p (after_op zxid o rows)
stays_there zxid (Create path body owner) p rows safe there = elim (compare p path) [
  | same is ↦ ap (λ q. is_some (row_at q (after_op zxid (Create path body owner) rows))) is ∙ ap is_some (created_found zxid path body owner rows)
  | other differ ↦ there_kept zxid (Create path body owner) p rows differ ∙ there
]
stays_there zxid (Set path body version) p rows safe there = elim (compare p path) [
  | same is ↦
      let found = found_some path rows (row_at path rows) refl (subst (λ q. Is q rows) is there) in
      ap (λ q. is_some (row_at q (after_op zxid (Set path body version) rows))) is ∙ ap is_some (set_found zxid path body version rows found.0 found.1)
  | other differ ↦ there_kept zxid (Set path body version) p rows differ ∙ there
]
stays_there zxid (Delete path version) p rows safe there = there_kept zxid (Delete path version) p rows (safe path version refl) ∙ there
stays_there zxid (Check path version) p rows safe there = there

keeps_parent : (sessions : List ℤ) (zxid : ℤ) (o : Op) (p : List ℕ) (rows : List Row) → op_refusal sessions o rows ≡ None → Is p rows → Parented p rows → Parented p (after_op zxid o rows)
keeps_parent sessions zxid (Delete path version) p rows pass there has =
    let none = delete_has_no_children path version rows (row_at path rows) pass in
    parented_by (is_root (parent_of p)) (is_some (row_at (parent_of p) rows)) (is_some (row_at (parent_of p) (after_op zxid (Delete path version) rows))) has
    (λ is. stays_there zxid (Delete path version) (parent_of p) rows (λ q v same_op. subst (λ x. parent_of p ≢ x) (path_same path q version v same_op) (no_parent_deleted path rows p none there)) is)
  where
    path_same : (a b : List ℕ) (v w : ℤ) → Delete a v ≡ Delete b w → a ≡ b
    path_same a b v w is = cc
keeps_parent sessions zxid (Create path body owner) p rows pass there has =
    parented_by (is_root (parent_of p)) (is_some (row_at (parent_of p) rows)) (is_some (row_at (parent_of p) (after_op zxid (Create path body owner) rows))) has
    (λ is. stays_there zxid (Create path body owner) (parent_of p) rows (λ q v same_op. absurd (cc)) is)
keeps_parent sessions zxid (Set path body version) p rows pass there has =
    parented_by (is_root (parent_of p)) (is_some (row_at (parent_of p) rows)) (is_some (row_at (parent_of p) (after_op zxid (Set path body version) rows))) has
    (λ is. stays_there zxid (Set path body version) (parent_of p) rows (λ q v same_op. absurd (cc)) is)
keeps_parent sessions zxid (Check path version) p rows pass there has = has

other_path : (sessions : List ℤ) (zxid : ℤ) (o : Op) (p : List ℕ) (rows : List Row) → op_refusal sessions o rows ≡ None → HaveParents rows → p ≢ path_of_op o → Is p (after_op zxid o rows) → Parented p (after_op zxid o rows)
other_path sessions zxid o p rows pass have differ there =
    let was : Is p rows = sym (there_kept zxid o p rows differ) ∙ there in
    keeps_parent sessions zxid o p rows pass was (have p was)

created_parent : (sessions : List ℤ) (zxid : ℤ) (path body : List ℕ) (owner : Option ℤ) (rows : List Row) → op_refusal sessions (Create path body owner) rows ≡ None → Parented path (after_op zxid (Create path body owner) rows)
created_parent sessions zxid path body owner rows pass =
    parented_by (is_root (parent_of path)) (is_some (row_at (parent_of path) rows)) (is_some (row_at (parent_of path) (after_op zxid (Create path body owner) rows))) (create_has_parent sessions path body owner rows pass)
    (λ is. stays_there zxid (Create path body owner) (parent_of path) rows (λ q v same_op. absurd (cc)) is)

pub set_there : (body path : List ℕ) (version : ℤ) (rows : List Row) (m : Option Row) → row_at path rows ≡ m → set_refusal body version m ≡ None → Is path rows
set_there body path version rows None is pass = absurd (cc)
set_there body path version rows (Some r) is pass = ap is_some is

own_path : (sessions : List ℤ) (zxid : ℤ) (o : Op) (rows : List Row) → op_refusal sessions o rows ≡ None → Rises bytes_cmp path_of_row rows → HaveParents rows → Is (path_of_op o) (after_op zxid o rows) → Parented (path_of_op o) (after_op zxid o rows)
own_path sessions zxid (Create path body owner) rows pass rise have there = created_parent sessions zxid path body owner rows pass
own_path sessions zxid (Set path body version) rows pass rise have there =
    let was = set_there body path version rows (row_at path rows) refl pass in
    keeps_parent sessions zxid (Set path body version) path rows pass was (have path was)
own_path sessions zxid (Delete path version) rows pass rise have there = absurd (let none = ap is_some (deleted_found zxid path version rows rise) in cc)
own_path sessions zxid (Check path version) rows pass rise have there = have path there

pub op_parents : (sessions : List ℤ) (zxid : ℤ) (o : Op) (rows : List Row) → op_refusal sessions o rows ≡ None → Rises bytes_cmp path_of_row rows → HaveParents rows → HaveParents (after_op zxid o rows)
op_parents sessions zxid o rows pass rise have p there = elim (compare p (path_of_op o)) [
  | same is ↦ subst (λ q. Parented q (after_op zxid o rows)) (sym is) (own_path sessions zxid o rows pass rise have (subst (λ q. Is q (after_op zxid o rows)) is there))
  | other differ ↦ other_path sessions zxid o p rows pass have differ there
]

pub ran_parents : (sessions : List ℤ) (zxid : ℤ) (os : List Op) (rows : List Row) → Passes sessions zxid os rows → Rises bytes_cmp path_of_row rows → HaveParents rows → HaveParents (ran zxid os rows)
ran_parents sessions zxid [] rows passes rise have = have
ran_parents sessions zxid (o ∷ os) rows passes rise have = ran_parents sessions zxid os (after_op zxid o rows) passes.1 (op_rises zxid o rows rise) (op_parents sessions zxid o rows passes.0 rise have)
