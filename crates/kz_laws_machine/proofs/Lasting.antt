-- Operations leave no owner to a znode that lasts and no other than a live session to any, make no znode where none may
-- stand, and leave no znode a parent that ends with a session.
use Rattle.std.proofs.Common.{◌≡◌, ◌≢◌, ℕ, ℤ, negsuc, Bool, true, false, not, ◌&&◌, ◌||◌, List, [], ◌∷◌, Option, Some, None, option_map, is_some, All, refl, sym, ap, ◌∙◌, subst}
use Rattle.std.specs.Prelude.{length, nat_lt, nat_le}
use Rattle.std.specs.Str.{bytes_eq}
use Rattle.std.proofs.lemmas.List.Elements.{All-contains}
use Rattle.kz_types.specs.declared.limits.TheConstants.{MAX_BODY_BYTES, MAX_ZNODES}
use Rattle.kz_types.specs.declared.tree.Row.{Row}
use Rattle.kz_types.specs.declared.tree.Op.{Op}
use Rattle.kz_types.specs.declared.tree.Op.TheVariants.{Create, Set, Delete, Check}
use Rattle.kz_types.specs.Paths.{base_paths, is_among, is_migrated}
use Rattle.kz_types.specs.Order.{bytes_cmp}
use Rattle.kz_types.specs.Ordered.{Rises}
use Rattle.kz_types.proofs.Order.{bytes_order}
use Rattle.kz_types.proofs.Lookup.{found_is_contained, key_of_found}
use Rattle.kz_spec_data.specs.Control.{control_path, epoch_path, migration_path, shown_epoch}
use Rattle.kz_spec_data.specs.Tree.{path_of_op, path_of_row, row_at, parent_of, is_root, has_parent, is_ephemeral, may_own, count_beside, limit_beside, Refusal, code, limit, create_refusal, op_refusal, after_set, after_op}
use Rattle.kz_spec_machine.specs.Sound.{HaveParents, Lasts, ParentsStay, IsNotRoot, IsUnreserved, IsOwned}
use Rattle.kz_laws_machine.proofs.Rows.{still, same, other, compare, others_kept, op_rises, set_found, deleted_found}
use Rattle.kz_laws_machine.proofs.Runs.{ran, Passes}
use Rattle.kz_laws_machine.proofs.Each.{Keeps}
use Rattle.kz_laws_machine.proofs.Parents.{Is, there_kept, passed_first, not_not, set_there, op_parents}
use Rattle.kz_laws_machine.proofs.Below.{parent_apart}

-- ---- a znode that lasts has no owner

-- of the tests of what lasts the last one alone reads the body
other_body : (a b c d x y : Bool) → (a || b || c || d || x) ≡ false → y ≡ false → (a || b || c || d || y) ≡ false
other_body true b c d x y old new = absurd (cc)
other_body false true c d x y old new = absurd (cc)
other_body false false true d x y old new = absurd (cc)
other_body false false false true x y old new = absurd (cc)
other_body false false false false x y old new = new

pub lasts_keep : (sessions : List ℤ) (zxid : ℤ) → Keeps Lasts sessions zxid
lasts_keep sessions zxid = record {
  made = λ path body owner rows pass shaped. shaped.last;
  set = λ path body version r pass free key old. λ owned. other_body (is_migrated r.path) (is_among base_paths r.path) (bytes_eq r.path epoch_path) (bytes_eq r.path migration_path)
      (bytes_eq r.path control_path && is_some (shown_epoch r.body)) (bytes_eq r.path control_path && is_some (shown_epoch body)) (old owned)
      (ap (λ q. bytes_eq q control_path && is_some (shown_epoch body)) key ∙ free);
  touched = λ r old. old;
}

-- ---- what depends on the path alone, and on the owner

pub not_root_keep : (sessions : List ℤ) (zxid : ℤ) → Keeps IsNotRoot sessions zxid
not_root_keep sessions zxid = record { made = λ path body owner rows pass shaped. shaped.not_root; set = λ path body version r pass shaped key old. old; touched = λ r old. old }

pub free_keep : (sessions : List ℤ) (zxid : ℤ) → Keeps IsUnreserved sessions zxid
free_keep sessions zxid = record { made = λ path body owner rows pass shaped. shaped.free; set = λ path body version r pass shaped key old. old; touched = λ r old. old }

may_own_first : (sessions : List ℤ) (path body : List ℕ) (owner : Option ℤ) (rows : List Row) → create_refusal sessions path body owner rows ≡ None → may_own owner sessions ≡ true
may_own_first sessions path body owner rows pass =
    let limits : List (Bool × Refusal) = (nat_lt MAX_BODY_BYTES (length body), limit 2) ∷ (nat_le MAX_ZNODES (count_beside path rows), limit (limit_beside path)) ∷ [] in
    let third : List (Bool × Refusal) = (is_ephemeral (row_at (parent_of path) rows), code (negsuc 107)) ∷ limits in
    let second : List (Bool × Refusal) = (is_some (row_at path rows), code (negsuc 109)) ∷ third in
    not_not (may_own owner sessions) (passed_first (not (may_own owner sessions)) (code (negsuc 111)) ((not (has_parent path rows), code (negsuc 100)) ∷ second) pass).0

pub owned_keep : (sessions : List ℤ) (zxid : ℤ) → Keeps (IsOwned sessions) sessions zxid
owned_keep sessions zxid = record {
  made = λ path body owner rows pass shaped. may_own_first sessions path body owner rows pass;
  set = λ path body version r pass shaped key old. old;
  touched = λ r old. old;
}

-- ---- no parent ends with a session

-- no parent but the root ends with a session
abbrev pub StayBelowRoot : List Row → Type 0
StayBelowRoot rows = (path : List ℕ) → Is path rows → is_root (parent_of path) ≡ false → is_ephemeral (row_at (parent_of path) rows) ≡ false

none_at_root : (q : List ℕ) (rows : List Row) (m : Option Row) → All IsNotRoot rows → is_root q ≡ true → row_at q rows ≡ m → is_ephemeral m ≡ false
none_at_root q rows None apart root is = refl
none_at_root q rows (Some r) apart root is =
    absurd (let own = All-contains IsNotRoot rows r apart (found_is_contained bytes_order path_of_row q rows r is) in let same_root = ap is_root (key_of_found bytes_order path_of_row q rows r is) in cc)

-- no znode is the root, so that none of their parents ends with a session
pub stays_everywhere : (rows : List Row) → All IsNotRoot rows → StayBelowRoot rows → ParentsStay rows
stays_everywhere rows apart stay p there = by_root (is_root (parent_of p)) refl
  where
    by_root : (b : Bool) → is_root (parent_of p) ≡ b → is_ephemeral (row_at (parent_of p) rows) ≡ false
    by_root true root = none_at_root (parent_of p) rows (row_at (parent_of p) rows) apart root refl
    by_root false up = stay p there up

ephemeral_still : (m : Option Row) → is_ephemeral (option_map still m) ≡ is_ephemeral m
ephemeral_still None = refl
ephemeral_still (Some r) = refl

pub ephemeral_alike : (m n : Option Row) → option_map still m ≡ option_map still n → is_ephemeral m ≡ is_ephemeral n
ephemeral_alike m n e = sym (ephemeral_still m) ∙ ap is_ephemeral e ∙ ephemeral_still n

owner_kept : (zxid : ℤ) (o : Op) (q : List ℕ) (rows : List Row) → q ≢ path_of_op o → is_ephemeral (row_at q (after_op zxid o rows)) ≡ is_ephemeral (row_at q rows)
owner_kept zxid o q rows far = ephemeral_alike (row_at q (after_op zxid o rows)) (row_at q rows) (others_kept zxid o q rows far)

-- a znode is created where there was none, below one that doesn't end with a session
pub record IsNew (path : List ℕ) (rows : List Row) : Type 0 where
  pub absent : is_some (row_at path rows) ≡ false
  pub parent : is_ephemeral (row_at (parent_of path) rows) ≡ false

pub created_new : (sessions : List ℤ) (path body : List ℕ) (owner : Option ℤ) (rows : List Row) → create_refusal sessions path body owner rows ≡ None → IsNew path rows
created_new sessions path body owner rows pass =
    let limits : List (Bool × Refusal) = (nat_lt MAX_BODY_BYTES (length body), limit 2) ∷ (nat_le MAX_ZNODES (count_beside path rows), limit (limit_beside path)) ∷ [] in
    let third : List (Bool × Refusal) = (is_ephemeral (row_at (parent_of path) rows), code (negsuc 107)) ∷ limits in
    let second : List (Bool × Refusal) = (is_some (row_at path rows), code (negsuc 109)) ∷ third in
    let a = passed_first (not (may_own owner sessions)) (code (negsuc 111)) ((not (has_parent path rows), code (negsuc 100)) ∷ second) pass in
    let b = passed_first (not (has_parent path rows)) (code (negsuc 100)) second a.1 in
    let c = passed_first (is_some (row_at path rows)) (code (negsuc 109)) third b.1 in
    record { absent = c.0; parent = (passed_first (is_ephemeral (row_at (parent_of path) rows)) (code (negsuc 107)) limits c.1).0 }

parent_is_there : (root there : Bool) → (root || there) ≡ true → root ≡ false → there ≡ true
parent_is_there true there is none = absurd (cc)
parent_is_there false there is none = is

set_owner : (zxid : ℤ) (path body : List ℕ) (version : ℤ) (rows : List Row) (m : Option Row) → row_at path rows ≡ m → is_ephemeral (row_at path (after_op zxid (Set path body version) rows)) ≡ is_ephemeral (row_at path rows)
set_owner zxid path body version rows None is = ap (λ m. is_ephemeral (row_at path (after_set zxid body m rows))) is
set_owner zxid path body version rows (Some r) is = ap is_ephemeral (set_found zxid path body version rows r is) ∙ ap is_ephemeral (sym is)

-- the operation's own znode as a parent
own_parent : (sessions : List ℤ) (zxid : ℤ) (o : Op) (p : List ℕ) (rows : List Row) → op_refusal sessions o rows ≡ None → Rises bytes_cmp path_of_row rows → HaveParents rows → StayBelowRoot rows
    → parent_of p ≡ path_of_op o → Is p (after_op zxid o rows) → is_root (parent_of p) ≡ false → is_ephemeral (row_at (path_of_op o) (after_op zxid o rows)) ≡ false
own_parent sessions zxid (Create path body owner) p rows pass rise have stay is there up =
    let was : Is p rows = sym (there_kept zxid (Create path body owner) p rows (λ own. parent_apart p up (is ∙ sym own))) ∙ there in
    let old = parent_is_there (is_root (parent_of p)) (is_some (row_at (parent_of p) rows)) (have p was) up in
    absurd (let absent = (created_new sessions path body owner rows pass).absent in let found = ap (λ q. is_some (row_at q rows)) is in cc)
own_parent sessions zxid (Set path body version) p rows pass rise have stay is there up =
    let was : Is p rows = sym (there_kept zxid (Set path body version) p rows (λ own. parent_apart p up (is ∙ sym own))) ∙ there in
    set_owner zxid path body version rows (row_at path rows) refl ∙ ap (λ q. is_ephemeral (row_at q rows)) (sym is) ∙ stay p was up
own_parent sessions zxid (Delete path version) p rows pass rise have stay is there up = ap is_ephemeral (deleted_found zxid path version rows rise)
own_parent sessions zxid (Check path version) p rows pass rise have stay is there up = ap (λ q. is_ephemeral (row_at q rows)) (sym is) ∙ stay p there up

-- the parent of the operation's own znode
own_child : (sessions : List ℤ) (zxid : ℤ) (o : Op) (rows : List Row) → op_refusal sessions o rows ≡ None → Rises bytes_cmp path_of_row rows → StayBelowRoot rows
    → Is (path_of_op o) (after_op zxid o rows) → is_root (parent_of (path_of_op o)) ≡ false → is_ephemeral (row_at (parent_of (path_of_op o)) rows) ≡ false
own_child sessions zxid (Create path body owner) rows pass rise stay there up = (created_new sessions path body owner rows pass).parent
own_child sessions zxid (Set path body version) rows pass rise stay there up = stay path (set_there body path version rows (row_at path rows) refl pass) up
own_child sessions zxid (Delete path version) rows pass rise stay there up = absurd (let none = ap is_some (deleted_found zxid path version rows rise) in cc)
own_child sessions zxid (Check path version) rows pass rise stay there up = stay path there up

op_stays : (sessions : List ℤ) (zxid : ℤ) (o : Op) (rows : List Row) → op_refusal sessions o rows ≡ None → Rises bytes_cmp path_of_row rows → HaveParents rows → StayBelowRoot rows → StayBelowRoot (after_op zxid o rows)
op_stays sessions zxid o rows pass rise have stay p there up = elim (compare (parent_of p) (path_of_op o)) [
  | same is ↦ ap (λ q. is_ephemeral (row_at q (after_op zxid o rows))) is ∙ own_parent sessions zxid o p rows pass rise have stay is there up
  | other differ ↦ owner_kept zxid o (parent_of p) rows differ ∙ elim (compare p (path_of_op o)) [
    | same own ↦ ap (λ q. is_ephemeral (row_at (parent_of q) rows)) own
        ∙ own_child sessions zxid o rows pass rise stay (subst (λ q. Is q (after_op zxid o rows)) own there) (sym (ap (λ q. is_root (parent_of q)) own) ∙ up)
    | other far ↦ stay p (sym (there_kept zxid o p rows far) ∙ there) up
  ]
]

pub ran_stays : (sessions : List ℤ) (zxid : ℤ) (os : List Op) (rows : List Row) → Passes sessions zxid os rows → Rises bytes_cmp path_of_row rows → HaveParents rows → StayBelowRoot rows → StayBelowRoot (ran zxid os rows)
ran_stays sessions zxid [] rows passes rise have stay = stay
ran_stays sessions zxid (o ∷ os) rows passes rise have stay =
    ran_stays sessions zxid os (after_op zxid o rows) passes.1 (op_rises zxid o rows rise) (op_parents sessions zxid o rows passes.0 rise have) (op_stays sessions zxid o rows passes.0 rise have stay)
