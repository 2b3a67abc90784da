-- What the operations of a write rest on.
use Rattle.std.proofs.Common.{◌≡◌, ℕ, Bool, true, false, ◌||◌, ◌&&◌, List, [], ◌∷◌, Option, Some, None, is_some, All, refl, sym, ap, ◌∙◌, subst, rules}
use Rattle.std.specs.Str.{bytes_eq}
use Rattle.std.proofs.lemmas.Slice.Eq.{bytes_eq-Decides}
use Rattle.std.proofs.lemmas.List.Elements.{All-contains, All-head, All-tail, All-from_recursion}
use Rattle.kz_types.specs.declared.tree.Row.{Row}
use Rattle.kz_types.specs.Paths.{roots, base_paths, is_among, is_migrated}
use Rattle.kz_types.specs.Order.{bytes_cmp}
use Rattle.kz_types.specs.Ordered.{Rises}
use Rattle.kz_types.proofs.Order.{bytes_order}
use Rattle.kz_types.proofs.Lookup.{found_is_contained, key_of_found}
use Rattle.kz_spec_data.specs.Control.{control_path, epoch_path, migration_path, shown_epoch}
use Rattle.kz_spec_data.specs.Tree.{path_of_row, row_at, is_root, is_ephemeral}
use Rattle.kz_spec_machine.specs.Sound.{HaveParents, Lasts, IsNotRoot, is_lasting}
use Rattle.kz_laws_machine.proofs.Parents.{Is}

-- What the operations of a write rest on: the znodes rise, their parents are there, those of the area and the base znodes
-- last, and all base znodes stand.
pub record Ready (rows : List Row) : Type 0 where
  pub rise : Rises bytes_cmp path_of_row rows
  pub not_root : All IsNotRoot rows
  pub parents : HaveParents rows
  pub last : All Lasts rows
  pub bases : All (λ b. Is b rows) base_paths

-- ---- base znodes

pub among_all : (P : List ℕ → Type 0) (paths : List (List ℕ)) (q : List ℕ) → is_among paths q ≡ true → All P paths → P q
among_all P [] q is all = absurd (cc)
among_all P (p ∷ ps) q is all = by (bytes_eq q p) refl (λ later. among_all P ps q later (All-tail P p ps all))
  where
    by : (b : Bool) → bytes_eq q p ≡ b → (is_among ps q ≡ true → P q) → P q
    by true e rest = subst P (sym ((bytes_eq-Decides q p).0 e)) (All-head P p ps all)
    by false e rest = rest (sym (ap (λ x. x || is_among ps q) e) ∙ is)

pub bases_outside : All (λ b. is_migrated b ≡ false) base_paths
unfolding is_migrated roots base_paths
bases_outside = All-from_recursion (λ b. is_migrated b ≡ false) base_paths (search rules)

pub base_outside : (q : List ℕ) → is_among base_paths q ≡ true → is_migrated q ≡ false
base_outside q is = among_all (λ b. is_migrated b ≡ false) base_paths q is bases_outside

-- ---- what lasts has no owner

first_of_five : (a b c d e : Bool) → a ≡ true → (a || b || c || d || e) ≡ true
first_of_five true b c d e is = refl
first_of_five false b c d e is = absurd (cc)

second_of_five : (a b c d e : Bool) → b ≡ true → (a || b || c || d || e) ≡ true
second_of_five true b c d e is = refl
second_of_five false true c d e is = refl
second_of_five false false c d e is = absurd (cc)

lasting_found : (rows : List Row) (q : List ℕ) (m : Option Row) → row_at q rows ≡ m → All Lasts rows → ((r : Row) → r.path ≡ q → is_lasting r ≡ true) → is_ephemeral m ≡ false
lasting_found rows q None is last lasts = refl
lasting_found rows q (Some r) is last lasts = by (is_some r.owner) refl
  where
    by : (b : Bool) → is_some r.owner ≡ b → b ≡ false
    by true owned = absurd (let no = All-contains Lasts rows r last (found_is_contained bytes_order path_of_row q rows r is) owned in let yes = lasts r (key_of_found bytes_order path_of_row q rows r is) in cc)
    by false owned = refl

pub migrated_lasts : (rows : List Row) (q : List ℕ) → All Lasts rows → is_migrated q ≡ true → is_ephemeral (row_at q rows) ≡ false
migrated_lasts rows q last inside = lasting_found rows q (row_at q rows) refl last (λ r key. first_of_five (is_migrated r.path) (is_among base_paths r.path) (bytes_eq r.path epoch_path) (bytes_eq r.path migration_path)
    (bytes_eq r.path control_path && is_some (shown_epoch r.body)) (ap is_migrated key ∙ inside))

pub base_lasts : (rows : List Row) (q : List ℕ) → All Lasts rows → is_among base_paths q ≡ true → is_ephemeral (row_at q rows) ≡ false
base_lasts rows q last is = lasting_found rows q (row_at q rows) refl last (λ r key. second_of_five (is_migrated r.path) (is_among base_paths r.path) (bytes_eq r.path epoch_path) (bytes_eq r.path migration_path)
    (bytes_eq r.path control_path && is_some (shown_epoch r.body)) (ap (is_among base_paths) key ∙ is))

pub root_lasts : (rows : List Row) (q : List ℕ) (m : Option Row) → row_at q rows ≡ m → All IsNotRoot rows → is_root q ≡ true → is_ephemeral m ≡ false
root_lasts rows q None is not_root root = refl
root_lasts rows q (Some r) is not_root root =
    absurd (let no = All-contains IsNotRoot rows r not_root (found_is_contained bytes_order path_of_row q rows r is) in let key = ap is_root (key_of_found bytes_order path_of_row q rows r is) in cc)
