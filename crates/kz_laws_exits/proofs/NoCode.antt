-- The tree's request of a rollback is refused with no code of ZooKeeper.
use Rattle.std.proofs.Common.{◌≡◌, ◌≢◌, ℕ, ◌+◌, ℤ, pos, negsuc, ◌+ℤ◌, ◌≤ℤ◌, int_le, Bool, true, false, ◌||◌, List, [], ◌∷◌, ◌++◌, Option, Some, None, is_some, Result, Ok, Err, All, refl, sym, ap, ◌∙◌, arith}
use Rattle.std.specs.Str.{bytes_eq}
use Rattle.std.specs.List.{list_any}
use Rattle.std.proofs.lemmas.Int.{ints}
use Rattle.std.proofs.lemmas.List.Elements.{All-nil, All-cons, All-head, All-tail}
use Rattle.std.proofs.lemmas.Slice.Eq.{bytes_eq-Decides}
use Rattle.kz_types.specs.Limits.{number_of_limit}
use Rattle.kz_types.specs.declared.limits.Limit.TheVariants as limits
use Rattle.kz_types.specs.declared.limits.TheConstants.{MAX_LONG}
use Rattle.kz_types.specs.declared.fault.TreeFault.{TreeFault}
use Rattle.kz_types.specs.declared.fault.TreeFault.TheVariants as fault
use Rattle.kz_types.specs.declared.tree.Row.{Row}
use Rattle.kz_types.specs.declared.tree.Op.{Op}
use Rattle.kz_types.specs.declared.tree.Op.TheVariants.{Delete}
use Rattle.kz_types.specs.Paths.{control_paths, is_below}
use Rattle.kz_spec_data.specs.Control.{control_path, epoch_path, migration_path}
use Rattle.kz_spec_data.specs.Tree.{Tree, row_at, parent_of, is_root, has_children, Refusal, delete_refusal, op_refusal, after_op, rows_unless_refused, after_ops, with_zxid, multi}
use Rattle.kz_spec_machine.specs.Driver.{shown_by}
use Rattle.kz_spec_machine.specs.Machine.{World, is_held_tree, deleted_if, exit_ops, tree_after_ops}
use Rattle.kz_spec_machine.specs.Sound.{IsUnreserved, Sound}
use Rattle.kz_laws_machine.specs.TreeLaws.{KeepsShape}
use Rattle.kz_laws_machine.proofs.Each.{all_ran}
use Rattle.kz_laws_machine.proofs.Parents.{there_kept}
use Rattle.kz_laws_machine.proofs.Lasting.{free_keep}
use Rattle.kz_laws_machine.proofs.Below.{parent_and_name, has_name}
use Rattle.kz_laws_machine.proofs.Multi.{counted_up}
use Rattle.kz_laws_exits.proofs.GivenBack.{apart}

-- ---- nothing stands below `/controller` or `/migration`

below_control : (name : List ℕ) → is_below control_path (control_path ++ 47 ∷ name) ≡ true
below_control name = refl

below_migration : (name : List ℕ) → is_below migration_path (migration_path ++ 47 ∷ name) ≡ true
below_migration name = refl

third : (a b : Bool) → (a || (b || (true || false))) ≡ true
third true b = refl
third false true = refl
third false false = refl

reserved_control : (path : List ℕ) → is_below control_path path ≡ true → list_any (λ control. is_below control path) control_paths ≡ true
unfolding control_paths
reserved_control path is = ap (λ (b : Bool). b || (is_below epoch_path path || (is_below migration_path path || false))) is

reserved_migration : (path : List ℕ) → is_below migration_path path ≡ true → list_any (λ control. is_below control path) control_paths ≡ true
unfolding control_paths
reserved_migration path is = ap (λ (b : Bool). is_below control_path path || (is_below epoch_path path || (b || false))) is ∙ third (is_below control_path path) (is_below epoch_path path)

-- a path below which no znode may stand
record IsLeaf (path : List ℕ) : Type 0 where
  up : is_root path ≡ false
  below : (name : List ℕ) → is_below path (path ++ 47 ∷ name) ≡ true
  reserved : (p : List ℕ) → is_below path p ≡ true → list_any (λ control. is_below control p) control_paths ≡ true

control_leaf : IsLeaf control_path
control_leaf = record { up = refl; below = below_control; reserved = reserved_control }

migration_leaf : IsLeaf migration_path
migration_leaf = record { up = refl; below = below_migration; reserved = reserved_migration }

child_by : (leaf path : List ℕ) (b : Bool) → IsLeaf leaf → list_any (λ control. is_below control path) control_paths ≡ false → bytes_eq (parent_of path) leaf ≡ b → b ≡ false
child_by leaf path false k free is = refl
child_by leaf path true k free is =
    let same : parent_of path ≡ leaf = (bytes_eq-Decides (parent_of path) leaf).0 is in
    let named = parent_and_name path (has_name path (ap is_root same ∙ k.up)) in
    let whole : path ≡ leaf ++ 47 ∷ named.0 = named.1 ∙ ap (λ (q : List ℕ). q ++ 47 ∷ named.0) same in
    let below : is_below leaf path ≡ true = ap (is_below leaf) whole ∙ k.below named.0 in
    absurd (let yes = k.reserved path below in cc)

none_any : (p : Row → Bool) (rows : List Row) → ((r : Row) → IsUnreserved r → p r ≡ false) → All IsUnreserved rows → list_any p rows ≡ false
none_any p [] each free = refl
none_any p (r ∷ rows) each free = ap (λ (b : Bool). b || list_any p rows) (each r (All-head IsUnreserved r rows free)) ∙ none_any p rows each (All-tail IsUnreserved r rows free)

no_children : (leaf : List ℕ) (rows : List Row) → IsLeaf leaf → All IsUnreserved rows → has_children leaf rows ≡ false
no_children leaf rows k free = none_any (λ (r : Row). bytes_eq (parent_of r.path) leaf) rows (λ r own. child_by leaf r.path (bytes_eq (parent_of r.path) leaf) k own refl) free

-- ---- deletes

delete_by : (path : List ℕ) (rows : List Row) (m : Option Row) → is_some m ≡ true → has_children path rows ≡ false → delete_refusal path (negsuc 0) rows m ≡ None
delete_by path rows None there none = absurd (cc)
delete_by path rows (Some r) there none = rw none refl

-- a delete of what is there and has no children
deletes : (sessions : List ℤ) (leaf : List ℕ) (rows : List Row) → IsLeaf leaf → All IsUnreserved rows → is_some (row_at leaf rows) ≡ true → op_refusal sessions (Delete leaf (negsuc 0)) rows ≡ None
deletes sessions leaf rows k free there = delete_by leaf rows (row_at leaf rows) there (no_children leaf rows k free)

-- operations one after another, none of which is refused
record Goes (r : Result (List Row) TreeFault) : Type 0 where
  rows : List Row
  is : r ≡ Ok rows

one_goes : (index : ℕ) (m : Option Refusal) (rest : Result (List Row) TreeFault) → m ≡ None → Goes rest → Goes (rows_unless_refused index m rest)
one_goes index None rest none k = k
one_goes index (Some x) rest none k = absurd (cc)

first_goes : (sessions : List ℤ) (zxid : ℤ) (index : ℕ) (leaf : List ℕ) (os : List Op) (rows : List Row) → IsLeaf leaf → All IsUnreserved rows → is_some (row_at leaf rows) ≡ true → Goes (after_ops sessions zxid (index + 1) os (after_op zxid (Delete leaf (negsuc 0)) rows))
    → Goes (after_ops sessions zxid index (Delete leaf (negsuc 0) ∷ os) rows)
first_goes sessions zxid index leaf os rows k free there rest = one_goes index (op_refusal sessions (Delete leaf (negsuc 0)) rows) (after_ops sessions zxid (index + 1) os (after_op zxid (Delete leaf (negsuc 0)) rows)) (deletes sessions leaf rows k free there) rest

free_after : (sessions : List ℤ) (zxid : ℤ) (leaf : List ℕ) (rows : List Row) → IsLeaf leaf → All IsUnreserved rows → is_some (row_at leaf rows) ≡ true → All IsUnreserved (after_op zxid (Delete leaf (negsuc 0)) rows)
free_after sessions zxid leaf rows k free there =
    all_ran IsUnreserved sessions zxid (Delete leaf (negsuc 0) ∷ []) rows (deletes sessions leaf rows k free there, tt) (All-cons KeepsShape (Delete leaf (negsuc 0)) [] tt (All-nil KeepsShape)) (free_keep sessions zxid) free

differ : migration_path ≢ control_path
differ same = apart (sym same)

goes : (sessions : List ℤ) (zxid : ℤ) (held there : Bool) (rows : List Row) → All IsUnreserved rows → (held ≡ true → is_some (row_at control_path rows) ≡ true) → is_some (row_at migration_path rows) ≡ there → Goes (after_ops sessions zxid 0 (deleted_if held control_path ++ deleted_if there migration_path) rows)
goes sessions zxid false false rows free control migration = record { rows = rows; is = refl }
goes sessions zxid false true rows free control migration =
    first_goes sessions zxid 0 migration_path [] rows migration_leaf free migration (record { rows = after_op zxid (Delete migration_path (negsuc 0)) rows; is = refl })
goes sessions zxid true false rows free control migration =
    first_goes sessions zxid 0 control_path [] rows control_leaf free (control refl) (record { rows = after_op zxid (Delete control_path (negsuc 0)) rows; is = refl })
goes sessions zxid true true rows free control migration =
    let between = after_op zxid (Delete control_path (negsuc 0)) rows in
    first_goes sessions zxid 0 control_path (Delete migration_path (negsuc 0) ∷ []) rows control_leaf free (control refl)
    (first_goes sessions zxid 1 migration_path [] between migration_leaf (free_after sessions zxid control_path rows control_leaf free (control refl)) (there_kept zxid (Delete control_path (negsuc 0)) migration_path rows differ ∙ migration)
    (record { rows = after_op zxid (Delete migration_path (negsuc 0)) between; is = refl }))

-- ---- the multi

held_there : (m : Option Row) → is_some (shown_by m) ≡ true → is_some m ≡ true
held_there None held = held
held_there (Some r) held = refl

-- what may stand in its way
abbrev IsUsedUp : Tree → TreeFault → Type 0
IsUsedUp t f = (f ≡ fault.Limit 0 (number_of_limit limits.Long)) × (MAX_LONG ≤ℤ t.zxid)

most_by : (z : ℤ) → int_le MAX_LONG z ≡ true → MAX_LONG ≤ℤ z
most_by z is = grind (arith, ints)

counted_by : (t : Tree) (rows : List Row) (f : TreeFault) (b : Bool) → int_le MAX_LONG t.zxid ≡ b → counted_up t rows b ≡ Err f → IsUsedUp t f
counted_by t rows f true most is = (let same : fault.Limit 0 (number_of_limit limits.Long) ≡ f = cc in sym same, most_by t.zxid most)
counted_by t rows f false most is = absurd (cc)

zxid_by : (t : Tree) (f : TreeFault) (r : Result (List Row) TreeFault) → Goes r → with_zxid t r ≡ Err f → IsUsedUp t f
zxid_by t f (Err e) k is = absurd (let no = k.is in cc)
zxid_by t f (Ok rows) k is = counted_by t rows f (int_le MAX_LONG t.zxid) refl is

ops_by : (t : Tree) (f : TreeFault) (os : List Op) → Goes (after_ops t.sessions (t.zxid +ℤ pos 1) 0 os t.rows) → tree_after_ops t os ≡ Err f → IsUsedUp t f
unfolding multi
ops_by t f [] k is = absurd (cc)
ops_by t f (o ∷ os) k is = zxid_by t f (after_ops t.sessions (t.zxid +ℤ pos 1) 0 (o ∷ os) t.rows) k is

pub rollback_meets_no_code : (w : World) (f : TreeFault) → Sound w → tree_after_ops w.shared.tree (exit_ops w.shared.tree) ≡ Err f → IsUsedUp w.shared.tree f
rollback_meets_no_code w f sound is =
    let t = w.shared.tree in
    ops_by t f (exit_ops t)
    (goes t.sessions (t.zxid +ℤ pos 1) (is_held_tree t) (is_some (row_at migration_path t.rows)) t.rows sound.kept.tree.free (held_there (row_at control_path t.rows)) refl) is
