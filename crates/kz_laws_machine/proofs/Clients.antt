-- A tree after a multi of a ZooKeeper client that isn't refused.
use Rattle.std.proofs.Common.{◌≡◌, ◌≢◌, ℕ, ℤ, pos, ◌+ℤ◌, Bool, true, false, ◌&&◌, ◌||◌, if◌then◌else◌, cond, List, [], ◌∷◌, Option, Some, None, option_map, is_some, All, refl, sym, ap, ◌∙◌, filter}
use Rattle.std.specs.Prelude.{Ok, ⊤}
use Rattle.std.specs.Str.{bytes_eq, is_utf8}
use Rattle.std.specs.List.{find, list_any}
use Rattle.std.proofs.lemmas.List.Elements.{All-nil, All-cons, All-head, All-tail, All-weaker}
use Rattle.std.proofs.lemmas.Slice.Eq.{bytes_eq-Decides}
use Rattle.kz_types.specs.declared.tree.Row.{Row}
use Rattle.kz_types.specs.declared.tree.Op.{Op}
use Rattle.kz_types.specs.declared.tree.Op.TheVariants.{Create, Set, Delete, Check}
use Rattle.kz_types.specs.declared.machine.Answer.{Answer}
use Rattle.kz_types.specs.declared.machine.Answer.TheVariants as answer
use Rattle.kz_types.specs.Paths.{base_paths, control_paths, is_among, is_below, is_migrated}
use Rattle.kz_types.specs.PathRule.{is_path, has_path_form}
use Rattle.kz_types.specs.Order.{bytes_cmp}
use Rattle.kz_types.specs.Ordered.{Rises}
use Rattle.kz_spec_data.specs.Control.{control_path, epoch_path, migration_path, shown_epoch}
use Rattle.kz_spec_data.specs.Tree.{Tree, path_of_row, row_at, is_root, after_op, multi, migration_record}
use Rattle.kz_spec_machine.specs.Driver.{shown_by}
use Rattle.kz_spec_machine.specs.Machine.{first_of, is_reserved, is_held_path, is_held, is_held_tree, first_told, client_refusal}
use Rattle.kz_spec_machine.specs.Sound.{TreeShape, shown_in, IsLawfulOp}
use Rattle.kz_laws_machine.specs.TreeLaws.{KeepsShape}
use Rattle.kz_laws_machine.specs.Effects.{IsUnchanged}
use Rattle.kz_laws_machine.proofs.Rows.{still, others_kept, op_rises}
use Rattle.kz_laws_machine.proofs.Runs.{ran}
use Rattle.kz_laws_machine.proofs.Below.{parent_outside}
use Rattle.kz_laws_machine.proofs.Multi.{Ran, multi_ran, shape_kept}
use Rattle.kz_laws_machine.proofs.Claim.{shown_still}
use Rattle.kz_laws_machine.proofs.Beside.{rows_left}
use Rattle.kz_laws_machine.proofs.TreeUnchanged.{Alike, recorded_alike, unchanged_by}

-- ---- what isn't refused

abbrev pub Passes : (Op → Bool) → List Op → Type 0
Passes test ops = All (λ o. test o ≡ false) ops

not_here : (b : Bool) (o : Op) (m : Option Op) → cond b (Some o) m ≡ None → (b ≡ false) × (m ≡ None)
not_here true o m is = absurd (cc)
not_here false o m is = (refl, is)

none_found : (test : Op → Bool) (ops : List Op) → find test ops ≡ None → Passes test ops
none_found test [] is = All-nil (λ o. test o ≡ false)
none_found test (o ∷ os) is = let both = not_here (test o) o (find test os) is in All-cons (λ x. test x ≡ false) o os both.0 (none_found test os both.1)

not_some : {A B : Type 0} (f : A → B) (m : Option A) → option_map f m ≡ None → m ≡ None
not_some f None is = refl
not_some f (Some x) is = absurd (cc)

none_told : (test : Op → Bool) (refusal : List ℕ → Answer) (ops : List Op) → option_map refusal (first_told test ops) ≡ None → Passes test ops
none_told test refusal ops is = none_found test ops (not_some Rattle.kz_spec_data.specs.Tree.path_of_op (find test ops) (not_some refusal (first_told test ops) is))

first_none : (a b : Option Answer) → first_of a b ≡ None → (a ≡ None) × (b ≡ None)
first_none None b is = (refl, is)
first_none (Some x) b is = absurd (cc)

both_none : (t : Tree) (ops : List Op) → client_refusal t ops ≡ None
    → (option_map (λ path. answer.Reserved path) (first_told is_reserved ops) ≡ None) × ((if is_held_tree t then option_map (λ path. answer.KraftHolds path) (first_told is_held ops) else None) ≡ None)
both_none t ops none = first_none (option_map (λ path. answer.Reserved path) (first_told is_reserved ops)) (if is_held_tree t then option_map (λ path. answer.KraftHolds path) (first_told is_held ops) else None) none

pub none_reserved : (t : Tree) (ops : List Op) → client_refusal t ops ≡ None → Passes is_reserved ops
none_reserved t ops none = none_told is_reserved (λ path. answer.Reserved path) ops (both_none t ops none).0

none_held : (t : Tree) (ops : List Op) → is_held_tree t ≡ true → client_refusal t ops ≡ None → Passes is_held ops
none_held t ops held none =
    let told : Option Answer = option_map (λ path. answer.KraftHolds path) (first_told is_held ops) in
    none_told is_held (λ path. answer.KraftHolds path) ops (sym (ap (λ (b : Bool). if b then told else None) held) ∙ (both_none t ops none).1)

-- ---- what the tests say

pub neither : (a b : Bool) → (a || b) ≡ false → (a ≡ false) × (b ≡ false)
neither true b is = absurd (cc)
neither false b is = (refl, is)

-- the tests of a create: `/migration`, a znode that lasts with an owner, below a control path, `/controller` of a KRaft controller
four_parts : (a b c d : Bool) → (a || b || c || d) ≡ false → (a ≡ false) × (b ≡ false) × (c ≡ false) × (d ≡ false)
four_parts true b c d is = absurd (cc)
four_parts false true c d is = absurd (cc)
four_parts false false true d is = absurd (cc)
four_parts false false false d is = (refl, refl, refl, is)

abbrev pub ends_lasting : List ℕ → Option ℤ → Bool
ends_lasting path owner = is_some owner && (bytes_eq path epoch_path || is_migrated path || is_among base_paths path)

pub create_parts : (path body : List ℕ) (owner : Option ℤ) → is_reserved (Create path body owner) ≡ false
    → (bytes_eq path migration_path ≡ false) × (ends_lasting path owner ≡ false) × (list_any (λ control. is_below control path) control_paths ≡ false) × ((bytes_eq path control_path && is_some (shown_epoch body)) ≡ false)
create_parts path body owner is = four_parts (bytes_eq path migration_path) (ends_lasting path owner) (list_any (λ control. is_below control path) control_paths) (bytes_eq path control_path && is_some (shown_epoch body)) is

other_path : (p q : List ℕ) → bytes_eq q p ≡ false → p ≢ q
other_path p q no_test is = let yes = (bytes_eq-Decides q p).1 (sym is) in cc

-- ---- the shape of the tree

none_lasts : (owned epoch migrated base migration held : Bool) → owned ≡ true → (owned && (epoch || migrated || base)) ≡ false → migration ≡ false → held ≡ false → (migrated || base || epoch || migration || held) ≡ false
none_lasts false epoch migrated base migration held is free no_migration no_control = absurd (cc)
none_lasts true true migrated base migration held is free no_migration no_control = absurd (cc)
none_lasts true false true base migration held is free no_migration no_control = absurd (cc)
none_lasts true false false true migration held is free no_migration no_control = absurd (cc)
none_lasts true false false false true held is free no_migration no_control = absurd (cc)
none_lasts true false false false false held is free no_migration no_control = no_control

no_slash : (a : Bool) → (a && false && true && true) ≡ false
no_slash true = refl
no_slash false = refl

empty_path : is_path [] ≡ false
unfolding is_path has_path_form
empty_path = no_slash (is_utf8 [])

-- a path that keeps the rule isn't the root's
not_root : (path : List ℕ) → is_path path ≡ true → is_root path ≡ false
not_root [] is = absurd (cc (empty_path))
not_root (b ∷ bs) is = refl

one_keeps : (o : Op) → IsLawfulOp o → is_reserved o ≡ false → KeepsShape o
one_keeps (Create path body owner) lawful is =
    let parts = create_parts path body owner is in
    record {
      not_root = not_root path lawful.0;
      free = parts.2;
      last = λ owned. none_lasts (is_some owner) (bytes_eq path epoch_path) (is_migrated path) (is_among base_paths path) (bytes_eq path migration_path) (bytes_eq path control_path && is_some (shown_epoch body)) owned parts.1 parts.0 parts.3;
    }
one_keeps (Set path body version) lawful is = (neither (bytes_eq path migration_path) (bytes_eq path control_path && is_some (shown_epoch body)) is).1
one_keeps (Delete path version) lawful is = tt
one_keeps (Check path version) lawful is = tt

all_keep : (ops : List Op) → All IsLawfulOp ops → Passes is_reserved ops → All KeepsShape ops
all_keep [] lawful free = All-nil KeepsShape
all_keep (o ∷ os) lawful free = All-cons KeepsShape o os (one_keeps o (All-head IsLawfulOp o os lawful) (All-head (λ x. is_reserved x ≡ false) o os free)) (all_keep os (All-tail IsLawfulOp o os lawful) (All-tail (λ x. is_reserved x ≡ false) o os free))

pub client_keeps_shape : (t new : Tree) (ops : List Op) → multi t ops ≡ Ok new → client_refusal t ops ≡ None → All IsLawfulOp ops → TreeShape t → TreeShape new
client_keeps_shape t new ops is none lawful shape = shape_kept t new ops (multi_ran t new ops is) (all_keep ops lawful (none_reserved t ops none)) shape

-- ---- a path that is spared

-- an operation is at another path, or a check
abbrev Spares : List ℕ → Op → Type 0
Spares p (Create path body owner) = p ≢ path
Spares p (Set path body version) = p ≢ path
Spares p (Delete path version) = p ≢ path
Spares p (Check path version) = ⊤

one_spared : (zxid : ℤ) (o : Op) (p : List ℕ) (rows : List Row) → Spares p o → Alike rows (after_op zxid o rows) p
one_spared zxid (Create path body owner) p rows spares = others_kept zxid (Create path body owner) p rows spares
one_spared zxid (Set path body version) p rows spares = others_kept zxid (Set path body version) p rows spares
one_spared zxid (Delete path version) p rows spares = others_kept zxid (Delete path version) p rows spares
one_spared zxid (Check path version) p rows spares = refl

spared : (zxid : ℤ) (p : List ℕ) (os : List Op) (rows : List Row) → All (Spares p) os → Alike rows (ran zxid os rows) p
spared zxid p [] rows all = refl
spared zxid p (o ∷ os) rows all = spared zxid p os (after_op zxid o rows) (All-tail (Spares p) o os all) ∙ one_spared zxid o p rows (All-head (Spares p) o os all)

alike_after : (t new : Tree) (p : List ℕ) (ops : List Op) → Ran t new ops → All (Spares p) ops → Alike t.rows new.rows p
alike_after t new p ops m all = ap (λ rows. option_map still (row_at p rows)) m.rows ∙ spared (t.zxid +ℤ pos 1) p ops t.rows all

-- no client writes `/migration`
spares_migration : (o : Op) → is_reserved o ≡ false → Spares migration_path o
spares_migration (Create path body owner) is = other_path migration_path path (create_parts path body owner is).0
spares_migration (Set path body version) is = other_path migration_path path (neither (bytes_eq path migration_path) (bytes_eq path control_path && is_some (shown_epoch body)) is).0
spares_migration (Delete path version) is = other_path migration_path path (neither (bytes_eq path migration_path) (bytes_eq path epoch_path) is).0
spares_migration (Check path version) is = tt

pub migration_spared : (t new : Tree) (ops : List Op) → Ran t new ops → client_refusal t ops ≡ None → Alike t.rows new.rows migration_path
migration_spared t new ops m none = alike_after t new migration_path ops m (All-weaker (λ o. is_reserved o ≡ false) (Spares migration_path) spares_migration ops (none_reserved t ops none))

pub client_leaves_recorded : (t new : Tree) (ops : List Op) → multi t ops ≡ Ok new → client_refusal t ops ≡ None → migration_record new ≡ migration_record t
client_leaves_recorded t new ops is none = recorded_alike t new (migration_spared t new ops (multi_ran t new ops is) none)

-- ---- a tree that a KRaft controller holds

-- a path that isn't kept from clients then
record IsFree (path : List ℕ) : Type 0 where
  area : is_migrated path ≡ false
  control : bytes_eq path control_path ≡ false
  epoch : bytes_eq path epoch_path ≡ false

free_by : (path : List ℕ) → is_held_path path ≡ false → IsFree path
free_by path is =
    let parts = four_parts (is_migrated path) (is_among base_paths path) (bytes_eq path control_path) (bytes_eq path epoch_path) is in
    record { area = parts.0; control = parts.2; epoch = parts.3 }

-- an operation is at such a path, or a check
abbrev AtFree : Op → Type 0
AtFree (Create path body owner) = IsFree path
AtFree (Set path body version) = IsFree path
AtFree (Delete path version) = IsFree path
AtFree (Check path version) = ⊤

one_free : (o : Op) → is_held o ≡ false → AtFree o
one_free (Create path body owner) is = free_by path is
one_free (Set path body version) is = free_by path is
one_free (Delete path version) is = free_by path is
one_free (Check path version) is = tt

free_spares : (p : List ℕ) (o : Op) → ((path : List ℕ) → IsFree path → bytes_eq path p ≡ false) → AtFree o → Spares p o
free_spares p (Create path body owner) test free = other_path p path (test path free)
free_spares p (Set path body version) test free = other_path p path (test path free)
free_spares p (Delete path version) test free = other_path p path (test path free)
free_spares p (Check path version) test free = tt

abbrev in_area : Row → Bool
in_area r = is_migrated r.path

one_left : (zxid : ℤ) (o : Op) (rows : List Row) → Rises bytes_cmp path_of_row rows → AtFree o → filter in_area (after_op zxid o rows) ≡ filter in_area rows
one_left zxid (Create path body owner) rows rise free = rows_left zxid (Create path body owner) rows rise (free.area, parent_outside path free.area)
one_left zxid (Set path body version) rows rise free = rows_left zxid (Set path body version) rows rise (free.area, parent_outside path free.area)
one_left zxid (Delete path version) rows rise free = rows_left zxid (Delete path version) rows rise (free.area, parent_outside path free.area)
one_left zxid (Check path version) rows rise free = refl

area_left : (zxid : ℤ) (os : List Op) (rows : List Row) → Rises bytes_cmp path_of_row rows → All AtFree os → filter in_area (ran zxid os rows) ≡ filter in_area rows
area_left zxid [] rows rise free = refl
area_left zxid (o ∷ os) rows rise free = area_left zxid os (after_op zxid o rows) (op_rises zxid o rows rise) (All-tail AtFree o os free) ∙ one_left zxid o rows rise (All-head AtFree o os free)

shown_alike : (t new : Tree) → Alike t.rows new.rows control_path → shown_in new ≡ shown_in t
shown_alike t new alike = sym (shown_still (row_at control_path new.rows)) ∙ ap shown_by alike ∙ shown_still (row_at control_path t.rows)

pub client_leaves_held : (t new : Tree) (ops : List Op) → multi t ops ≡ Ok new → client_refusal t ops ≡ None → is_held_tree t ≡ true → TreeShape t → IsUnchanged t new
client_leaves_held t new ops is none held shape =
    let m = multi_ran t new ops is in
    let free : All AtFree ops = All-weaker (λ o. is_held o ≡ false) AtFree one_free ops (none_held t ops held none) in
    unchanged_by t new (ap (filter in_area) m.rows ∙ area_left (t.zxid +ℤ pos 1) ops t.rows shape.rise free) (migration_spared t new ops m none)
    (alike_after t new epoch_path ops m (All-weaker AtFree (Spares epoch_path) (λ o at. free_spares epoch_path o (λ path f. f.epoch) at) ops free))
    (shown_alike t new (alike_after t new control_path ops m (All-weaker AtFree (Spares control_path) (λ o at. free_spares control_path o (λ path f. f.control) at) ops free)))
