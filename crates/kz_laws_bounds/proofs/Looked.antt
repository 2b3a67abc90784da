-- The claim of a driver that has just looked is refused with no code.
use Rattle.std.proofs.Common.{◌≡◌, ◌≢◌, ℕ, ◌+◌, ℤ, pos, negsuc, ◌+ℤ◌, Bool, true, false, not, ◌||◌, List, [], ◌∷◌, ◌++◌, length, Option, Some, None, option_map, is_some, All, refl, sym, ap, ◌∙◌, subst}
use Rattle.std.specs.Prelude.{Result, Ok, Err, ⊤, nat_lt, int_le, codes}
use Rattle.std.specs.Str.{bytes_eq}
use Rattle.std.specs.Ordering.{int_eq}
use Rattle.std.specs.List.{list_any}
use Rattle.std.proofs.lemmas.Bool.Decides.{Decides-int_eq}
use Rattle.std.proofs.lemmas.List.Elements.{All-nil, All-cons, All-head, All-tail}
use Rattle.std.proofs.lemmas.Slice.Eq.{bytes_eq-Decides}
use Rattle.kz_types.specs.declared.limits.TheConstants.{MAX_BODY_BYTES, MAX_LONG, MAX_VERSION}
use Rattle.kz_types.specs.declared.tree.Row.{Row}
use Rattle.kz_types.specs.declared.tree.Op.{Op}
use Rattle.kz_types.specs.declared.tree.Op.TheVariants.{Create, Delete}
use Rattle.kz_types.specs.declared.driver.ClaimSeen.{ClaimSeen}
use Rattle.kz_types.specs.declared.fault.TreeFault.{TreeFault}
use Rattle.kz_types.specs.declared.fault.TreeFault.TheVariants as fault
use Rattle.kz_types.specs.Paths.{base_paths, control_paths, is_below, is_among}
use Rattle.kz_types.specs.Order.{bytes_cmp}
use Rattle.kz_types.specs.Ordered.{Rises}
use Rattle.kz_spec_data.specs.Control.{control_path, epoch_path, migration_path, written_epoch, written_control, written_recorded}
use Rattle.kz_spec_data.specs.Tree.{path_of_op, Tree, path_of_row, row_at, parent_of, is_root, has_parent, has_children, is_ephemeral, fits_version, Refusal, code, limit, first_refusal, set_refusal, delete_refusal, op_refusal, after_op, rows_unless_refused, after_ops, with_zxid, multi}
use Rattle.kz_spec_machine.specs.Driver.{Driver, epoch_or_zero, views_migrated, seen_in, epoch_number, epoch_op, control_ops, record_before_offsets, migration_ops, base_op, base_ops, claim_ops}
use Rattle.kz_spec_machine.specs.Sound.{Lasts, IsNotRoot, IsUnreserved, TreeShape}
use Rattle.kz_laws_machine.specs.TreeLaws.{KeepsShape}
use Rattle.kz_laws_machine.proofs.Rows.{still, others_kept, created_found, deleted_found}
use Rattle.kz_laws_machine.proofs.Runs.{ran, Passes, Avoids, ran_keeps, ran_rises}
use Rattle.kz_laws_machine.proofs.Each.{all_ran}
use Rattle.kz_laws_machine.proofs.Parents.{Is, some_alike, there_kept}
use Rattle.kz_laws_machine.proofs.Lasting.{lasts_keep, not_root_keep, free_keep}
use Rattle.kz_laws_machine.proofs.Multi.{counted_up, differ}
use Rattle.kz_laws_machine.proofs.Refusals.{Taken, create_taken, set_taken}
use Rattle.kz_laws_machine.proofs.Ready.{base_lasts, root_lasts}
use Rattle.kz_laws_machine.proofs.Below.{parent_and_name, has_name}
use Rattle.kz_laws_machine.proofs.Claim.{control_avoids_path, claim_keeps_shape}

-- ---- operations one after another

-- None is refused with a code, if those before it pass.
abbrev AllTaken : List ℤ → ℤ → List Op → List Row → Type 0
AllTaken sessions zxid [] rows = ⊤
AllTaken sessions zxid (o ∷ os) rows = Taken (op_refusal sessions o rows) × (op_refusal sessions o rows ≡ None → AllTaken sessions zxid os (after_op zxid o rows))

taken_append : (sessions : List ℤ) (zxid : ℤ) (xs ys : List Op) (rows : List Row) → AllTaken sessions zxid xs rows → (Passes sessions zxid xs rows → AllTaken sessions zxid ys (ran zxid xs rows)) → AllTaken sessions zxid (xs ++ ys) rows
taken_append sessions zxid [] ys rows first rest = rest tt
taken_append sessions zxid (x ∷ xs) ys rows first rest = (first.0, λ pass. taken_append sessions zxid xs ys (after_op zxid x rows) (first.1 pass) (λ passes. rest (pass, passes)))

one_taken : (at index : ℕ) (c : ℤ) (m : Option Refusal) (rest : Result (List Row) TreeFault) → Taken m → (m ≡ None → rest ≢ Err (fault.Refused index c)) → rows_unless_refused at m rest ≢ Err (fault.Refused index c)
one_taken at index c None rest taken later = later refl
one_taken at index c (Some (code x)) rest taken later = absurd taken
one_taken at index c (Some (limit n)) rest taken later = λ is. cc

ops_taken : (sessions : List ℤ) (zxid : ℤ) (os : List Op) (rows : List Row) → AllTaken sessions zxid os rows → (at index : ℕ) (c : ℤ) → after_ops sessions zxid at os rows ≢ Err (fault.Refused index c)
ops_taken sessions zxid [] rows taken at index c = λ is. cc
ops_taken sessions zxid (o ∷ os) rows taken at index c =
    one_taken at index c (op_refusal sessions o rows) (after_ops sessions zxid (at + 1) os (after_op zxid o rows)) taken.0 (λ pass. ops_taken sessions zxid os (after_op zxid o rows) (taken.1 pass) (at + 1) index c)

counted_taken : (t : Tree) (index : ℕ) (c : ℤ) (rows : List Row) (full : Bool) → counted_up t rows full ≢ Err (fault.Refused index c)
counted_taken t index c rows true is = cc
counted_taken t index c rows false is = cc

same_fault : (e : TreeFault) (index : ℕ) (c : ℤ) → ◌≡◌ {A = Result Tree TreeFault} (Err e) (Err (fault.Refused index c)) → ◌≡◌ {A = Result (List Row) TreeFault} (Err e) (Err (fault.Refused index c))
same_fault e index c is = let same : e ≡ fault.Refused index c = cc in ap (λ f. Err f) same

with_zxid_taken : (t : Tree) (index : ℕ) (c : ℤ) (r : Result (List Row) TreeFault) → r ≢ Err (fault.Refused index c) → with_zxid t r ≢ Err (fault.Refused index c)
with_zxid_taken t index c (Err e) taken is = taken (same_fault e index c is)
with_zxid_taken t index c (Ok rows) taken is = counted_taken t index c rows (int_le MAX_LONG t.zxid) is

multi_taken : (t : Tree) (ops : List Op) (index : ℕ) (c : ℤ) → AllTaken t.sessions (t.zxid +ℤ pos 1) ops t.rows → multi t ops ≢ Err (fault.Refused index c)
unfolding multi
multi_taken t ops index c taken = with_zxid_taken t index c (after_ops t.sessions (t.zxid +ℤ pos 1) 0 ops t.rows) (ops_taken t.sessions (t.zxid +ℤ pos 1) ops t.rows taken 0 index c)

-- ---- what the operations rest on

record Sturdy (rows : List Row) : Type 0 where
  rise : Rises bytes_cmp path_of_row rows
  not_root : All IsNotRoot rows
  free : All IsUnreserved rows
  last : All Lasts rows

sturdy_ran : (sessions : List ℤ) (zxid : ℤ) (os : List Op) (rows : List Row) → Passes sessions zxid os rows → All KeepsShape os → Sturdy rows → Sturdy (ran zxid os rows)
sturdy_ran sessions zxid os rows passes shaped s = record {
  rise = ran_rises zxid os rows s.rise;
  not_root = all_ran IsNotRoot sessions zxid os rows passes shaped (not_root_keep sessions zxid) s.not_root;
  free = all_ran IsUnreserved sessions zxid os rows passes shaped (free_keep sessions zxid) s.free;
  last = all_ran Lasts sessions zxid os rows passes shaped (lasts_keep sessions zxid) s.last;
}

tree_sturdy : (t : Tree) → TreeShape t → Sturdy t.rows
tree_sturdy t shape = record { rise = shape.rise; not_root = shape.not_root; free = shape.free; last = shape.last }

-- a znode of this path has the root as parent
root_parent : (path : List ℕ) (rows : List Row) → is_root (parent_of path) ≡ true → has_parent path rows ≡ true
root_parent path rows root = ap (λ (b : Bool). b || is_some (row_at (parent_of path) rows)) root

absent_by : (m : Option Row) → m ≡ None → is_some m ≡ false
absent_by m is = ap is_some is

create_at_root : (sessions : List ℤ) (path body : List ℕ) (rows : List Row) → is_root (parent_of path) ≡ true → Sturdy rows → is_some (row_at path rows) ≡ false → Taken (op_refusal sessions (Create path body None) rows)
create_at_root sessions path body rows root s absent =
    create_taken sessions path body rows (root_parent path rows root) absent (root_lasts rows (parent_of path) (row_at (parent_of path) rows) refl s.not_root root)

-- ---- at the version that was seen

past : (b : Bool) (r : Refusal) (cs : List (Bool × Refusal)) → b ≡ false → Taken (first_refusal cs) → Taken (first_refusal ((b, r) ∷ cs))
past true r cs none rest = absurd (cc)
past false r cs none rest = rest

past_limit : (b : Bool) (n : ℕ) (cs : List (Bool × Refusal)) → Taken (first_refusal cs) → Taken (first_refusal ((b, limit n) ∷ cs))
past_limit true n cs rest = tt
past_limit false n cs rest = rest

fits_by : (a b : Bool) → b ≡ true → not (a || b) ≡ false
fits_by true b is = refl
fits_by false true is = refl
fits_by false false is = absurd (cc)

own_fits : (version : ℤ) (r : Row) → version ≡ r.version → not (fits_version version r) ≡ false
own_fits version r same = fits_by (int_eq version (negsuc 0)) (int_eq version r.version) ((Decides-int_eq version r.version).1 same)

set_seen : (body : List ℕ) (version : ℤ) (r : Row) → version ≡ r.version → Taken (set_refusal body version (Some r))
set_seen body version r same =
    past (not (fits_version version r)) (code (negsuc 102)) ((nat_lt MAX_BODY_BYTES (length body), limit 2) ∷ (int_le MAX_VERSION r.version, limit 5) ∷ []) (own_fits version r same)
    (past_limit (nat_lt MAX_BODY_BYTES (length body)) 2 ((int_le MAX_VERSION r.version, limit 5) ∷ []) (past_limit (int_le MAX_VERSION r.version) 5 [] tt))

delete_seen : (path : List ℕ) (version : ℤ) (rows : List Row) (r : Row) → version ≡ r.version → has_children path rows ≡ false → Taken (delete_refusal path version rows (Some r))
delete_seen path version rows r same none =
    past (not (fits_version version r)) (code (negsuc 102)) ((has_children path rows, code (negsuc 110)) ∷ []) (own_fits version r same) (past (has_children path rows) (code (negsuc 110)) [] none tt)

-- ---- `/controller` has no children

below_named : (name : List ℕ) → is_below control_path (control_path ++ 47 ∷ name) ≡ true
below_named name = refl

reserved : (path : List ℕ) → is_below control_path path ≡ true → list_any (λ control. is_below control path) control_paths ≡ true
unfolding control_paths
reserved path is = ap (λ (b : Bool). b || (is_below epoch_path path || (is_below migration_path path || false))) is

child_by : (path : List ℕ) (b : Bool) → list_any (λ control. is_below control path) control_paths ≡ false → bytes_eq (parent_of path) control_path ≡ b → b ≡ false
child_by path false free is = refl
child_by path true free is =
    let same : parent_of path ≡ control_path = (bytes_eq-Decides (parent_of path) control_path).0 is in
    let named = parent_and_name path (has_name path (ap is_root same)) in
    let whole : path ≡ control_path ++ 47 ∷ named.0 = named.1 ∙ ap (λ (q : List ℕ). q ++ 47 ∷ named.0) same in
    let below : is_below control_path path ≡ true = ap (is_below control_path) whole ∙ below_named named.0 in
    absurd (let yes = reserved path below in cc)

none_any : (p : Row → Bool) (rows : List Row) → ((r : Row) → IsUnreserved r → p r ≡ false) → All IsUnreserved rows → list_any p rows ≡ false
none_any p [] each free = refl
none_any p (r ∷ rows) each free = ap (λ (b : Bool). b || list_any p rows) (each r (All-head IsUnreserved r rows free)) ∙ none_any p rows each (All-tail IsUnreserved r rows free)

no_children : (rows : List Row) → Sturdy rows → has_children control_path rows ≡ false
no_children rows s = none_any (λ (r : Row). bytes_eq (parent_of r.path) control_path) rows (λ r free. child_by r.path (bytes_eq (parent_of r.path) control_path) free refl) s.free

-- ---- the number of the claim

epoch_taken : (t : Tree) (m : Option Row) → TreeShape t → row_at epoch_path t.rows ≡ m → Taken (op_refusal t.sessions (epoch_op m) t.rows)
epoch_taken t None shape is = create_at_root t.sessions epoch_path (written_epoch (pos 1)) t.rows refl (tree_sturdy t shape) (absent_by (row_at epoch_path t.rows) is)
epoch_taken t (Some r) shape is =
    let body = written_epoch (epoch_number r +ℤ pos 1) in
    subst (λ (m : Option Row). Taken (set_refusal body r.version m)) (sym is) (set_seen body r.version r refl)

-- ---- `/controller`

same_version : (m : Option Row) (r : Row) → option_map still m ≡ option_map still (Some r) → (x : Row) × (m ≡ Some x) × (r.version ≡ x.version)
same_version None r is = absurd (cc)
same_version (Some x) r is = (x, refl, versions (still x) (still r) (cc))
  where
    versions : (a b : Row) → a ≡ b → b.version ≡ a.version
    versions a b same = ap (λ (y : Row). y.version) (sym same)

control_taken : (sessions : List ℤ) (zxid : ℤ) (m : Option Row) (body : List ℕ) (rows : List Row) → Sturdy rows → option_map still (row_at control_path rows) ≡ option_map still m → AllTaken sessions zxid (control_ops m body) rows
control_taken sessions zxid None body rows s alike = (create_at_root sessions control_path body rows refl s (some_alike (row_at control_path rows) None alike), λ pass. tt)
control_taken sessions zxid (Some r) body rows s alike =
    let found = same_version (row_at control_path rows) r alike in (
      subst (λ (m : Option Row). Taken (delete_refusal control_path r.version rows m)) (sym found.1) (delete_seen control_path r.version rows found.0 found.2 (no_children rows s)),
      λ pass. (
        create_at_root sessions control_path body (after_op zxid (Delete control_path r.version) rows) refl
            (sturdy_ran sessions zxid (Delete control_path r.version ∷ []) rows (pass, tt) (All-cons KeepsShape (Delete control_path r.version) [] tt (All-nil KeepsShape)) s)
            (absent_by (row_at control_path (after_op zxid (Delete control_path r.version) rows)) (deleted_found zxid control_path r.version rows s.rise)),
        λ later. tt,
      ),
    )

-- ---- `/migration`

migration_taken : (sessions : List ℤ) (zxid : ℤ) (b : Bool) (m : Option Row) (body : List ℕ) (rows : List Row) → Sturdy rows → option_map still (row_at migration_path rows) ≡ option_map still m → AllTaken sessions zxid (migration_ops b m body) rows
migration_taken sessions zxid true m body rows s alike = tt
migration_taken sessions zxid false None body rows s alike = (create_at_root sessions migration_path body rows refl s (some_alike (row_at migration_path rows) None alike), λ pass. tt)
migration_taken sessions zxid false (Some r) body rows s alike = (set_taken body (row_at migration_path rows) (some_alike (row_at migration_path rows) (Some r) alike), λ pass. tt)

-- ---- base znodes

-- a path at which a znode without an owner may stand, below what is there and lasts
record MayBe (path : List ℕ) (rows : List Row) : Type 0 where
  shaped : KeepsShape (Create path [] None)
  parent : has_parent path rows ≡ true
  stays : is_ephemeral (row_at (parent_of path) rows) ≡ false

-- the znodes after a base znode was made, where it was missing
record Made (path : List ℕ) (rows new : List Row) : Type 0 where
  sturdy : Sturdy new
  there : Is path new
  others : (q : List ℕ) → q ≢ path → is_some (row_at q new) ≡ is_some (row_at q rows)

base_taken : (sessions : List ℤ) (zxid : ℤ) (b : Bool) (path : List ℕ) (rest : List Op) (rows : List Row) → Sturdy rows → is_some (row_at path rows) ≡ b → MayBe path rows → ((new : List Row) → Made path rows new → AllTaken sessions zxid rest new)
    → AllTaken sessions zxid (base_op b path ++ rest) rows
base_taken sessions zxid true path rest rows s is may later = later rows (record { sturdy = s; there = is; others = λ q other. refl })
base_taken sessions zxid false path rest rows s is may later = (
  create_taken sessions path [] rows may.parent is may.stays,
  λ pass. later (after_op zxid (Create path [] None) rows) (record {
    sturdy = sturdy_ran sessions zxid (Create path [] None ∷ []) rows (pass, tt) (All-cons KeepsShape (Create path [] None) [] may.shaped (All-nil KeepsShape)) s;
    there = ap is_some (created_found zxid path [] None rows);
    others = λ q other. there_kept zxid (Create path [] None) q rows other;
  }),
)

at_root : (path : List ℕ) (rows : List Row) → KeepsShape (Create path [] None) → is_root (parent_of path) ≡ true → Sturdy rows → MayBe path rows
at_root path rows shaped root s = record { shaped = shaped; parent = root_parent path rows root; stays = root_lasts rows (parent_of path) (row_at (parent_of path) rows) refl s.not_root root }

below_base : (path : List ℕ) (rows : List Row) → KeepsShape (Create path [] None) → is_among base_paths (parent_of path) ≡ true → Is (parent_of path) rows → Sturdy rows → MayBe path rows
below_base path rows shaped among there s = record {
  shaped = shaped;
  parent = by (is_root (parent_of path)) (is_some (row_at (parent_of path) rows)) there;
  stays = base_lasts rows (parent_of path) s.last among;
}
  where
    by : (a b : Bool) → b ≡ true → (a || b) ≡ true
    by true b is = refl
    by false b is = is

unowned : (path : List ℕ) → is_root path ≡ false → list_any (λ control. is_below control path) control_paths ≡ false → KeepsShape (Create path [] None)
unowned path not_root free = record { not_root = not_root; free = free; last = λ owned. absurd (cc) }

brokers_shaped : KeepsShape (Create (codes "/brokers") [] None)
unfolding control_paths
brokers_shaped = unowned (codes "/brokers") refl refl

config_shaped : KeepsShape (Create (codes "/config") [] None)
unfolding control_paths
config_shaped = unowned (codes "/config") refl refl

acl_shaped : KeepsShape (Create (codes "/kafka-acl") [] None)
unfolding control_paths
acl_shaped = unowned (codes "/kafka-acl") refl refl

extended_shaped : KeepsShape (Create (codes "/kafka-acl-extended") [] None)
unfolding control_paths
extended_shaped = unowned (codes "/kafka-acl-extended") refl refl

prefixed_shaped : KeepsShape (Create (codes "/kafka-acl-extended/prefixed") [] None)
unfolding control_paths
prefixed_shaped = unowned (codes "/kafka-acl-extended/prefixed") refl refl

extended_among : is_among base_paths (codes "/kafka-acl-extended") ≡ true
unfolding base_paths
extended_among = refl

bases_taken : (sessions : List ℤ) (zxid : ℤ) (a b c d e : Bool) (rows : List Row) → Sturdy rows → is_some (row_at (codes "/brokers") rows) ≡ a → is_some (row_at (codes "/config") rows) ≡ b → is_some (row_at (codes "/kafka-acl") rows) ≡ c
    → is_some (row_at (codes "/kafka-acl-extended") rows) ≡ d → is_some (row_at (codes "/kafka-acl-extended/prefixed") rows) ≡ e → AllTaken sessions zxid (base_ops (a ∷ b ∷ c ∷ d ∷ e ∷ []) base_paths) rows
unfolding base_paths
bases_taken sessions zxid a b c d e rows s one two three four five =
    base_taken sessions zxid a (codes "/brokers") _ rows s one (at_root (codes "/brokers") rows brokers_shaped refl s) (λ r1 m1.
    base_taken sessions zxid b (codes "/config") _ r1 m1.sturdy (m1.others (codes "/config") (differ (codes "/config") (codes "/brokers") refl) ∙ two) (at_root (codes "/config") r1 config_shaped refl m1.sturdy) (λ r2 m2.
    base_taken sessions zxid c (codes "/kafka-acl") _ r2 m2.sturdy
    (m2.others (codes "/kafka-acl") (differ (codes "/kafka-acl") (codes "/config") refl) ∙ m1.others (codes "/kafka-acl") (differ (codes "/kafka-acl") (codes "/brokers") refl) ∙ three) (at_root (codes "/kafka-acl") r2 acl_shaped refl m2.sturdy) (λ r3 m3.
    base_taken sessions zxid d (codes "/kafka-acl-extended") _ r3 m3.sturdy
    (m3.others (codes "/kafka-acl-extended") (differ (codes "/kafka-acl-extended") (codes "/kafka-acl") refl) ∙ m2.others (codes "/kafka-acl-extended") (differ (codes "/kafka-acl-extended") (codes "/config") refl)
    ∙ m1.others (codes "/kafka-acl-extended") (differ (codes "/kafka-acl-extended") (codes "/brokers") refl) ∙ four) (at_root (codes "/kafka-acl-extended") r3 extended_shaped refl m3.sturdy) (λ r4 m4.
    base_taken sessions zxid e (codes "/kafka-acl-extended/prefixed") [] r4 m4.sturdy
    (m4.others (codes "/kafka-acl-extended/prefixed") (differ (codes "/kafka-acl-extended/prefixed") (codes "/kafka-acl-extended") refl) ∙ m3.others (codes "/kafka-acl-extended/prefixed") (differ (codes "/kafka-acl-extended/prefixed") (codes "/kafka-acl") refl)
    ∙ m2.others (codes "/kafka-acl-extended/prefixed") (differ (codes "/kafka-acl-extended/prefixed") (codes "/config") refl) ∙ m1.others (codes "/kafka-acl-extended/prefixed") (differ (codes "/kafka-acl-extended/prefixed") (codes "/brokers") refl) ∙ five)
    (below_base (codes "/kafka-acl-extended/prefixed") r4 prefixed_shaped extended_among m4.there m4.sturdy) (λ r5 m5. tt)))))

-- ---- a whole claim

shaped_left : (xs ys : List Op) → All KeepsShape (xs ++ ys) → All KeepsShape xs
shaped_left [] ys all = All-nil KeepsShape
shaped_left (x ∷ xs) ys all = All-cons KeepsShape x xs (All-head KeepsShape x (xs ++ ys) all) (shaped_left xs ys (All-tail KeepsShape x (xs ++ ys) all))

shaped_right : (xs ys : List Op) → All KeepsShape (xs ++ ys) → All KeepsShape ys
shaped_right [] ys all = all
shaped_right (x ∷ xs) ys all = shaped_right xs ys (All-tail KeepsShape x (xs ++ ys) all)

not_of_epoch : (p : List ℕ) (m : Option Row) → p ≢ epoch_path → p ≢ path_of_op (epoch_op m)
not_of_epoch p None other = other
not_of_epoch p (Some r) other = other

migration_avoids : (p : List ℕ) (b : Bool) (m : Option Row) (body : List ℕ) → p ≢ migration_path → Avoids p (migration_ops b m body)
migration_avoids p true m body other = tt
migration_avoids p false None body other = (other, tt)
migration_avoids p false (Some r) body other = (other, tt)

-- a path at which the first operations of a claim have nothing to do
pub record Spared (p : List ℕ) : Type 0 where
  pub epoch : p ≢ epoch_path
  pub control : p ≢ control_path
  pub migration : p ≢ migration_path

pub spared : (p : List ℕ) → bytes_eq p epoch_path ≡ false → bytes_eq p control_path ≡ false → bytes_eq p migration_path ≡ false → Spared p
spared p one two three = record { epoch = differ p epoch_path one; control = differ p control_path two; migration = differ p migration_path three }

pub spared_alike : (zxid : ℤ) (e c m : Option Row) (b : Bool) (body recorded : List ℕ) (p : List ℕ) (rows : List Row) → Spared p
    → is_some (row_at p (ran zxid (migration_ops b m recorded) (ran zxid (control_ops c body) (after_op zxid (epoch_op e) rows)))) ≡ is_some (row_at p rows)
spared_alike zxid e c m b body recorded p rows s =
    let first = after_op zxid (epoch_op e) rows in
    let second = ran zxid (control_ops c body) first in
    let third = ran zxid (migration_ops b m recorded) second in
    some_alike (row_at p third) (row_at p rows)
    (ran_keeps zxid p (migration_ops b m recorded) second (migration_avoids p b m recorded s.migration)
    ∙ ran_keeps zxid p (control_ops c body) first (control_avoids_path p c body s.control)
    ∙ others_kept zxid (epoch_op e) p rows (not_of_epoch p e s.epoch))

bases_seen : (t : Tree) → (seen_in t).bases ≡ is_some (row_at (codes "/brokers") t.rows) ∷ is_some (row_at (codes "/config") t.rows) ∷ is_some (row_at (codes "/kafka-acl") t.rows) ∷ is_some (row_at (codes "/kafka-acl-extended") t.rows)
    ∷ is_some (row_at (codes "/kafka-acl-extended/prefixed") t.rows) ∷ []
unfolding base_paths
bases_seen t = refl

all_taken : (t : Tree) (d : Driver) (now : ℤ) → TreeShape t → AllTaken t.sessions (t.zxid +ℤ pos 1) (claim_ops (seen_in t) d now) t.rows
all_taken t d now shape =
    let zxid = t.zxid +ℤ pos 1 in
    let seen : ClaimSeen = seen_in t in
    let body = written_control d.id (epoch_or_zero d.epoch) now in
    let recorded = written_recorded (record_before_offsets d) in
    let controls = control_ops seen.control body in
    let recording = migration_ops (views_migrated d) seen.migration recorded in
    let bases = base_ops seen.bases base_paths in
    let all : All KeepsShape (claim_ops seen d now) = claim_keeps_shape seen d now in
    let rest_shaped : All KeepsShape (controls ++ (recording ++ bases)) = All-tail KeepsShape (epoch_op seen.epoch) (controls ++ (recording ++ bases)) all in
    let first : List Row = after_op zxid (epoch_op seen.epoch) t.rows in
    let second : List Row = ran zxid controls first in
    let third : List Row = ran zxid recording second in (
      epoch_taken t (row_at epoch_path t.rows) shape refl,
      λ pass.
          let s1 : Sturdy first = sturdy_ran t.sessions zxid (epoch_op seen.epoch ∷ []) t.rows (pass, tt)
          (All-cons KeepsShape (epoch_op seen.epoch) [] (All-head KeepsShape (epoch_op seen.epoch) (controls ++ (recording ++ bases)) all) (All-nil KeepsShape)) (tree_sturdy t shape) in
          taken_append t.sessions zxid controls (recording ++ bases) first
          (control_taken t.sessions zxid seen.control body first s1 (others_kept zxid (epoch_op seen.epoch) control_path t.rows (not_of_epoch control_path seen.epoch (differ control_path epoch_path refl))))
          (λ passes.
          let s2 : Sturdy second = sturdy_ran t.sessions zxid controls first passes (shaped_left controls (recording ++ bases) rest_shaped) s1 in
          taken_append t.sessions zxid recording bases second
          (migration_taken t.sessions zxid (views_migrated d) seen.migration recorded second s2
          (ran_keeps zxid migration_path controls first (control_avoids_path migration_path seen.control body (differ migration_path control_path refl))
          ∙ others_kept zxid (epoch_op seen.epoch) migration_path t.rows (not_of_epoch migration_path seen.epoch (differ migration_path epoch_path refl))))
          (λ more.
          let s3 : Sturdy third = sturdy_ran t.sessions zxid recording second more (shaped_left recording bases (shaped_right controls (recording ++ bases) rest_shaped)) s2 in
          let alike : (p : List ℕ) → Spared p → is_some (row_at p third) ≡ is_some (row_at p t.rows) = λ p s. spared_alike zxid seen.epoch seen.control seen.migration (views_migrated d) body recorded p t.rows s in
          subst (λ (bs : List Bool). AllTaken t.sessions zxid (base_ops bs base_paths) third) (sym (bases_seen t))
          (bases_taken t.sessions zxid _ _ _ _ _ third s3
          (alike (codes "/brokers") (spared (codes "/brokers") refl refl refl)) (alike (codes "/config") (spared (codes "/config") refl refl refl)) (alike (codes "/kafka-acl") (spared (codes "/kafka-acl") refl refl refl))
          (alike (codes "/kafka-acl-extended") (spared (codes "/kafka-acl-extended") refl refl refl)) (alike (codes "/kafka-acl-extended/prefixed") (spared (codes "/kafka-acl-extended/prefixed") refl refl refl))))),
    )

pub look_taken : (t : Tree) (d : Driver) (now : ℤ) (index : ℕ) (c : ℤ) → TreeShape t → multi t (claim_ops (seen_in t) d now) ≢ Err (fault.Refused index c)
look_taken t d now index c shape = multi_taken t (claim_ops (seen_in t) d now) index c (all_taken t d now shape)
