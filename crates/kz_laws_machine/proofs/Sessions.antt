-- A tree after a session of a ZooKeeper client has begun or ended.
use Rattle.std.proofs.Common.{◌≡◌, ◌≢◌, ◌⊎◌, ◌≤ℤ◌, inl, inr, Contains, get_or, ℕ, ℤ, pos, ◌+ℤ◌, int_le, Bool, true, false, not, ◌&&◌, ◌||◌, if◌then◌else◌, cond, List, [], ◌∷◌, Option, Some, None, option_map, is_some, All, refl, sym, ap, ◌∙◌, subst, map, filter, arith}
use Rattle.std.specs.Prelude.{Result, Ok, Err}
use Rattle.std.specs.Str.{bytes_eq}
use Rattle.std.specs.Ordering.{int_cmp, int_eq}
use Rattle.std.proofs.lemmas.Bool.Decides.{Decides-int_eq}
use Rattle.std.proofs.lemmas.Int.{ints}
use Rattle.std.proofs.lemmas.List.Elements.{All-head, All-tail, All-map, All-filter, All-weaker, All-contains, filter_passes}
use Rattle.std.proofs.lemmas.List.Folds.{list_any_none}
use Rattle.std.proofs.lemmas.Slice.Eq.{bytes_eq-Decides}
use Rattle.kz_types.specs.declared.limits.TheConstants.{MAX_LONG}
use Rattle.kz_types.specs.declared.tree.Row.{Row}
use Rattle.kz_types.specs.declared.move_fault.MoveFault.{MoveFault}
use Rattle.kz_types.specs.declared.move_fault.MoveFault.TheVariants as move_fault
use Rattle.kz_types.specs.Paths.{base_paths, is_among, is_migrated, roots}
use Rattle.kz_types.specs.Order.{bytes_cmp}
use Rattle.kz_types.specs.Ordered.{Rises, find, put, without}
use Rattle.kz_types.proofs.Order.{bytes_order, int_order, Place, below, equal, above, place, less_differs, less_differs_back}
use Rattle.kz_types.proofs.Lookup.{found_is_contained, key_of_found, find_here, find_skip, find-put_same, find-put_other, find-without_other, Rises-put, Rises-without, Contains-put_cases, Contains-without}
use Rattle.kz_types.proofs.Maps.{find-map, find-filter_absent, find-filter_found, Rises-filter, Rises-map}
use Rattle.kz_spec_data.specs.Control.{control_path, epoch_path, migration_path, shown_epoch}
use Rattle.kz_spec_data.specs.Tree.{Tree, path_of_row, row_at, parent_of, is_root, is_ephemeral, is_live, may_own, begin_session, is_owner, is_owned, loses_child, after_loss, without_owned, end_session}
use Rattle.kz_spec_machine.specs.Driver.{shown_by}
use Rattle.kz_spec_machine.specs.Sound.{IsStamped, HaveParents, is_lasting, Lasts, ParentsStay, IsNotRoot, IsUnreserved, IsOwned, IsSmall, Limits, TreeShape, IsSession}
use Rattle.kz_laws_machine.specs.Effects.{IsUnchanged}
use Rattle.kz_laws_machine.proofs.Rows.{still}
use Rattle.kz_laws_machine.proofs.Parents.{Is}
use Rattle.kz_laws_machine.proofs.Each.{all_from_contains}
use Rattle.kz_laws_machine.proofs.Below.{child_migrated}
use Rattle.kz_laws_machine.proofs.Multi.{room_for_one, one_more, stamped_later}
use Rattle.kz_laws_machine.proofs.KeptLimits.{left_counts}
use Rattle.kz_laws_machine.proofs.TreeUnchanged.{Alike, unchanged_by}

-- ---- one transaction more

-- a tree with the next zxid, these sessions and these znodes
pub record Moved (t new : Tree) (live : List ℤ) (made : List Row) : Type 0 where
  pub zxid : new.zxid ≡ t.zxid +ℤ pos 1
  pub most : new.zxid ≤ℤ MAX_LONG
  pub sessions : new.sessions ≡ live
  pub rows : new.rows ≡ made

moved_by : (t new : Tree) (sessions : List ℤ) (rows : List Row) (full : Bool) → int_le MAX_LONG t.zxid ≡ full
    → (if full then Err (move_fault.Limit 17) else Ok (record { zxid = t.zxid +ℤ pos 1; sessions = sessions; rows = rows })) ≡ Ok new → Moved t new sessions rows
moved_by t new sessions rows true room is = absurd (cc)
moved_by t new sessions rows false room is =
    let made : Tree = record { zxid = t.zxid +ℤ pos 1; sessions = sessions; rows = rows } in
    let same : made ≡ new = cc in
    let zxid : new.zxid ≡ t.zxid +ℤ pos 1 = sym (ap (λ (x : Tree). x.zxid) same) in
    record { zxid = zxid; most = room_for_one t.zxid new.zxid room zxid; sessions = sym (ap (λ (x : Tree). x.sessions) same); rows = sym (ap (λ (x : Tree). x.rows) same) }

unless_refused : (t new : Tree) (sessions : List ℤ) (rows : List Row) (b : Bool) (fault : MoveFault) (rest : Result Tree MoveFault) → (if b then Err fault else rest) ≡ Ok new → (rest ≡ Ok new → Moved t new sessions rows) → Moved t new sessions rows
unless_refused t new sessions rows true fault rest is made = absurd (cc)
unless_refused t new sessions rows false fault rest is made = made is

if_live : (t new : Tree) (sessions : List ℤ) (rows : List Row) (b : Bool) (fault : MoveFault) (rest : Result Tree MoveFault) → (if b then rest else Err fault) ≡ Ok new → (rest ≡ Ok new → Moved t new sessions rows) → Moved t new sessions rows
if_live t new sessions rows true fault rest is made = made is
if_live t new sessions rows false fault rest is made = absurd (cc)

-- the live sessions with one more, and without one
abbrev pub with_session : ℤ → List ℤ → List ℤ
with_session session sessions = put int_cmp (λ s. s) session sessions

abbrev pub without_session : ℤ → List ℤ → List ℤ
without_session session sessions = without int_cmp (λ s. s) session sessions

pub begun : (t new : Tree) (session : ℤ) → begin_session t session ≡ Ok new → Moved t new (with_session session t.sessions) t.rows
unfolding begin_session
begun t new session is = unless_refused t new (with_session session t.sessions) t.rows (is_live session t.sessions) move_fault.Known _ is (moved_by t new (with_session session t.sessions) t.rows (int_le MAX_LONG t.zxid) refl)

pub ended : (t new : Tree) (session : ℤ) → end_session t session ≡ Ok new → Moved t new (without_session session t.sessions) (without_owned (t.zxid +ℤ pos 1) session t.rows)
unfolding end_session
ended t new session is = if_live t new (without_session session t.sessions) (without_owned (t.zxid +ℤ pos 1) session t.rows) (is_live session t.sessions) move_fault.Unknown _ is
    (moved_by t new (without_session session t.sessions) (without_owned (t.zxid +ℤ pos 1) session t.rows) (int_le MAX_LONG t.zxid) refl)

-- ---- live sessions

session_differs : (s x : ℤ) (b : Bool) → s ≢ x → int_eq x s ≡ b → b ≡ false
session_differs s x true differ is = absurd (differ (sym ((Decides-int_eq x s).0 is)))
session_differs s x false differ is = refl

other_session : (s x : ℤ) (xs : List ℤ) → s ≢ x → is_live s xs ≡ is_some (find int_cmp (λ y. y) s xs) → is_live s (x ∷ xs) ≡ is_some (find int_cmp (λ y. y) s (x ∷ xs))
other_session s x xs differ rest = ap (λ b. b || is_live s xs) (session_differs s x (int_eq x s) differ refl) ∙ rest ∙ sym (ap is_some (find_skip int_order (λ y. y) s x xs differ))

-- a live session is one that is found
live_found : (s : ℤ) (xs : List ℤ) → is_live s xs ≡ is_some (find int_cmp (λ x. x) s xs)
live_found s [] = refl
live_found s (x ∷ xs) = elim (place int_order s x) [
  | below h ↦ other_session s x xs (less_differs int_order s x h) (live_found s xs)
  | equal h ↦ ap (λ b. b || is_live s xs) ((Decides-int_eq x s).1 (sym h)) ∙ sym (ap is_some (find_here int_order (λ y. y) s x xs h))
  | above h ↦ other_session s x xs (less_differs_back int_order s x h) (live_found s xs)
]

stays_live : (s session : ℤ) (xs : List ℤ) → is_live s xs ≡ true → is_live s (with_session session xs) ≡ true
stays_live s session xs is = live_found s (with_session session xs) ∙ by_place (place int_order s session)
  where
    kept : s ≢ session → is_some (find int_cmp (λ x. x) s (with_session session xs)) ≡ true
    kept differ = ap is_some (find-put_other int_order (λ x. x) session xs s differ) ∙ sym (live_found s xs) ∙ is

    by_place : Place int_cmp s session → is_some (find int_cmp (λ x. x) s (with_session session xs)) ≡ true
    by_place (below h) = kept (less_differs int_order s session h)
    by_place (equal h) = ap (λ y. is_some (find int_cmp (λ x. x) y (with_session session xs))) h ∙ ap is_some (find-put_same int_order (λ x. x) session xs)
    by_place (above h) = kept (less_differs_back int_order s session h)

owner_stays_live : (owner : Option ℤ) (session : ℤ) (xs : List ℤ) → may_own owner xs ≡ true → may_own owner (with_session session xs) ≡ true
owner_stays_live None session xs is = refl
owner_stays_live (Some s) session xs is = stays_live s session xs is

-- the owner of what doesn't end with the session is another session
owner_is_other : (owner : Option ℤ) (session : ℤ) (xs : List ℤ) → is_owner session owner ≡ false → may_own owner xs ≡ true → may_own owner (without_session session xs) ≡ true
owner_is_other None session xs other is = refl
owner_is_other (Some s) session xs other is =
    live_found s (without_session session xs) ∙ ap is_some (find-without_other int_order (λ x. x) session xs s (λ same. let test = (Decides-int_eq s session).1 same in cc)) ∙ sym (live_found s xs) ∙ is

least_with : (session : ℤ) (xs : List ℤ) → pos 1 ≤ℤ session → All (λ s. pos 1 ≤ℤ s) xs → All (λ s. pos 1 ≤ℤ s) (with_session session xs)
least_with session xs low all = all_from_contains (λ s. pos 1 ≤ℤ s) (with_session session xs) (λ x has. either x (Contains-put_cases int_order (λ s. s) session xs x has))
  where
    either : (x : ℤ) → (session ≡ x) ⊎ Contains xs x → pos 1 ≤ℤ x
    either x (inl e) = subst (λ (s : ℤ). pos 1 ≤ℤ s) e low
    either x (inr has) = All-contains (λ s. pos 1 ≤ℤ s) xs x all has

least_without : (session : ℤ) (xs : List ℤ) → All (λ s. pos 1 ≤ℤ s) xs → All (λ s. pos 1 ≤ℤ s) (without_session session xs)
least_without session xs all = all_from_contains (λ s. pos 1 ≤ℤ s) (without_session session xs) (λ x has. All-contains (λ s. pos 1 ≤ℤ s) xs x all (Contains-without int_order (λ s. s) session xs x has))

-- ---- a session begins

begun_shape : (t new : Tree) (session : ℤ) → Moved t new (with_session session t.sessions) t.rows → IsSession session → TreeShape t → TreeShape new
begun_shape t new session m range shape = record {
  zxid = record { least = subst (λ (z : ℤ). pos 0 ≤ℤ z) (sym m.zxid) (one_more t.zxid shape.zxid.least); most = m.most };
  limits = subst Limits (sym m.rows) shape.limits;
  rise = subst (Rises bytes_cmp path_of_row) (sym m.rows) shape.rise;
  not_root = subst (All IsNotRoot) (sym m.rows) shape.not_root;
  free = subst (All IsUnreserved) (sym m.rows) shape.free;
  parents = subst HaveParents (sym m.rows) shape.parents;
  stamped = subst (λ (z : ℤ). All (IsStamped z) new.rows) (sym m.zxid) (subst (All (IsStamped (t.zxid +ℤ pos 1))) (sym m.rows) (All-weaker (IsStamped t.zxid) (IsStamped (t.zxid +ℤ pos 1)) (stamped_later t.zxid) t.rows shape.stamped));
  last = subst (All Lasts) (sym m.rows) shape.last;
  stay = subst ParentsStay (sym m.rows) shape.stay;
  live = subst (Rises int_cmp (λ s. s)) (sym m.sessions) (Rises-put int_order (λ s. s) session t.sessions shape.live);
  least = subst (All (λ s. pos 1 ≤ℤ s)) (sym m.sessions) (least_with session t.sessions range.least shape.least);
  owned = subst (λ (ss : List ℤ). All (IsOwned ss) new.rows) (sym m.sessions) (subst (All (IsOwned (with_session session t.sessions))) (sym m.rows)
      (All-weaker (IsOwned t.sessions) (IsOwned (with_session session t.sessions)) (λ r old. owner_stays_live r.owner session t.sessions old) t.rows shape.owned));
}

pub begin_leaves : (t new : Tree) (session : ℤ) → begin_session t session ≡ Ok new → TreeShape t → (IsSession session → TreeShape new) × IsUnchanged t new
begin_leaves t new session is shape =
    let m = begun t new session is in (
      λ range. begun_shape t new session m range shape,
      unchanged_by t new (ap (filter (λ (r : Row). is_migrated r.path)) m.rows) (ap (λ rows. option_map still (row_at migration_path rows)) m.rows) (ap (λ rows. option_map still (row_at epoch_path rows)) m.rows) (ap (λ rows. shown_by (row_at control_path rows)) m.rows),
    )

-- ---- znodes that last stay where a session ends

-- the test of what lasts, of a path and whether its body is a KRaft controller's
abbrev lasts_at : List ℕ → Bool → Bool
lasts_at q held = is_migrated q || is_among base_paths q || bytes_eq q epoch_path || bytes_eq q migration_path || (bytes_eq q control_path && held)

migration_lasts : (held : Bool) → lasts_at migration_path held ≡ true
unfolding is_migrated roots base_paths
migration_lasts held = refl

epoch_lasts : (held : Bool) → lasts_at epoch_path held ≡ true
unfolding is_migrated roots base_paths
epoch_lasts held = refl

control_lasts : (held : Bool) → lasts_at control_path held ≡ held
unfolding is_migrated roots base_paths
control_lasts held = refl

migrated_lasts : (q : List ℕ) (held : Bool) → is_migrated q ≡ true → lasts_at q held ≡ true
migrated_lasts q held is = ap (λ b. b || is_among base_paths q || bytes_eq q epoch_path || bytes_eq q migration_path || (bytes_eq q control_path && held)) is

ownerless : (session : ℤ) (o : Option ℤ) → is_some o ≡ false → is_owner session o ≡ false
ownerless session None is = refl
ownerless session (Some s) is = absurd (cc)

no_owner : (r : Row) (b : Bool) → is_some r.owner ≡ b → Lasts r → is_lasting r ≡ true → b ≡ false
no_owner r true is lasts stays = absurd (let ends = lasts is in cc)
no_owner r false is lasts stays = refl

-- a znode that lasts isn't the session's
not_owned : (session : ℤ) (r : Row) → Lasts r → is_lasting r ≡ true → is_owned session r ≡ false
not_owned session r lasts stays = ownerless session r.owner (no_owner r (is_some r.owner) refl lasts stays)

-- ---- what is found when a session has ended

loss_by : (b : Bool) (zxid : ℤ) (r : Row) → still (if b then record r { pzxid = zxid } else r) ≡ still r
loss_by true zxid r = refl
loss_by false zxid r = refl

loss_still : (zxid session : ℤ) (all : List Row) (r : Row) → still (after_loss zxid session all r) ≡ still r
loss_still zxid session all r = loss_by (loses_child session all r.path) zxid r

loss_path : (zxid session : ℤ) (all : List Row) (r : Row) → path_of_row (after_loss zxid session all r) ≡ path_of_row r
loss_path zxid session all r = ap (λ (x : Row). x.path) (loss_still zxid session all r)

abbrev stays_on : ℤ → Row → Bool
stays_on session r = not (is_owned session r)

-- a znode, unless it ends with the session
abbrev unless_owned : ℤ → Option Row → Option Row
unless_owned session None = None
unless_owned session (Some r) = cond (stays_on session r) (Some r) None

found_by : (session : ℤ) (p : List ℕ) (rows : List Row) (m : Option Row) → Rises bytes_cmp path_of_row rows → row_at p rows ≡ m → row_at p (filter (stays_on session) rows) ≡ unless_owned session m
found_by session p rows None rise is = find-filter_absent bytes_order path_of_row (stays_on session) p rows is
found_by session p rows (Some r) rise is = find-filter_found bytes_order path_of_row (stays_on session) p rows r rise is

found_after : (zxid session : ℤ) (p : List ℕ) (rows : List Row) → Rises bytes_cmp path_of_row rows → row_at p (without_owned zxid session rows) ≡ option_map (after_loss zxid session rows) (unless_owned session (row_at p rows))
found_after zxid session p rows rise =
    find-map bytes_cmp path_of_row path_of_row (after_loss zxid session rows) (loss_path zxid session rows) p (filter (stays_on session) rows)
    ∙ ap (option_map (after_loss zxid session rows)) (found_by session p rows (row_at p rows) rise refl)

still_one : (zxid session : ℤ) (all : List Row) (m : Option Row) → ((r : Row) → m ≡ Some r → is_owned session r ≡ false) → option_map still (option_map (after_loss zxid session all) (unless_owned session m)) ≡ option_map still m
still_one zxid session all None free = refl
still_one zxid session all (Some r) free =
    ap (λ b. option_map still (option_map (after_loss zxid session all) (cond (not b) (Some r) None))) (free r refl) ∙ ap (λ (x : Row). Some x) (loss_still zxid session all r)

-- a path at which a znode lasts, whatever its body is
lasting_alike : (zxid session : ℤ) (p : List ℕ) (rows : List Row) → Rises bytes_cmp path_of_row rows → All Lasts rows → ((held : Bool) → lasts_at p held ≡ true) → Alike rows (without_owned zxid session rows) p
lasting_alike zxid session p rows rise last stays =
    ap (option_map still) (found_after zxid session p rows rise) ∙ still_one zxid session rows (row_at p rows) (λ r is.
    not_owned session r (All-contains Lasts rows r last (found_is_contained bytes_order path_of_row p rows r is))
    (ap (λ q. lasts_at q (is_some (shown_epoch r.body))) (key_of_found bytes_order path_of_row p rows r is) ∙ stays (is_some (shown_epoch r.body))))

-- ---- what `/controller` shows

shows_nothing : (session : ℤ) (r : Row) (m : Option ℤ) → shown_epoch r.body ≡ m → r.path ≡ control_path → Lasts r → is_owned session r ≡ true → None ≡ m
shows_nothing session r None is path lasts owned = refl
shows_nothing session r (Some e) is path lasts owned =
    let stays : is_lasting r ≡ true = ap (λ q. lasts_at q (is_some (shown_epoch r.body))) path ∙ control_lasts (is_some (shown_epoch r.body)) ∙ ap is_some is in
    absurd (let free = not_owned session r lasts stays in cc)

shown_one : (zxid session : ℤ) (all : List Row) (r : Row) (b : Bool) → is_owned session r ≡ b → r.path ≡ control_path → Lasts r → shown_by (option_map (after_loss zxid session all) (cond (not b) (Some r) None)) ≡ shown_epoch r.body
shown_one zxid session all r true is path lasts = shows_nothing session r (shown_epoch r.body) refl path lasts is
shown_one zxid session all r false is path lasts = ap (λ (x : Row). shown_epoch x.body) (loss_still zxid session all r)

shown_after : (zxid session : ℤ) (rows : List Row) (m : Option Row) → row_at control_path rows ≡ m → All Lasts rows → shown_by (option_map (after_loss zxid session rows) (unless_owned session m)) ≡ shown_by m
shown_after zxid session rows None is last = refl
shown_after zxid session rows (Some r) is last =
    shown_one zxid session rows r (is_owned session r) refl (key_of_found bytes_order path_of_row control_path rows r is) (All-contains Lasts rows r last (found_is_contained bytes_order path_of_row control_path rows r is))

-- ---- the migrated area

abbrev in_area : Row → Bool
in_area r = is_migrated r.path

-- a znode of the area stays whole
abbrev Whole : ℤ → List Row → Row → Type 0
Whole session all r = is_migrated r.path ≡ true → (is_owned session r ≡ false) × (loses_child session all r.path ≡ false)

kept_row : (new r : Row) (m n : Bool) (xs ys : List Row) → n ≡ m → (m ≡ true → new ≡ r) → xs ≡ ys → cond n (new ∷ xs) xs ≡ cond m (r ∷ ys) ys
kept_row new r true n xs ys same whole rest = ap (λ b. cond b (new ∷ xs) xs) same ∙ ap (λ x. x ∷ xs) (whole refl) ∙ ap (λ l. r ∷ l) rest
kept_row new r false n xs ys same whole rest = ap (λ b. cond b (new ∷ xs) xs) same ∙ rest

lost_row : (r : Row) (m : Bool) (xs ys : List Row) → (m ≡ true → false ≡ true) → xs ≡ ys → xs ≡ cond m (r ∷ ys) ys
lost_row r true xs ys none rest = absurd (let no = none refl in cc)
lost_row r false xs ys none rest = rest

by_owner : (zxid session : ℤ) (all : List Row) (r : Row) (b : Bool) (left rest : List Row) → is_owned session r ≡ b → Whole session all r → filter in_area (map (after_loss zxid session all) left) ≡ filter in_area rest
    → filter in_area (map (after_loss zxid session all) (cond (not b) (r ∷ left) left)) ≡ filter in_area (r ∷ rest)
by_owner zxid session all r true left rest is whole same = lost_row r (is_migrated r.path) (filter in_area (map (after_loss zxid session all) left)) (filter in_area rest) (λ inside. sym (whole inside).0 ∙ is) same
by_owner zxid session all r false left rest is whole same =
    kept_row (after_loss zxid session all r) r (is_migrated r.path) (is_migrated (after_loss zxid session all r).path) (filter in_area (map (after_loss zxid session all) left)) (filter in_area rest)
    (ap is_migrated (loss_path zxid session all r)) (λ inside. ap (λ c. if c then record r { pzxid = zxid } else r) (whole inside).1) same

area_rows : (zxid session : ℤ) (all rows : List Row) → All (Whole session all) rows → filter in_area (map (after_loss zxid session all) (filter (stays_on session) rows)) ≡ filter in_area rows
area_rows zxid session all [] whole = refl
area_rows zxid session all (r ∷ rows) whole =
    by_owner zxid session all r (is_owned session r) (filter (stays_on session) rows) rows refl (All-head (Whole session all) r rows whole) (area_rows zxid session all rows (All-tail (Whole session all) r rows whole))

-- a child of a znode of the area isn't the session's
no_child : (session : ℤ) (p : List ℕ) (c : Row) (b : Bool) → is_migrated p ≡ true → Lasts c → bytes_eq (parent_of c.path) p ≡ b → (is_owned session c && b) ≡ false
no_child session p c true inside lasts is =
    let within = child_migrated c.path (ap is_migrated ((bytes_eq-Decides (parent_of c.path) p).0 is) ∙ inside) in
    ap (λ b. b && true) (not_owned session c lasts (migrated_lasts c.path (is_some (shown_epoch c.body)) within))
no_child session p c false inside lasts is = and_false (is_owned session c)
  where
    and_false : (b : Bool) → (b && false) ≡ false
    and_false true = refl
    and_false false = refl

all_whole : (session : ℤ) (rows : List Row) → All Lasts rows → All (Whole session rows) rows
all_whole session rows last = All-weaker Lasts (Whole session rows) (λ r lasts inside. (
  not_owned session r lasts (migrated_lasts r.path (is_some (shown_epoch r.body)) inside),
  list_any_none (λ (c : Row). is_owned session c && bytes_eq (parent_of c.path) r.path) rows
      (All-weaker Lasts (λ (c : Row). (is_owned session c && bytes_eq (parent_of c.path) r.path) ≡ false) (λ c child. no_child session r.path c (bytes_eq (parent_of c.path) r.path) inside child refl) rows last),
)) rows last

-- ---- the shape

was_there : (zxid session : ℤ) (all : List Row) (m : Option Row) → is_some (option_map (after_loss zxid session all) (unless_owned session m)) ≡ true → is_some m ≡ true
was_there zxid session all None there = absurd (cc)
was_there zxid session all (Some r) there = refl

there_after : (zxid session : ℤ) (all : List Row) (m : Option Row) → is_ephemeral m ≡ false → is_some m ≡ true → is_some (option_map (after_loss zxid session all) (unless_owned session m)) ≡ true
there_after zxid session all None free there = absurd (cc)
there_after zxid session all (Some r) free there = ap (λ b. is_some (option_map (after_loss zxid session all) (cond (not b) (Some r) None))) (ownerless session r.owner free)

free_after : (zxid session : ℤ) (all : List Row) (m : Option Row) → is_ephemeral m ≡ false → is_ephemeral (option_map (after_loss zxid session all) (unless_owned session m)) ≡ false
free_after zxid session all None free = refl
free_after zxid session all (Some r) free =
    ap (λ b. is_ephemeral (option_map (after_loss zxid session all) (cond (not b) (Some r) None))) (ownerless session r.owner free) ∙ ap (λ (x : Row). is_some x.owner) (loss_still zxid session all r) ∙ free

parent_by : (root there now : Bool) → (root || there) ≡ true → (root ≡ false → there ≡ true → now ≡ true) → (root || now) ≡ true
parent_by true there now is kept = refl
parent_by false there now is kept = kept refl is

loss_stamped : (b : Bool) (zxid : ℤ) (r : Row) → IsStamped zxid r → IsStamped (zxid +ℤ pos 1) (if b then record r { pzxid = zxid +ℤ pos 1 } else r)
loss_stamped true zxid r old = let later = stamped_later zxid r old in
    record {
      least = old.least;
      modified_since = old.modified_since;
      children_since = later.created;
      created = later.created;
      modified = later.modified;
      children = omega (arith, ints);
      version = later.version;
    }
loss_stamped false zxid r old = stamped_later zxid r old

loss_lasts : (b : Bool) (zxid : ℤ) (r : Row) → Lasts r → Lasts (if b then record r { pzxid = zxid } else r)
loss_lasts true zxid r lasts = lasts
loss_lasts false zxid r lasts = lasts

there_before : (zxid session : ℤ) (p : List ℕ) (rows : List Row) → Rises bytes_cmp path_of_row rows → Is p (without_owned zxid session rows) → Is p rows
there_before zxid session p rows rise there = was_there zxid session rows (row_at p rows) (sym (ap is_some (found_after zxid session p rows rise)) ∙ there)

ended_parents : (zxid session : ℤ) (rows : List Row) → Rises bytes_cmp path_of_row rows → HaveParents rows → ParentsStay rows → HaveParents (without_owned zxid session rows)
ended_parents zxid session rows rise have stay p there =
    let was = there_before zxid session p rows rise there in
    let q = parent_of p in
    parent_by (is_root q) (is_some (row_at q rows)) (is_some (row_at q (without_owned zxid session rows))) (have p was)
    (λ up parent. ap is_some (found_after zxid session q rows rise) ∙ there_after zxid session rows (row_at q rows) (stay p was) parent)

ended_stay : (zxid session : ℤ) (rows : List Row) → Rises bytes_cmp path_of_row rows → ParentsStay rows → ParentsStay (without_owned zxid session rows)
ended_stay zxid session rows rise stay p there =
    ap is_ephemeral (found_after zxid session (parent_of p) rows rise) ∙ free_after zxid session rows (row_at (parent_of p) rows) (stay p (there_before zxid session p rows rise there))

loss_not_root : (b : Bool) (zxid : ℤ) (r : Row) → IsNotRoot r → IsNotRoot (if b then record r { pzxid = zxid } else r)
loss_not_root true zxid r old = old
loss_not_root false zxid r old = old

loss_free : (b : Bool) (zxid : ℤ) (r : Row) → IsUnreserved r → IsUnreserved (if b then record r { pzxid = zxid } else r)
loss_free true zxid r old = old
loss_free false zxid r old = old

loss_small : (b : Bool) (zxid : ℤ) (r : Row) → IsSmall r → IsSmall (if b then record r { pzxid = zxid } else r)
loss_small true zxid r old = record { body = old.body; version = old.version }
loss_small false zxid r old = old

loss_owned : (b : Bool) (zxid : ℤ) (sessions : List ℤ) (r : Row) → IsOwned sessions r → IsOwned sessions (if b then record r { pzxid = zxid } else r)
loss_owned true zxid sessions r old = old
loss_owned false zxid sessions r old = old

-- a fact that a change of the children leaves
loss_all : (P : Row → Type 0) (zxid session : ℤ) (rows : List Row) → ((r : Row) → P r → P (after_loss zxid session rows r)) → All P rows → All P (without_owned zxid session rows)
loss_all P zxid session rows kept all =
    let loss = after_loss zxid session rows in
    All-map P loss (filter (stays_on session) rows) (All-filter (stays_on session) (λ r. P (loss r)) rows (All-weaker P (λ r. P (loss r)) kept rows all))

not_true : (b : Bool) → not b ≡ true → b ≡ false
not_true true is = absurd (cc)
not_true false is = refl

-- the owners that stay are live
ended_owned : (zxid session : ℤ) (sessions : List ℤ) (rows : List Row) → All (IsOwned sessions) rows → All (IsOwned (without_session session sessions)) (without_owned zxid session rows)
ended_owned zxid session sessions rows owned =
    let left = filter (stays_on session) rows in
    let live : All (IsOwned sessions) left = All-filter (stays_on session) (IsOwned sessions) rows owned in
    let spared : All (λ r. stays_on session r ≡ true) left = filter_passes (stays_on session) rows in
    All-map (IsOwned (without_session session sessions)) (after_loss zxid session rows) left
    (λ k d within. let r = get_or left k d in loss_owned (loses_child session rows r.path) zxid (without_session session sessions) r (owner_is_other r.owner session sessions (not_true (is_owned session r) (spared k d within)) (live k d within)))

ended_shape : (t new : Tree) (session : ℤ) → Moved t new (without_session session t.sessions) (without_owned (t.zxid +ℤ pos 1) session t.rows) → TreeShape t → TreeShape new
ended_shape t new session m shape =
    let zxid = t.zxid +ℤ pos 1 in
    let loss = after_loss zxid session t.rows in
    let left = filter (stays_on session) t.rows in
    record {
      zxid = record { least = subst (λ (z : ℤ). pos 0 ≤ℤ z) (sym m.zxid) (one_more t.zxid shape.zxid.least); most = m.most };
      limits = subst Limits (sym m.rows) (record {
        each = loss_all IsSmall zxid session t.rows (λ r old. loss_small (loses_child session t.rows r.path) zxid r old) shape.limits.each;
        migrated = left_counts true loss (stays_on session) t.rows (loss_path zxid session t.rows) shape.limits.migrated;
        others = left_counts false loss (stays_on session) t.rows (loss_path zxid session t.rows) shape.limits.others;
      });
      not_root = subst (All IsNotRoot) (sym m.rows) (loss_all IsNotRoot zxid session t.rows (λ r old. loss_not_root (loses_child session t.rows r.path) zxid r old) shape.not_root);
      free = subst (All IsUnreserved) (sym m.rows) (loss_all IsUnreserved zxid session t.rows (λ r old. loss_free (loses_child session t.rows r.path) zxid r old) shape.free);
      live = subst (Rises int_cmp (λ s. s)) (sym m.sessions) (Rises-without int_order (λ s. s) session t.sessions shape.live);
      least = subst (All (λ s. pos 1 ≤ℤ s)) (sym m.sessions) (least_without session t.sessions shape.least);
      owned = subst (λ (ss : List ℤ). All (IsOwned ss) new.rows) (sym m.sessions) (subst (All (IsOwned (without_session session t.sessions))) (sym m.rows) (ended_owned zxid session t.sessions t.rows shape.owned));
      rise = subst (Rises bytes_cmp path_of_row) (sym m.rows) (Rises-map bytes_cmp path_of_row path_of_row loss (loss_path zxid session t.rows) left (Rises-filter bytes_order path_of_row (stays_on session) t.rows shape.rise));
      parents = subst HaveParents (sym m.rows) (ended_parents zxid session t.rows shape.rise shape.parents shape.stay);
      stamped = subst (λ (z : ℤ). All (IsStamped z) new.rows) (sym m.zxid) (subst (All (IsStamped zxid)) (sym m.rows)
          (All-map (IsStamped zxid) loss left (All-filter (stays_on session) (λ r. IsStamped zxid (loss r)) t.rows
          (All-weaker (IsStamped t.zxid) (λ r. IsStamped zxid (loss r)) (λ r old. loss_stamped (loses_child session t.rows r.path) t.zxid r old) t.rows shape.stamped))));
      last = subst (All Lasts) (sym m.rows) (loss_all Lasts zxid session t.rows (λ r old. loss_lasts (loses_child session t.rows r.path) zxid r old) shape.last);
      stay = subst ParentsStay (sym m.rows) (ended_stay zxid session t.rows shape.rise shape.stay);
    }

-- `/migration` stays as it is
pub migration_left : (t new : Tree) (session : ℤ) → end_session t session ≡ Ok new → TreeShape t → Alike t.rows new.rows migration_path
migration_left t new session is shape =
    ap (λ rows. option_map still (row_at migration_path rows)) (ended t new session is).rows ∙ lasting_alike (t.zxid +ℤ pos 1) session migration_path t.rows shape.rise shape.last migration_lasts

pub end_leaves : (t new : Tree) (session : ℤ) → end_session t session ≡ Ok new → TreeShape t → TreeShape new × IsUnchanged t new
end_leaves t new session is shape =
    let m = ended t new session is in
    let zxid = t.zxid +ℤ pos 1 in (
      ended_shape t new session m shape,
      unchanged_by t new (ap (filter in_area) m.rows ∙ area_rows zxid session t.rows t.rows (all_whole session t.rows shape.last))
          (migration_left t new session is shape)
          (ap (λ rows. option_map still (row_at epoch_path rows)) m.rows ∙ lasting_alike zxid session epoch_path t.rows shape.rise shape.last epoch_lasts)
          (ap (λ rows. shown_by (row_at control_path rows)) m.rows ∙ ap shown_by (found_after zxid session control_path t.rows shape.rise) ∙ shown_after zxid session t.rows (row_at control_path t.rows) refl shape.last),
    )
