-- The tree after a multi that isn't refused, after a write, and after a claim.
use Rattle.std.proofs.Common.{◌≡◌, ◌≢◌, ℕ, zero, suc, ◌≤◌, nat_le, ℤ, pos, negsuc, ◌+ℤ◌, ◌≤ℤ◌, int_le, Bool, true, false, if◌then◌else◌, List, [], ◌∷◌, ◌++◌, length, ◌&&◌, Option, Some, None, option_map, is_some, All, refl, sym, ap, ◌∙◌, subst, map, filter, take, drop, arith}
use Rattle.std.specs.Prelude.{Result, Ok, Err, option_and_then}
use Rattle.std.specs.Str.{bytes_eq}
use Rattle.std.specs.Ordering.{int_cmp}
use Rattle.std.proofs.lemmas.Bool.Decides.{nat_tests}
use Rattle.std.proofs.lemmas.Int.{ints}
use Rattle.std.proofs.lemmas.List.Elements.{All-nil, All-cons, All-append, All-head, All-tail, All-weaker, All-filter}
use Rattle.std.proofs.lemmas.Slice.Eq.{bytes_eq-Decides}
use Rattle.kz_types.specs.declared.limits.TheConstants.{MAX_CHUNK, MAX_LONG}
use Rattle.kz_types.specs.declared.tree.Row.{Row}
use Rattle.kz_types.specs.declared.tree.Op.{Op}
use Rattle.kz_types.specs.declared.tree.Op.TheVariants.{Set, Check}
use Rattle.kz_types.specs.declared.tree.Rendered.{Rendered}
use Rattle.kz_types.specs.declared.machine.Recorded.{Recorded}
use Rattle.kz_types.specs.declared.fault.TreeFault.{TreeFault}
use Rattle.kz_types.specs.declared.fault.TreeFault.TheVariants as fault
use Rattle.kz_types.specs.Paths.{is_migrated, roots}
use Rattle.kz_types.specs.Order.{bytes_cmp}
use Rattle.kz_types.specs.Ordered.{Rises}
use Rattle.kz_types.specs.Difference.{Edit, drop_key, make, alter, all_edited, difference}
use Rattle.kz_types.proofs.Order.{bytes_order}
use Rattle.kz_types.proofs.Difference.{difference_leads, prefix_leaves_rest}
use Rattle.kz_spec_data.specs.Control.{control_path, epoch_path, migration_path, shown_epoch, recorded_of, written_recorded}
use Rattle.kz_spec_data.specs.Tree.{path_of_op, Tree, path_of_row, row_at, op_refusal, set_refusal, set_row, with_zxid, after_ops, multi, migrated_rows, area, has_offset, is_later, first_path, unclosed_below, unclosed_path, path_of_rendered}
use Rattle.kz_spec_data.specs.Image.{Image}
use Rattle.kz_spec_data.specs.Rendering.{render}
use Rattle.kz_spec_data.specs.Difference.{same_body, op_of, chunk_length, diff, chunk, after_chunk}
use Rattle.kz_spec_machine.specs.Driver.{is_last_write, record_ops, write_ops}
use Rattle.kz_spec_machine.specs.Sound.{IsStamped, HaveParents, Lasts, ParentsStay, IsNotRoot, IsUnreserved, IsOwned, IsSmall, Limits, TreeShape, claim_version}
use Rattle.kz_laws_machine.specs.TreeLaws.{KeepsShape, Completed}
use Rattle.kz_laws_machine.proofs.Rows.{still, set_found}
use Rattle.kz_laws_machine.proofs.Area.{area_of, area_rises, area_left}
use Rattle.kz_laws_machine.proofs.Runs.{ran, Passes, passed, ran_is, ran_append, passes_left, passes_right, ran_rises, Avoids, avoids_append, ran_keeps, Inside, Outside, area_ran, area_ran_left, inside_take, avoids_inside}
use Rattle.kz_laws_machine.proofs.Each.{Keeps, all_ran, none_later}
use Rattle.kz_laws_machine.proofs.Parents.{ran_parents}
use Rattle.kz_laws_machine.proofs.Lasting.{lasts_keep, not_root_keep, free_keep, owned_keep, stays_everywhere, ran_stays}
use Rattle.kz_laws_machine.proofs.Free.{migrated_free}
use Rattle.kz_laws_machine.proofs.KeptLimits.{small_keep, ran_counts}
use Rattle.kz_laws_machine.proofs.Below.{not_empty}
use Rattle.kz_laws_machine.proofs.Render.{decides_body, render_rises, render_inside, area_inside, difference_inside}

-- ---- any multi

pub record Ran (t new : Tree) (ops : List Op) : Type 0 where
  pub zxid : new.zxid ≡ t.zxid +ℤ pos 1
  pub most : new.zxid ≤ℤ MAX_LONG
  pub sessions : new.sessions ≡ t.sessions
  pub rows : new.rows ≡ ran (t.zxid +ℤ pos 1) ops t.rows
  pub passes : Passes t.sessions (t.zxid +ℤ pos 1) ops t.rows

abbrev pub counted_up : Tree → List Row → Bool → Result Tree TreeFault
counted_up t rows full = if full then Err (fault.Limit 0 17) else Ok (record { zxid = t.zxid +ℤ pos 1; sessions = t.sessions; rows = rows })

pub room_for_one : (a b : ℤ) → int_le MAX_LONG a ≡ false → b ≡ a +ℤ pos 1 → b ≤ℤ MAX_LONG
room_for_one a b room is = subst (λ (z : ℤ). z ≤ℤ MAX_LONG) (sym is) (below_most a room)
  where
    below_most : (z : ℤ) → int_le MAX_LONG z ≡ false → (z +ℤ pos 1) ≤ℤ MAX_LONG
    below_most z room = grind (arith, ints)

not_full : (t new : Tree) (rows : List Row) (full : Bool) → counted_up t rows full ≡ Ok new → full ≡ false
not_full t new rows true is = absurd (cc)
not_full t new rows false is = refl

counted_by : (t new : Tree) (rows : List Row) (full : Bool) → counted_up t rows full ≡ Ok new → (new.zxid ≡ t.zxid +ℤ pos 1) × (new.sessions ≡ t.sessions) × (new.rows ≡ rows)
counted_by t new rows true is = absurd (cc)
counted_by t new rows false is =
    let made : Tree = record { zxid = t.zxid +ℤ pos 1; sessions = t.sessions; rows = rows } in
    let same : made ≡ new = cc in
    (sym (ap (λ (x : Tree). x.zxid) same), sym (ap (λ (x : Tree). x.sessions) same), sym (ap (λ (x : Tree). x.rows) same))

made_by : (t new : Tree) (ops : List Op) (r : Result (List Row) TreeFault) → after_ops t.sessions (t.zxid +ℤ pos 1) 0 ops t.rows ≡ r → with_zxid t r ≡ Ok new → Ran t new ops
made_by t new ops (Err e) ran-is is = absurd (cc)
made_by t new ops (Ok rows) ran-is is =
    let both = counted_by t new rows (int_le MAX_LONG t.zxid) is in
    record {
      zxid = both.0;
      most = room_for_one t.zxid new.zxid (not_full t new rows (int_le MAX_LONG t.zxid) is) both.0;
      sessions = both.1;
      rows = both.2 ∙ ran_is t.sessions (t.zxid +ℤ pos 1) 0 ops t.rows rows ran-is;
      passes = passed t.sessions (t.zxid +ℤ pos 1) 0 ops t.rows rows ran-is;
    }

pub multi_ran : (t new : Tree) (ops : List Op) → multi t ops ≡ Ok new → Ran t new ops
unfolding multi
multi_ran t new ops is = made_by t new ops (after_ops t.sessions (t.zxid +ℤ pos 1) 0 ops t.rows) refl is

stamps_keep : (sessions : List ℤ) (zxid : ℤ) → pos 1 ≤ℤ zxid → Keeps (IsStamped zxid) sessions zxid
stamps_keep sessions zxid low = record {
  made = λ path body owner rows pass shaped. record {
    least = low;
    modified_since = omega (arith, ints);
    children_since = omega (arith, ints);
    created = omega (arith, ints);
    modified = omega (arith, ints);
    children = omega (arith, ints);
    version = omega (arith, ints);
  };
  set = λ path body version r pass shaped key old. record {
    least = old.least;
    modified_since = old.created;
    children_since = old.children_since;
    created = old.created;
    modified = omega (arith, ints);
    children = old.children;
    version = let least = old.version in omega (arith, ints);
  };
  touched = λ r old. record {
    least = old.least;
    modified_since = old.modified_since;
    children_since = old.created;
    created = old.created;
    modified = old.modified;
    children = omega (arith, ints);
    version = old.version;
  };
}

pub stamped_later : (zxid : ℤ) (r : Row) → IsStamped zxid r → IsStamped (zxid +ℤ pos 1) r
stamped_later zxid r old = record {
  least = old.least;
  modified_since = old.modified_since;
  children_since = old.children_since;
  created = let a = old.created in omega (arith, ints);
  modified = let a = old.modified in omega (arith, ints);
  children = let a = old.children in omega (arith, ints);
  version = old.version;
}

first_or_later : (z : ℤ) → pos 0 ≤ℤ z → pos 1 ≤ℤ (z +ℤ pos 1)
first_or_later z low = omega (arith, ints)

pub one_more : (z : ℤ) → pos 0 ≤ℤ z → pos 0 ≤ℤ (z +ℤ pos 1)
one_more z low = omega (arith, ints)

-- a multi whose operations keep the shape of a tree
pub shape_kept : (t new : Tree) (ops : List Op) → Ran t new ops → All KeepsShape ops → TreeShape t → TreeShape new
shape_kept t new ops m shaped shape =
    let zxid = t.zxid +ℤ pos 1 in
    let not_root : All IsNotRoot (ran zxid ops t.rows) = all_ran IsNotRoot t.sessions zxid ops t.rows m.passes shaped (not_root_keep t.sessions zxid) shape.not_root in
    record {
      zxid = record { least = subst (λ (z : ℤ). pos 0 ≤ℤ z) (sym m.zxid) (one_more t.zxid shape.zxid.least); most = m.most };
      rise = subst (Rises bytes_cmp path_of_row) (sym m.rows) (ran_rises zxid ops t.rows shape.rise);
      not_root = subst (All IsNotRoot) (sym m.rows) not_root;
      free = subst (All IsUnreserved) (sym m.rows) (all_ran IsUnreserved t.sessions zxid ops t.rows m.passes shaped (free_keep t.sessions zxid) shape.free);
      parents = subst HaveParents (sym m.rows) (ran_parents t.sessions zxid ops t.rows m.passes shape.rise shape.parents);
      stamped = subst (λ (z : ℤ). All (IsStamped z) new.rows) (sym m.zxid) (subst (All (IsStamped zxid)) (sym m.rows)
          (all_ran (IsStamped zxid) t.sessions zxid ops t.rows m.passes shaped (stamps_keep t.sessions zxid (first_or_later t.zxid shape.zxid.least)) (All-weaker (IsStamped t.zxid) (IsStamped zxid) (stamped_later t.zxid) t.rows shape.stamped)));
      last = subst (All Lasts) (sym m.rows) (all_ran Lasts t.sessions zxid ops t.rows m.passes shaped (lasts_keep t.sessions zxid) shape.last);
      stay = subst ParentsStay (sym m.rows)
          (stays_everywhere (ran zxid ops t.rows) not_root (ran_stays t.sessions zxid ops t.rows m.passes shape.rise shape.parents (λ path there up. shape.stay path there)));
      live = subst (Rises int_cmp (λ s. s)) (sym m.sessions) shape.live;
      least = subst (All (λ s. pos 1 ≤ℤ s)) (sym m.sessions) shape.least;
      owned = subst (λ (ss : List ℤ). All (IsOwned ss) new.rows) (sym m.sessions)
          (subst (All (IsOwned t.sessions)) (sym m.rows) (all_ran (IsOwned t.sessions) t.sessions zxid ops t.rows m.passes shaped (owned_keep t.sessions zxid) shape.owned));
      limits = subst Limits (sym m.rows) (record {
        each = all_ran IsSmall t.sessions zxid ops t.rows m.passes shaped (small_keep t.sessions zxid) shape.limits.each;
        migrated = ran_counts true t.sessions zxid ops t.rows m.passes shape.rise shape.limits.migrated;
        others = ran_counts false t.sessions zxid ops t.rows m.passes shape.rise shape.limits.others;
      });
    }

-- ---- paths that differ

pub differ : (p q : List ℕ) → bytes_eq p q ≡ false → p ≢ q
differ p q no_test is = let yes = (bytes_eq-Decides p q).1 is in cc

epoch_outside : is_migrated epoch_path ≡ false
unfolding is_migrated roots
epoch_outside = refl

pub control_outside : is_migrated control_path ≡ false
unfolding is_migrated roots
control_outside = refl

pub migration_outside : is_migrated migration_path ≡ false
unfolding is_migrated roots
migration_outside = refl

-- ---- a write

pub version_still : (m : Option Row) → option_map (λ (r : Row). r.version) (option_map still m) ≡ option_map (λ (r : Row). r.version) m
version_still None = refl
version_still (Some r) = refl

-- operations at other paths leave the data version of `/controller_epoch`
pub version_kept : (t new : Tree) (ops : List Op) → Ran t new ops → Avoids epoch_path ops → claim_version new ≡ claim_version t
version_kept t new ops m avoids =
    sym (version_still (row_at epoch_path new.rows))
    ∙ ap (λ rows. option_map (λ (r : Row). r.version) (option_map still (row_at epoch_path rows))) m.rows
    ∙ ap (option_map (λ (r : Row). r.version)) (ran_keeps (t.zxid +ℤ pos 1) epoch_path ops t.rows avoids)
    ∙ version_still (row_at epoch_path t.rows)

abbrev pub edits_to : Tree → List Rendered → List (Edit Rendered (List ℕ))
edits_to t want = difference bytes_cmp path_of_rendered same_body (area t) want

pub edits_inside : (t : Tree) (i : Image) → Inside (edits_to t (render i))
edits_inside t i = difference_inside (area t) (render i) (area_inside t.rows) (render_inside i)

map_take : (n : ℕ) (es : List (Edit Rendered (List ℕ))) → take n (map op_of es) ≡ map op_of (take n es)
map_take zero es = refl
map_take (suc n) [] = refl
map_take (suc n) (e ∷ es) = ap (λ os. op_of e ∷ os) (map_take n es)

-- how many edits a write applies
abbrev pub chunk_size : Tree → Image → ℕ
chunk_size t i = chunk_length MAX_CHUNK (diff (area t) (render i))

-- the operations of a write are those of edits
pub chunk_is : (t : Tree) (i : Image) → chunk (diff (area t) (render i)) ≡ map op_of (take (chunk_size t i) (edits_to t (render i)))
unfolding diff
chunk_is t i = map_take (chunk_size t i) (edits_to t (render i))

pub chunk_avoids : (t : Tree) (i : Image) (p : List ℕ) → is_migrated p ≡ false → Avoids p (chunk (diff (area t) (render i)))
chunk_avoids t i p outside = subst (Avoids p) (sym (chunk_is t i)) (avoids_inside p (take (chunk_size t i) (edits_to t (render i))) outside (inside_take (chunk_size t i) (edits_to t (render i)) (edits_inside t i)))

record_avoids : (b : Bool) (target : Recorded) (p : List ℕ) → p ≢ migration_path → Avoids p (record_ops b target)
record_avoids true target p other = (other, tt)
record_avoids false target p other = tt

-- what stands after the first operation of a write, which checks the claim
abbrev pub rest_of_write : Tree → Image → Recorded → List Op
rest_of_write t i target = chunk (diff (area t) (render i)) ++ record_ops (is_last_write (diff (area t) (render i))) target

pub rest_of_write_avoids : (t : Tree) (i : Image) (target : Recorded) (p : List ℕ) → is_migrated p ≡ false → p ≢ migration_path → Avoids p (rest_of_write t i target)
rest_of_write_avoids t i target p outside other = avoids_append p (chunk (diff (area t) (render i))) (record_ops (is_last_write (diff (area t) (render i))) target) (chunk_avoids t i p outside) (record_avoids (is_last_write (diff (area t) (render i))) target p other)

-- a write leaves the claim's data version, which it checks
version_by : (t new : Tree) (i : Image) (claim : ℤ) (target : Recorded) → Ran t new (write_ops claim (diff (area t) (render i)) target) → claim_version new ≡ claim_version t
version_by t new i claim target m =
    sym (version_still (row_at epoch_path new.rows))
    ∙ ap (λ rows. option_map (λ (r : Row). r.version) (option_map still (row_at epoch_path rows))) m.rows
    ∙ ap (option_map (λ (r : Row). r.version)) (ran_keeps (t.zxid +ℤ pos 1) epoch_path (rest_of_write t i target) t.rows
    (rest_of_write_avoids t i target epoch_path epoch_outside (differ epoch_path migration_path refl)))
    ∙ version_still (row_at epoch_path t.rows)

pub write_keeps_version : (t new : Tree) (i : Image) (claim : ℤ) (target : Recorded) → multi t (write_ops claim (diff (area t) (render i)) target) ≡ Ok new → claim_version new ≡ claim_version t
write_keeps_version t new i claim target is = version_by t new i claim target (multi_ran t new (write_ops claim (diff (area t) (render i)) target) is)

-- an edit of the area keeps the shape
not_control : (p : List ℕ) (b : Bool) → bytes_eq p control_path ≡ b → is_migrated p ≡ true → b ≡ false
not_control p true is inside = absurd (let e = ap is_migrated ((bytes_eq-Decides p control_path).0 is) in cc (control_outside))
not_control p false is inside = refl

pub edits_keep : (es : List (Edit Rendered (List ℕ))) → Inside es → All KeepsShape (map op_of es)
edits_keep [] inside = All-nil KeepsShape
edits_keep (drop_key p ∷ es) inside = All-cons KeepsShape (op_of (drop_key p)) (map op_of es) tt (edits_keep es inside.1)
edits_keep (make r ∷ es) inside = All-cons KeepsShape (op_of (make r)) (map op_of es) (record { not_root = not_empty r.path inside.0; free = migrated_free r.path inside.0; last = λ owned. absurd (cc) }) (edits_keep es inside.1)
edits_keep (alter r ∷ es) inside =
    All-cons KeepsShape (op_of (alter r)) (map op_of es) (ap (λ b. b && is_some (shown_epoch r.body)) (not_control r.path (bytes_eq r.path control_path) refl inside.0)) (edits_keep es inside.1)

record_keeps : (b : Bool) (target : Recorded) → All KeepsShape (record_ops b target)
record_keeps true target = All-cons KeepsShape (Set migration_path (written_recorded target) (negsuc 0)) [] refl (All-nil KeepsShape)
record_keeps false target = All-nil KeepsShape

pub write_keeps_shape : (t : Tree) (i : Image) (claim : ℤ) (target : Recorded) → All KeepsShape (write_ops claim (diff (area t) (render i)) target)
write_keeps_shape t i claim target =
    All-cons KeepsShape (Check epoch_path claim) (rest_of_write t i target) tt (All-append KeepsShape (chunk (diff (area t) (render i))) (record_ops (is_last_write (diff (area t) (render i))) target)
    (subst (All KeepsShape) (sym (chunk_is t i)) (edits_keep (take (chunk_size t i) (edits_to t (render i))) (inside_take (chunk_size t i) (edits_to t (render i)) (edits_inside t i))))
    (record_keeps (is_last_write (diff (area t) (render i))) target))

-- ---- the last write

-- the znodes before `/migration` is set
abbrev before_set : Tree → Image → List Row
before_set t i = ran (t.zxid +ℤ pos 1) (map op_of (edits_to t (render i))) t.rows

found_by : (body : List ℕ) (rows : List Row) (m : Option Row) → row_at migration_path rows ≡ m → set_refusal body (negsuc 0) m ≡ None → (r : Row) × (row_at migration_path rows ≡ Some r)
found_by body rows None is pass = absurd (cc)
found_by body rows (Some r) is pass = (r, is)

pub closed_by : (t : Tree) (m : Row) (rows : List Row) → row_at migration_path t.rows ≡ Some m → has_offset (recorded_of m.body) ≡ true → filter (is_later m.mzxid) (migrated_rows t) ≡ [] → unclosed_path t ≡ None
closed_by t m rows is offset none =
    ap (λ x. unclosed_below x (migrated_rows t)) is
    ∙ ap (λ (b : Bool). if b then first_path (filter (is_later m.mzxid) (migrated_rows t)) else Some migration_path) offset
    ∙ ap first_path none

stamped_low : (zxid : ℤ) (r : Row) → IsStamped zxid r → (r.mzxid ≤ℤ zxid) × (r.pzxid ≤ℤ zxid)
stamped_low zxid r s = (s.modified, s.children)

set_last : (t new : Tree) (i : Image) (body : List ℕ) → TreeShape t → TreeShape new → new.zxid ≡ t.zxid +ℤ pos 1 → new.rows ≡ ran (t.zxid +ℤ pos 1) (Set migration_path body (negsuc 0) ∷ []) (before_set t i)
    → Passes t.sessions (t.zxid +ℤ pos 1) (map op_of (edits_to t (render i))) t.rows → op_refusal t.sessions (Set migration_path body (negsuc 0)) (before_set t i) ≡ None → Completed new i body
set_last t new i body shape after zxid rows passes pass =
    let old = found_by body (before_set t i) (row_at migration_path (before_set t i)) refl pass in
    let set : Row = set_row (t.zxid +ℤ pos 1) body old.0 in
    let found : row_at migration_path new.rows ≡ Some set = ap (row_at migration_path) rows ∙ set_found (t.zxid +ℤ pos 1) migration_path body (negsuc 0) (before_set t i) old.0 old.1 in
    let rise = ran_rises (t.zxid +ℤ pos 1) (map op_of (edits_to t (render i))) t.rows shape.rise in
    record {
      area = ap area_of rows ∙ area_left (t.zxid +ℤ pos 1) (Set migration_path body (negsuc 0)) (before_set t i) rise migration_outside
          ∙ area_ran t.sessions (t.zxid +ℤ pos 1) (edits_to t (render i)) t.rows shape.rise (edits_inside t i) passes
          ∙ difference_leads bytes_order path_of_rendered same_body decides_body (area t) (render i) (area_rises t.rows shape.rise) (render_rises i);
      recorded = ap (option_and_then (λ (r : Row). recorded_of r.body)) found;
      closed = λ offset. closed_by new set new.rows found offset
          (subst (λ z. filter (is_later z) (migrated_rows new) ≡ []) zxid (none_later (IsStamped new.zxid) new.zxid (stamped_low new.zxid) (migrated_rows new) (All-filter (λ (r : Row). is_migrated r.path) (IsStamped new.zxid) new.rows after.stamped)));
    }

-- a first part that is as long as the whole
take_whole : (n : ℕ) (ops : List Op) → length ops ≤ length (take n ops) → take n ops ≡ ops
take_whole zero [] few = refl
take_whole zero (o ∷ ops) few = absurd (omega (arith, few))
take_whole (suc n) [] few = refl
take_whole (suc n) (o ∷ ops) few = ap (λ os. o ∷ os) (take_whole n ops (omega (arith, few)))

at_most : (a b : ℕ) → nat_le a b ≡ true → a ≤ b
at_most a b is = grind (arith, nat_tests)

-- the operations of the last write are all edits and the record of the offset
last_is : (t : Tree) (i : Image) (target : Recorded) (b : Bool) → is_last_write (diff (area t) (render i)) ≡ b → b ≡ true
    → chunk (diff (area t) (render i)) ++ record_ops b target ≡ map op_of (edits_to t (render i)) ++ Set migration_path (written_recorded target) (negsuc 0) ∷ []
unfolding diff
last_is t i target true few is = ap (λ os. os ++ Set migration_path (written_recorded target) (negsuc 0) ∷ []) (take_whole (chunk_size t i) (map op_of (edits_to t (render i))) (at_most (length (map op_of (edits_to t (render i)))) (length (take (chunk_size t i) (map op_of (edits_to t (render i))))) few))
last_is t i target false few is = absurd (cc)

pub last_write : (t new : Tree) (i : Image) (claim : ℤ) (target : Recorded) → TreeShape t → is_last_write (diff (area t) (render i)) ≡ true → multi t (write_ops claim (diff (area t) (render i)) target) ≡ Ok new
    → Completed new i (written_recorded target)
last_write t new i claim target shape last is =
    let ops = write_ops claim (diff (area t) (render i)) target in
    let m = multi_ran t new ops is in
    let zxid = t.zxid +ℤ pos 1 in
    let body = written_recorded target in
    let edits = map op_of (edits_to t (render i)) in
    let rest : rest_of_write t i target ≡ edits ++ Set migration_path body (negsuc 0) ∷ [] = last_is t i target (is_last_write (diff (area t) (render i))) refl last in
    let passes : Passes t.sessions zxid (edits ++ Set migration_path body (negsuc 0) ∷ []) t.rows = subst (λ os. Passes t.sessions zxid os t.rows) rest m.passes.1 in
    set_last t new i body shape (shape_kept t new ops m (write_keeps_shape t i claim target) shape) m.zxid
    (m.rows ∙ ap (λ os. ran zxid os t.rows) rest ∙ ran_append zxid edits (Set migration_path body (negsuc 0) ∷ []) t.rows)
    (passes_left t.sessions zxid edits (Set migration_path body (negsuc 0) ∷ []) t.rows passes)
    (passes_right t.sessions zxid edits (Set migration_path body (negsuc 0) ∷ []) t.rows passes).0

-- ---- every write

record_outside : (b : Bool) (target : Recorded) → Outside (record_ops b target)
record_outside true target = (migration_outside, tt)
record_outside false target = tt

-- a write applies the first edits, as many as it may have
pub area_after_write : (t new : Tree) (i : Image) (claim : ℤ) (target : Recorded) → TreeShape t → multi t (write_ops claim (diff (area t) (render i)) target) ≡ Ok new
    → area new ≡ all_edited bytes_cmp path_of_rendered (take (chunk_size t i) (edits_to t (render i))) (area t)
area_after_write t new i claim target shape is =
    let m = multi_ran t new (write_ops claim (diff (area t) (render i)) target) is in
    let zxid = t.zxid +ℤ pos 1 in
    let chunk-ops = chunk (diff (area t) (render i)) in
    let last-ops = record_ops (is_last_write (diff (area t) (render i))) target in
    let edits = take (chunk_size t i) (edits_to t (render i)) in
    let passes : Passes t.sessions zxid (map op_of edits) t.rows = subst (λ os. Passes t.sessions zxid os t.rows) (chunk_is t i) (passes_left t.sessions zxid chunk-ops last-ops t.rows m.passes.1) in
    ap area_of (m.rows ∙ ran_append zxid chunk-ops last-ops t.rows)
    ∙ area_ran_left zxid last-ops (ran zxid chunk-ops t.rows) (ran_rises zxid chunk-ops t.rows shape.rise) (record_outside (is_last_write (diff (area t) (render i))) target)
    ∙ ap (λ os. area_of (ran zxid os t.rows)) (chunk_is t i)
    ∙ area_ran t.sessions zxid edits t.rows shape.rise (inside_take (chunk_size t i) (edits_to t (render i)) (edits_inside t i)) passes

map_drop : (n : ℕ) (es : List (Edit Rendered (List ℕ))) → map op_of (drop n es) ≡ drop n (map op_of es)
map_drop zero es = refl
map_drop (suc n) [] = refl
map_drop (suc n) (e ∷ es) = map_drop n es

-- and leaves the others to be written
pub remaining_after_write : (t new : Tree) (i : Image) (claim : ℤ) (target : Recorded) → TreeShape t → multi t (write_ops claim (diff (area t) (render i)) target) ≡ Ok new
    → diff (area new) (render i) ≡ after_chunk (diff (area t) (render i))
unfolding diff
remaining_after_write t new i claim target shape is =
    ap (λ have. map op_of (difference bytes_cmp path_of_rendered same_body have (render i))) (area_after_write t new i claim target shape is)
    ∙ ap (map op_of) (prefix_leaves_rest bytes_order path_of_rendered same_body decides_body (chunk_size t i) (area t) (render i) (area_rises t.rows shape.rise) (render_rises i))
    ∙ map_drop (chunk_size t i) (edits_to t (render i))

-- ---- outside of the area

outside_all : (os : List Op) → All (λ o. is_migrated (path_of_op o) ≡ false) os → Outside os
outside_all [] all = tt
outside_all (o ∷ os) all = (All-head (λ x. is_migrated (path_of_op x) ≡ false) o os all, outside_all os (All-tail (λ x. is_migrated (path_of_op x) ≡ false) o os all))

pub outside_left : (t new : Tree) (ops : List Op) → multi t ops ≡ Ok new → TreeShape t → All (λ o. is_migrated (path_of_op o) ≡ false) ops → area new ≡ area t
outside_left t new ops is shape outside =
    let m = multi_ran t new ops is in
    ap area_of m.rows ∙ area_ran_left (t.zxid +ℤ pos 1) ops t.rows shape.rise (outside_all ops outside)
