-- The rules of a tree that is loaded: of its last zxid and sessions, and of each znode after those before it.
use Rattle.std.specs.Prelude.{ℕ, ◌+◌, Bool, true, false, not, ◌&&◌, ◌||◌, nat_lt, nat_le, ℤ, pos, ◌+ℤ◌, int_le, List, [], ◌∷◌, ◌++◌, length, Option, Some, None, is_some, is_none, bytes_eq, if◌then◌else◌}
use Rattle.std.specs.Ordering.{match_ordering}
use Rattle.std.specs.List.{list_all}
use Rattle.kz_types.specs.declared.limits.Limit.TheVariants as limits
use Rattle.kz_types.specs.Limits.{number_of_limit}
use Rattle.kz_types.specs.declared.limits.TheConstants.{MAX_BODY_BYTES, MAX_LONG, MAX_VERSION, MAX_ZNODES}
use Rattle.kz_types.specs.declared.kind.Kind.{Kind}
use Rattle.kz_types.specs.declared.kind.Kind.TheVariants.{Entity, Scaffold, Stray, Base, Control, Reserved, Outside}
use Rattle.kz_types.specs.declared.tree.Row.{Row}
use Rattle.kz_types.specs.Paths.{kind_of, is_migrated, is_among, base_paths}
use Rattle.kz_types.specs.Order.{bytes_cmp}
use Rattle.kz_spec_data.specs.Control.{control_path, epoch_path, migration_path, shown_epoch}
use Rattle.kz_spec_data.specs.Tree.{parent_of, row_at, has_parent, is_ephemeral, may_own, count_beside, limit_beside}

-- Why a load is refused: a rule is broken, or a limit would be passed.
pub data LoadRefusal : Type 0 where
  broken : LoadRefusal
  limit : ℕ → LoadRefusal

-- ---- the header

-- sessions rise, from at least this one on
abbrev pub rise_from : ℤ → List ℤ → Bool
rise_from least [] = true
rise_from least (s ∷ ss) = int_le least s && rise_from (s +ℤ pos 1) ss

-- The last zxid is 0 to the greatest, the sessions are at least 1 and rise.
abbrev pub is_header : ℤ → List ℤ → Bool
is_header zxid sessions = int_le (pos 0) zxid && int_le zxid MAX_LONG && rise_from (pos 1) sessions

-- ---- a znode

abbrev pub is_before : List ℕ → Row → Bool
is_before path r = match_ordering (bytes_cmp r.path path) true false false

-- its zxids are 1 to the last one, and it was made first
abbrev pub are_zxids : ℤ → Row → Bool
are_zxids zxid r = int_le (pos 1) r.czxid && int_le r.czxid r.mzxid && int_le r.czxid r.pzxid && int_le r.mzxid zxid && int_le r.pzxid zxid

-- a znode of the migrated area, a base path, or one by which controllers find each other ends with no session
abbrev pub is_lasting : Row → Bool
is_lasting r = is_migrated r.path || is_among base_paths r.path || bytes_eq r.path epoch_path || bytes_eq r.path migration_path
    || (bytes_eq r.path control_path && is_some (shown_epoch r.body))

abbrev pub is_reserved : Kind → Bool
is_reserved Entity = false
is_reserved Scaffold = false
is_reserved Stray = false
is_reserved Base = false
is_reserved Control = false
is_reserved Reserved = true
is_reserved Outside = false

-- A znode keeps the rules, after those before it: paths rise; its parent is there and ends with no session; its version and
-- zxids are in range; its owner is a session, and it may have one; and its path isn't below a control znode.
unfoldable pub is_loadable : ℤ → List ℤ → List Row → Row → Bool
is_loadable zxid sessions before r = list_all (is_before r.path) before
    && has_parent r.path before && not (is_ephemeral (row_at (parent_of r.path) before))
    && int_le (pos 0) r.version && int_le r.version MAX_VERSION && are_zxids zxid r
    && may_own r.owner sessions && (is_none r.owner || not (is_lasting r))
    && not (is_reserved (kind_of r.path))

-- The rule or limit that a znode breaks, after those before it.
abbrev pub row_refusal : ℤ → List ℤ → List Row → Row → Option LoadRefusal
row_refusal zxid sessions before r =
    if not (is_loadable zxid sessions before r) then Some broken
    else (if nat_lt MAX_BODY_BYTES (length r.body) then Some (limit (number_of_limit limits.BodyBytes))
    else (if nat_le MAX_ZNODES (count_beside r.path before) then Some (limit (limit_beside r.path))
    else None))

-- ---- a whole load

abbrev pub are_loadable : ℤ → List ℤ → List Row → List Row → Bool
are_loadable zxid sessions before [] = true
are_loadable zxid sessions before (r ∷ rs) = is_none (row_refusal zxid sessions before r) && are_loadable zxid sessions (before ++ r ∷ []) rs

-- A header and znodes keep the rules and limits.
abbrev pub is_load : ℤ → List ℤ → List Row → Bool
is_load zxid sessions rows = is_header zxid sessions && are_loadable zxid sessions [] rows
