-- A tree of znodes, after ZooKeeper: what a multi makes of it, its migrated area, and what it records.
use Rattle.std.specs.Prelude.{ℕ, ◌+◌, Bool, true, false, not, ◌&&◌, ◌||◌, ◌==◌, nat_lt, nat_le, ℤ, pos, negsuc, ◌+ℤ◌, int_lt, int_le, List, [], ◌∷◌, length, map, take, Option, Some, None, is_some, option_map, option_and_then, Result, Ok, Err, if◌then◌else◌}
use Rattle.std.specs.Ordering.{int_eq, int_cmp, match_ordering}
use Rattle.std.specs.Str.{bytes_eq}
use Rattle.std.specs.List.{filter, filter_map, list_any, count_by}
use Rattle.kz_types.specs.declared.codes.TheConstants.{BAD_VERSION, NODE_EXISTS, NOT_EMPTY, NO_CHILDREN_FOR_EPHEMERALS, NO_NODE, SESSION_EXPIRED}
use Rattle.kz_types.specs.declared.limits.Limit.TheVariants as limits
use Rattle.kz_types.specs.Limits.{number_of_limit}
use Rattle.kz_types.specs.declared.limits.TheConstants.{MAX_BODY_BYTES, MAX_LONG, MAX_VERSION, MAX_ZNODES}
use Rattle.kz_types.specs.declared.tree.Row.{Row}
use Rattle.kz_types.specs.declared.tree.Op.{Op}
use Rattle.kz_types.specs.declared.tree.Op.TheVariants.{Create, Set, Delete, Check}
use Rattle.kz_types.specs.declared.tree.Rendered.{Rendered}
use Rattle.kz_types.specs.declared.machine.Recorded.{Recorded}
use Rattle.kz_types.specs.declared.fault.TreeFault.{TreeFault}
use Rattle.kz_types.specs.declared.fault.TreeFault.TheVariants as fault
use Rattle.kz_types.specs.declared.move_fault.MoveFault.{MoveFault}
use Rattle.kz_types.specs.declared.move_fault.MoveFault.TheVariants as move_fault
use Rattle.kz_types.specs.Numbers.{canonical}
use Rattle.kz_types.specs.Paths.{is_migrated}
use Rattle.kz_types.specs.Order.{bytes_cmp}
use Rattle.kz_types.specs.Ordered.{find, put, without, all_put}
use Rattle.kz_spec_data.specs.Control.{recorded_of, migration_path, broker_ids_path}

-- ---- the tree

-- The last zxid, the live sessions, and the znodes but the root. In every tree of a run the sessions and the paths rise.
pub record Tree : Type 0 where
  pub zxid : ℤ
  pub sessions : List ℤ
  pub rows : List Row

-- no znode but the root, and no session
abbrev pub empty_tree : Tree
empty_tree = record { zxid = pos 0; sessions = []; rows = [] }

abbrev pub path_of_row : Row → List ℕ
path_of_row r = r.path

-- the path of an operation
abbrev pub path_of_op : Op → List ℕ
path_of_op (Create path body owner) = path
path_of_op (Set path body version) = path
path_of_op (Delete path version) = path
path_of_op (Check path version) = path

-- the znode at a path
abbrev pub row_at : List ℕ → List Row → Option Row
row_at path rows = find bytes_cmp path_of_row path rows

-- the znodes with this one at its place
abbrev pub put_row : Row → List Row → List Row
put_row r rows = put bytes_cmp path_of_row r rows

-- the znodes without that of a path
abbrev pub without_row : List ℕ → List Row → List Row
without_row path rows = without bytes_cmp path_of_row path rows

-- The path of the parent: what stands before the last `/`. It is empty where the parent is the root.
abbrev pub parent_of : List ℕ → List ℕ
parent_of [] = []
parent_of (b ∷ bs) = if list_any (λ x. x == 47) bs then b ∷ parent_of bs else []

abbrev pub is_root : List ℕ → Bool
is_root [] = true
is_root (b ∷ bs) = false

abbrev pub has_parent : List ℕ → List Row → Bool
has_parent path rows = is_root (parent_of path) || is_some (row_at (parent_of path) rows)

abbrev pub has_children : List ℕ → List Row → Bool
has_children path rows = list_any (λ (r : Row). bytes_eq (parent_of r.path) path) rows

-- whether a znode is there and ends with a session
abbrev pub is_ephemeral : Option Row → Bool
is_ephemeral None = false
is_ephemeral (Some r) = is_some r.owner

abbrev pub is_live : ℤ → List ℤ → Bool
is_live session sessions = list_any (λ live. int_eq live session) sessions

-- whether the owner, if there is one, is a live session
abbrev pub may_own : Option ℤ → List ℤ → Bool
may_own None sessions = true
may_own (Some session) sessions = is_live session sessions

-- whether an operation's version is any, or that of the znode
abbrev pub fits_version : ℤ → Row → Bool
fits_version version r = int_eq version (negsuc 0) || int_eq version r.version

-- how many znodes there are on this side of the border of the migrated area
abbrev pub count_beside : List ℕ → List Row → ℕ
count_beside path rows = count_by (λ (r : Row). if is_migrated path then is_migrated r.path else not (is_migrated r.path)) rows

-- the number of the limit on znodes beside a path
abbrev pub limit_beside : List ℕ → ℕ
limit_beside path = number_of_limit (if is_migrated path then limits.MigratedZnodes else limits.OtherZnodes)

-- ---- one operation

-- Why an operation is refused: ZooKeeper's code, or the number of a limit.
pub data Refusal : Type 0 where
  code : ℤ → Refusal
  limit : ℕ → Refusal

-- the first refusal whose test holds
abbrev pub first_refusal : List (Bool × Refusal) → Option Refusal
first_refusal [] = None
first_refusal (c ∷ cs) = if c.0 then Some c.1 else first_refusal cs

-- ZooKeeper's codes, in the order in which it asks
abbrev pub create_refusal : List ℤ → List ℕ → List ℕ → Option ℤ → List Row → Option Refusal
create_refusal sessions path body owner rows = first_refusal (
    (not (may_own owner sessions), code SESSION_EXPIRED)
    ∷ (not (has_parent path rows), code NO_NODE)
    ∷ (is_some (row_at path rows), code NODE_EXISTS)
    ∷ (is_ephemeral (row_at (parent_of path) rows), code NO_CHILDREN_FOR_EPHEMERALS)
    ∷ (nat_lt MAX_BODY_BYTES (length body), limit (number_of_limit limits.BodyBytes))
    ∷ (nat_le MAX_ZNODES (count_beside path rows), limit (limit_beside path))
    ∷ [])

abbrev pub set_refusal : List ℕ → ℤ → Option Row → Option Refusal
set_refusal body version None = Some (code NO_NODE)
set_refusal body version (Some r) = first_refusal (
    (not (fits_version version r), code BAD_VERSION)
    ∷ (nat_lt MAX_BODY_BYTES (length body), limit (number_of_limit limits.BodyBytes))
    ∷ (int_le MAX_VERSION r.version, limit (number_of_limit limits.Version))
    ∷ [])

abbrev pub delete_refusal : List ℕ → ℤ → List Row → Option Row → Option Refusal
delete_refusal path version rows None = Some (code NO_NODE)
delete_refusal path version rows (Some r) = first_refusal (
    (not (fits_version version r), code BAD_VERSION)
    ∷ (has_children path rows, code NOT_EMPTY)
    ∷ [])

abbrev pub check_refusal : ℤ → Option Row → Option Refusal
check_refusal version None = Some (code NO_NODE)
check_refusal version (Some r) = first_refusal ((not (fits_version version r), code BAD_VERSION) ∷ [])

-- why an operation is refused on these znodes
abbrev pub op_refusal : List ℤ → Op → List Row → Option Refusal
op_refusal sessions (Create path body owner) rows = create_refusal sessions path body owner rows
op_refusal sessions (Set path body version) rows = set_refusal body version (row_at path rows)
op_refusal sessions (Delete path version) rows = delete_refusal path version rows (row_at path rows)
op_refusal sessions (Check path version) rows = check_refusal version (row_at path rows)

abbrev pub created_row : ℤ → List ℕ → List ℕ → Option ℤ → Row
created_row zxid path body owner = record { path = path; body = body; version = pos 0; owner = owner; czxid = zxid; mzxid = zxid; pzxid = zxid }

abbrev pub set_row : ℤ → List ℕ → Row → Row
set_row zxid body r = record r { body = body; version = r.version +ℤ pos 1; mzxid = zxid }

-- the znodes after the one at a path got or lost a child
abbrev pub with_child_change : ℤ → Option Row → List Row → List Row
with_child_change zxid None rows = rows
with_child_change zxid (Some r) rows = put_row (record r { pzxid = zxid }) rows

abbrev pub after_set : ℤ → List ℕ → Option Row → List Row → List Row
after_set zxid body None rows = rows
after_set zxid body (Some r) rows = put_row (set_row zxid body r) rows

-- what an operation that isn't refused makes of these znodes
abbrev pub after_op : ℤ → Op → List Row → List Row
after_op zxid (Create path body owner) rows = put_row (created_row zxid path body owner) (with_child_change zxid (row_at (parent_of path) rows) rows)
after_op zxid (Set path body version) rows = after_set zxid body (row_at path rows) rows
after_op zxid (Delete path version) rows = without_row path (with_child_change zxid (row_at (parent_of path) rows) rows)
after_op zxid (Check path version) rows = rows

-- ---- a multi

abbrev pub rows_unless_refused : ℕ → Option Refusal → Result (List Row) TreeFault → Result (List Row) TreeFault
rows_unless_refused index None rest = rest
rows_unless_refused index (Some (code c)) rest = Err (fault.Refused index c)
rows_unless_refused index (Some (limit n)) rest = Err (fault.Limit index n)

-- the znodes after these operations, one after another, or the first that is refused, numbered from this index on
abbrev pub after_ops : List ℤ → ℤ → ℕ → List Op → List Row → Result (List Row) TreeFault
after_ops sessions zxid index [] rows = Ok rows
after_ops sessions zxid index (o ∷ os) rows = rows_unless_refused index (op_refusal sessions o rows) (after_ops sessions zxid (index + 1) os (after_op zxid o rows))

abbrev pub with_zxid : Tree → Result (List Row) TreeFault → Result Tree TreeFault
with_zxid t (Err e) = Err e
with_zxid t (Ok rows) = if int_le MAX_LONG t.zxid then Err (fault.Limit 0 (number_of_limit limits.Long)) else Ok (record { zxid = t.zxid +ℤ pos 1; sessions = t.sessions; rows = rows })

-- The tree after a multi: all its operations with one new zxid, or none and the first that is refused.
unfoldable pub multi : Tree → List Op → Result Tree TreeFault
multi t ops = with_zxid t (after_ops t.sessions (t.zxid +ℤ pos 1) 0 ops t.rows)

-- ---- sessions

-- the tree with one transaction more, which makes these of its sessions and znodes
abbrev pub with_sessions : Tree → List ℤ → List Row → Result Tree MoveFault
with_sessions t sessions rows = if int_le MAX_LONG t.zxid then Err (move_fault.Limit (number_of_limit limits.Long)) else Ok (record { zxid = t.zxid +ℤ pos 1; sessions = sessions; rows = rows })

-- The tree after a session has begun, which isn't live yet.
unfoldable pub begin_session : Tree → ℤ → Result Tree MoveFault
begin_session t session = if is_live session t.sessions then Err move_fault.Known else with_sessions t (put int_cmp (λ s. s) session t.sessions) t.rows

-- whether a znode ends with this session
abbrev pub is_owner : ℤ → Option ℤ → Bool
is_owner session None = false
is_owner session (Some owner) = int_eq owner session

abbrev pub is_owned : ℤ → Row → Bool
is_owned session r = is_owner session r.owner

-- whether a child of this path ends with the session
abbrev pub loses_child : ℤ → List Row → List ℕ → Bool
loses_child session rows path = list_any (λ (r : Row). is_owned session r && bytes_eq (parent_of r.path) path) rows

abbrev pub after_loss : ℤ → ℤ → List Row → Row → Row
after_loss zxid session rows r = if loses_child session rows r.path then record r { pzxid = zxid } else r

-- the znodes without those that end with the session; their parents show it
abbrev pub without_owned : ℤ → ℤ → List Row → List Row
without_owned zxid session rows = map (after_loss zxid session rows) (filter (λ r. not (is_owned session r)) rows)

-- The tree after a live session has ended, and its ephemeral znodes with it.
unfoldable pub end_session : Tree → ℤ → Result Tree MoveFault
end_session t session = if is_live session t.sessions
    then with_sessions t (without int_cmp (λ s. s) session t.sessions) (without_owned (t.zxid +ℤ pos 1) session t.rows)
    else Err move_fault.Unknown

-- ---- what is read

-- the znodes of the migrated area
abbrev pub migrated_rows : Tree → List Row
migrated_rows t = filter (λ (r : Row). is_migrated r.path) t.rows

abbrev pub rendered_row : Row → Rendered
rendered_row r = record { path = r.path; body = r.body }

abbrev pub path_of_rendered : Rendered → List ℕ
path_of_rendered r = r.path

-- the paths and bodies of the migrated area
abbrev pub area : Tree → List Rendered
area t = map rendered_row (migrated_rows t)

abbrev pub is_after : Option (List ℕ) → Row → Bool
is_after None r = true
is_after (Some path) r = match_ordering (bytes_cmp path r.path) true false false

-- the first znodes of the migrated area after a path, at most so many
abbrev pub scan : Tree → Option (List ℕ) → ℕ → List Row
scan t after most = take most (filter (is_after after) (migrated_rows t))

abbrev pub first_row : List Row → Option Row
first_row [] = None
first_row (r ∷ rs) = Some r

-- the first znode after a path, of the whole tree
abbrev pub next_row : Tree → Option (List ℕ) → Option Row
next_row t after = first_row (filter (is_after after) t.rows)

-- the znodes at these paths
abbrev pub look : Tree → List (List ℕ) → List (Option Row)
look t paths = map (λ path. row_at path t.rows) paths

-- the last part of a path
abbrev pub name_of : List ℕ → List ℕ
name_of [] = []
name_of (b ∷ bs) = if list_any (λ x. x == 47) (b ∷ bs) then name_of bs else b ∷ bs

-- the id of a broker that is there
abbrev pub broker_id_of : Row → Option ℤ
broker_id_of r = if bytes_eq (parent_of r.path) broker_ids_path then option_map pos (canonical (name_of r.path)) else None

-- the ids of the brokers that are there, rising
abbrev pub broker_ids : Tree → List ℤ
broker_ids t = all_put int_cmp (λ i. i) (filter_map broker_id_of t.rows) []

-- ---- closed and recorded

-- what `/migration` records, where it can be read
abbrev pub migration_record : Tree → Option Recorded
migration_record t = option_and_then (λ (r : Row). recorded_of r.body) (row_at migration_path t.rows)

abbrev pub has_offset : Option Recorded → Bool
has_offset None = false
has_offset (Some r) = int_le (pos 0) r.offset

abbrev pub is_later : ℤ → Row → Bool
is_later zxid r = int_lt zxid r.mzxid || int_lt zxid r.pzxid

abbrev pub first_path : List Row → Option (List ℕ)
first_path [] = None
first_path (r ∷ rs) = Some r.path

abbrev pub unclosed_below : Option Row → List Row → Option (List ℕ)
unclosed_below None rows = Some migration_path
unclosed_below (Some m) rows = if has_offset (recorded_of m.body) then first_path (filter (is_later m.mzxid) rows) else Some migration_path

-- Where the tree isn't closed: `/migration` where no offset is recorded, else the first znode of the migrated area that
-- was written, or whose children were, after `/migration`.
abbrev pub unclosed_path : Tree → Option (List ℕ)
unclosed_path t = unclosed_below (row_at migration_path t.rows) (migrated_rows t)
