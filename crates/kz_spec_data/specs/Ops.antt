-- Operations of a ZooKeeper multi, as a script writes them: JSON objects with the operation's name as `op`.
use Rattle.std.specs.Prelude.{ℕ, ◌&&◌, ◌==◌, nat_le, ℤ, pos, negsuc, List, [], ◌∷◌, Option, Some, None, option_map, option_and_then, if◌then◌else◌, codes}
use Rattle.serde_json.specs.Data.{Data}
use Rattle.serde_json.specs.Find.{get, as_number, as_u64, as_str}
use Rattle.base64.specs.Engines.{standard}
use Rattle.base64.specs.GeneralPurpose.{decoded_of}
use Rattle.kz_types.specs.declared.limits.TheConstants.{MAX_VERSION}
use Rattle.kz_types.specs.Paths.{is_path}
use Rattle.kz_types.specs.declared.tree.Op.{Op}
use Rattle.kz_types.specs.declared.tree.Op.TheVariants.{Create, Set, Delete, Check}
use Rattle.kz_spec_data.specs.Json.{member_count, count_with, whole_within, text_member, by_name}

-- a session: a whole number from 1 to the greatest of 64 bits
abbrev pub session_in : Data → Option ℤ
session_in d = option_and_then (λ n. if nat_le 1 n && nat_le n 9223372036854775807 then Some (pos n) else None) (option_and_then as_u64 (as_number d))

-- the member `path`, a path by the rule
abbrev pub path_in : Data → Option (List ℕ)
path_in d = option_and_then (λ path. if is_path path then Some path else None) (text_member (codes "path") d)

-- the member `version`: -1 is any
abbrev pub version_in : Data → Option ℤ
version_in d = option_and_then (λ v. whole_within (negsuc 0) MAX_VERSION v) (get (codes "version") d)

-- a body is a text, or bytes in base64 with its padding, and empty where it is neither
abbrev pub body_by : Option Data → Option Data → Option (List ℕ)
body_by None None = Some []
body_by (Some text) None = as_str text
body_by None (Some bytes) = option_and_then (λ t. decoded_of standard t) (as_str bytes)
body_by (Some text) (Some bytes) = None

abbrev pub body_in : Data → Option (List ℕ)
body_in d = body_by (get (codes "text") d) (get (codes "bytes") d)

-- an owner that may be absent
abbrev pub owner_by : Option Data → Option (Option ℤ)
owner_by None = Some None
owner_by (Some d) = option_map (λ s. Some s) (session_in d)

-- how many members there are with a body, where there are so many others
abbrev pub bodied_count : ℕ → Data → ℕ
bodied_count others d = count_with (get (codes "text") d) (count_with (get (codes "bytes") d) others)

abbrev pub create_of : Data → Option Op
create_of d = if member_count d == count_with (get (codes "owner") d) (bodied_count 2 d)
    then option_and_then (λ path. option_and_then (λ body. option_map (λ owner. Create path body owner)
    (owner_by (get (codes "owner") d))) (body_in d)) (path_in d)
    else None

abbrev pub set_of : Data → Option Op
set_of d = if member_count d == bodied_count 3 d
    then option_and_then (λ path. option_and_then (λ body. option_map (λ version. Set path body version)
    (version_in d)) (body_in d)) (path_in d)
    else None

abbrev pub delete_of : Data → Option Op
delete_of d = if member_count d == 3
    then option_and_then (λ path. option_map (λ version. Delete path version) (version_in d)) (path_in d)
    else None

abbrev pub check_of : Data → Option Op
check_of d = if member_count d == 3
    then option_and_then (λ path. option_map (λ version. Check path version) (version_in d)) (path_in d)
    else None

-- the operations by their names
abbrev pub op_forms : List (List ℕ × (Data → Option Op))
op_forms = (codes "create", create_of) ∷ (codes "set", set_of) ∷ (codes "delete", delete_of) ∷ (codes "check", check_of) ∷ []

-- the operation that a JSON value is
unfoldable pub op_of : Data → Option Op
op_of d = option_and_then (λ name. by_name op_forms name d) (text_member (codes "op") d)
