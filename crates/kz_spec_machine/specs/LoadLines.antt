-- What a line of a tree that is loaded says: a JSON object with exactly these members, of which some may be absent.
use Rattle.std.specs.Prelude.{ℕ, ◌==◌, ◌&&◌, ℤ, pos, List, [], ◌∷◌, Option, Some, None, is_some, option_map, option_and_then, if◌then◌else◌, codes}
use Rattle.serde_json.specs.Data.{Data}
use Rattle.serde_json.specs.Find.{get, as_object}
use Rattle.kz_types.specs.declared.tree.Row.{Row}
use Rattle.kz_spec_data.specs.Json.{json_of, member_count, count_with}
use Rattle.kz_spec_data.specs.LineFields.{◌>>=◌, int32, int64, list_of, value_or, tagged_member, tagged_count}
use Rattle.kz_spec_data.specs.Ops.{path_in, body_in, bodied_count}
use Rattle.kz_spec_machine.specs.declared.dumps.LoadLine.{LoadLine}
use Rattle.kz_spec_machine.specs.declared.dumps.LoadLine.TheVariants.{Head, Znode}

-- ---- the first line

-- `zxid`, by default 1, and `sessions`, by default none
abbrev pub head_fields : Data → Option LoadLine
head_fields d = tagged_member (codes "zxid") (pos 1) int64 d >>= λ zxid. option_map (λ sessions. Head zxid sessions) (tagged_member (codes "sessions") [] (list_of int64) d)

abbrev pub head_of : Data → Option LoadLine
head_of d = if is_some (as_object d) && member_count d == tagged_count (codes "zxid") d (tagged_count (codes "sessions") d 0) then head_fields d else None

-- ---- a znode

-- an owner that may be absent
abbrev pub owner_of : Option Data → Option (Option ℤ)
owner_of None = Some None
owner_of (Some d) = option_map (λ s. Some s) (int64 d)

-- a znode, where its czxid is known
abbrev pub znode_made : List ℕ → List ℕ → Option ℤ → ℤ → Data → Option LoadLine
znode_made path body owner czxid d =
    tagged_member (codes "version") (pos 0) int32 d >>= λ version.
    tagged_member (codes "mzxid") czxid int64 d >>= λ mzxid.
    option_map (λ pzxid. Znode (record { path = path; body = body; version = version; owner = owner; czxid = czxid; mzxid = mzxid; pzxid = pzxid }))
    (tagged_member (codes "pzxid") czxid int64 d)

-- how many members a line has with those of a znode that are there
abbrev pub znode_count : Data → ℕ
znode_count d = bodied_count (tagged_count (codes "version") d (tagged_count (codes "owner") d
    (tagged_count (codes "czxid") d (tagged_count (codes "mzxid") d (tagged_count (codes "pzxid") d 1))))) d

-- `path`; `text` or `bytes`, by default an empty body; `version`, by default 0; `owner`; `czxid`, by default 1; `mzxid` and
-- `pzxid`, by default the czxid
abbrev pub znode_fields : Data → Option LoadLine
znode_fields d = path_in d >>= λ path. body_in d >>= λ body. owner_of (get (codes "owner") d) >>= λ owner.
    tagged_member (codes "czxid") (pos 1) int64 d >>= λ czxid. znode_made path body owner czxid d

abbrev pub znode_of : Data → Option LoadLine
znode_of d = if member_count d == znode_count d then znode_fields d else None

-- ---- a line

-- a line with a path is a znode, any other the first line
abbrev pub line_by : Option Data → Data → Option LoadLine
line_by None d = head_of d
line_by (Some path) d = znode_of d

abbrev pub load_line_of : Data → Option LoadLine
load_line_of d = line_by (get (codes "path") d) d

-- what a line says, or none
unfoldable pub load_line : List ℕ → Option LoadLine
load_line bytes = option_and_then load_line_of (json_of bytes)
