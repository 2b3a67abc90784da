-- The path of a znode that a line gives keeps the rule of paths.
use Rattle.std.proofs.Common.{◌≡◌, ℕ, ◌==◌, ◌&&◌, ℤ, pos, true, if◌then◌else◌, List, [], Option, Some, None, is_some}
use Rattle.std.specs.Prelude.{⊤, codes}
use Rattle.serde_json.specs.Data.{Data}
use Rattle.serde_json.specs.Find.{get, as_object}
use Rattle.kz_types.specs.Paths.{is_path}
use Rattle.kz_spec_data.specs.Json.{json_of, member_count, text_member}
use Rattle.kz_spec_data.specs.LineFields.{int32, int64, list_of, tagged_member, tagged_count}
use Rattle.kz_spec_data.specs.Ops.{path_in, body_in}
use Rattle.kz_spec_machine.specs.declared.dumps.LoadLine.{LoadLine}
use Rattle.kz_spec_machine.specs.declared.dumps.LoadLine.TheVariants.{Head, Znode}
use Rattle.kz_spec_machine.specs.LoadLines.{head_fields, head_of, owner_of, znode_made, znode_count, znode_fields, line_by, load_line_of, load_line}
use Rattle.kz_laws_scripts.proofs.Given.{OfSome, after, mapped, anything, where_true}
use Rattle.kz_laws_loads.specs.Loads.{HasPath}

-- Where a line is a znode, its path keeps the rule.
abbrev pub IsNamed : LoadLine → Type 0
IsNamed (Head zxid sessions) = ⊤
IsNamed (Znode r) = HasPath r

-- whatever it is
abbrev Any : {A : Type 0} → A → Type 0
Any x = ⊤

-- a path by the rule
abbrev IsPath : List ℕ → Type 0
IsPath path = is_path path ≡ true

path_kept : (d : Data) → OfSome IsPath (path_in d)
path_kept d = after Any IsPath (λ p. if is_path p then Some p else None) (text_member (codes "path") d) (anything (text_member (codes "path") d))
    (λ p t. where_true IsPath (is_path p) (Some p) (λ is. is))

made_named : (path body : List ℕ) (owner : Option ℤ) (czxid : ℤ) (d : Data) → IsPath path → OfSome IsNamed (znode_made path body owner czxid d)
made_named path body owner czxid d kept =
    after Any IsNamed _ (tagged_member (codes "version") (pos 0) int32 d) (anything (tagged_member (codes "version") (pos 0) int32 d)) (λ version t.
    after Any IsNamed _ (tagged_member (codes "mzxid") czxid int64 d) (anything (tagged_member (codes "mzxid") czxid int64 d)) (λ mzxid u.
    mapped Any IsNamed _ (tagged_member (codes "pzxid") czxid int64 d) (anything (tagged_member (codes "pzxid") czxid int64 d)) (λ pzxid v. kept)))

fields_named : (d : Data) → OfSome IsNamed (znode_fields d)
fields_named d =
    after IsPath IsNamed _ (path_in d) (path_kept d) (λ path kept.
    after Any IsNamed _ (body_in d) (anything (body_in d)) (λ body t.
    after Any IsNamed _ (owner_of (get (codes "owner") d)) (anything (owner_of (get (codes "owner") d))) (λ owner u.
    after Any IsNamed _ (tagged_member (codes "czxid") (pos 1) int64 d) (anything (tagged_member (codes "czxid") (pos 1) int64 d)) (λ czxid v.
    made_named path body owner czxid d kept))))

head_named : (d : Data) → OfSome IsNamed (head_of d)
head_named d = where_true IsNamed (is_some (as_object d) && member_count d == tagged_count (codes "zxid") d (tagged_count (codes "sessions") d 0)) (head_fields d) (λ few.
    after Any IsNamed _ (tagged_member (codes "zxid") (pos 1) int64 d) (anything (tagged_member (codes "zxid") (pos 1) int64 d)) (λ zxid t.
    mapped Any IsNamed _ (tagged_member (codes "sessions") [] (list_of int64) d) (anything (tagged_member (codes "sessions") [] (list_of int64) d)) (λ sessions u. tt)))

by_named : (o : Option Data) (d : Data) → OfSome IsNamed (line_by o d)
by_named None d = head_named d
by_named (Some path) d = where_true IsNamed (member_count d == znode_count d) (znode_fields d) (λ few. fields_named d)

pub line_named : (bytes : List ℕ) → OfSome IsNamed (load_line bytes)
unfolding load_line
line_named bytes = after Any IsNamed load_line_of (json_of bytes) (anything (json_of bytes)) (λ d t. by_named (get (codes "path") d) d)
