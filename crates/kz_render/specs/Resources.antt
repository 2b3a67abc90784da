-- The entries of a resource, told by its pattern, the code of its type and its name.
use Rattle.std.specs.Prelude.{ℕ, ℤ, Bool, ◌&&◌, List, [], ◌∷◌, if◌then◌else◌}
use Rattle.std.specs.Ordering.{int_eq}
use Rattle.std.specs.Str.{bytes_eq}
use Rattle.std.specs.List.{flat_map}
use Rattle.kz_types.specs.declared.row.AclRow.{AclRow}
use Rattle.kz_types.specs.declared.image.AclEntry.{AclEntry}

-- whether an entry is one of a resource
abbrev pub is_at : ℤ → ℤ → List ℕ → AclRow → Bool
is_at pattern kind name row = int_eq row.pattern pattern && (int_eq row.kind kind && bytes_eq row.name name)

-- the entry, where it is one of a resource
abbrev pub row_if_at : ℤ → ℤ → List ℕ → AclEntry → List AclRow
row_if_at pattern kind name a = if is_at pattern kind name a.row then a.row ∷ [] else []

-- the entries of a resource, in the order in which they stand
abbrev pub rows_at : ℤ → ℤ → List ℕ → List AclEntry → List AclRow
rows_at pattern kind name acls = flat_map (row_if_at pattern kind name) acls
