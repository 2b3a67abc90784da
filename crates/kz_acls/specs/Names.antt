-- The ids of access control entries by the name of their resource.
use Rattle.std.specs.Prelude.{◌≡◌, ℕ, true, List, [], ◌∷◌, Option, Some, None, is_some, bytes_eq, if◌then◌else◌}
use Rattle.kz_types.specs.declared.image.AclEntry.{AclEntry}
use Rattle.kz_types.specs.Order.{bytes_cmp}
use Rattle.kz_types.specs.Ordered.{find, put, without, Rises}
use Rattle.kz_spec_data.specs.Metadata.{id_of_acl}
use Rattle.kz_acls.specs.declared.names.EntryId.{EntryId}
use Rattle.kz_acls.specs.declared.names.NamedIds.{NamedIds}

abbrev pub id_of : EntryId → List ℕ
id_of i = i.id.bytes

abbrev pub name_of : NamedIds → List ℕ
name_of n = n.name

abbrev pub ids_in : Option NamedIds → List EntryId
ids_in None = []
ids_in (Some n) = n.ids

-- the ids under a name
abbrev pub ids_at : List ℕ → List NamedIds → List EntryId
ids_at name names = ids_in (find bytes_cmp name_of name names)

-- the names with these ids under one; a name without ids isn't kept
abbrev pub with_ids : List ℕ → List EntryId → List NamedIds → List NamedIds
with_ids name [] names = without bytes_cmp name_of name names
with_ids name (i ∷ ids) names = put bytes_cmp name_of (record { name = name; ids = i ∷ ids }) names

-- The entries rise, the names, and the ids under each. The id of each entry stands under the name of its resource. There may be ids of
-- entries that aren't there.
pub record AreNamed (names : List NamedIds) (entries : List AclEntry) : Type 0 where
  pub entries_rise : Rises bytes_cmp id_of_acl entries
  pub rising : Rises bytes_cmp name_of names
  pub ids_rise : (name : List ℕ) → Rises bytes_cmp id_of (ids_at name names)
  pub listed : (id : List ℕ) (a : AclEntry) → find bytes_cmp id_of_acl id entries ≡ Some a → is_some (find bytes_cmp id_of id (ids_at a.row.name names)) ≡ true

-- the entry that is found, where its resource has this name
abbrev pub if_named : List ℕ → Option AclEntry → List AclEntry
if_named name None = []
if_named name (Some a) = if bytes_eq a.row.name name then a ∷ [] else []

-- the entry of an id, where it is there and its resource has this name
abbrev pub entry_named : List ℕ → List AclEntry → EntryId → List AclEntry
entry_named name entries i = if_named name (find bytes_cmp id_of_acl i.id.bytes entries)
