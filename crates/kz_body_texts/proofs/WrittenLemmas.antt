-- Lemmas on what is written.
use Rattle.std.proofs.Common.{◌≡◌, false, ◌||◌, List, [], ◌∷◌, refl}
use Rattle.serde_json.specs.Data.{string, Members, put}
use Rattle.serde_json.specs.View.{items_of}
use Rattle.serde_json.specs.Written.{has_float, members_have_float, items_have_float}
use Rattle.std.specs.Prelude.{ℤ, pos, negsuc, map}
use Rattle.kz_body_parts.proofs.Floats.{neither, put_no_float}
use Rattle.std.specs.Fmt.{signed_decimal}
use Rattle.kz_types.specs.declared.row.AclRow.{AclRow}
use Rattle.kz_types.specs.declared.bodies.AssignmentRow.{AssignmentRow}
use Rattle.kz_types.specs.declared.bodies.Pair.{Pair}
use Rattle.kz_spec_data.specs.Bodies.{with_texts, whole_data, brokers_data, with_list, with_some, replicas_members, adding_members, removing_members, acl_data, acls_data, producer_data}

pub texts_no_float : (ms : Members) (pairs : List Pair) → members_have_float ms ≡ false → members_have_float (with_texts ms pairs) ≡ false
texts_no_float ms [] none = none
texts_no_float ms (pair ∷ pairs) none = texts_no_float (put pair.name (string pair.value) ms) pairs (put_no_float pair.name (string pair.value) ms refl none)

whole_no_float : (z : ℤ) → has_float (whole_data z) ≡ false
whole_no_float (pos n) = refl
whole_no_float (negsuc n) = refl

brokers_items : (ids : List ℤ) → items_have_float (items_of (map whole_data ids)) ≡ false
brokers_items [] = refl
brokers_items (id ∷ ids) = neither (has_float (whole_data id)) (items_have_float (items_of (map whole_data ids))) (whole_no_float id) (brokers_items ids)

brokers_no_float : (ids : List ℤ) → has_float (brokers_data ids) ≡ false
brokers_no_float ids = brokers_items ids

list_no_float : (row : AssignmentRow) (ids : List ℤ) (ms : Members) → members_have_float ms ≡ false → members_have_float (with_list row ids ms) ≡ false
list_no_float row ids ms none = put_no_float (signed_decimal row.number) (brokers_data ids) ms (brokers_no_float ids) none

some_no_float : (row : AssignmentRow) (ids : List ℤ) (ms : Members) → members_have_float ms ≡ false → members_have_float (with_some row ids ms) ≡ false
some_no_float row [] ms none = none
some_no_float row (id ∷ ids) ms none = list_no_float row (id ∷ ids) ms none

pub replicas_no_float : (ms : Members) (rows : List AssignmentRow) → members_have_float ms ≡ false → members_have_float (replicas_members ms rows) ≡ false
replicas_no_float ms [] none = none
replicas_no_float ms (row ∷ rows) none = replicas_no_float (with_list row row.replicas ms) rows (list_no_float row row.replicas ms none)

pub adding_no_float : (ms : Members) (rows : List AssignmentRow) → members_have_float ms ≡ false → members_have_float (adding_members ms rows) ≡ false
adding_no_float ms [] none = none
adding_no_float ms (row ∷ rows) none = adding_no_float (with_some row row.adding ms) rows (some_no_float row row.adding ms none)

pub removing_no_float : (ms : Members) (rows : List AssignmentRow) → members_have_float ms ≡ false → members_have_float (removing_members ms rows) ≡ false
removing_no_float ms [] none = none
removing_no_float ms (row ∷ rows) none = removing_no_float (with_some row row.removing ms) rows (some_no_float row row.removing ms none)

acl_items_no_float : (rows : List AclRow) → items_have_float (items_of (map acl_data rows)) ≡ false
acl_items_no_float [] = refl
acl_items_no_float (row ∷ rows) = acl_items_no_float rows

-- nor access control entries
pub acls_no_float : (rows : List AclRow) → has_float (acls_data rows) ≡ false
acls_no_float rows = neither (items_have_float (items_of (map acl_data rows))) (false || false) (acl_items_no_float rows) refl

-- nor a block of producer ids
pub producer_no_float : (broker start end : ℤ) → has_float (producer_data broker start end) ≡ false
producer_no_float broker start end = neither (has_float (whole_data broker)) (false || false) (whole_no_float broker) refl
