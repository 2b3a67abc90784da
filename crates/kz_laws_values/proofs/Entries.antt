-- Access control entries are read as they were written.
use Rattle.std.proofs.Common.{◌≡◌, ℕ, zero, suc, ◌≤◌, ℤ, pos, negsuc, List, [], ◌∷◌, Some, Ok, refl, sym, ap, ◌∙◌, arith, codes}
use Rattle.std.specs.Prelude.{map, option_map, option_and_then}
use Rattle.std.proofs.lemmas.Int.{ints}
use Rattle.serde_json.specs.View.{items_of}
use Rattle.kz_types.specs.declared.row.AclRow.{AclRow}
use Rattle.kz_types.specs.declared.bodies.Body.TheVariants as body
use Rattle.kz_types.specs.declared.key.EntityKey.TheVariants.{Acl}
use Rattle.kz_spec_data.specs.Bodies.{operation_of, operation_name, permission_of, permission_name, entry_in, entries_in, acl_data, acls_data, acls_of_data, body_of, read_body, text_of_body}
use Rattle.kz_laws_values.specs.Ranges.{IsBetween}
use Rattle.kz_laws_values.specs.Readable.{IsText, IsEntry, AreEntries}
use Rattle.kz_laws_values.proofs.Plain.{IsPlain, ArePlainItems, object_says, whole_is_plain, word}

-- a code whose name is a text that is read as it
abbrev IsOperation : ℤ → Type 0
IsOperation z = (operation_of (operation_name z) ≡ Some z) × IsText (operation_name z)

abbrev IsPermission : ℤ → Type 0
IsPermission z = (permission_of (permission_name z) ≡ Some z) × IsText (permission_name z)

named : (n : ℕ) → n ≤ 12 → 2 ≤ n → IsOperation (pos n)
named zero h low = absurd (omega (arith, low))
named (suc zero) h low = absurd (omega (arith, low))
named (suc (suc zero)) h low = (refl, word (codes "All") refl)
named (suc (suc (suc zero))) h low = (refl, word (codes "Read") refl)
named (suc (suc (suc (suc zero)))) h low = (refl, word (codes "Write") refl)
named (suc (suc (suc (suc (suc zero))))) h low = (refl, word (codes "Create") refl)
named (suc (suc (suc (suc (suc (suc zero)))))) h low = (refl, word (codes "Delete") refl)
named (suc (suc (suc (suc (suc (suc (suc zero))))))) h low = (refl, word (codes "Alter") refl)
named (suc (suc (suc (suc (suc (suc (suc (suc zero)))))))) h low = (refl, word (codes "Describe") refl)
named (suc (suc (suc (suc (suc (suc (suc (suc (suc zero))))))))) h low = (refl, word (codes "ClusterAction") refl)
named (suc (suc (suc (suc (suc (suc (suc (suc (suc (suc zero)))))))))) h low = (refl, word (codes "DescribeConfigs") refl)
named (suc (suc (suc (suc (suc (suc (suc (suc (suc (suc (suc zero))))))))))) h low = (refl, word (codes "AlterConfigs") refl)
named (suc (suc (suc (suc (suc (suc (suc (suc (suc (suc (suc (suc zero)))))))))))) h low = (refl, word (codes "IdempotentWrite") refl)
named (suc (suc (suc (suc (suc (suc (suc (suc (suc (suc (suc (suc (suc n))))))))))))) h low = absurd (omega (arith, h))

operation_named : (z : ℤ) → IsBetween (pos 2) (pos 12) z → IsOperation z
operation_named (pos n) h = named n (omega (arith, ints, h.1)) (omega (arith, ints, h.0))
operation_named (negsuc n) h = absurd (omega (arith, ints, h.0))

allowed : (n : ℕ) → n ≤ 3 → 2 ≤ n → IsPermission (pos n)
allowed zero h low = absurd (omega (arith, low))
allowed (suc zero) h low = absurd (omega (arith, low))
allowed (suc (suc zero)) h low = (refl, word (codes "Deny") refl)
allowed (suc (suc (suc zero))) h low = (refl, word (codes "Allow") refl)
allowed (suc (suc (suc (suc n)))) h low = absurd (omega (arith, h))

permission_named : (z : ℤ) → IsBetween (pos 2) (pos 3) z → IsPermission z
permission_named (pos n) h = allowed n (omega (arith, ints, h.1)) (omega (arith, ints, h.0))
permission_named (negsuc n) h = absurd (omega (arith, ints, h.0))

entry_plain : (pattern kind : ℤ) (name : List ℕ) (row : AclRow) → IsEntry pattern kind name row → IsPlain 1 (acl_data row)
entry_plain pattern kind name row h = (
  (
    word (codes "host") refl,
    h.host_is,
    (
      word (codes "operation") refl,
      (operation_named row.operation h.operation_is).1,
      (word (codes "permissionType") refl, (permission_named row.permission h.permission_is).1, (word (codes "principal") refl, h.principal_is, tt)),
    ),
  ),
  refl,
)

entries_plain : (pattern kind : ℤ) (name : List ℕ) (rows : List AclRow) → AreEntries pattern kind name rows → ArePlainItems 1 (items_of (map acl_data rows))
entries_plain pattern kind name [] h = tt
entries_plain pattern kind name (row ∷ rows) h = (entry_plain pattern kind name row h.0, entries_plain pattern kind name rows h.1)

own_entry : (row : AclRow) → operation_of (operation_name row.operation) ≡ Some row.operation → permission_of (permission_name row.permission) ≡ Some row.permission
    → entry_in row.pattern row.kind row.name (acl_data row) ≡ Some row
own_entry row operation permission = rw (operation, permission) refl

entry_read : (pattern kind : ℤ) (name : List ℕ) (row : AclRow) → IsEntry pattern kind name row → entry_in pattern kind name (acl_data row) ≡ Some row
entry_read pattern kind name row h =
    (λ i. entry_in (sym h.pattern_is i) (sym h.kind_is i) (sym h.name_is i) (acl_data row))
    ∙ own_entry row (operation_named row.operation h.operation_is).0 (permission_named row.permission h.permission_is).0

entries_read : (pattern kind : ℤ) (name : List ℕ) (rows : List AclRow) → AreEntries pattern kind name rows → entries_in pattern kind name (items_of (map acl_data rows)) ≡ Some rows
entries_read pattern kind name [] h = refl
entries_read pattern kind name (row ∷ rows) h =
    ap (option_and_then (λ r. option_map (λ rs. r ∷ rs) (entries_in pattern kind name (items_of (map acl_data rows))))) (entry_read pattern kind name row h.0)
    ∙ ap (option_map (λ rs. row ∷ rs)) (entries_read pattern kind name rows h.1)

acls_plain : (pattern kind : ℤ) (name : List ℕ) (rows : List AclRow) → AreEntries pattern kind name rows → IsPlain 3 (acls_data rows)
acls_plain pattern kind name rows h = (
  (word (codes "acls") refl, entries_plain pattern kind name rows h, (word (codes "version") refl, whole_is_plain 2 (pos 1) (omega (arith, ints), omega (arith, ints)), tt)),
  refl,
)

acls_say : (pattern kind : ℤ) (name : List ℕ) (rows : List AclRow) → AreEntries pattern kind name rows → acls_of_data pattern kind name (acls_data rows) ≡ Ok (body.Acls rows)
acls_say pattern kind name rows h = rw (entries_read pattern kind name rows h) refl

pub entries_are_read : (pattern kind : ℤ) (name : List ℕ) (rows : List AclRow) → AreEntries pattern kind name rows
    → read_body (Acl pattern kind name) (text_of_body (body.Acls rows)) ≡ Ok (body.Acls rows)
unfolding text_of_body body_of
entries_are_read pattern kind name rows h =
    object_says (Acl pattern kind name) _ (acls_plain pattern kind name rows h) ∙ acls_say pattern kind name rows h
