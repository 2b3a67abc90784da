-- The access control entries that are read, with codes in range.
use Rattle.std.proofs.Common.{◌≡◌, ℕ, ℤ, pos, Bool, true, false, List, [], ◌∷◌, Option, Some, None, refl, codes}
use Rattle.std.specs.Prelude.{⊤, IfSome, option_map, option_and_then, if◌then◌else◌, bytes_eq}
use Rattle.serde_json.specs.Data.{Data, Items, no_items, item}
use Rattle.kz_types.specs.declared.row.AclRow.{AclRow}
use Rattle.kz_spec_data.specs.Bodies.{operation_of, permission_of, text_at, entry_in, entries_in}
use Rattle.kz_spec_data.specs.ImageRules.{is_operation, is_permission}
use Rattle.kz_laws_znodes.proofs.Sorted.{if_mapped, if_chained, if_any, always}

-- An entry of this resource.
pub record IsEntryRead (pattern kind : ℤ) (name : List ℕ) (row : AclRow) : Type 0 where
  pub pattern_is : row.pattern ≡ pattern
  pub kind_is : row.kind ≡ kind
  pub name_is : row.name ≡ name
  pub operation_is : is_operation row.operation ≡ true
  pub permission_is : is_permission row.permission ≡ true

abbrev pub AreEntriesRead : ℤ → ℤ → List ℕ → List AclRow → Type 0
AreEntriesRead pattern kind name [] = ⊤
AreEntriesRead pattern kind name (row ∷ rows) = IsEntryRead pattern kind name row × AreEntriesRead pattern kind name rows

operation_holds : (name : List ℕ) → IfSome (operation_of name) (λ o. is_operation o ≡ true)
operation_holds name =
    by (bytes_eq name (codes "All")) (bytes_eq name (codes "Read")) (bytes_eq name (codes "Write")) (bytes_eq name (codes "Create")) (bytes_eq name (codes "Delete")) (bytes_eq name (codes "Alter")) (bytes_eq name (codes "Describe")) (bytes_eq name (codes "ClusterAction")) (bytes_eq name (codes "DescribeConfigs")) (bytes_eq name (codes "AlterConfigs")) (bytes_eq name (codes "IdempotentWrite"))
  where
    by : (a b c d e f g h i j k : Bool)
        → IfSome (if a then Some (pos 2) else if b then Some (pos 3) else if c then Some (pos 4) else if d then Some (pos 5) else if e then Some (pos 6) else if f then Some (pos 7) else if g then Some (pos 8) else if h then Some (pos 9) else if i then Some (pos 10) else if j then Some (pos 11) else if k then Some (pos 12) else None) (λ o. is_operation o ≡ true)
    by true b c d e f g h i j k = refl
    by false true c d e f g h i j k = refl
    by false false true d e f g h i j k = refl
    by false false false true e f g h i j k = refl
    by false false false false true f g h i j k = refl
    by false false false false false true g h i j k = refl
    by false false false false false false true h i j k = refl
    by false false false false false false false true i j k = refl
    by false false false false false false false false true j k = refl
    by false false false false false false false false false true k = refl
    by false false false false false false false false false false true = refl
    by false false false false false false false false false false false = tt

permission_holds : (name : List ℕ) → IfSome (permission_of name) (λ p. is_permission p ≡ true)
permission_holds name = by (bytes_eq name (codes "Deny")) (bytes_eq name (codes "Allow"))
  where
    by : (a b : Bool) → IfSome (if a then Some (pos 2) else if b then Some (pos 3) else None) (λ p. is_permission p ≡ true)
    by true b = refl
    by false true = refl
    by false false = tt

chained_text : {A : Type 0} (P : A → Type 0) (form : List ℕ → Option A) (o : Option (List ℕ)) → ((t : List ℕ) → IfSome (form t) P) → IfSome (option_and_then form o) P
chained_text P form None so = tt
chained_text P form (Some t) so = so t

entry_read : (pattern kind : ℤ) (name : List ℕ) (d : Data) → IfSome (entry_in pattern kind name d) (IsEntryRead pattern kind name)
entry_read pattern kind name d =
    if_any (IsEntryRead pattern kind name) _ (text_at (codes "principal") d) (λ principal.
    if_chained (λ p. is_permission p ≡ true) (IsEntryRead pattern kind name) _ (option_and_then permission_of (text_at (codes "permissionType") d)) (λ permission p.
    if_chained (λ o. is_operation o ≡ true) (IsEntryRead pattern kind name) _ (option_and_then operation_of (text_at (codes "operation") d)) (λ operation o.
    if_mapped (λ h. ⊤) (IsEntryRead pattern kind name) (λ host. record { kind = kind; pattern = pattern; name = name; principal = principal; host = host; operation = operation; permission = permission }) (text_at (codes "host") d)
    (λ host any. record { pattern_is = refl; kind_is = refl; name_is = refl; operation_is = o; permission_is = p }) (always (text_at (codes "host") d)))
    (chained_text (λ o. is_operation o ≡ true) operation_of (text_at (codes "operation") d) operation_holds))
    (chained_text (λ p. is_permission p ≡ true) permission_of (text_at (codes "permissionType") d) permission_holds))

pub entries_read : (pattern kind : ℤ) (name : List ℕ) (ds : Items) → IfSome (entries_in pattern kind name ds) (AreEntriesRead pattern kind name)
entries_read pattern kind name no_items = tt
entries_read pattern kind name (item d ds) =
    if_chained (IsEntryRead pattern kind name) (AreEntriesRead pattern kind name) (λ row. option_map (λ rows. row ∷ rows) (entries_in pattern kind name ds)) (entry_in pattern kind name d)
    (λ row one. if_mapped (AreEntriesRead pattern kind name) (AreEntriesRead pattern kind name) (λ rows. row ∷ rows) (entries_in pattern kind name ds) (λ rows all. (one, all)) (entries_read pattern kind name ds))
    (entry_read pattern kind name d)
