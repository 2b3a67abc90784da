-- The order of the parts that a quota speaks of.
use Rattle.std.specs.Prelude.{Bool, false, ◌&&◌, List, [], ◌∷◌, if◌then◌else◌, codes}
use Rattle.std.specs.Str.{bytes_eq}
use Rattle.kz_types.specs.declared.record.QuotaEntity.{QuotaEntity}

-- whether the parts are a client id and then a user
abbrev pub is_client_first : List QuotaEntity → Bool
is_client_first (first ∷ second ∷ []) = bytes_eq first.kind (codes "client-id") && bytes_eq second.kind (codes "user")
is_client_first parts = false

-- the other order of two parts
abbrev pub other_order : List QuotaEntity → List QuotaEntity
other_order (first ∷ second ∷ []) = second ∷ first ∷ []
other_order parts = parts

-- the same parts, and the pair of a client id and a user with the user first
abbrev pub user_first : List QuotaEntity → List QuotaEntity
user_first parts = if is_client_first parts then other_order parts else parts
