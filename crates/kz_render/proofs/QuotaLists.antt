-- What the entries of quotas and credentials of every metadata keep.
use Rattle.std.proofs.Common.{◌≡◌, ℕ, ◌<◌, Bool, true, false, not, ◌&&◌, List, [], ◌∷◌, Option, Some, None, length, sym, refl, arith}
use Rattle.std.specs.List.{All}
use Rattle.std.proofs.lemmas.Bool.{and_parts, false≢true}
use Rattle.std.proofs.lemmas.List.Elements.{All-head, All-contains}
use Rattle.std.proofs.lemmas.List.Sums.{list_all-from_AllPass}
use Rattle.kz_types.specs.declared.bodies.QuotaRow.{QuotaRow}
use Rattle.kz_types.specs.declared.bodies.ScramPair.{ScramPair}
use Rattle.kz_types.specs.declared.image.QuotaEntry.{QuotaEntry}
use Rattle.kz_types.specs.declared.image.ScramEntry.{ScramEntry}
use Rattle.kz_types.specs.declared.key.EntityKey.TheVariants.{User}
use Rattle.kz_types.specs.Quotas.{is_quota}
use Rattle.kz_types.specs.Paths.{is_legal, has_path}
use Rattle.kz_types.specs.Order.{bytes_cmp}
use Rattle.kz_types.specs.Ordered.{find}
use Rattle.kz_types.proofs.Lookup.{found_is_contained}
use Rattle.kz_types.proofs.Order.{bytes_order}
use Rattle.kz_json.specs.Entries.{are_quotas}
use Rattle.kz_spec_data.specs.Metadata.{path_of_quotas}
use Rattle.kz_spec_data.specs.Image.{quotas_in}
use Rattle.kz_spec_data.specs.ImageRules.{is_empty, is_dots}
use Rattle.kz_spec_data.specs.InOrder.{IsUserFilled}
use Rattle.kz_spec_data.specs.Legal.{IsQuotaEntry, IsScramEntry, IsScramOf}

-- each quota of an entity is in range
pub entry_quotas : (q : QuotaEntry) → IsQuotaEntry q → are_quotas q.quotas ≡ true
entry_quotas q h = list_all-from_AllPass (λ (row : QuotaRow). is_quota row.value) q.quotas (λ k d within. (h.each k d within).1)

pub found_quotas : (path : List ℕ) (qs : List QuotaEntry) → All IsQuotaEntry qs → are_quotas (quotas_in (find bytes_cmp path_of_quotas path qs)) ≡ true
found_quotas path qs h = by (find bytes_cmp path_of_quotas path qs) refl
  where
    by : (m : Option QuotaEntry) → find bytes_cmp path_of_quotas path qs ≡ m → are_quotas (quotas_in m) ≡ true
    by None e = refl
    by (Some q) e = entry_quotas q (All-contains IsQuotaEntry qs q h (found_is_contained bytes_order path_of_quotas path qs q e))

from_not : (b : Bool) → not b ≡ true → b ≡ false
from_not true h = absurd (false≢true h)
from_not false h = refl

name_legal : (name : List ℕ) → is_empty name ≡ false → is_legal (User (Some name)) ≡ true
unfolding is_legal
name_legal [] h = absurd (false≢true (sym h))
name_legal (b ∷ bs) h = grind arith

first_scram : (name : List ℕ) (ss : List ScramPair) → 0 < length ss → All (IsScramOf name) ss → (is_legal (User (Some name)) ≡ true) × (has_path (User (Some name)) ≡ true)
first_scram name [] some h = absurd (omega arith)
first_scram name (s ∷ ss) some h =
    let one = All-head (IsScramOf name) s ss h in
    let a = and_parts (not (is_empty name) && not (is_dots name)) (has_path (User (Some name))) one.0 in
    let b = and_parts (not (is_empty name)) (not (is_dots name)) a.0 in
    (name_legal name (from_not (is_empty name) b.0), a.1)

-- the key of a user with credentials is legal, and it has a path
pub scram_user : (u : ScramEntry) → IsUserFilled u → IsScramEntry u → (is_legal (User (Some u.name)) ≡ true) × (has_path (User (Some u.name)) ≡ true)
scram_user u filled legal = first_scram u.name u.scrams filled.0 legal
