-- The users that have credentials stay in order when one is set or removed.
use Rattle.std.proofs.Common.{ℕ, ℤ, List, Option, Some, None, refl}
use Rattle.std.specs.Ordering.{int_cmp}
use Rattle.kz_types.specs.declared.bodies.ScramPair.{ScramPair}
use Rattle.kz_types.specs.declared.image.ScramEntry.{ScramEntry}
use Rattle.kz_types.specs.declared.record.UserScramCredentialRecord.{UserScramCredentialRecord}
use Rattle.kz_types.specs.Order.{bytes_cmp}
use Rattle.kz_types.specs.Ordered.{find, Rises}
use Rattle.kz_types.proofs.Order.{int_order}
use Rattle.kz_types.proofs.Lookup.{Rises-put, Rises-without}
use Rattle.kz_spec_data.specs.Metadata.{name_of_user, mechanism_of_pair}
use Rattle.kz_spec_data.specs.Image.{scrams_in, scrams_at, with_scrams, scram_row, scram_set, scram_removed}
use Rattle.kz_spec_data.specs.InOrder.{IsUserFilled, AreUsersInOrder}
use Rattle.kz_laws_znodes.proofs.Entries.{Holds, HasIfFound, found_has, changed_rises, changed_all}

abbrev pub user_with : List ℕ → List ScramPair → ScramEntry
user_with name scrams = record { name = name; scrams = scrams }

abbrev pub scrams_of : ScramEntry → List ScramPair
scrams_of u = u.scrams

pub users_hold : Holds name_of_user scrams_of user_with with_scrams
users_hold = record { whole = λ u. refl; key_made = λ k ss. refl; none = λ k xs. refl; some = λ k s ss xs. refl }

found_scrams_rise : (found : Option ScramEntry) → HasIfFound IsUserFilled found → Rises int_cmp mechanism_of_pair (scrams_in found)
found_scrams_rise None h = tt
found_scrams_rise (Some u) h = h.1

pub scrams_rise : (name : List ℕ) (xs : List ScramEntry) → AreUsersInOrder xs → Rises int_cmp mechanism_of_pair (scrams_at name xs)
scrams_rise name xs order = found_scrams_rise (find bytes_cmp name_of_user name xs) (found_has IsUserFilled bytes_cmp name_of_user name xs order.filled)

users_in_order : (name : List ℕ) (ss : List ScramPair) (xs : List ScramEntry) → Rises int_cmp mechanism_of_pair ss → AreUsersInOrder xs → AreUsersInOrder (with_scrams name ss xs)
users_in_order name ss xs h order = record {
  rising = changed_rises users_hold name ss xs order.rising;
  filled = changed_all users_hold IsUserFilled name ss xs (λ some. (some, h)) order.filled;
}

pub scram_set_in_order : (r : UserScramCredentialRecord) (xs : List ScramEntry) → AreUsersInOrder xs → AreUsersInOrder (scram_set r xs)
scram_set_in_order r xs order =
    users_in_order r.name _ xs (Rises-put int_order mechanism_of_pair (record { mechanism = r.mechanism; value = scram_row r }) (scrams_at r.name xs) (scrams_rise r.name xs order)) order

pub scram_removed_in_order : (name : List ℕ) (mechanism : ℤ) (xs : List ScramEntry) → AreUsersInOrder xs → AreUsersInOrder (scram_removed name mechanism xs)
scram_removed_in_order name mechanism xs order =
    users_in_order name _ xs (Rises-without int_order mechanism_of_pair mechanism (scrams_at name xs) (scrams_rise name xs order)) order
