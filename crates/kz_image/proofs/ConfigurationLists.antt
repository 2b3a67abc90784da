-- The configurations of brokers, and their members.
use Rattle.std.proofs.Common.{ℕ, List, refl}
use Rattle.kz_types.specs.declared.bodies.Pair.{Pair}
use Rattle.kz_types.specs.declared.image.Configuration.{Configuration}
use Rattle.kz_spec_data.specs.Image.{name_of_configuration, with_pairs}
use Rattle.kz_laws_znodes.proofs.Entries.{Holds}

abbrev pub configuration_with : List ℕ → List Pair → Configuration
configuration_with name pairs = record { name = name; pairs = pairs }

abbrev pub members_of : Configuration → List Pair
members_of c = c.pairs

pub configurations_hold : Holds name_of_configuration members_of configuration_with with_pairs
configurations_hold = record { whole = λ c. refl; key_made = λ k ps. refl; none = λ k xs. refl; some = λ k p ps xs. refl }
