-- The configurations of brokers, and their members.
use Rattle.std.proofs.Common.{◌≡◌, ℕ, ℤ, true, List, [], Option, refl, sym, ap, ◌∙◌}
use Rattle.kz_types.specs.declared.bodies.Pair.{Pair}
use Rattle.kz_types.specs.declared.image.Configuration.{Configuration}
use Rattle.kz_types.specs.declared.key.EntityKey.TheVariants as key
use Rattle.kz_types.specs.Paths.{is_legal}
use Rattle.kz_types.proofs.Lookup.{same_some}
use Rattle.kz_spec_data.specs.Image.{name_of_configuration, with_pairs}
use Rattle.kz_spec_data.specs.Rendering.{broker_key}
use Rattle.kz_spec_data.specs.Translation.{broker_name}
use Rattle.kz_laws_znodes.proofs.Entries.{Holds}
use Rattle.kz_laws_values.specs.TextKeys.{HasTexts}
use Rattle.kz_laws_znodes.proofs.BrokerWalk.{IsBrokerKey, named_back, name_is_legal}
use Rattle.kz_laws_znodes.proofs.Held.{broker_in}

abbrev pub configuration_with : List ℕ → List Pair → Configuration
configuration_with name pairs = record { name = name; pairs = pairs }

abbrev pub members_of : Configuration → List Pair
members_of c = c.pairs

pub configurations_hold : Holds name_of_configuration members_of configuration_with with_pairs
configurations_hold = record { whole = λ c. refl; key_made = λ k ps. refl; none = λ k xs. refl; some = λ k p ps xs. refl }

-- ---- the keys of brokers

-- the key of a broker's configuration by its name
pub broker_back : (b : Option ℤ) → IsBrokerKey b → broker_key (broker_name b) ≡ key.BrokerConfig b
broker_back b good =
    let c : Configuration = record { name = broker_name b; pairs = [] } in
    let n = broker_in c (name_is_legal b good) in
    let same : n.0 ≡ b = same_some n.0 b (sym n.2 ∙ named_back b good) in
    n.1 ∙ ap (λ k. key.BrokerConfig k) same

pub broker_is_good : (b : Option ℤ) → is_legal (key.BrokerConfig b) ≡ true → HasTexts (key.BrokerConfig b) → IsBrokerKey b
unfolding is_legal
broker_is_good b legal texts = (legal, texts)
