-- The path of a broker's configuration keeps the rule of paths.
use Rattle.std.proofs.Common.{◌≡◌, ℕ, ◌<◌, ◌≤◌, pos, true, List, [], ◌∷◌, ◌++◌, Option, Some, None, option_map, codes, decimal, length, refl, arith}
use Rattle.std.specs.List.{list_all}
use Rattle.std.proofs.lemmas.Fmt.{length-decimal-le}
use Rattle.std.proofs.lemmas.Int.{ints}
use Rattle.kz_types.specs.Numbers.{canonical, is_digit}
use Rattle.kz_types.specs.PathRule.{is_path}
use Rattle.kz_types.specs.Paths.{path_of, is_legal, has_path}
use Rattle.kz_types.specs.declared.key.EntityKey.TheVariants.{BrokerConfig}
use Rattle.kz_types.proofs.OnLiterals.{values_on_literals}
use Rattle.kz_types.proofs.NumberLemmas.{canonical_sound, canonical_complete, canonical_digits}
use Rattle.kz_spec_data.specs.Rendering.{broker_key}
use Rattle.kz_render.proofs.PathForms.{is_ascii_part, digits_are_part, joined_is_path}

-- the path of a broker's configuration, whose name is digits
digits_path : (bs : List ℕ) → list_all is_digit bs ≡ true → 0 < length bs → length bs ≤ 1000 → is_path (codes "/config/brokers/" ++ bs) ≡ true
digits_path bs h some few =
    let part : is_ascii_part bs ≡ true = digits_are_part bs h some in
    let all : list_all is_ascii_part (codes "config" ∷ codes "brokers" ∷ bs ∷ []) ≡ true = rw part refl in
    joined_is_path (codes "config") (codes "brokers" ∷ bs ∷ []) all (omega (arith, few))

-- one key of a broker's configuration
key_path : (found : Option ℕ) → ((n : ℕ) → found ≡ Some n → n ≤ 2147483647) → is_path (path_of (BrokerConfig (option_map pos found))) ≡ true
unfolding values_on_literals
key_path None h = refl
key_path (Some n) h = one n (h n refl)
  where
    one : (n : ℕ) → n ≤ 2147483647 → is_path (codes "/config/brokers/" ++ decimal n) ≡ true
    one n few =
        let digits = canonical_digits (decimal n) n (canonical_complete n few) in
        digits_path (decimal n) digits.0 digits.1 (omega (arith, length-decimal-le 10 n (omega arith) (omega arith) (omega arith)))

-- the path of every broker's configuration keeps the rule of paths
pub broker_rule : (name : List ℕ) → has_path (broker_key name) ≡ true
unfolding has_path values_on_literals
broker_rule [] = refl
broker_rule (b ∷ bs) = key_path (canonical (b ∷ bs)) (λ n is. (canonical_sound (b ∷ bs) n is).1)

legal_key : (found : Option ℕ) → is_legal (BrokerConfig (option_map pos found)) ≡ true
unfolding is_legal
legal_key None = refl
legal_key (Some n) = grind (arith, ints)

-- and its key is legal
pub broker_legal : (name : List ℕ) → is_legal (broker_key name) ≡ true
unfolding is_legal
broker_legal [] = refl
broker_legal (b ∷ bs) = legal_key (canonical (b ∷ bs))
