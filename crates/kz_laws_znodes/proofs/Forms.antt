-- The parts of the paths of topics' znodes.
use Rattle.std.proofs.Common.{◌≡◌, ℕ, ℤ, true, List, [], ◌∷◌, ◌++◌, get_or, ap, ◌∙◌, codes, append_assoc}
use Rattle.std.specs.Fmt.{signed_decimal}
use Rattle.kz_types.specs.declared.key.EntityKey.TheVariants as key
use Rattle.kz_types.specs.PathRule.{parts}
use Rattle.kz_types.specs.Paths.{is_topic_name, is_not_negative, path_of}
use Rattle.kz_spec_data.specs.Rendering.{partitions_path, number_path}
use Rattle.kz_laws_values.specs.TextKeys.{IsSmall}
use Rattle.kz_laws_values.proofs.Parts.{split_part, split_last, topic_has_none, number_has_none}

-- the third part of a path, and the fifth
abbrev pub third : List ℕ → List ℕ
third path = get_or (parts path) 2 []

abbrev pub fifth : List ℕ → List ℕ
fifth path = get_or (parts path) 4 []

module _ (name : List ℕ) (legal : is_topic_name name ≡ true) where
  pub third_of_topic : third (path_of (key.Topic name)) ≡ name
  unfolding path_of
  third_of_topic = ap (λ ps. get_or (codes "brokers" ∷ codes "topics" ∷ ps) 2 []) (split_last name (topic_has_none name legal))

  pub third_of_topic_config : third (path_of (key.TopicConfig name)) ≡ name
  unfolding path_of
  third_of_topic_config = ap (λ ps. get_or (codes "config" ∷ codes "topics" ∷ ps) 2 []) (split_last name (topic_has_none name legal))

  pub third_of_partitions : third (partitions_path name) ≡ name
  unfolding path_of
  third_of_partitions = ap (λ ps. get_or (codes "brokers" ∷ codes "topics" ∷ ps) 2 []) (split_part name (codes "partitions") (topic_has_none name legal))

  pub third_of_number : (number : ℤ) → third (number_path name number) ≡ name
  unfolding path_of
  third_of_number number =
      ap (λ bs. third (codes "/brokers/topics/" ++ bs)) (append_assoc name (codes "/partitions") (codes "/" ++ signed_decimal number))
      ∙ ap (λ ps. get_or (codes "brokers" ∷ codes "topics" ∷ ps) 2 []) (split_part name (codes "partitions/" ++ signed_decimal number) (topic_has_none name legal))

  pub third_of_state : (number : ℤ) → third (path_of (key.Partition name number)) ≡ name
  unfolding path_of
  third_of_state number = ap (λ ps. get_or (codes "brokers" ∷ codes "topics" ∷ ps) 2 []) (split_part name (codes "partitions/" ++ (signed_decimal number ++ codes "/state")) (topic_has_none name legal))

  module _ (number : ℤ) (low : is_not_negative number ≡ true) (small : IsSmall number) where
    pub fifth_of_number : fifth (number_path name number) ≡ signed_decimal number
    unfolding path_of
    fifth_of_number =
        ap (λ bs. fifth (codes "/brokers/topics/" ++ bs)) (append_assoc name (codes "/partitions") (codes "/" ++ signed_decimal number))
        ∙ ap (λ ps. get_or (codes "brokers" ∷ codes "topics" ∷ ps) 4 []) (split_part name (codes "partitions/" ++ signed_decimal number) (topic_has_none name legal))
        ∙ ap (λ ps. get_or (codes "brokers" ∷ codes "topics" ∷ name ∷ codes "partitions" ∷ ps) 4 []) (split_last (signed_decimal number) (number_has_none number low small))

    pub fifth_of_state : fifth (path_of (key.Partition name number)) ≡ signed_decimal number
    unfolding path_of
    fifth_of_state =
        ap (λ ps. get_or (codes "brokers" ∷ codes "topics" ∷ ps) 4 []) (split_part name (codes "partitions/" ++ (signed_decimal number ++ codes "/state")) (topic_has_none name legal))
        ∙ ap (λ ps. get_or (codes "brokers" ∷ codes "topics" ∷ name ∷ codes "partitions" ∷ ps) 4 []) (split_part (signed_decimal number) (codes "state") (number_has_none number low small))
