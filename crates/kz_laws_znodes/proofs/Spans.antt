-- Which paths a key spans.
use Rattle.std.proofs.Common.{ℕ, ℤ, List, [], ◌∷◌, Contains}
use Rattle.std.proofs.lemmas.List.Elements.{Contains-append_left}
use Rattle.kz_types.specs.declared.key.EntityKey.{EntityKey}
use Rattle.kz_types.specs.declared.key.EntityKey.TheVariants as key
use Rattle.kz_types.specs.Paths.{path_of}
use Rattle.kz_types.proofs.Lookup.{Contains-head, Contains-tail}
use Rattle.kz_spec_data.specs.Rendering.{partitions_path, number_path}
use Rattle.kz_spec_data.specs.Spans.{spanned_paths, clients_path}

pub second_of : {A : Type 0} (a x : A) (rest : List A) → Contains (a ∷ x ∷ rest) x
second_of a x rest = Contains-tail a (x ∷ rest) x (Contains-head x rest)

pub third_of : {A : Type 0} (a b x : A) (rest : List A) → Contains (a ∷ b ∷ x ∷ rest) x
third_of a b x rest = Contains-tail a (b ∷ x ∷ rest) x (second_of b x rest)

pub fourth_of : {A : Type 0} (a b c x : A) (rest : List A) → Contains (a ∷ b ∷ c ∷ x ∷ rest) x
fourth_of a b c x rest = Contains-tail a (b ∷ c ∷ x ∷ rest) x (third_of b c x rest)

-- a key spans its own path
pub own_path : (k : EntityKey) → Contains (spanned_paths k) (path_of k)
own_path (key.Topic name) = Contains-head (path_of (key.Topic name)) (partitions_path name ∷ [])
own_path (key.Partition topic number) = fourth_of (path_of (key.Topic topic)) (partitions_path topic) (number_path topic number) (path_of (key.Partition topic number)) []
own_path (key.TopicConfig name) = Contains-head (path_of (key.TopicConfig name)) []
own_path (key.BrokerConfig broker) = Contains-head (path_of (key.BrokerConfig broker)) []
own_path (key.Client client) = Contains-head (path_of (key.Client client)) []
own_path (key.User user) = Contains-head (path_of (key.User user)) []
own_path (key.UserClient user client) = third_of (path_of (key.User user)) (clients_path (key.User user)) (path_of (key.UserClient user client)) []
own_path (key.Ip address) = Contains-head (path_of (key.Ip address)) []
own_path (key.Acl pattern kind name) = Contains-head (path_of (key.Acl pattern kind name)) []
own_path key.Producer = Contains-head (path_of key.Producer) []

-- a topic spans the parent of its partitions, and a partition its number
pub partitions_spanned : (name : List ℕ) → Contains (spanned_paths (key.Topic name)) (partitions_path name)
partitions_spanned name = second_of (path_of (key.Topic name)) (partitions_path name) []

pub number_spanned : (name : List ℕ) (number : ℤ) → Contains (spanned_paths (key.Partition name number)) (number_path name number)
number_spanned name number = third_of (path_of (key.Topic name)) (partitions_path name) (number_path name number) (path_of (key.Partition name number) ∷ [])

-- a partition spans what its topic does
pub topic_within : (name : List ℕ) (number : ℤ) (p : List ℕ) → Contains (spanned_paths (key.Topic name)) p → Contains (spanned_paths (key.Partition name number)) p
topic_within name number p within = Contains-append_left (spanned_paths (key.Topic name)) (number_path name number ∷ path_of (key.Partition name number) ∷ []) p within
