-- Quotas and credentials in the configurations of clients, users and addresses.
use Rattle.std.specs.Prelude.{ℕ, ◌+◌, ◌==◌, ℤ, pos, int_le, List, [], ◌∷◌, ◌++◌, length, drop, Option, Some, None, option_map, option_and_then, Result, Ok, Err, if◌then◌else◌, codes, bytes_eq}
use Rattle.std.specs.List.{slice_split, starts_with}
use Rattle.std.specs.Bool.{nat_eq}
use Rattle.std.specs.Result.{result_ok}
use Rattle.std.specs.Fmt.{signed_decimal}
use Rattle.base64.specs.Engines.{standard}
use Rattle.base64.specs.GeneralPurpose.{encode_of, decoded_of}
use Rattle.kz_types.specs.Numbers.{canonical}
use Rattle.kz_types.specs.Paths.{is_among}
use Rattle.kz_spec_data.specs.Quotas.{quota_of, quota_text}
use Rattle.kz_types.specs.declared.bodies.Pair.{Pair}
use Rattle.kz_types.specs.declared.bodies.QuotaRow.{QuotaRow}
use Rattle.kz_types.specs.declared.bodies.ScramPair.{ScramPair}
use Rattle.kz_types.specs.declared.row.ScramRow.{ScramRow}
use Rattle.kz_types.specs.declared.row.QuotaValue.{QuotaValue}
use Rattle.kz_types.specs.declared.fault.BodyFault.{BodyFault}
use Rattle.kz_types.specs.declared.fault.BodyFault.TheVariants.{BadField, UnknownKey}
use Rattle.kz_types.specs.declared.key.EntityKey.{EntityKey}
use Rattle.kz_types.specs.declared.key.EntityKey.TheVariants.{Topic, Partition, TopicConfig, BrokerConfig, Client, User, UserClient, Ip, Acl, Producer}

-- ---- the text of a credential

-- what follows a name and `=`, in a piece that begins with them
abbrev pub after_name : List ℕ → List ℕ → Option (List ℕ)
after_name name piece = if starts_with nat_eq piece (name ++ codes "=") then Some (drop (length name + 1) piece) else None

abbrev pub or_else : Option (List ℕ) → Option (List ℕ) → Option (List ℕ)
or_else (Some v) other = Some v
or_else None other = other

-- the value of the first piece of that name
abbrev pub value_of : List ℕ → List (List ℕ) → Option (List ℕ)
value_of name [] = None
value_of name (piece ∷ pieces) = or_else (after_name name piece) (value_of name pieces)

-- the bytes that a member's base64, with its padding, spells
abbrev pub bytes_of : List ℕ → List (List ℕ) → Option (List ℕ)
bytes_of name pieces = option_and_then (decoded_of standard) (value_of name pieces)

-- at least one
abbrev pub iterations_of : List (List ℕ) → Option ℤ
iterations_of pieces = option_and_then
    (λ n. if n == 0 then None else Some (pos n)) (option_and_then canonical (value_of (codes "iterations") pieces))

-- a credential of four pieces, one of each name
abbrev pub credential_of_pieces : List (List ℕ) → Option ScramRow
credential_of_pieces pieces =
    option_and_then (λ salt. option_and_then (λ stored_key. option_and_then (λ server_key. option_map
    (λ iterations. record { salt = salt; stored_key = stored_key; server_key = server_key; iterations = iterations })
    (iterations_of pieces)) (bytes_of (codes "server_key") pieces)) (bytes_of (codes "stored_key") pieces)) (bytes_of (codes "salt") pieces)

-- the credential that a text is: its four members, each once and in any order, with commas between them
unfoldable pub credential_of : List ℕ → Option ScramRow
credential_of text =
    if length (slice_split (λ b. b == 44) text) == 4 then credential_of_pieces (slice_split (λ b. b == 44) text) else None

-- the text of a credential
unfoldable pub credential_text : ScramRow → List ℕ
credential_text row =
    codes "salt=" ++ (encode_of standard row.salt ++ (codes ",stored_key=" ++ (encode_of standard row.stored_key
    ++ (codes ",server_key=" ++ (encode_of standard row.server_key ++ (codes ",iterations=" ++ signed_decimal row.iterations))))))

-- ---- the members of a configuration

-- the quotas of clients and users
abbrev pub client_keys : List (List ℕ)
client_keys = codes "producer_byte_rate" ∷ codes "consumer_byte_rate" ∷ codes "request_percentage" ∷ codes "controller_mutation_rate" ∷ []

-- the quotas that an entity may have
abbrev pub quota_keys : EntityKey → List (List ℕ)
quota_keys (Topic name) = []
quota_keys (Partition topic number) = []
quota_keys (TopicConfig name) = []
quota_keys (BrokerConfig broker) = []
quota_keys (Client client) = client_keys
quota_keys (User user) = client_keys
quota_keys (UserClient user client) = client_keys
quota_keys (Ip address) = codes "connection_creation_rate" ∷ []
quota_keys (Acl pattern kind name) = []
quota_keys Producer = []

-- Kafka's code of a mechanism
abbrev pub mechanism_of : List ℕ → Option ℤ
mechanism_of name =
    if bytes_eq name (codes "SCRAM-SHA-256") then Some (pos 1)
    else if bytes_eq name (codes "SCRAM-SHA-512") then Some (pos 2)
    else None

-- the name of a mechanism
abbrev pub mechanism_name : ℤ → List ℕ
mechanism_name mechanism = if int_le mechanism (pos 1) then codes "SCRAM-SHA-256" else codes "SCRAM-SHA-512"

-- only a user with a name has credentials
abbrev pub credential_key : EntityKey → List ℕ → Option ℤ
credential_key (Topic topic) name = None
credential_key (Partition topic number) name = None
credential_key (TopicConfig topic) name = None
credential_key (BrokerConfig broker) name = None
credential_key (Client client) name = None
credential_key (User None) name = None
credential_key (User (Some user)) name = mechanism_of name
credential_key (UserClient user client) name = None
credential_key (Ip address) name = None
credential_key (Acl pattern kind resource) name = None
credential_key Producer name = None

-- What a configuration says: quotas and credentials.
pub record Entries : Type 0 where
  pub quotas : List QuotaRow
  pub scrams : List ScramPair

-- an entry of a credential, or the fault of its name
abbrev pub credential_entry : List ℕ → ℤ → Option ScramRow → Result Entries BodyFault
credential_entry name mechanism None = Err (BadField name)
credential_entry name mechanism (Some row) = Ok (record { quotas = []; scrams = record { mechanism = mechanism; value = row } ∷ [] })

-- an entry of a quota, or the fault of its name
abbrev pub quota_entry : List ℕ → Option QuotaValue → Result Entries BodyFault
quota_entry name None = Err (BadField name)
quota_entry name (Some value) = Ok (record { quotas = record { key = name; value = value } ∷ []; scrams = [] })

-- where the name is no mechanism's, it is a quota's or unknown
abbrev pub entry_by : EntityKey → Pair → Option ℤ → Result Entries BodyFault
entry_by key pair (Some mechanism) = credential_entry pair.name mechanism (credential_of pair.value)
entry_by key pair None =
    if is_among (quota_keys key) pair.name then quota_entry pair.name (result_ok (quota_of pair.value)) else Err (UnknownKey pair.name)

-- what one member of a configuration says
abbrev pub entry_of : EntityKey → Pair → Result Entries BodyFault
entry_of key pair = entry_by key pair (credential_key key pair.name)

abbrev pub entries_of_both : Entries → Entries → Entries
entries_of_both a b = record { quotas = a.quotas ++ b.quotas; scrams = a.scrams ++ b.scrams }

-- the first fault, or both
abbrev pub both : Result Entries BodyFault → Result Entries BodyFault → Result Entries BodyFault
both (Err fault) others = Err fault
both (Ok a) (Err fault) = Err fault
both (Ok a) (Ok b) = Ok (entries_of_both a b)

-- what the members of a configuration say, or the fault of the first member at fault
unfoldable pub entries_of : EntityKey → List Pair → Result Entries BodyFault
entries_of key [] = Ok (record { quotas = []; scrams = [] })
entries_of key (pair ∷ pairs) = both (entry_of key pair) (entries_of key pairs)

-- the members that are written for quotas
abbrev pub quota_pair : QuotaRow → Pair
quota_pair row = record { name = row.key; value = quota_text row.value }

-- the members that are written for credentials
abbrev pub credential_pair : ScramPair → Pair
credential_pair pair = record { name = mechanism_name pair.mechanism; value = credential_text pair.value }
