-- The keys of which the laws of paths speak.
use Rattle.std.specs.Prelude.{◌≡◌, ⊤, ℕ, true, ℤ, pos, ◌≤ℤ◌, List, IfSome}
use Rattle.std.specs.Str.{is_utf8}
use Rattle.kz_types.specs.declared.limits.TheConstants.{MAX_NUMBER}
use Rattle.kz_types.specs.declared.key.EntityKey.{EntityKey}
use Rattle.kz_types.specs.declared.key.EntityKey.TheVariants.{Topic, Partition, TopicConfig, BrokerConfig, Client, User, UserClient, Ip, Acl, Producer}

-- bytes that are a text
abbrev pub IsText : List ℕ → Type 0
IsText name = is_utf8 name ≡ true

-- a number that isn't too large for a canonical decimal
abbrev pub IsSmall : ℤ → Type 0
IsSmall n = n ≤ℤ pos MAX_NUMBER

-- a key whose names are texts and whose numbers are small, as those of the code are
abbrev pub HasTexts : EntityKey → Type 0
HasTexts (Topic name) = IsText name
HasTexts (Partition topic number) = IsText topic × IsSmall number
HasTexts (TopicConfig name) = IsText name
HasTexts (BrokerConfig broker) = IfSome broker IsSmall
HasTexts (Client client) = IfSome client IsText
HasTexts (User user) = IfSome user IsText
HasTexts (UserClient user client) = IfSome user IsText × IfSome client IsText
HasTexts (Ip address) = IfSome address IsText
HasTexts (Acl pattern kind name) = IsText name
HasTexts Producer = ⊤
