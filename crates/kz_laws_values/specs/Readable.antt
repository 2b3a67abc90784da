-- The bodies that are read as they were written.
use Rattle.std.specs.Prelude.{◌≡◌, ⊤, ℕ, true, false, ℤ, pos, negsuc, ◌<ℤ◌, ◌≤ℤ◌, List, [], ◌∷◌, length, map, bytes_eq, Some}
use Rattle.std.specs.Str.{is_utf8}
use Rattle.std.specs.declared.cmp.Ordering.TheVariants.{Less}
use Rattle.kz_types.specs.Order.{bytes_cmp}
use Rattle.base64.specs.GeneralPurpose.{IsBytes}
use Rattle.kz_types.specs.declared.limits.TheConstants.{MAX_NUMBER}
use Rattle.kz_types.specs.Ids.{zero_id}
use Rattle.kz_types.specs.declared.id.Id.{Id}
use Rattle.kz_types.specs.declared.bodies.AssignmentRow.{AssignmentRow}
use Rattle.kz_types.specs.Paths.{is_among}
use Rattle.kz_types.specs.Quotas.{is_quota}
use Rattle.kz_types.specs.declared.bodies.QuotaRow.{QuotaRow}
use Rattle.kz_types.specs.declared.bodies.ScramPair.{ScramPair}
use Rattle.kz_types.specs.declared.key.EntityKey.{EntityKey}
use Rattle.kz_spec_data.specs.Credentials.{quota_keys, credential_key, mechanism_name, quota_pair, credential_pair}
use Rattle.kz_spec_data.specs.Bodies.{are_replicas, are_some_of}
use Rattle.kz_types.specs.declared.row.AclRow.{AclRow}
use Rattle.kz_types.specs.declared.row.ScramRow.{ScramRow}
use Rattle.kz_types.specs.declared.bodies.Pair.{Pair}
use Rattle.kz_laws_values.specs.Ranges.{IsBetween}

-- bytes that are a text
abbrev pub IsText : List ℕ → Type 0
IsText bytes = is_utf8 bytes ≡ true

-- ---- configurations

-- pairs whose names and values are texts
abbrev pub AreTexts : List Pair → Type 0
AreTexts [] = ⊤
AreTexts (pair ∷ pairs) = IsText pair.name × IsText pair.value × AreTexts pairs

-- a name below the name of each pair
abbrev pub IsBelow : List ℕ → List Pair → Type 0
IsBelow name [] = ⊤
IsBelow name (pair ∷ pairs) = (bytes_cmp name pair.name ≡ Less) × IsBelow name pairs

-- pairs that rise by name
abbrev pub AreRising : List Pair → Type 0
AreRising [] = ⊤
AreRising (pair ∷ pairs) = IsBelow pair.name pairs × AreRising pairs

-- A configuration of texts, by rising name.
pub record IsConfiguration (pairs : List Pair) : Type 0 where
  pub texts : AreTexts pairs
  pub rising : AreRising pairs

-- ---- partitions

-- a number from 0 to the greatest of 32 bits
abbrev pub IsWhole : ℤ → Type 0
IsWhole n = IsBetween (pos 0) (pos MAX_NUMBER) n

-- ids of brokers
abbrev pub AreBrokers : List ℤ → Type 0
AreBrokers [] = ⊤
AreBrokers (id ∷ ids) = IsWhole id × AreBrokers ids

-- The state of a partition: its leader is from -2 to the greatest of 32 bits, and its recovery is 0 or 1.
pub record IsState (leader leader_epoch controller_epoch : ℤ) (isr : List ℤ) (recovery : ℤ) : Type 0 where
  pub leader_is : IsBetween (negsuc 1) (pos MAX_NUMBER) leader
  pub leader_epoch_is : IsWhole leader_epoch
  pub controller_epoch_is : IsWhole controller_epoch
  pub isr_is : AreBrokers isr
  pub recovery_is : IsBetween (pos 0) (pos 1) recovery

-- ---- producer ids

-- a number from 0 to 9223372036854775807
abbrev pub IsOffset : ℤ → Type 0
IsOffset n = IsBetween (pos 0) (pos 9223372036854775807) n

-- A block of producer ids: its broker is from -1 to the greatest of 32 bits.
pub record IsBlock (broker start end : ℤ) : Type 0 where
  pub broker_is : IsBetween (negsuc 0) (pos MAX_NUMBER) broker
  pub start_is : IsOffset start
  pub end_is : IsOffset end

-- ---- access control entries

-- An entry of this resource, with the codes of an operation and of a permission.
pub record IsEntry (pattern kind : ℤ) (name : List ℕ) (row : AclRow) : Type 0 where
  pub pattern_is : row.pattern ≡ pattern
  pub kind_is : row.kind ≡ kind
  pub name_is : row.name ≡ name
  pub principal_is : IsText row.principal
  pub host_is : IsText row.host
  pub operation_is : IsBetween (pos 2) (pos 12) row.operation
  pub permission_is : IsBetween (pos 2) (pos 3) row.permission

-- entries of this resource
abbrev pub AreEntries : ℤ → ℤ → List ℕ → List AclRow → Type 0
AreEntries pattern kind name [] = ⊤
AreEntries pattern kind name (row ∷ rows) = IsEntry pattern kind name row × AreEntries pattern kind name rows

-- ---- topics

-- a number below the number of each partition
abbrev pub IsBefore : ℤ → List AssignmentRow → Type 0
IsBefore n [] = ⊤
IsBefore n (row ∷ rows) = (n <ℤ row.number) × IsBefore n rows

-- partitions that rise by number
abbrev pub AreInOrder : List AssignmentRow → Type 0
AreInOrder [] = ⊤
AreInOrder (row ∷ rows) = IsBefore row.number rows × AreInOrder rows

-- A partition: some replicas, none twice, and what is added and removed is among them, none twice.
pub record IsPartition (row : AssignmentRow) : Type 0 where
  pub number_is : IsWhole row.number
  pub brokers_are : AreBrokers row.replicas
  pub replicas_are : are_replicas row.replicas ≡ true
  pub adding_are : are_some_of row.replicas row.adding ≡ true
  pub removing_are : are_some_of row.replicas row.removing ≡ true

-- such partitions
abbrev pub ArePartitions : List AssignmentRow → Type 0
ArePartitions [] = ⊤
ArePartitions (row ∷ rows) = IsPartition row × ArePartitions rows

-- An assignment: an id of 16 bytes that isn't zero, and partitions by rising number.
pub record IsAssignment (id : Id) (rows : List AssignmentRow) : Type 0 where
  pub bytes_are : IsBytes id.bytes
  pub length_is : length id.bytes ≡ 16
  pub id_is : bytes_eq id.bytes zero_id ≡ false
  pub order : AreInOrder rows
  pub rows_are : ArePartitions rows

-- ---- quotas and credentials

-- A quota that this entity may have, whose whole part fits 64 bits.
pub record IsQuota (key : EntityKey) (row : QuotaRow) : Type 0 where
  pub name_is : is_among (quota_keys key) row.key ≡ true
  pub value_is : is_quota row.value ≡ true
  pub whole_fits : row.value.whole ≤ℤ pos 9223372036854775807

-- such quotas
abbrev pub AreQuotas : EntityKey → List QuotaRow → Type 0
AreQuotas key [] = ⊤
AreQuotas key (row ∷ rows) = IsQuota key row × AreQuotas key rows

-- A credential of bytes, whose iterations are from 1 to the greatest of 32 bits.
pub record IsScram (row : ScramRow) : Type 0 where
  pub salt_is : IsBytes row.salt
  pub stored_key_is : IsBytes row.stored_key
  pub server_key_is : IsBytes row.server_key
  pub iterations_are : IsBetween (pos 1) (pos MAX_NUMBER) row.iterations

-- A credential that this entity may have.
pub record IsCredential (key : EntityKey) (pair : ScramPair) : Type 0 where
  pub mechanism_is : credential_key key (mechanism_name pair.mechanism) ≡ Some pair.mechanism
  pub value_is : IsScram pair.value

-- such credentials
abbrev pub AreCredentials : EntityKey → List ScramPair → Type 0
AreCredentials key [] = ⊤
AreCredentials key (pair ∷ pairs) = IsCredential key pair × AreCredentials key pairs

-- The quotas and the credentials of an entity, each by rising name.
pub record IsQuotaBody (key : EntityKey) (quotas : List QuotaRow) (scrams : List ScramPair) : Type 0 where
  pub quotas_are : AreQuotas key quotas
  pub scrams_are : AreCredentials key scrams
  pub quotas_rise : AreRising (map quota_pair quotas)
  pub scrams_rise : AreRising (map credential_pair scrams)
