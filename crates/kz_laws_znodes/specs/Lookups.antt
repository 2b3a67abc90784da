-- Look-ups at a path, and what the rendering has there.
use Rattle.std.specs.Prelude.{◌≡◌, ℕ, true, List, is_some, All}
use Rattle.kz_types.specs.declared.image.TopicEntry.{TopicEntry}
use Rattle.kz_types.specs.declared.image.PartitionEntry.{PartitionEntry}
use Rattle.kz_types.specs.declared.image.QuotaEntry.{QuotaEntry}
use Rattle.kz_types.specs.declared.image.ScramEntry.{ScramEntry}
use Rattle.kz_types.specs.Paths.{is_path, key_of}
use Rattle.kz_spec_data.specs.Metadata.{Image}
use Rattle.kz_spec_data.specs.InOrder.{IsInOrder}
use Rattle.kz_spec_data.specs.Rendering.{body_at_path}
use Rattle.kz_spec_data.specs.Lookups.{body_at}
use Rattle.kz_laws_znodes.specs.RoundTrip.{FitsInt, IsText, IsWritable}

-- At each path that keeps the rule of paths, the rendering of metadata has the data that the look-ups find, and none where they find none.
abbrev pub RenderedAt : Type 0
RenderedAt = (i : Image) → IsInOrder i → IsWritable i → (path : List ℕ) → is_path path ≡ true → body_at_path i path ≡ body_at i path

-- The numbers of partitions fit 32 bits, the paths of entities with quotas are read as those of entities, and the names of users are texts.
-- So the key of each of these is read from its path.
pub record AreKeysRead (i : Image) : Type 0 where
  pub numbers : All (λ (t : TopicEntry). All (λ (p : PartitionEntry). FitsInt p.number) t.partitions) i.topics
  pub quotas : All (λ (q : QuotaEntry). is_some (key_of q.path) ≡ true) i.quotas
  pub users : All (λ (u : ScramEntry). IsText u.name) i.users

-- The same of metadata of which no more is known than that keys are read. Bodies need not be such as can be written.
abbrev pub RenderedWhereRead : Type 0
RenderedWhereRead = (i : Image) → IsInOrder i → AreKeysRead i → (path : List ℕ) → is_path path ≡ true → body_at_path i path ≡ body_at i path
