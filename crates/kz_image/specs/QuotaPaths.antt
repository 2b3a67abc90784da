-- What the paths of quotas are, in metadata that a program holds.
use Rattle.std.specs.Prelude.{◌≡◌, true, is_some}
use Rattle.kz_types.specs.declared.image.QuotaEntry.{QuotaEntry}
use Rattle.kz_types.specs.Paths.{key_of}

-- The path is read as that of an entity.
abbrev pub IsEntityRead : QuotaEntry → Type 0
IsEntityRead q = is_some (key_of q.path) ≡ true
