-- Which values are quotas.
use Rattle.std.specs.Prelude.{Bool, ◌&&◌, pos, int_le}
use Rattle.kz_types.specs.declared.row.QuotaValue.{QuotaValue}

-- a whole part that isn't negative, and millionths of 0 to 999,999
abbrev pub is_quota : QuotaValue → Bool
is_quota q = int_le (pos 0) q.whole && int_le (pos 0) q.micros && int_le q.micros (pos 999999)
