-- How many znodes there are, how many bytes of data they have, and how many have too long data.
use Rattle.std.specs.Prelude.{◌+◌, ℕ, List, length, Option, Some, None, nat_lt, if◌then◌else◌}
use Rattle.std.specs.List.{count_by, sum_by}
use Rattle.kz_types.specs.declared.limits.Limit.TheVariants as limits
use Rattle.kz_types.specs.Limits.{number_of_limit}
use Rattle.kz_types.specs.declared.limits.TheConstants.{MAX_BODIES_BYTES, MAX_ZNODES}
use Rattle.kz_types.specs.declared.tree.Rendered.{Rendered}
use Rattle.kz_spec_data.specs.Rendering.{is_long}
use Rattle.kz_counted_view.specs.declared.counts.Counts.{Counts}

-- the counts of these znodes
abbrev pub counts_of : List Rendered → Counts
counts_of rs = record { long = count_by is_long rs; znodes = length rs; bytes = sum_by (λ (r : Rendered). length r.body) rs }

-- the counts of two lists of znodes together
abbrev pub sum_of : Counts → Counts → Counts
sum_of a b = record { long = a.long + b.long; znodes = a.znodes + b.znodes; bytes = a.bytes + b.bytes }

-- the number of the first limit that znodes of these counts pass, if any
abbrev pub limit_of_counts : Counts → Option ℕ
limit_of_counts c =
    if nat_lt 0 c.long then Some (number_of_limit limits.BodyBytes)
    else (if nat_lt MAX_ZNODES c.znodes then Some (number_of_limit limits.MigratedZnodes)
    else (if nat_lt MAX_BODIES_BYTES c.bytes then Some (number_of_limit limits.BodiesBytes)
    else None))
