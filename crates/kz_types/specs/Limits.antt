-- The numbers by which replies, refusals and statuses name a limit.
use Rattle.std.specs.Prelude.{ℕ}
use Rattle.kz_types.specs.declared.limits.Limit.{Limit}
use Rattle.kz_types.specs.declared.limits.Limit.TheVariants as limit

abbrev pub number_of_limit : Limit → ℕ
number_of_limit limit.PathBytes = 1
number_of_limit limit.BodyBytes = 2
number_of_limit limit.MigratedZnodes = 3
number_of_limit limit.OtherZnodes = 4
number_of_limit limit.Version = 5
number_of_limit limit.BodiesBytes = 6
number_of_limit limit.Records = 7
number_of_limit limit.ChangeRecords = 8
number_of_limit limit.Controllers = 9
number_of_limit limit.LineBytes = 10
number_of_limit limit.InputBytes = 11
number_of_limit limit.TreeFileBytes = 12
number_of_limit limit.LogFileBytes = 13
number_of_limit limit.Generated = 14
number_of_limit limit.Epoch = 15
number_of_limit limit.Long = 17
