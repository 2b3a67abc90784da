use Rattle.std.proofs.Common.{arith}
use Rattle.kz_log_frames.proofs.payload.batch_of_values.Goals as goal

pub long_batch-requires-clause-size : goal.long_batch-requires-clause-size
long_batch-requires-clause-size c = c.batch_size-size.ensures

pub short_batch-requires-clause-few : goal.short_batch-requires-clause-few
short_batch-requires-clause-few c = λ first epoch time. let size = c.batch_size-size.ensures first epoch time in omega (arith, size)
