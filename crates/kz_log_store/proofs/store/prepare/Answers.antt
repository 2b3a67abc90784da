use Rattle.std.proofs.Common.{w32, w64}
use Rattle.std.proofs.lemmas.Int.{to_z-of_z}
use Rattle.kz_log_store.proofs.Changing.{row_is}
use Rattle.kz_log_store.proofs.store.prepare.Goals as goal

pub returns-clause-row : goal.returns-clause-row
returns-clause-row c =
    row_is c.args.rows.now _ c.args.items.now c.args.epoch c.args.now _ _ (to_z-of_z w32 c.args.epoch c.ranges.epoch) (to_z-of_z w64 c.args.now c.ranges.now) c.in_ok-row.ensures
