use Rattle.std.proofs.lemmas.Result.{IfOk-weaker}
use Rattle.kz_view_delta.proofs.Covered.{of_records}
use Rattle.kz_view_delta.proofs.keys.keys_of_applied.Goals as goal

pub returns : goal.returns
returns c = IfOk-weaker c.touched_by.result _ _ (λ ks made. of_records c.args.before.now c.args.after.now c.is_held.ensures c.is_held-2.ensures c.args.records.now c.requires ks made) c.touched_by.ensures
