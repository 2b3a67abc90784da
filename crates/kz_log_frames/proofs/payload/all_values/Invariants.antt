use Rattle.std.proofs.Common.{take, map, All}
use Rattle.kz_laws_values.specs.Texts.{AreBytes}
use Rattle.kz_log_frames.specs.Payloads.{AreValuesOf}
use Rattle.kz_log_frames.proofs.payload.all_values.Given as goal

abbrev pub invariant-loop-item : goal.invariant-loop-item
invariant-loop-item l = record {
  values : AreValuesOf (take l.item-index l.items) (map (λ v. v.items) l.values.items);
  bytes : All AreBytes (map (λ v. v.items) l.values.items);
}
