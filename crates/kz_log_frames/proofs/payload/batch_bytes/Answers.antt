use Rattle.std.proofs.Common.{sym, subst, map, All}
use Rattle.std.proofs.lemmas.Result.{IfOk-weaker}
use Rattle.kz_laws_values.specs.Texts.{AreBytes}
use Rattle.kz_laws_znodes.specs.ReadBack.{IsReadBack}
use Rattle.kz_log_frames.specs.Payloads.{AreValuesOf}
use Rattle.kz_log_frames.proofs.Growing.{values_read_back}
use Rattle.kz_log_frames.proofs.payload.batch_bytes.Goals as goal

pub batch_of_values-requires-clause-values : goal.batch_of_values-requires-clause-values
batch_of_values-requires-clause-values c =
    subst (λ vs. AreValuesOf c.args.row.now.items (map (λ v. v.items) vs)) (sym c.deref.ensures.value)
    (subst (λ rs. AreValuesOf rs (map (λ v. v.items) c.in_ok-values.values.items)) c.as_slice.ensures c.in_ok-values.ensures.values)

pub batch_of_values-requires-clause-bytes : goal.batch_of_values-requires-clause-bytes
batch_of_values-requires-clause-bytes c = subst (λ vs. All AreBytes (map (λ v. v.items) vs)) (sym c.deref.ensures.value) c.in_ok-values.ensures.bytes

pub returns-clause-records : goal.returns-clause-records
returns-clause-records c =
    let items = c.args.row.now.items in
    let values = map (λ v. v.items) c.in_ok-values.values.items in
    let are = subst (λ rs. AreValuesOf rs values) c.as_slice.ensures c.in_ok-values.ensures.values in
    IfOk-weaker c.batch_of_values.result _ (λ payload. All IsReadBack items) (λ payload h. values_read_back items values are c.in_ok-values.ensures.bytes) c.batch_of_values.ensures
