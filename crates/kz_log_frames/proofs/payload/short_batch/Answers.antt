use Rattle.std.proofs.Common.{◌∙◌, ◌∷◌, ap, map, pos, rules, to_z, of_z, w32, w64, arith}
use Rattle.std.proofs.lemmas.Int.{to_z-of_z}
use Rattle.std.proofs.lemmas.Result.{IfOk-weaker}
use mir.Val.{SFits}
use Rattle.kz_log_frames.specs.Payloads.{IsPayloadOf}
use Rattle.kz_log_frames.proofs.FewBytes.{batch_fits}
use Rattle.kz_log_frames.proofs.Payloads.{written_for}
use Rattle.kz_log_frames.proofs.payload.short_batch.Goals as goal

pub write_batch-requires : goal.write_batch-requires
write_batch-requires c = let few = c.requires.few (pos 0) (pos 0) (pos 0) in batch_fits (map (λ v. v.items) c.args.values.now) (omega (arith, few))

pub returns : goal.returns
returns c =
    let b = c.args.row.now in
    let first : SFits w64 b.first = search rules in
    let epoch : SFits w32 b.epoch = search rules in
    let time : SFits w64 b.time = search rules in
    IfOk-weaker c.with_kind.result _ (λ payload. IsPayloadOf b payload.items)
    (λ made h.
    written_for b (map (λ v. v.items) c.args.values.now) made.items _ _ _ (to_z-of_z w64 b.first first) (to_z-of_z w32 b.epoch epoch) (to_z-of_z w64 b.time time) first epoch time
    c.requires.values c.requires.bytes (h ∙ ap (λ z. 1 ∷ z) (c.deref.ensures.value ∙ c.in_ok-bytes.ensures)) (c.requires.few (to_z w64 (of_z w64 b.first)) (to_z w32 (of_z w32 b.epoch)) (to_z w64 (of_z w64 b.time))) c.written_batch_is_spelled.ensures.accepted)
    c.with_kind.ensures
