use Rattle.std.proofs.Common.{◌∙◌, [], ◌∷◌, ap, map, subst}
use Rattle.std.proofs.lemmas.List.{map-append}
use Rattle.kz_laws_values.specs.Texts.{AreBytes}
use Rattle.kz_log_frames.proofs.Payloads.{values_more, bytes_more}
use Rattle.kz_log_frames.proofs.payload.all_values.Goals as goal

pub loop-item-preserved : goal.loop-item-preserved
loop-item-preserved c =
    let value = c.in_ok-value.value in
    let more = ap (map (λ v. v.items)) c.in_ok-push.ensures.items ∙ map-append (λ v. v.items) c.loop-item.values.items (value ∷ []) in
    record {
      values = values_more c.args.items.now c.loop-item.item-index c.item-item.result (map (λ v. v.items) c.loop-item.values.items) (map (λ v. v.items) c.push.new.self.items) value.items c.loop-item-test.true c.item-item.is more c.loop-item.invariant.values c.in_ok-value.ensures;
      bytes = bytes_more (map (λ v. v.items) c.loop-item.values.items) (map (λ v. v.items) c.push.new.self.items) value.items more c.loop-item.invariant.bytes (subst AreBytes c.deref.ensures.value c.are_bytes.ensures);
    }
