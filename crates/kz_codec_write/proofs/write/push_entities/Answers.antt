use Rattle.std.proofs.Common.{◌≡◌, ◌+◌, ◌++◌, ◌∷◌, [], List, ℕ, take, ap, sym, ◌∙◌, append_assoc}
use Rattle.std.proofs.lemmas.List.{take_more}
use Rattle.kz_spec_data.specs.Forms.{items_written}
use Rattle.kz_spec_data.specs.Records.{quota_entity, ShortEntity}
use Rattle.kz_codec_write.proofs.Appends.{AllFit_at, items_written_push}
use Rattle.kz_codec_write.proofs.write.push_entities.Goals as goal

pub put_quota_entity-requires : goal.put_quota_entity-requires
put_quota_entity-requires c = rw c.item-item.is (AllFit_at ShortEntity c.args.items.now c.loop-item.item-index c.item-item.result c.requires c.loop-item-test.true)

pub loop-item-preserved : goal.loop-item-preserved
loop-item-preserved c =
    let xs = c.args.items.now in
    let i = c.loop-item.item-index in
    let z = c.item-item.result in
    let old = c.args.out.now.items in
    let front = items_written quota_entity.written (take i xs) in
    let more : take (i + 1) xs ≡ take i xs ++ z ∷ [] = take_more xs i z c.loop-item-test.true ∙ ap (λ y. take i xs ++ y ∷ []) (sym c.item-item.is) in
    c.in_ok-put_quota_entity.ensures ∙ ap (λ (l : List ℕ). l ++ quota_entity.written z) c.loop-item.invariant ∙ append_assoc old front (quota_entity.written z)
    ∙ ap (λ (l : List ℕ). old ++ l) (sym (items_written_push quota_entity.written (take i xs) z) ∙ ap (items_written quota_entity.written) (sym more))
