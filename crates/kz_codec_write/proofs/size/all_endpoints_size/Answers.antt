use Rattle.std.proofs.Common.{◌≡◌, ◌+◌, ◌++◌, ◌∷◌, [], length, take, ap, sym, ◌∙◌, arith}
use Rattle.std.proofs.lemmas.List.{take_more, length-append}
use Rattle.kz_spec_data.specs.Forms.{items_written}
use Rattle.kz_spec_data.specs.Records.{endpoint}
use Rattle.kz_codec_write.proofs.Appends.{items_written_push}
use Rattle.kz_codec_write.proofs.size.all_endpoints_size.Goals as goal

pub loop-item-preserved : goal.loop-item-preserved
loop-item-preserved c =
    let xs = c.args.items.now in
    let i = c.loop-item.item-index in
    let z = c.item-item.result in
    let front = items_written endpoint.written (take i xs) in
    let more : take (i + 1) xs ≡ take i xs ++ z ∷ [] = take_more xs i z c.loop-item-test.true ∙ ap (λ y. take i xs ++ y ∷ []) (sym c.item-item.is) in
    let all : items_written endpoint.written (take (i + 1) xs) ≡ front ++ endpoint.written z = ap (items_written endpoint.written) more ∙ items_written_push endpoint.written (take i xs) z in
    let n : length (items_written endpoint.written (take (i + 1) xs)) ≡ length front + length (endpoint.written z) = ap length all ∙ length-append front (endpoint.written z) in
    record { size = omega arith; bound = omega arith }
