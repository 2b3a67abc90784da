use Rattle.std.proofs.Common.{◌≡◌, ◌+◌, List, ◌∷◌, length, take, reverse, ap, ◌∙◌, arith}
use Rattle.kz_disk.specs.declared.changes.Change.{Change}
use Rattle.kz_disk.specs.declared.changes.Change.TheVariants.{Wrote, Synced}
use Rattle.kz_disk.specs.Changes.{crash_image, contents_after}
use Rattle.kz_disk.proofs.Images.{one_more, next_write, next_write_in_image}
use Rattle.kz_disk.proofs.image.crash_image.Goals.{in-Wrote+in_ok-left-in-Wrote+in_ok-put_piece-in-Wrote+in_ok-put_piece-in-Wrote-2, in-Synced+in_ok-image-in-Synced}
use Rattle.kz_disk.proofs.image.crash_image.Goals as goal

pub put_piece-requires : goal.put_piece-requires
put_piece-requires c =
    let room = next_write c.args.start.now c.args.changes.now c.loop-change.change-index c.change-item.result c.in-Wrote.at c.in-Wrote.piece c.loop-change-test.true c.change-item.is c.in-Wrote.is c.requires in
    omega (arith, room, ap length c.loop-change.invariant.contents, c.loop-change.contents.ok.0)

pub put_piece-requires-in-Wrote : goal.put_piece-requires-in-Wrote
put_piece-requires-in-Wrote c =
    let room = next_write_in_image c.args.fill c.args.start.now c.args.changes.now c.loop-change.change-index c.change-item.result c.in-Wrote.at c.in-Wrote.piece c.loop-change-test.true c.change-item.is c.in-Wrote.is c.requires in
    omega (arith, room, ap length c.loop-change.invariant.image, c.loop-change.image.ok.0)

pub loop-change-preserved : goal.loop-change-preserved
loop-change-preserved c =
    let start = c.args.start.now in
    let older : List Change = reverse (take c.loop-change.change-index c.args.changes.now) in
    let newest : reverse (take (c.loop-change.change-index + 1) c.args.changes.now) ≡ c.change-item.result ∷ older =
    one_more c.args.changes.now c.loop-change.change-index c.change-item.result c.loop-change-test.true c.change-item.is in
    elim c.match-change.branch [
      | in-Wrote+in_ok-left-in-Wrote+in_ok-put_piece-in-Wrote+in_ok-put_piece-in-Wrote-2 w ↦
          let newer : reverse (take (c.loop-change.change-index + 1) c.args.changes.now) ≡ Wrote w.in-Wrote.at w.in-Wrote.piece ∷ older = newest ∙ ap (λ (x : Change). x ∷ older) w.in-Wrote.is in
          record {
            contents = grind (arith, w.contents-is, w.in_ok-put_piece-in-Wrote.ensures.ok, w.deref-in-Wrote.ensures.value, c.loop-change.invariant.contents, ap (contents_after start) newer);
            image = grind (arith, w.image-is, w.in_ok-put_piece-in-Wrote-2.ensures.ok, w.deref-in-Wrote-2.ensures.value, w.in_ok-left-in-Wrote.ensures, w.deref.ensures.value, c.loop-change.invariant.image, ap (crash_image c.args.fill start) newer);
          }
      | in-Synced+in_ok-image-in-Synced w ↦
          let newer : reverse (take (c.loop-change.change-index + 1) c.args.changes.now) ≡ Synced ∷ older = newest ∙ ap (λ (x : Change). x ∷ older) w.in-Synced.is in
          record {
            contents = grind (arith, w.contents-is, c.loop-change.invariant.contents, ap (contents_after start) newer);
            image = grind (arith, w.image-is, w.in_ok-image-in-Synced.ensures.ok, w.deref-in-Synced.ensures.value, c.loop-change.invariant.contents, ap (crash_image c.args.fill start) newer);
          }
    ]
