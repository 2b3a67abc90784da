use Rattle.std.proofs.Common.{◌∙◌, ap, w32, to_z, of_z}
use Rattle.kz_spec_data.specs.Image.{image_with}
use Rattle.kz_image.proofs.Records.{applied_more}
use Rattle.kz_image.proofs.image.Image.apply_all.Goals as goal

pub loop-item-preserved : goal.loop-item-preserved
loop-item-preserved c =
    let epoch = to_z w32 (of_z w32 c.args.epoch) in
    c.in_ok-apply.ensures.ok ∙ ap (image_with epoch c.item-item.result) c.loop-item.invariant
    ∙ applied_more epoch c.args.items.now c.loop-item.item-index c.item-item.result c.args.self.now c.loop-item-test.true c.item-item.is
