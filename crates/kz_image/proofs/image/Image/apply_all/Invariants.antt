use Rattle.std.proofs.Common.{◌≡◌, take}
use Rattle.kz_spec_data.specs.Image.{all_applied}
use Rattle.kz_image.proofs.image.Image.apply_all.Given as goal

abbrev pub invariant-loop-item : goal.invariant-loop-item
invariant-loop-item l = l.self ≡ all_applied l.epoch (take l.item-index l.items) l.fn.self
