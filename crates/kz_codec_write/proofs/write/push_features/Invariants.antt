use Rattle.std.proofs.Common.{◌≡◌, ◌++◌, take}
use Rattle.kz_spec_data.specs.Forms.{items_written}
use Rattle.kz_spec_data.specs.Records.{feature}
use Rattle.kz_codec_write.proofs.write.push_features.Given as goal

abbrev pub invariant-loop-item : goal.invariant-loop-item
invariant-loop-item l = l.out.items ≡ l.fn.out.items ++ items_written feature.written (take l.item-index l.items)
