use Rattle.std.proofs.Common.{◌≡◌, ◌+◌, ◌*◌, ◌^◌, ◌≤◌, length, take}
use Rattle.kz_spec_data.specs.Forms.{items_written}
use Rattle.kz_spec_data.specs.Records.{feature}
use Rattle.kz_codec_write.proofs.size.all_features_size.Given as goal

abbrev pub invariant-loop-item : goal.invariant-loop-item
invariant-loop-item l = record { size : l.size ≡ length (items_written feature.written (take l.item-index l.items)); bound : l.size ≤ l.item-index * (2 ^ 63 + 15) }
