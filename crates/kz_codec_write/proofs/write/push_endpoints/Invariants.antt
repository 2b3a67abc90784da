use Rattle.std.proofs.Common.{◌≡◌, ◌++◌, take}
use Rattle.kz_spec_data.specs.Forms.{items_written}
use Rattle.kz_spec_data.specs.Records.{endpoint}
use Rattle.kz_codec_write.proofs.write.push_endpoints.Given as goal

abbrev pub invariant-loop-item : goal.invariant-loop-item
invariant-loop-item l = l.out.items ≡ l.fn.out.items ++ items_written endpoint.written (take l.item-index l.items)
