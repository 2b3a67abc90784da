-- The metadata at every offset of a log is in order.
use Rattle.std.proofs.Common.{ℤ, List, [], ◌∷◌}
use Rattle.kz_types.specs.declared.log.Entry.{Entry}
use Rattle.kz_spec_data.specs.Image.{Image, image_with}
use Rattle.kz_spec_data.specs.InOrder.{IsInOrder}
use Rattle.kz_spec_data.specs.Settlement.{counting_records}
use Rattle.kz_spec_data.specs.Log.{Log, entries, all_entries_applied, image_at}
use Rattle.kz_spec_machine.specs.Sound.{LogShape}
use Rattle.kz_laws_znodes.proofs.Steps.{applied_keeps}

entries_keep : (es : List Entry) (i : Image) → IsInOrder i → IsInOrder (all_entries_applied es i)
entries_keep [] i order = order
entries_keep (e ∷ es) i order = entries_keep es (image_with e.epoch e.item i) (applied_keeps e.epoch e.item i order)

pub log_in_order : (l : Log) (at : ℤ) → LogShape l → IsInOrder (image_at l at)
unfolding image_at
log_in_order l at shape = entries_keep (counting_records (entries l.batches) at) l.base_image shape.image
