use Rattle.std.proofs.Common.{ap, ◌∙◌, ◌+ℤ◌, pos, w32, rules}
use Rattle.std.proofs.lemmas.Int.{to_z-of_z}
use mir.Val.{SFits}
use Rattle.kz_spec_data.specs.ImageRules.{is_epoch, changed_row}
use Rattle.kz_laws_znodes.proofs.Unbroken.{row_epochs}
use Rattle.kz_image_rules.proofs.partitions.next_partition_epoch.Goals as goal

pub raised-requires : goal.raised-requires
raised-requires c =
    let fits : SFits w32 c.args.row.now.partition_epoch = search rules in
    ap (λ e. is_epoch (e +ℤ pos 1)) (to_z-of_z w32 c.args.row.now.partition_epoch fits) ∙ (row_epochs (changed_row (pos 0) c.args.change.now c.args.row.now) c.requires).1
