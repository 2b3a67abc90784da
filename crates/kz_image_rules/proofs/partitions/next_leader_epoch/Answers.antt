use Rattle.std.proofs.Common.{ap, ◌∙◌, ◌+ℤ◌, pos, w32, rules}
use Rattle.std.proofs.lemmas.Int.{to_z-of_z}
use mir.Val.{SFits}
use Rattle.std.specs.Prelude.{if◌then◌else◌}
use Rattle.kz_spec_data.specs.ImageRules.{is_epoch, changed_row, states_leader}
use Rattle.kz_laws_znodes.proofs.Unbroken.{row_epochs}
use Rattle.kz_image_rules.proofs.partitions.next_leader_epoch.Goals as goal

pub leader_epoch_raised-requires : goal.leader_epoch_raised-requires
leader_epoch_raised-requires c =
    let change = c.args.change.now in
    let fits : SFits w32 c.args.row.now.leader_epoch = search rules in
    ap (λ e. is_epoch (if states_leader change then e +ℤ pos 1 else e)) (to_z-of_z w32 c.args.row.now.leader_epoch fits) ∙ (row_epochs (changed_row (pos 0) change c.args.row.now) c.requires).0
