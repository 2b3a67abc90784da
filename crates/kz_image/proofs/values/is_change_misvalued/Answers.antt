use Rattle.std.proofs.Common.{◌∙◌, ap, not, w32, rules}
use Rattle.std.proofs.lemmas.Int.{to_z-of_z}
use mir.Val.{SFits}
use Rattle.kz_spec_data.specs.Metadata.{partition_of}
use Rattle.kz_spec_data.specs.ImageRules.{leaves_row}
use Rattle.kz_image.proofs.values.is_change_misvalued.Goals as goal

pub returns : goal.returns
returns c =
    let change = c.args.change.now in
    let image = c.args.image.now in
    let fits : SFits w32 change.partition_id = search rules in
    ap not c.leaves_row.ensures ∙ ap (λ found. not (leaves_row change found)) c.partition.ensures
    ∙ ap (λ n. not (leaves_row change (partition_of change.topic_id n image))) (to_z-of_z w32 change.partition_id fits)
