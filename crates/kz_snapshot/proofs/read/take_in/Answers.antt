use Rattle.std.proofs.Common.{◌∙◌, ap, to_z, of_z, w32, rules}
use Rattle.std.proofs.lemmas.Int.{to_z-of_z}
use mir.Val.{SFits}
use Rattle.kz_spec_data.specs.Image.{all_applied}
use Rattle.kz_snapshot.proofs.Applied.{applied_is}
use Rattle.kz_snapshot.proofs.read.take_in.Goals as goal

pub returns : goal.returns
returns c =
    let b = c.args.batch.now in
    let epoch : SFits w32 b.epoch = search rules in
    c.in_ok-apply_all.ensures.ok
    ∙ ap (λ items. all_applied (to_z w32 (of_z w32 b.epoch)) items c.args.image.now) c.as_slice.ensures
    ∙ ap (λ e. all_applied e b.items c.args.image.now) (to_z-of_z w32 b.epoch epoch)
    ∙ applied_is b.epoch b.items c.args.image.now
