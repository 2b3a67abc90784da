use mir.Val.{SFits}
use Rattle.std.proofs.Common.{sym, ◌∙◌, ap, w32, rules}
use Rattle.std.proofs.lemmas.Int.{to_z-of_z}
use Rattle.kz_spec_data.specs.Log.{last_epoch}
use Rattle.kz_log.specs.Views.{known_epoch}
use Rattle.kz_log.proofs.Building.{last_epoch_at}
use Rattle.kz_log.proofs.view.epoch_after.Goals as goal

pub returns-in-len1-up : goal.returns-in-len1-up
returns-in-len1-up c =
    let b = c.batch-item.result in
    let fits : SFits w32 b.epoch = search rules in
    let feed = c.args.feed.now in
    let batches = c.as_slice.result.now in
    let last = last_epoch_at (known_epoch feed.base c.args.epoch) batches b c.in-len1-up.len_at_least c.batch-item.is in
    to_z-of_z w32 b.epoch fits ∙ sym last ∙ ap (last_epoch (known_epoch feed.base c.args.epoch)) c.as_slice.ensures
