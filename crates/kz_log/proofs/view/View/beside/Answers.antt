use Rattle.std.proofs.Common.{◌≡◌, ap, ◌∙◌, w32, to_z, of_z, rules}
use Rattle.kz_spec_data.specs.Log.{last_epoch}
use Rattle.kz_log.specs.Views.{known_epoch}
use Rattle.kz_log.proofs.Building.{shared_reads}
use Rattle.kz_log.proofs.view.View.beside.Goals as goal

pub returns : goal.returns
returns c =
    let v = c.args.self.now in
    let other = c.args.other.now in
    let feed = c.args.feed.now in
    let epoch : to_z w32 (of_z w32 c.epoch_after-epoch.result) ≡ last_epoch (known_epoch feed.base v.epoch) feed.batches = search rules in
    shared_reads v other c.in_ok-made.made feed c.requires (c.in_ok-made.ensures ∙ ap (λ e. record other { epoch = e }) epoch)
