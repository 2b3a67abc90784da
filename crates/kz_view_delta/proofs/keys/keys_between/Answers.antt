use Rattle.std.proofs.Common.{◌≡◌, None, sym, subst, rules}
use Rattle.kz_spec_data.specs.Touched.{Leads}
use Rattle.kz_delta.specs.Feeds.{feed_of}
use Rattle.kz_view_delta.proofs.Covered.{reads_lead}
use Rattle.kz_view_delta.proofs.keys.keys_between.Goals as goal

pub keys_of_feed-requires : goal.keys_of_feed-requires
keys_of_feed-requires c =
    let before = c.args.before.now in
    let after = c.args.after.now in
    let feed = c.args.feed.now in
    let none : before.begun ≡ None = search rules in
    subst (λ i. Leads i (feed_of feed) c.image-2.result.now) (sym c.image.ensures)
    (subst (λ i. Leads before.image (feed_of feed) i) (sym c.image-2.ensures) (reads_lead before after feed c.requires none))
