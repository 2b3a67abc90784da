use Rattle.std.proofs.lemmas.Result.{IfOk-weaker}
use Rattle.kz_delta.specs.Feeds.{feed_of}
use Rattle.kz_view_delta.proofs.Covered.{of_feed}
use Rattle.kz_view_delta.proofs.keys.keys_of_feed.Goals as goal

pub returns : goal.returns
returns c = IfOk-weaker c.touched.result _ _ (λ ks made. of_feed c.args.before.now c.args.after.now c.is_held.ensures c.is_held-2.ensures (feed_of c.args.feed.now) c.requires ks made) c.touched.ensures
