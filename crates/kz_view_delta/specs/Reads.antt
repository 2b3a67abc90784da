-- What was read after a view.
use Rattle.std.specs.Prelude.{◌≡◌}
use Rattle.kz_spec_data.specs.Log.{Log, View, IsLog, IsViewOf, feed_from, read_view}
use Rattle.kz_image.specs.declared.feed.Feed.{Feed}
use Rattle.kz_log.specs.Requests.{IsFeed}

-- This was read of some log after a view of it.
pub record IsReadAfter (before : View) (f : Feed) : Type 0 where
  pub log : Log
  pub is_log : IsLog log
  pub view : IsViewOf log before
  pub feed : IsFeed (feed_from log before.position) f

-- The same, and this is the view that has read to that log's end.
pub record WasRead (before : View) (f : Feed) (after : View) : Type 0 where
  pub read : IsReadAfter before f
  pub end : after ≡ read_view read.log before

-- Of whichever log this was read after a view, it makes it this view of the log's end.
abbrev pub Makes : View → Feed → View → Type 0
Makes before f after = (l : Log) → IsLog l → IsViewOf l before → IsFeed (feed_from l before.position) f → after ≡ read_view l before

-- The same of a log of which this other is a view too.
abbrev pub MakesBeside : View → View → Feed → View → Type 0
MakesBeside latest before f after = (l : Log) → IsLog l → IsViewOf l before → IsViewOf l latest → IsFeed (feed_from l before.position) f → after ≡ read_view l before
