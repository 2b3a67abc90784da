-- What is read of a log.
use Rattle.kz_image.specs.declared.feed.Feed.{Feed}
use Rattle.kz_spec_data.specs.Log.{Feed as LogFeed}

-- what was read, as a log tells it
abbrev pub feed_of : Feed → LogFeed
feed_of f = record { base = f.base; batches = f.batches; end = f.end }
