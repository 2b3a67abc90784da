-- What is read of a log after a view of it.
use Rattle.std.specs.Prelude.{◌≡◌, List, None}
use Rattle.kz_types.specs.declared.key.EntityKey.{EntityKey}
use Rattle.kz_spec_data.specs.InOrder.{IsInOrder}
use Rattle.kz_spec_data.specs.Log.{Log, IsLog, View, IsViewOf, read_view, feed_from}
use Rattle.kz_spec_data.specs.Rendering.{render}
use Rattle.kz_spec_data.specs.Spans.{CoverDifference}
use Rattle.kz_spec_data.specs.Touched.{AreTouched, Leads}
use Rattle.kz_laws_znodes.specs.RoundTrip.{IsWritable}

-- Where a view of a log knows of no open transaction, what is read after it leads from its metadata to those at the log's end.
abbrev pub FeedLeads : Type 0
FeedLeads = (l : Log) (v : View) → IsLog l → IsViewOf l v → v.begun ≡ None → Leads v.image (feed_from l v.position) (read_view l v).image

-- The keys that it touches cover the difference of the renderings of both.
abbrev pub FeedTouches : Type 0
FeedTouches = (l : Log) (v : View) → IsLog l → IsViewOf l v → v.begun ≡ None
    → IsInOrder v.image → IsWritable v.image → IsInOrder (read_view l v).image → IsWritable (read_view l v).image
    → (ks : List EntityKey) → AreTouched v.image (feed_from l v.position) (read_view l v).image ks
    → CoverDifference ks (render v.image) (render (read_view l v).image)
