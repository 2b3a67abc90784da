-- Laws of views of a log.
use Rattle.std.specs.Prelude.{◌≡◌, false, ℤ, List, All, None, is_some, Ok}
use Rattle.kz_types.specs.declared.record.MetaRecord.{MetaRecord}
use Rattle.kz_image.specs.declared.feed.Feed.{Feed}
use Rattle.kz_spec_data.specs.Image.{all_applied}
use Rattle.kz_spec_data.specs.Settlement.{is_marker}
use Rattle.kz_spec_data.specs.Log.{Log, View, new_view, IsLog, IsViewOf, is_open_log, begun_of, end_of, feed_from, append, elect}
use Rattle.kz_log.specs.Requests.{IsFeed}
use Rattle.kz_log.specs.Views.{Fits}

-- What is known before the first read is a view of every log.
abbrev pub NewIsView : Type 0
NewIsView = (l : Log) → IsLog l → IsViewOf l new_view

-- What is read after a view of a log can be taken by it.
abbrev pub FeedFits : Type 0
FeedFits = (l : Log) (v : View) (f : Feed) → IsLog l → IsViewOf l v → IsFeed (feed_from l v.position) f → Fits v f

-- A batch that is appended leaves each view of the log a view of it.
abbrev pub AppendLeavesViews : Type 0
AppendLeavesViews = (l new : Log) (v : View) (epoch now : ℤ) (items : List MetaRecord) → IsLog l → IsViewOf l v → append l epoch now items ≡ Ok new → IsViewOf new v

-- So does an election.
abbrev pub ElectLeavesViews : Type 0
ElectLeavesViews = (l new : Log) (v : View) (now : ℤ) (items : List MetaRecord) → IsLog l → IsViewOf l v → elect l now items ≡ Ok new → IsViewOf new v

-- A transaction is open at the log's end exactly where one has begun there.
abbrev pub OpenIsBegun : Type 0
OpenIsBegun = (l : Log) → IsLog l → is_open_log l ≡ is_some (begun_of l)

-- A record that neither begins nor ends a transaction.
abbrev pub IsNoMarker : MetaRecord → Type 0
IsNoMarker r = is_marker r ≡ false

-- the view, at the end of a log to which these records were appended in this epoch, all of which count
abbrev pub view_after_append : Log → ℤ → List MetaRecord → View → View
view_after_append new epoch items v = record v { position = end_of new; epoch = epoch; image = all_applied epoch items v.image }

-- Where a view knows of no open transaction at a log's end, what it becomes with records that were appended, none of which is a
-- marker, is a view of the log with them.
abbrev pub AppendedIsView : Type 0
AppendedIsView = (l new : Log) (v : View) (epoch now : ℤ) (items : List MetaRecord) → IsLog l → IsViewOf l v → v.position ≡ end_of l → v.begun ≡ None → All IsNoMarker items
    → append l epoch now items ≡ Ok new → IsViewOf new (view_after_append new epoch items v)
