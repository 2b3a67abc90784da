-- What a view takes of a log.
use Rattle.std.specs.Prelude.{◌≡◌, ℤ, pos, Option, Some, None, ⊤}
use Rattle.kz_image.specs.declared.feed.Feed.{Feed}
use Rattle.kz_spec_data.specs.Image.{Image}
use Rattle.kz_spec_data.specs.Log.{Log, View, Follow, IsAt, last_end, end_of}

-- where the batches of a feed go on from: its base, or the view's position
abbrev pub start_of : View → Option (ℤ × Image) → ℤ
start_of v None = v.position
start_of v (Some base) = base.0

-- the epoch that is known before the batches of a feed
abbrev pub known_epoch : Option (ℤ × Image) → ℤ → ℤ
known_epoch None epoch = epoch
known_epoch (Some base) epoch = pos 0

-- A feed that a view can take: its batches follow each other from its base on, or from the view's position, and its end is
-- that of the last.
pub record Fits (v : View) (f : Feed) : Type 0 where
  pub follow : Follow (start_of v f.base) f.batches
  pub end : f.end ≡ last_end (start_of v f.base) f.batches

-- A feed without a base goes on from a view of the log's end; one with a base goes on from any.
abbrev pub GoesOn : Log → View → Option (ℤ × Image) → Type 0
GoesOn l v None = Follow l.base l.batches × IsAt l v × (end_of l ≡ v.position)
GoesOn l v (Some base) = ⊤
