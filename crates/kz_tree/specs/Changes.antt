-- Which tree a change makes of another.
use Rattle.std.specs.Prelude.{◌≡◌, Ok}
use Rattle.kz_spec_data.specs.Tree.{Tree, multi, begin_session, end_session}
use Rattle.kz_spec_data.specs.Requests.{TreeChange, Multi, BeginSession, EndSession}

-- nothing refuses the change, and it makes this tree
abbrev pub Makes : TreeChange → Tree → Tree → Type 0
Makes (Multi ops) old new = multi old ops ≡ Ok new
Makes (BeginSession session) old new = begin_session old session ≡ Ok new
Makes (EndSession session) old new = end_session old session ≡ Ok new

-- a change makes the new tree of the old one
abbrev pub IsMadeFrom : Tree → Tree → Type 0
IsMadeFrom old new = (change : TreeChange) × Makes change old new
