-- What one entry makes of a settler.
use Rattle.std.specs.Prelude.{◌≡◌, Bool, true, false, ℤ, [], ◌∷◌, ◌++◌, Option, Some, None, is_some, ◌&&◌, if◌then◌else◌}
use Rattle.std.specs.Option.{option_or}
use Rattle.kz_types.specs.declared.log.Entry.{Entry}
use Rattle.kz_types.specs.declared.record.MetaRecord.{MetaRecord}
use Rattle.kz_spec_data.specs.Settlement.{is_begin, is_end, closes}
use Rattle.kz_settle.specs.declared.settled.Settled.{Settled}
use Rattle.kz_settle.specs.declared.settled.Settled.TheVariants as settled
use Rattle.kz_settle.specs.declared.marks.Marker.{Marker}
use Rattle.kz_settle.specs.declared.marks.Marker.TheVariants as marker
use Rattle.kz_settle.specs.Stands.{SettlerState}

-- the marker that a record is
abbrev pub IsMarkerOf : MetaRecord → Option Marker → Type 0
IsMarkerOf r None = (is_begin r ≡ false) × (closes r ≡ false)
IsMarkerOf r (Some marker.Begin) = is_begin r ≡ true
IsMarkerOf r (Some marker.End) = (is_begin r ≡ false) × (closes r ≡ true) × (is_end r ≡ true)
IsMarkerOf r (Some marker.Abort) = (is_begin r ≡ false) × (closes r ≡ true) × (is_end r ≡ false)

-- the settler after an End or Abort
abbrev pub after_close : Bool → SettlerState → SettlerState
after_close ends s = if is_some s.begun then record { begun = None; kept = []; released = if ends then s.kept else [] } else s

-- the answer to an End or Abort
abbrev pub answer_to_close : Bool → Bool → Settled
answer_to_close inside ends = if inside && ends then settled.Released else settled.Dropped

-- the settler after a Begin
abbrev pub after_begin : ℤ → SettlerState → SettlerState
after_begin offset s = record s { begun = option_or s.begun (Some offset) }

-- the settler after a record that is no marker
abbrev pub after_plain : Entry → SettlerState → SettlerState
after_plain e s = if is_some s.begun then record s { kept = s.kept ++ e ∷ [] } else s

-- the answer to a record that is no marker
abbrev pub answer_to_plain : Bool → Entry → Settled
answer_to_plain inside e = if inside then settled.Kept else settled.Now e

-- the settler after a marker at an offset
abbrev pub after_marker : Marker → ℤ → SettlerState → SettlerState
after_marker marker.Begin offset s = after_begin offset s
after_marker marker.End offset s = after_close true s
after_marker marker.Abort offset s = after_close false s

-- the answer to a marker
abbrev pub answer_to_marker : Marker → Bool → Settled
answer_to_marker marker.Begin inside = settled.Kept
answer_to_marker marker.End inside = answer_to_close inside true
answer_to_marker marker.Abort inside = answer_to_close inside false
