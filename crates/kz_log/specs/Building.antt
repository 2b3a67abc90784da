-- What a view is built of, as records are taken one after another.
use Rattle.std.specs.Prelude.{◌≡◌, ℤ, pos, List, [], ◌++◌, Option, Some, None}
use Rattle.std.specs.Ordering.{int_cmp}
use Rattle.kz_types.specs.declared.log.Entry.{Entry}
use Rattle.kz_types.specs.Ordered.{Rises}
use Rattle.kz_spec_data.specs.Image.{Image}
use Rattle.kz_spec_data.specs.Log.{View, all_entries_applied}
use Rattle.kz_settle.specs.Settling.{offset_of}
use Rattle.kz_settle.specs.Stands.{SettlerState, IsStateAfter}

-- The last offset that was taken, the epoch of its batch, the metadata, and what the settler holds.
pub record Building : Type 0 where
  pub position : ℤ
  pub epoch : ℤ
  pub image : Image
  pub settling : SettlerState

-- a view before further records are taken
abbrev pub building_of : View → Building
building_of v = record { position = v.position; epoch = v.epoch; image = v.image; settling = record { begun = v.begun; kept = v.kept; released = [] } }

-- what a view's records are taken on: the base, or the view as it stands
abbrev pub building_from : Option (ℤ × Image) → View → Building
building_from None v = building_of v
building_from (Some base) v = record { position = base.0; epoch = pos 0; image = base.1; settling = record { begun = None; kept = []; released = [] } }

-- the view that is built where nothing is still to be popped
abbrev pub view_of : Building → View
view_of b = record { position = b.position; epoch = b.epoch; image = b.image; begun = b.settling.begun; kept = b.settling.kept }

-- What the entries that are taken make of a state. Whatever entries were pushed before, the settler stands after all of them,
-- and the entries that it handed out since are in the metadata.
abbrev pub Takes : List Entry → Building → Building → Type 0
Takes es old new = (pushed given : List Entry) → Rises int_cmp offset_of (pushed ++ es) → IsStateAfter pushed given old.settling
    → (more : List Entry) × IsStateAfter (pushed ++ es) (given ++ more) new.settling × (new.image ≡ all_entries_applied more old.image)

-- The entries are taken, and all that was released is handed out. The position is the last offset, and the epoch is that of
-- the last batch.
pub record IsBuiltFrom (es : List Entry) (last writer : ℤ) (old new : Building) : Type 0 where
  pub takes : Takes es old new
  pub popped : new.settling.released ≡ []
  pub position : new.position ≡ last
  pub epoch : new.epoch ≡ writer
