-- How the tree and the log agree.
use Rattle.std.specs.Prelude.{ℕ, Bool, true, false, not, ◌&&◌, ◌||◌, ℤ, pos, int_le, int_lt, List, [], ◌∷◌, ◌++◌, map, Option, Some, None, option_map, is_none, if◌then◌else◌}
use Rattle.std.specs.Str.{bytes_eq}
use Rattle.std.specs.List.{filter, find as find_by, filter_map, list_any}
use Rattle.kz_types.specs.declared.machine.AheadPath.{AheadPath}
use Rattle.kz_types.specs.declared.machine.Recorded.{Recorded}
use Rattle.kz_types.specs.declared.machine.Verdict.{Verdict}
use Rattle.kz_types.specs.declared.machine.Verdict.TheVariants.{Unmigrated, Unrecorded, Closed, Ahead, Disagrees}
use Rattle.kz_types.specs.Order.{bytes_cmp}
use Rattle.kz_types.specs.Ordered.{all_put}
use Rattle.kz_spec_data.specs.Tree.{Tree, area, migration_record, unclosed_path, path_of_rendered}
use Rattle.kz_spec_data.specs.Log.{Log, batch_ends, image_at, is_migrated_log}
use Rattle.kz_spec_data.specs.Rendering.{body_at, render}

abbrev pub same_bodies : Option (List ℕ) → Option (List ℕ) → Bool
same_bodies None None = true
same_bodies None (Some b) = false
same_bodies (Some a) None = false
same_bodies (Some a) (Some b) = bytes_eq a b

-- whether the tree and the rendering of the metadata at an offset agree at a path, absence included
abbrev pub agrees_at : Tree → Log → List ℕ → ℤ → Bool
agrees_at t l path offset = same_bodies (body_at path (area t)) (body_at path (render (image_at l offset)))

-- the batch ends from an offset on
abbrev pub ends_from : Log → ℤ → List ℤ
ends_from l offset = filter (λ e. int_le offset e) (batch_ends l)

-- every path of the area or of the rendering at an offset, rising
abbrev pub paths_at : Tree → Log → ℤ → List (List ℕ)
paths_at t l offset = map path_of_rendered (all_put bytes_cmp path_of_rendered (render (image_at l offset)) (area t))

-- A path disagrees where the tree is as rendered there at no batch end from the offset on, or, in a closed tree, not at
-- the offset itself.
abbrev pub disagrees : Tree → Log → ℤ → Bool → List ℕ → Bool
disagrees t l offset is_closed path = not (list_any (agrees_at t l path) (ends_from l offset)) || (is_closed && not (agrees_at t l path offset))

-- a path that differs from the rendering at the offset, with the first later batch end at which it agrees
abbrev pub ahead_path : Tree → Log → ℤ → List ℕ → Option AheadPath
ahead_path t l offset path = if agrees_at t l path offset then None
    else option_map (λ e. record { path = path; offset = e }) (find_by (λ e. int_lt offset e && agrees_at t l path e) (batch_ends l))

abbrev pub closed_or_ahead : Tree → Log → ℤ → Bool → Verdict
closed_or_ahead t l offset true = Closed offset
closed_or_ahead t l offset false = Ahead offset (filter_map (ahead_path t l offset) (paths_at t l offset))

abbrev pub unless_disagrees : Option (List ℕ) → Verdict → Verdict
unless_disagrees (Some path) rest = Disagrees path
unless_disagrees None rest = rest

abbrev pub verdict_at : Tree → Log → ℤ → Bool → Verdict
verdict_at t l offset is_closed = unless_disagrees (find_by (disagrees t l offset is_closed) (paths_at t l offset)) (closed_or_ahead t l offset is_closed)

abbrev pub verdict_of : Tree → Log → Option Recorded → Verdict
verdict_of t l None = Unrecorded
verdict_of t l (Some r) = if int_le (pos 0) r.offset then verdict_at t l r.offset (is_none (unclosed_path t)) else Unrecorded

-- How the tree and the log agree: not migrated; nothing recorded; a path that disagrees; as recorded; or ahead of it.
unfoldable pub verdict : Tree → Log → Verdict
verdict t l = if is_migrated_log l then verdict_of t l (migration_record t) else Unmigrated
