-- At which batch ends the tree is as the metadata is rendered there, path by path.
use Rattle.std.specs.Prelude.{ℕ, Bool, true, false, not, ◌&&◌, ◌||◌, ℤ, int_le, List, drop, map, Option, Some, None, option_map, is_none, if◌then◌else◌}
use Rattle.std.specs.List.{find, filter_map}
use Rattle.kz_types.specs.declared.tree.Rendered.{Rendered}
use Rattle.kz_types.specs.declared.machine.AheadPath.{AheadPath}
use Rattle.kz_types.specs.declared.machine.Verdict.{Verdict}
use Rattle.kz_types.specs.declared.machine.Verdict.TheVariants.{Closed, Ahead, Disagrees}
use Rattle.kz_types.specs.Order.{bytes_cmp}
use Rattle.kz_types.specs.Ordered.{all_put}
use Rattle.kz_spec_data.specs.Tree.{Tree, area as area_of, path_of_rendered}
use Rattle.kz_spec_data.specs.Log.{Log, batch_ends, image_at}
use Rattle.kz_spec_data.specs.Rendering.{body_at, render}
use Rattle.kz_spec_machine.specs.Verdicts.{same_bodies, agrees_at}
use Rattle.kz_verdict.specs.declared.comparison.Found.{Found}
use Rattle.kz_verdict.specs.declared.comparison.Places.{Places}

-- whether two lists of znodes agree at a path, absence included
abbrev pub agrees_in : List Rendered → List Rendered → List ℕ → Bool
agrees_in area rendering path = same_bodies (body_at path area) (body_at path rendering)

-- every path of two lists of znodes from these places on, rising
abbrev pub paths_from : List Rendered → List Rendered → Places → List (List ℕ)
paths_from area rendering at = map path_of_rendered (all_put bytes_cmp path_of_rendered (drop at.rendering rendering) (drop at.area area))

-- the first of these batch ends, from an offset on, at which the area is as rendered there at a path
abbrev pub first_among : List Rendered → Log → ℤ → List ℤ → List ℕ → Option ℤ
first_among area l offset ends path = find (λ e. int_le offset e && agrees_in area (render (image_at l e)) path) ends

-- what is found at a path of two lists of znodes, before any batch end is looked at
abbrev pub unmarked : List Rendered → List Rendered → List ℕ → Found
unmarked area rendering path = record { path = path; here = agrees_in area rendering path; first = None }

-- what is found at a path where only these batch ends are looked at
abbrev pub found_among : List Rendered → Log → ℤ → List ℤ → List ℕ → Found
found_among area l offset ends path = record { path = path; here = agrees_in area (render (image_at l offset)) path; first = first_among area l offset ends path }

-- one batch end more before the others, at which the area is compared with this rendering
abbrev pub marked_by : ℤ → List Rendered → List Rendered → Found → Found
marked_by end area rendering f = if agrees_in area rendering f.path then record f { first = Some end } else f

-- the recorded offset before the batch ends after it
abbrev pub marked_here : ℤ → Found → Found
marked_here offset f = if f.here then record f { first = Some offset } else f

-- what is found at a path
abbrev pub found_at : Tree → Log → ℤ → List ℕ → Found
found_at t l offset path = record { path = path; here = agrees_at t l path offset; first = first_among (area_of t) l offset (batch_ends l) path }

abbrev pub is_disagreeing : Bool → Found → Bool
is_disagreeing is_closed f = is_none f.first || (is_closed && not f.here)

abbrev pub ahead_of : Found → Option AheadPath
ahead_of f = if f.here then None else option_map (λ e. record { path = f.path; offset = e }) f.first

-- the verdict where none of the paths disagrees
abbrev pub found_closed_or_ahead : ℤ → Bool → List Found → Verdict
found_closed_or_ahead offset true fs = Closed offset
found_closed_or_ahead offset false fs = Ahead offset (filter_map ahead_of fs)

abbrev pub unless_one_disagrees : Option Found → Verdict → Verdict
unless_one_disagrees (Some f) rest = Disagrees f.path
unless_one_disagrees None rest = rest

-- the verdict by what is found at all paths
abbrev pub found_verdict : ℤ → Bool → List Found → Verdict
found_verdict offset is_closed fs = unless_one_disagrees (find (is_disagreeing is_closed) fs) (found_closed_or_ahead offset is_closed fs)
