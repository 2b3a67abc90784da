-- The paths that keys span, as far as they keep the rule of paths.
use Rattle.std.specs.Prelude.{◌≡◌, ◌≤◌, ◌+◌, ℕ, false, List, [], ◌∷◌, if◌then◌else◌}
use Rattle.std.specs.List.{flat_map}
use Rattle.kz_types.specs.declared.key.EntityKey.{EntityKey}
use Rattle.kz_types.specs.declared.tree.Rendered.{Rendered}
use Rattle.kz_types.specs.Paths.{is_path}
use Rattle.kz_types.specs.Order.{bytes_cmp}
use Rattle.kz_types.specs.Ordered.{find, all_put}
use Rattle.kz_spec_data.specs.Tree.{path_of_rendered}
use Rattle.kz_spec_data.specs.Spans.{spanned_paths}
use Rattle.kz_writer.specs.declared.spanned.SpannedPath.{SpannedPath}

abbrev pub path_of_spanned : SpannedPath → List ℕ
path_of_spanned s = s.path

-- a path that keeps the rule, or nothing
abbrev pub path_or_nothing : List ℕ → List SpannedPath
path_or_nothing p = if is_path p then record { path = p } ∷ [] else []

-- those that a key spans
abbrev pub spanned_by : EntityKey → List SpannedPath
spanned_by k = flat_map path_or_nothing (spanned_paths k)

-- those that keys span, by rising path, each once
abbrev pub spanned_by_all : List EntityKey → List SpannedPath
spanned_by_all ks = all_put bytes_cmp path_of_spanned (flat_map spanned_by ks) []

-- two lists of znodes find the same under what isn't a path
abbrev pub DifferAtPathsAlone : List Rendered → List Rendered → Type 0
DifferAtPathsAlone old new = (p : List ℕ) → is_path p ≡ false → find bytes_cmp path_of_rendered p old ≡ find bytes_cmp path_of_rendered p new

-- a count rises by at most this much
abbrev pub RisesBy : ℕ → ℕ → ℕ → Type 0
RisesBy most before after = (before ≤ after) × (after ≤ before + most)
