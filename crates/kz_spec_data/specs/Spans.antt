-- The paths that keys of entities span: where znodes may change when what the metadata holds for the keys does.
use Rattle.std.specs.Prelude.{ℕ, List, [], ◌∷◌, ◌++◌, codes}
use Rattle.std.specs.List.{flat_map}
use Rattle.kz_types.specs.declared.key.EntityKey.{EntityKey}
use Rattle.kz_types.specs.declared.key.EntityKey.TheVariants as key
use Rattle.kz_types.specs.declared.tree.Rendered.{Rendered}
use Rattle.kz_types.specs.Paths.{path_of}
use Rattle.kz_types.specs.Order.{bytes_cmp}
use Rattle.kz_types.specs.Covering.{Covers}
use Rattle.kz_spec_data.specs.Tree.{path_of_rendered}
use Rattle.kz_spec_data.specs.Rendering.{partitions_path, number_path}

-- the parent of a user's clients
abbrev pub clients_path : EntityKey → List ℕ
clients_path user = path_of user ++ codes "/clients"

-- A key spans its own path, and those above it that lie below its root. A topic's also spans the parent of its partitions.
abbrev pub spanned_paths : EntityKey → List (List ℕ)
spanned_paths (key.Topic name) = path_of (key.Topic name) ∷ partitions_path name ∷ []
spanned_paths (key.Partition topic number) = path_of (key.Topic topic) ∷ partitions_path topic ∷ number_path topic number ∷ path_of (key.Partition topic number) ∷ []
spanned_paths (key.UserClient user client) = path_of (key.User user) ∷ clients_path (key.User user) ∷ path_of (key.UserClient user client) ∷ []
spanned_paths k = path_of k ∷ []

abbrev pub all_spanned_paths : List EntityKey → List (List ℕ)
all_spanned_paths ks = flat_map spanned_paths ks

-- Keys cover the difference of two lists of znodes: they span each path at which the lists differ.
abbrev pub CoverDifference : List EntityKey → List Rendered → List Rendered → Type 0
CoverDifference ks old new = Covers bytes_cmp path_of_rendered (all_spanned_paths ks) old new
