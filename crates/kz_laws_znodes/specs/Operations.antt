-- What the operations between two renderings make of the first.
use Rattle.std.specs.Prelude.{◌≡◌, ℕ, List, [], ◌∷◌}
use Rattle.kz_types.specs.declared.tree.Op.{Op}
use Rattle.kz_types.specs.declared.tree.Op.TheVariants.{Create, Set, Delete, Check}
use Rattle.kz_types.specs.declared.tree.Rendered.{Rendered}
use Rattle.kz_types.specs.Order.{bytes_cmp}
use Rattle.kz_types.specs.Ordered.{put, without, Rises}
use Rattle.kz_spec_data.specs.Tree.{path_of_rendered}
use Rattle.kz_spec_data.specs.Difference.{diff, chunk, after_chunk}

-- the znodes with this data at this path
abbrev pub with_data : List ℕ → List ℕ → List Rendered → List Rendered
with_data path body znodes = put bytes_cmp path_of_rendered (record { path = path; body = body }) znodes

-- What an operation that isn't refused makes of the paths and data of znodes: a create and a set put the data at the path, a
-- delete takes the path out, a check leaves all.
abbrev pub after_operation : Op → List Rendered → List Rendered
after_operation (Create path body owner) znodes = with_data path body znodes
after_operation (Set path body version) znodes = with_data path body znodes
after_operation (Delete path version) znodes = without bytes_cmp path_of_rendered path znodes
after_operation (Check path version) znodes = znodes

-- what operations make of them, one after another
abbrev pub all_made : List Op → List Rendered → List Rendered
all_made [] znodes = znodes
all_made (op ∷ ops) znodes = all_made ops (after_operation op znodes)

-- The operations of a difference make the second rendering of the first.
abbrev pub DifferenceIsMade : Type 0
DifferenceIsMade = (have want : List Rendered) → Rises bytes_cmp path_of_rendered have → Rises bytes_cmp path_of_rendered want
    → all_made (diff have want) have ≡ want

-- Once the next write's operations are made, the difference is the rest of the operations.
abbrev pub ChunkLeavesRest : Type 0
ChunkLeavesRest = (have want : List Rendered) → Rises bytes_cmp path_of_rendered have → Rises bytes_cmp path_of_rendered want
    → diff (all_made (chunk (diff have want)) have) want ≡ after_chunk (diff have want)
