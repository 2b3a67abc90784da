-- The numbers of znodes, and of the blocks and parts that they are kept in.
use Rattle.std.specs.Prelude.{◌≡◌, ◌≢◌, ◌<◌, ◌⊎◌, ◌++◌, ℕ, ℤ, List, length, map, Option, Some, None, if◌then◌else◌}
use Rattle.std.specs.Int.{int_max}
use Rattle.kz_types.specs.Paths.{is_migrated}
use Rattle.kz_types.specs.declared.tree.Row.{Row}
use Rattle.kz_types.specs.Order.{bytes_cmp}
use Rattle.kz_sorted.specs.BlockLists.{AreBlocks, AreParts}
use Rattle.kz_sorted.specs.declared.limits.TheConstants.{MAX_BLOCK_ITEMS}
use Rattle.kz_row_numbers.specs.declared.joined_numbers.Numbers.{Numbers}
use Rattle.kz_row_numbers.specs.Joins.{all_joined}
use Rattle.kz_spec_data.specs.Tree.{path_of_row, row_at}

-- the last transaction that wrote a migrated znode, or its children
abbrev pub latest_of : Row → Option ℤ
latest_of r = if is_migrated r.path then Some (int_max r.mzxid r.pzxid) else None

-- the numbers of one znode
abbrev pub numbers_of_row : Row → Numbers
numbers_of_row r = record { rows = 1; latest = latest_of r }

-- the numbers of these znodes together
abbrev pub numbers_of : List Row → Numbers
numbers_of rows = all_joined (map numbers_of_row rows)

-- A znode of this path can be put into this block: there is room for one more, or it replaces one.
abbrev pub FitsIn : List ℕ → List Row → Type 0
FitsIn path block = (length block < MAX_BLOCK_ITEMS) ⊎ (row_at path block ≢ None)

-- The znodes of the blocks stand by rising path, and these are the blocks' numbers.
pub record AreNumbered (bs : List (List Row)) (ns : List Numbers) : Type 0 where
  pub blocks : AreBlocks bytes_cmp path_of_row bs
  pub numbers : ns ≡ map numbers_of bs

-- The znodes of the parts stand by rising path, and these are the parts' numbers.
pub record AreNumberedParts (ps : List (List Row)) (ns : List Numbers) : Type 0 where
  pub parts : AreParts bytes_cmp path_of_row ps
  pub numbers : ns ≡ map numbers_of ps

-- Two lists that each have a znode: the second comes after the first, and both together are this list.
pub record AreHalves (first second rows : List Row) : Type 0 where
  pub whole : first ++ second ≡ rows
  pub some : 0 < length first
  pub others : 0 < length second
