-- Which tree the lines of an input are, or why they are none.
use Rattle.std.specs.Prelude.{ℕ, ◌+◌, ◌==◌, ℤ, List, [], ◌∷◌, ◌++◌, Option, Some, None, Result, Ok, Err, if◌then◌else◌}
use Rattle.kz_types.specs.declared.limits.Limit.TheVariants as limits
use Rattle.kz_types.specs.Limits.{number_of_limit}
use Rattle.kz_types.specs.declared.limits.TheConstants.{MAX_BODY_BYTES, MAX_INPUT_BYTES, MAX_LINE_BYTES, MAX_ZNODES}
use Rattle.kz_types.specs.declared.outside.Status.{Status}
use Rattle.kz_types.specs.declared.outside.Status.TheVariants as status
use Rattle.kz_types.specs.declared.tree.Row.{Row}
use Rattle.kz_spec_data.specs.Lines.{Item, line, long, much, items}
use Rattle.kz_spec_data.specs.Tree.{Tree}
use Rattle.kz_spec_data.specs.Loads.{LoadRefusal, broken, limit, is_header, row_refusal}
use Rattle.kz_spec_machine.specs.declared.dumps.LoadLine.{LoadLine}
use Rattle.kz_spec_machine.specs.declared.dumps.LoadLine.TheVariants.{Head, Znode}
use Rattle.kz_spec_machine.specs.LoadLines.{load_line}

-- the greatest value of the limit of this number, of those that a znode may pass
abbrev pub greatest_of : ℕ → ℕ
greatest_of number = if number == number_of_limit limits.BodyBytes then MAX_BODY_BYTES else MAX_ZNODES

-- the status of a load that ends at a line
abbrev pub refusal_status : ℕ → LoadRefusal → Status
refusal_status number broken = status.Script number
refusal_status number (limit which) = status.Limit which (greatest_of which)

-- a tree that has these znodes
abbrev pub tree_with : ℤ → List ℤ → List Row → Tree
tree_with zxid sessions rows = record { zxid = zxid; sessions = sessions; rows = rows }

-- one znode more, unless it breaks a rule or passes a limit after those before it
abbrev pub with_znode : ℕ → Option LoadRefusal → List Row → Row → (List Row → Result Tree Status) → Result Tree Status
with_znode number (Some refusal) before r go = Err (refusal_status number refusal)
with_znode number None before r go = go (before ++ r ∷ [])

-- a line after the first, which has to be a znode
abbrev pub at_line : ℕ → ℤ → List ℤ → List Row → Option LoadLine → (List Row → Result Tree Status) → Result Tree Status
at_line number zxid sessions before None go = Err (status.Script number)
at_line number zxid sessions before (Some (Head z ss)) go = Err (status.Script number)
at_line number zxid sessions before (Some (Znode r)) go = with_znode number (row_refusal zxid sessions before r) before r go

-- the tree with these znodes and those of further lines, of which the first has this number
abbrev pub tree_after : ℕ → ℤ → List ℤ → List Row → List Item → Result Tree Status
tree_after number zxid sessions before [] = Ok (tree_with zxid sessions before)
tree_after number zxid sessions before (line l ∷ is) = at_line number zxid sessions before (load_line l) (λ rows. tree_after (number + 1) zxid sessions rows is)
tree_after number zxid sessions before (long ∷ is) = Err (status.Limit (number_of_limit limits.LineBytes) MAX_LINE_BYTES)
tree_after number zxid sessions before (much ∷ is) = Err (status.Limit (number_of_limit limits.InputBytes) MAX_INPUT_BYTES)

-- the first line, which has to be a header by the rules
abbrev pub at_head : Option LoadLine → (ℤ → List ℤ → Result Tree Status) → Result Tree Status
at_head None go = Err (status.Script 1)
at_head (Some (Head zxid sessions)) go = if is_header zxid sessions then go zxid sessions else Err (status.Script 1)
at_head (Some (Znode r)) go = Err (status.Script 1)

abbrev pub tree_of_items : List Item → Result Tree Status
tree_of_items [] = Err (status.Script 1)
tree_of_items (line l ∷ is) = at_head (load_line l) (λ zxid sessions. tree_after 2 zxid sessions [] is)
tree_of_items (long ∷ is) = Err (status.Limit (number_of_limit limits.LineBytes) MAX_LINE_BYTES)
tree_of_items (much ∷ is) = Err (status.Limit (number_of_limit limits.InputBytes) MAX_INPUT_BYTES)

-- The tree that an input is: a header and the znodes, each by the rules of a load and within its limits; or the status of the first
-- line that breaks one, or limit that is passed. Comments and empty lines are none.
unfoldable pub loaded : List ℕ → Result Tree Status
loaded input = tree_of_items (items input)
