-- What is written straight into a text: partitions whose numbers are their places, and names and values that need no escape.
use Rattle.std.specs.Prelude.{ℕ, Bool, true, not, ◌&&◌, ◌==◌, nat_lt, ◌+◌, pos, List, [], ◌∷◌}
use Rattle.std.specs.Ordering.{int_eq, nat_cmp, is_lt}
use Rattle.std.specs.Cmp.Lexicographic.{slice_cmp}
use Rattle.std.specs.Fmt.{signed_decimal}
use Rattle.serde_json.specs.Data.{Members, no_members, member, string}
use Rattle.kz_types.specs.declared.bodies.AssignmentRow.{AssignmentRow}
use Rattle.kz_types.specs.declared.bodies.Pair.{Pair}
use Rattle.kz_spec_data.specs.Bodies.{brokers_data}

-- the partitions' numbers are n, n + 1 and so on, and have one digit
abbrev pub are_digits : ℕ → List AssignmentRow → Bool
are_digits n [] = true
are_digits n (row ∷ rows) = (nat_lt n 10 && int_eq row.number (pos n)) && are_digits (n + 1) rows

-- the partitions' replicas, in the order of the partitions
abbrev pub in_order : List AssignmentRow → Members
in_order [] = no_members
in_order (row ∷ rows) = member (signed_decimal row.number) (brokers_data row.replicas) (in_order rows)

-- a byte that stands for itself in a JSON string
abbrev pub is_plain : ℕ → Bool
is_plain byte = nat_lt 31 byte && (not (byte == 34) && not (byte == 92))

abbrev pub are_plain : List ℕ → Bool
are_plain [] = true
are_plain (byte ∷ bytes) = is_plain byte && are_plain bytes

-- the names rise in byte order, from above this one on
abbrev pub rise_above : List ℕ → List Pair → Bool
rise_above name [] = true
rise_above name (pair ∷ pairs) = is_lt (slice_cmp nat_cmp name pair.name) && rise_above pair.name pairs

-- the members of a configuration, in the order of its pairs
abbrev pub texts_in_order : List Pair → Members
texts_in_order [] = no_members
texts_in_order (pair ∷ pairs) = member pair.name (string pair.value) (texts_in_order pairs)
