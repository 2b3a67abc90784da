-- The paths rise after each operation.
use Rattle.std.proofs.Common.{ℕ, ℤ, List, Option, Some, None}
use Rattle.kz_types.specs.declared.tree.Row.{Row}
use Rattle.kz_types.specs.declared.tree.Op.{Op}
use Rattle.kz_types.specs.declared.tree.Op.TheVariants.{Create, Set, Delete, Check}
use Rattle.kz_types.proofs.Order.{bytes_order}
use Rattle.kz_types.proofs.Lookup.{Rises-put, Rises-without}
use Rattle.kz_spec_data.specs.Tree.{path_of_row, row_at, with_child_change, after_set, after_op, set_row, created_row, parent_of}
use Rattle.kz_tree.specs.Kept.{AreRows}

pub rises_touched : (zxid : ℤ) (o : Option Row) (rows : List Row) → AreRows rows → AreRows (with_child_change zxid o rows)
rises_touched zxid None rows h = h
rises_touched zxid (Some r) rows h = Rises-put bytes_order path_of_row (record r { pzxid = zxid }) rows h

rises_set : (zxid : ℤ) (body : List ℕ) (o : Option Row) (rows : List Row) → AreRows rows → AreRows (after_set zxid body o rows)
rises_set zxid body None rows h = h
rises_set zxid body (Some r) rows h = Rises-put bytes_order path_of_row (set_row zxid body r) rows h

pub rises_after_op : (zxid : ℤ) (op : Op) (rows : List Row) → AreRows rows → AreRows (after_op zxid op rows)
rises_after_op zxid (Create path body owner) rows h =
    Rises-put bytes_order path_of_row (created_row zxid path body owner) (with_child_change zxid (row_at (parent_of path) rows) rows) (rises_touched zxid (row_at (parent_of path) rows) rows h)
rises_after_op zxid (Set path body version) rows h = rises_set zxid body (row_at path rows) rows h
rises_after_op zxid (Delete path version) rows h = Rises-without bytes_order path_of_row path (with_child_change zxid (row_at (parent_of path) rows) rows) (rises_touched zxid (row_at (parent_of path) rows) rows h)
rises_after_op zxid (Check path version) rows h = h
