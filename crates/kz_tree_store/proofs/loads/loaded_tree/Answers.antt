use Rattle.std.proofs.Common.{◌≡◌, ◌∷◌, [], ℤ, Err, length, ap, ◌∙◌, append_assoc, subst, to_z, of_z, w64, arith}
use Rattle.std.proofs.lemmas.Int.{to_z-of_z}
use Rattle.std.specs.Vec.Iter.{into_iter_items}
use Rattle.kz_spec_data.specs.Tree.{Tree}
use Rattle.kz_spec_data.specs.TreeFile.{stored_by_load, under_way}
use Rattle.kz_tree_store.specs.Taken.{Says, ended}
use Rattle.kz_tree_store.proofs.Loading.{Has, has_more, rest_more, stops_here}
use Rattle.kz_tree_store.proofs.loads.loaded_tree.Goals as goal

pub returns-in-Err-take_owned : goal.returns-in-Err-take_owned
returns-in-Err-take_owned c =
    let rows = c.args.rows.items in
    let sessions = c.args.sessions.now in
    let zxid = to_z w64 (of_z w64 c.args.zxid) in
    let at = c.loop-row in
    let inv = at.invariant in
    let before : Has zxid sessions at.yielded at.check = record { zxid_is = inv.zxid; sessions_are = inv.sessions; rows_are = inv.rows } in
    subst (λ (z : ℤ). Says {X = Tree} ended (Err c.frame_fault-in-Err-take_owned.result) (stored_by_load z sessions (under_way rows))) (to_z-of_z w64 c.args.zxid c.ranges.zxid)
    (stops_here c.in-Err-take_owned.fault zxid sessions at.yielded (into_iter_items at.row-iterator) (into_iter_items c.next.new.self) rows at.check c.in-Some.row before c.in-Some.ensures.steps.0 c.in-Err-take_owned.ensures.err inv.rest c.frame_fault-in-Err-take_owned.result c.frame_fault-in-Err-take_owned.ensures)

pub loop-row-preserved : goal.loop-row-preserved
loop-row-preserved c =
    let rows = c.args.rows.items in
    let sessions = c.args.sessions.now in
    let zxid = to_z w64 (of_z w64 c.args.zxid) in
    let at = c.loop-row in
    let inv = at.invariant in
    let row = c.in-Some.row in
    let rest = into_iter_items c.next.new.self in
    let steps : into_iter_items at.row-iterator ≡ row ∷ rest = c.in-Some.ensures.steps.0 in
    let before : Has zxid sessions at.yielded at.check = record { zxid_is = inv.zxid; sessions_are = inv.sessions; rows_are = inv.rows } in
    let more = has_more zxid sessions at.yielded at.check c.take_owned.new.self row before c.in-Ok-take_owned.ensures.taken in
    record {
      zxid = more.zxid_is;
      sessions = more.sessions_are;
      rows = more.rows_are;
      all = append_assoc at.yielded (row ∷ []) _ ∙ rw (← steps) inv.all;
      left = let was = inv.left in let gone = c.in-Some.ensures.steps.1 in let short = ap length steps in omega arith;
      header = inv.header;
      rest = rest_more zxid sessions at.yielded (into_iter_items at.row-iterator) rest rows at.check row before steps c.in-Ok-take_owned.ensures.ok inv.rest;
    }
