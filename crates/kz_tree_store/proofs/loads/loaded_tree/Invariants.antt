use Rattle.std.proofs.Common.{◌≡◌, ◌++◌, true, [], length}
use Rattle.std.specs.Vec.Iter.{into_iter_items, into_iter_len}
use Rattle.kz_spec_data.specs.Loads.{is_header, are_loadable}
use Rattle.kz_tree_store.proofs.loads.loaded_tree.Given as goal

abbrev pub invariant-loop-row : goal.invariant-loop-row
invariant-loop-row l = record {
  zxid : l.check.zxid ≡ l.fn.zxid;
  sessions : l.check.sessions ≡ l.fn.sessions;
  rows : l.check.rows ≡ l.yielded;
  all : l.yielded ++ into_iter_items l.row-iterator ≡ l.fn.rows.items;
  left : into_iter_len l.row-iterator ≡ length (into_iter_items l.row-iterator);
  header : is_header l.fn.zxid l.fn.sessions ≡ true;
  rest : are_loadable l.fn.zxid l.fn.sessions l.yielded (into_iter_items l.row-iterator) ≡ are_loadable l.fn.zxid l.fn.sessions [] l.fn.rows.items;
}
