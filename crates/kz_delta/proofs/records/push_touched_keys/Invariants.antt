use Rattle.std.proofs.Common.{◌≡◌, ◌++◌, drop}
use Rattle.kz_spec_data.specs.Touched.{touched_keys}
use Rattle.kz_delta.proofs.records.push_touched_keys.Given as goal

abbrev pub invariant-loop-change : goal.invariant-loop-change
invariant-loop-change l = l.keys.items ++ touched_keys l.old l.new (drop l.change-index l.changes) ≡ l.fn.keys.items ++ touched_keys l.old l.new l.changes
