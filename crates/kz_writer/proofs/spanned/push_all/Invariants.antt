use Rattle.std.proofs.Common.{◌≡◌, ◌++◌, drop}
use Rattle.std.specs.List.{flat_map}
use Rattle.kz_writer.specs.PathLists.{spanned_by}
use Rattle.kz_writer.proofs.spanned.push_all.Given as goal

abbrev pub invariant-loop-key : goal.invariant-loop-key
invariant-loop-key l = l.paths.items ++ flat_map spanned_by (drop l.key-index l.keys) ≡ l.fn.paths.items ++ flat_map spanned_by l.keys
