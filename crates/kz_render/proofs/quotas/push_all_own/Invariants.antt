use Rattle.std.proofs.Common.{◌≡◌, ◌++◌}
use Rattle.std.specs.List.{All, flat_map}
use Rattle.kz_spec_data.specs.Legal.{IsQuotaEntry}
use Rattle.kz_spec_data.specs.Rendering.{own_znodes}
use Rattle.kz_render.proofs.quotas.push_all_own.Given as goal

abbrev pub invariant-loop-entry : goal.invariant-loop-entry
invariant-loop-entry l = (l.znodes.items ++ flat_map own_znodes l.entry-iterator ≡ l.fn.znodes.items ++ flat_map own_znodes l.fn.entries) × All IsQuotaEntry l.entry-iterator
