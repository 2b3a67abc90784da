use Rattle.std.proofs.Common.{◌≡◌, ◌++◌}
use Rattle.std.specs.List.{flat_map}
use Rattle.kz_spec_data.specs.Rendering.{quota_parents}
use Rattle.kz_render.proofs.quotas.push_all_parents.Given as goal

abbrev pub invariant-loop-entry : goal.invariant-loop-entry
invariant-loop-entry l = l.znodes.items ++ flat_map quota_parents l.entry-iterator ≡ l.fn.znodes.items ++ flat_map quota_parents l.fn.entries
