use Rattle.std.proofs.Common.{◌≡◌, ◌++◌}
use Rattle.std.specs.Prelude.{option_to_list}
use Rattle.std.specs.List.{flat_map}
use Rattle.kz_types.specs.declared.image.QuotaEntry.{QuotaEntry}
use Rattle.kz_types.specs.Paths.{key_of}
use Rattle.kz_delta.proofs.whole.push_quotas.Given as goal

abbrev pub invariant-loop-entry : goal.invariant-loop-entry
invariant-loop-entry l = l.keys.items ++ flat_map (λ (q : QuotaEntry). option_to_list (key_of q.path)) l.entry-iterator ≡ l.fn.keys.items ++ flat_map (λ (q : QuotaEntry). option_to_list (key_of q.path)) l.fn.entries
