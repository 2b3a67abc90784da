use Rattle.std.proofs.Common.{◌≡◌, ◌++◌, map, drop}
use Rattle.kz_spec_data.specs.Translation.{quota_record}
use Rattle.kz_reader.proofs.quotas.push_quotas.Given as goal

abbrev pub invariant-loop-quota : goal.invariant-loop-quota
invariant-loop-quota l = l.records ++ map (quota_record l.key) (drop l.quota-index l.quotas) ≡ l.fn.records ++ map (quota_record l.key) l.quotas
