use Rattle.std.proofs.Common.{◌≡◌, ◌++◌, map, drop}
use Rattle.kz_spec_data.specs.Translation.{scram_record}
use Rattle.kz_reader.proofs.quotas.records_of_scrams.Given as goal

abbrev pub invariant-loop-scram : goal.invariant-loop-scram
invariant-loop-scram l = l.records ++ map (scram_record l.name) (drop l.scram-index l.scrams) ≡ map (scram_record l.name) l.scrams
