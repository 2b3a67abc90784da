use Rattle.std.proofs.Common.{◌≡◌, ◌++◌, map, drop}
use Rattle.kz_spec_data.specs.Translation.{config_record}
use Rattle.kz_reader.proofs.configs.member_records.Given as goal

abbrev pub invariant-loop-pair : goal.invariant-loop-pair
invariant-loop-pair l = l.records ++ map (config_record l.resource l.name) (drop l.pair-index l.pairs) ≡ map (config_record l.resource l.name) l.pairs
