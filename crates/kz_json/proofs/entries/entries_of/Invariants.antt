use Rattle.std.proofs.Common.{◌≡◌, drop, Ok}
use Rattle.kz_spec_data.specs.Credentials.{entries_of, both}
use Rattle.kz_json.proofs.entries.entries_of.Given as goal

abbrev pub invariant-loop-pair : goal.invariant-loop-pair
invariant-loop-pair l = both (Ok l.entries) (entries_of l.key (drop l.pair-index l.pairs)) ≡ entries_of l.key l.pairs
