use Rattle.std.proofs.Common.{◌≡◌, ◌++◌, map, take}
use Rattle.kz_spec_data.specs.Credentials.{quota_pair, credential_pair}
use Rattle.kz_json.proofs.quotas.pairs_of.Given as goal

abbrev pub invariant-loop-row : goal.invariant-loop-row
invariant-loop-row l = l.pairs.items ≡ map quota_pair (take l.row-index l.quotas)

abbrev pub invariant-loop-pair : goal.invariant-loop-pair
invariant-loop-pair l = l.pairs.items ≡ map quota_pair l.quotas ++ map credential_pair (take l.pair-index l.scrams)
