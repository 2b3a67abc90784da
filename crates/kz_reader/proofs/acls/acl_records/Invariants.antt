use Rattle.std.proofs.Common.{◌≡◌, ◌+◌, ◌++◌, drop}
use Rattle.kz_spec_data.specs.Translation.{acl_records}
use Rattle.kz_reader.proofs.acls.acl_records.Given as goal

abbrev pub invariant-loop-index : goal.invariant-loop-index
invariant-loop-index l = l.records ++ acl_records (l.first + l.index) (drop l.index l.rows) ≡ acl_records l.first l.rows
