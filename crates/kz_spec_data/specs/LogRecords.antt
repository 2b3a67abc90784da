-- Records of the migration and of transactions of the log, as a script writes them.
use Rattle.std.specs.Prelude.{◌==◌, Option, Some, None, if◌then◌else◌, codes}
use Rattle.serde_json.specs.Data.{Data}
use Rattle.kz_types.specs.declared.record.MetaRecord.{MetaRecord}
use Rattle.kz_types.specs.declared.record.MetaRecord.TheVariants.{NoOp, ZkMigrationState, BeginTransaction, EndTransaction, AbortTransaction}
use Rattle.kz_spec_data.specs.Json.{member_count, text_or_null}
use Rattle.kz_spec_data.specs.LineFields.{◌>>=◌, int8, field, tagged_member, tagged_count}

-- `kind` alone
abbrev pub no_op_of : Data → Option MetaRecord
no_op_of d = if member_count d == 1 then Some NoOp else None

-- exactly `kind` and `state`
abbrev pub zk_migration_state_of : Data → Option MetaRecord
zk_migration_state_of d = if member_count d == 2
    then (field (codes "state") int8 d >>= λ state.
    Some (ZkMigrationState state))
    else None

-- `kind`, and `name`, a text or null, which may be absent, which is null
abbrev pub begin_transaction_of : Data → Option MetaRecord
begin_transaction_of d = if member_count d == tagged_count (codes "name") d 1
    then (tagged_member (codes "name") None text_or_null d >>= λ name.
    Some (BeginTransaction name))
    else None

-- `kind` alone
abbrev pub end_transaction_of : Data → Option MetaRecord
end_transaction_of d = if member_count d == 1 then Some EndTransaction else None

-- `kind`, and `reason`, a text or null, which may be absent, which is null
abbrev pub abort_transaction_of : Data → Option MetaRecord
abort_transaction_of d = if member_count d == tagged_count (codes "reason") d 1
    then (tagged_member (codes "reason") None text_or_null d >>= λ reason.
    Some (AbortTransaction reason))
    else None
