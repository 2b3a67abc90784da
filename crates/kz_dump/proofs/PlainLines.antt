-- What is written of a tree and a log has no floats.
use Rattle.std.proofs.Common.{◌≡◌, false, List, Option, Some, None, codes, ℤ}
use Rattle.std.specs.Prelude.{map}
use Rattle.serde_json.specs.Data.{Members, array}
use Rattle.serde_json.specs.View.{items_of}
use Rattle.serde_json.specs.Written.{has_float}
use Rattle.kz_types.specs.declared.log.BatchRow.{BatchRow}
use Rattle.kz_types.specs.declared.tree.Row.{Row}
use Rattle.kz_spec_data.specs.Members.{whole_data}
use Rattle.kz_spec_data.specs.Written.{with_owner}
use Rattle.kz_spec_data.specs.WrittenRecords.{record_data}
use Rattle.kz_spec_machine.specs.Dumps.{tree_head_data, row_data, log_head_data, batch_data}
use Rattle.kz_record_fields.proofs.Floats.{Calm, no_members_calm, put_calm, text_no_float, integer_no_float, whole_no_float, bytes_no_float, each_no_float}
use Rattle.kz_record_json.proofs.PlainRecords.{record_no_float}

pub tree_head_no_float : (sessions : List ℤ) (zxid : ℤ) → has_float (tree_head_data sessions zxid) ≡ false
tree_head_no_float sessions zxid =
    (whole_no_float (codes "zxid") zxid _ (
    put_calm (codes "sessions") (array (items_of (map whole_data sessions))) _ (each_no_float whole_data integer_no_float sessions) no_members_calm)).none

owner_no_float : (owner : Option ℤ) (ms : Members) → Calm ms → Calm (with_owner owner ms)
owner_no_float None ms all = all
owner_no_float (Some session) ms all = whole_no_float (codes "owner") session ms all

pub row_no_float : (r : Row) → has_float (row_data r) ≡ false
row_no_float r =
    (whole_no_float (codes "version") r.version _ (
    whole_no_float (codes "pzxid") r.pzxid _ (
    text_no_float (codes "path") r.path _ (
    owner_no_float r.owner _ (
    whole_no_float (codes "mzxid") r.mzxid _ (
    whole_no_float (codes "czxid") r.czxid _ (
    bytes_no_float (codes "bytes") r.body _ no_members_calm))))))).none

pub log_head_no_float : (base end epoch : ℤ) → has_float (log_head_data base end epoch) ≡ false
log_head_no_float base end epoch =
    (whole_no_float (codes "epoch") epoch _ (
    whole_no_float (codes "end") end _ (
    whole_no_float (codes "base") base _ no_members_calm))).none

pub batch_no_float : (b : BatchRow) → has_float (batch_data b) ≡ false
batch_no_float b =
    (whole_no_float (codes "time") b.time _ (
    put_calm (codes "records") (array (items_of (map record_data b.items))) _ (each_no_float record_data record_no_float b.items) (
    whole_no_float (codes "first") b.first _ (
    whole_no_float (codes "epoch") b.epoch _ no_members_calm)))).none
