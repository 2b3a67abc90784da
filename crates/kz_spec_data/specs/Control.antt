-- The bodies of the control znodes: who holds the tree (KIP-866), and what is recorded of the migration.
use Rattle.std.specs.Prelude.{ℕ, ℤ, pos, negsuc, List, Option, Some, None, option_and_then, Result, Ok, Err, codes}
use Rattle.std.specs.Fmt.{signed_decimal}
use Rattle.std.specs.Result.{result_ok}
use Rattle.serde_json.specs.Data.{Data, null, boolean, number, string, array, object, Members, no_members, member}
use Rattle.serde_json.specs.Find.{get}
use Rattle.serde_json.specs.Written.{compact_text}
use Rattle.kz_types.specs.declared.machine.Recorded.{Recorded}
use Rattle.kz_types.specs.declared.fault.BodyFault.{BodyFault}
use Rattle.kz_types.specs.declared.fault.BodyFault.TheVariants.{NotJson}
use Rattle.kz_types.specs.Numbers.{canonical}
use Rattle.kz_spec_data.specs.Bodies.{json_of, whole, greatest, field, of_form, then_read, whole_data}

-- ---- paths

abbrev pub control_path : List ℕ
control_path = codes "/controller"

abbrev pub epoch_path : List ℕ
epoch_path = codes "/controller_epoch"

abbrev pub migration_path : List ℕ
migration_path = codes "/migration"

-- the znodes of the brokers that are there are below this one
abbrev pub broker_ids_path : List ℕ
broker_ids_path = codes "/brokers/ids"

-- ---- /controller_epoch

abbrev pub whole_of : Option ℕ → Option ℤ
whole_of None = None
whole_of (Some n) = Some (pos n)

-- The number that `/controller_epoch` holds: a decimal of at most 2147483647.
abbrev pub read_epoch : List ℕ → Result ℤ BodyFault
read_epoch body = of_form (codes "controller_epoch") (whole_of (canonical body))

abbrev pub written_epoch : ℤ → List ℕ
written_epoch epoch = signed_decimal epoch

-- ---- /controller

abbrev pub control_data : ℤ → ℤ → ℤ → Data
control_data id epoch now = object
    (member (codes "brokerid") (whole_data id)
    (member (codes "kraftControllerEpoch") (whole_data epoch)
    (member (codes "timestamp") (string (signed_decimal now))
    (member (codes "version") (whole_data (pos 2)) no_members))))

-- the body of `/controller` that a KRaft controller writes at a time
unfoldable pub written_control : ℤ → ℤ → ℤ → List ℕ
written_control id epoch now = compact_text (control_data id epoch now)

abbrev pub shown_in : Option Data → Option ℤ
shown_in d = option_and_then (λ e. option_and_then (whole (pos 0) greatest) (get (codes "kraftControllerEpoch") e)) d

-- The epoch that a body of `/controller` shows, where a KRaft controller holds it. Every other body is a ZooKeeper-mode
-- controller's.
unfoldable pub shown_epoch : List ℕ → Option ℤ
shown_epoch body = shown_in (json_of body)

-- ---- /migration

abbrev pub recorded_data : Recorded → Data
recorded_data r = object
    (member (codes "kraft_controller_epoch") (whole_data r.controller_epoch)
    (member (codes "kraft_controller_id") (whole_data r.id)
    (member (codes "kraft_metadata_epoch") (whole_data r.epoch)
    (member (codes "kraft_metadata_offset") (whole_data r.offset)
    (member (codes "version") (whole_data (pos 0)) no_members)))))

unfoldable pub written_recorded : Recorded → List ℕ
written_recorded r = compact_text (recorded_data r)

-- its members, `version` first and the others in the order in which they are written
abbrev pub recorded_in : Data → Result Recorded BodyFault
recorded_in d =
    then_read (field (codes "version") (whole (pos 0) (pos 0)) d)
    (λ version. then_read (field (codes "kraft_controller_epoch") (whole (pos 0) greatest) d)
    (λ controller_epoch. then_read (field (codes "kraft_controller_id") (whole (pos 0) greatest) d)
    (λ id. then_read (field (codes "kraft_metadata_epoch") (whole (negsuc 0) greatest) d)
    (λ epoch. then_read (field (codes "kraft_metadata_offset") (whole (negsuc 0) (pos 9223372036854775807)) d)
    (λ offset. Ok (record { id = id; controller_epoch = controller_epoch; offset = offset; epoch = epoch }))))))

abbrev pub recorded_or_fault : Option Data → Result Recorded BodyFault
recorded_or_fault None = Err NotJson
recorded_or_fault (Some null) = Err NotJson
recorded_or_fault (Some (boolean b)) = Err NotJson
recorded_or_fault (Some (number n)) = Err NotJson
recorded_or_fault (Some (string s)) = Err NotJson
recorded_or_fault (Some (array ds)) = Err NotJson
recorded_or_fault (Some (object ms)) = recorded_in (object ms)

-- What a body of `/migration` records: an object with its five members, whatever others it has, or why there is none.
unfoldable pub read_recorded : List ℕ → Result Recorded BodyFault
read_recorded body = recorded_or_fault (json_of body)

-- what it records, where it can be read
abbrev pub recorded_of : List ℕ → Option Recorded
recorded_of body = result_ok (read_recorded body)
