use Rattle.std.proofs.Common.{◌≤◌, Err, length, refl, ap, ◌∙◌, subst, w64}
use Rattle.std.proofs.lemmas.Int.{to_z-of_z}
use Rattle.kz_types.specs.declared.limits.TheConstants.{MAX_FILE_BYTES}
use Rattle.kz_spec_data.specs.Log.{snapshot}
use Rattle.kz_spec_data.specs.Requests.{Either}
use Rattle.kz_log.specs.Requests.{made_by_snapshot}
use Rattle.kz_journal.proofs.Stops.{between_from_either}
use Rattle.kz_spec_data.specs.LogFile.{after_payload}
use Rattle.kz_log_store.specs.Stores.{left_of}
use Rattle.kz_log_store.proofs.store.LogStoreMetaLog.snapshot.Goals as goal

pub put-requires-clause-makes : goal.put-requires-clause-makes
put-requires-clause-makes g c = λ few. ap (after_payload c.args.self.now.rows) c.deref.ensures.value ∙ c.in-Ok.ensures.payload.read (subst (λ bs. length bs ≤ MAX_FILE_BYTES) c.deref.ensures.value few)

pub returns-in-Err-Failed-clause-stop : goal.returns-in-Err-Failed-clause-stop
returns-in-Err-Failed-clause-stop g c = λ failed.
    let l = c.args.self.now.rows in
    let left = left_of g.D.Disk.told g.D.Disk.may_leave c.put.new.self in
    let cut = c.in-Ok.ensures.rows ∙ ap (snapshot l) (to_z-of_z w64 c.args.offset c.ranges.offset) in
    between_from_either l (snapshot l c.args.offset) (made_by_snapshot l c.args.offset) left refl (subst (λ m. Either l m left) cut (c.in-Err-Failed.ensures.stop (ap Err c.in-Err-Failed.field-0-is)))
