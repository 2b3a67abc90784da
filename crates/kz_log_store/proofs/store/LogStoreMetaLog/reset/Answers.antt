use Rattle.std.proofs.Common.{◌≡◌, Ok, Err, refl, sym, ap, ◌∙◌, subst, to_z, of_z, w32, rules, FitsSigned}
use Rattle.kz_spec_data.specs.Log.{reset}
use Rattle.kz_spec_data.specs.Requests.{Either}
use Rattle.kz_log.specs.Requests.{made_by_reset}
use Rattle.kz_journal.proofs.Stops.{between_from_either}
use Rattle.kz_log_store.specs.Stores.{left_of}
use Rattle.kz_log_frames.proofs.Payloads.{reset_makes}
use Rattle.kz_log_store.proofs.store.LogStoreMetaLog.reset.Goals as goal

pub put-requires-clause-makes : goal.put-requires-clause-makes
put-requires-clause-makes g c = λ few.
    let l = c.args.self.now.rows in
    let epoch : to_z w32 (of_z w32 c.epoch.result) ≡ l.epoch = search rules in
    let fits : FitsSigned w32 (to_z w32 (of_z w32 c.epoch.result)) = search rules in
    reset_makes l c.deref.result.now (to_z w32 (of_z w32 c.epoch.result)) fits epoch (c.deref.ensures.value ∙ c.in-Ok.ensures) ∙ ap Ok (sym c.emptied-rows.ensures.reset)

pub returns-in-Err-Failed-clause-stop : goal.returns-in-Err-Failed-clause-stop
returns-in-Err-Failed-clause-stop g c = λ failed.
    let l = c.args.self.now.rows in
    let left = left_of g.D.Disk.told g.D.Disk.may_leave c.put.new.self in
    between_from_either l (reset l) (made_by_reset l) left refl (subst (λ m. Either l m left) c.emptied-rows.ensures.reset (c.in-Err-Failed.ensures.stop (ap Err c.in-Err-Failed.field-0-is)))
