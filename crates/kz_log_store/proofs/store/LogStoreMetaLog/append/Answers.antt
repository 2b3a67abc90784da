use Rattle.std.proofs.Common.{◌≡◌, None, Err, ap, rules, w32, w64}
use Rattle.std.proofs.lemmas.Int.{to_z-of_z}
use Rattle.kz_spec_data.specs.Log.{append, full_log}
use Rattle.kz_log_store.specs.Stores.{left_of}
use Rattle.kz_log_store.proofs.Changing.{append_made, stop_between}
use Rattle.kz_log_store.proofs.store.LogStoreMetaLog.append.Goals as goal

pub returns-in-Err-Failed-clause-stop : goal.returns-in-Err-Failed-clause-stop
returns-in-Err-Failed-clause-stop g c = λ failed.
    let l = c.args.self.now.rows in
    let same : c.args.epoch ≡ l.epoch = search rules in
    let free : full_log l c.args.items.now ≡ None = search rules in
    stop_between l (append l c.args.epoch c.args.now c.args.items.now) c.args.items.now c.args.epoch c.args.now _ _ (left_of g.D.Disk.told g.D.Disk.may_leave c.add.new.self) (append_made l c.args.epoch c.args.now c.args.items.now same free)
    (to_z-of_z w32 c.args.epoch c.ranges.epoch) (to_z-of_z w64 c.args.now c.ranges.now) (c.in-Err-Failed.ensures.stop (ap Err c.in-Err-Failed.field-0-is))
