use Rattle.std.proofs.Common.{◌≡◌, ◌<ℤ◌, ◌+ℤ◌, pos, None, Err, ap, to_z, of_z, rules, w32, w64, arith}
use Rattle.std.proofs.lemmas.Int.{ints, to_z-of_z}
use mir.Val.{SFits}
use Rattle.kz_types.specs.declared.limits.TheConstants.{MAX_EPOCH}
use Rattle.kz_spec_data.specs.Log.{elect, full_log}
use Rattle.kz_log_store.specs.Stores.{left_of}
use Rattle.kz_log_store.proofs.Changing.{elect_made, stop_between}
use Rattle.kz_log_store.proofs.store.LogStoreMetaLog.elect.Goals as goal

pub returns-in-Err-Failed-clause-stop : goal.returns-in-Err-Failed-clause-stop
returns-in-Err-Failed-clause-stop g c = λ failed.
    let l = c.args.self.now.rows in
    let free : full_log l c.args.items.now ≡ None = search rules in
    let is = c.epoch.ensures in
    let fits : SFits w32 c.epoch.result = search rules in
    let test = c.if-epoch-eq-MAX_EPOCH.false in
    let below : l.epoch <ℤ MAX_EPOCH = omega (arith, ints, is, fits, test) in
    let again = c.epoch-epoch.ensures in
    let fits_again : SFits w32 c.epoch-epoch.result = search rules in
    let epoch_is : to_z w32 (of_z w32 (to_z w32 (of_z w32 c.epoch-epoch.result) +ℤ pos 1)) ≡ l.epoch +ℤ pos 1 = omega (arith, ints, again, fits_again, below) in
    stop_between l (elect l c.args.now c.args.items.now) c.args.items.now (l.epoch +ℤ pos 1) c.args.now _ _ (left_of g.D.Disk.told g.D.Disk.may_leave c.add.new.self) (elect_made l c.args.now c.args.items.now below free)
    epoch_is (to_z-of_z w64 c.args.now c.ranges.now) (c.in-Err-Failed.ensures.stop (ap Err c.in-Err-Failed.field-0-is))
