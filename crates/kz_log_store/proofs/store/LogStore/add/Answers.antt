use Rattle.std.proofs.Common.{refl, w32, w64}
use Rattle.std.proofs.lemmas.Int.{to_z-of_z}
use Rattle.kz_log.proofs.Batches.{room_for}
use Rattle.kz_log_store.specs.Stores.{left_of}
use Rattle.kz_log_store.proofs.Changing.{row_is, row_goes_on, stop_of_row}
use Rattle.kz_log_store.proofs.store.LogStore.add.Goals as goal

pub prepare-requires-clause-room : goal.prepare-requires-clause-room
prepare-requires-clause-room g c = (room_for c.args.self.now.rows c.args.items.now c.requires.room).1

pub returns-in-Ok-clause-stop : goal.returns-in-Ok-clause-stop
returns-in-Ok-clause-stop g c = λ failed.
    stop_of_row c.args.self.now.rows c.args.self.now.rows c.in-Ok.made.0 c.args.items.now c.args.epoch c.args.now _ _ (left_of g.D.Disk.told g.D.Disk.may_leave c.write.new.self) refl (to_z-of_z w32 c.args.epoch c.ranges.epoch)
    (to_z-of_z w64 c.args.now c.ranges.now) c.in-Ok.ensures.row (c.write.ensures.stop failed)

pub write-requires-clause-follows : goal.write-requires-clause-follows
write-requires-clause-follows g c =
    let l = c.args.self.now.rows in
    let is = row_is l c.in-Ok.made.0 c.args.items.now c.args.epoch c.args.now _ _ (to_z-of_z w32 c.args.epoch c.ranges.epoch) (to_z-of_z w64 c.args.now c.ranges.now) c.in-Ok.ensures.row in
    row_goes_on l l c.in-Ok.made.0 c.args.epoch c.args.now c.args.items.now refl is c.requires.some c.requires.room c.requires.elected.0 c.requires.elected.1
