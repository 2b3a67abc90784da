use Rattle.std.proofs.Common.{Bool, refl, sym, subst}
use Rattle.kz_journal.specs.Held.{disk_of, disk_state}
use Rattle.kz_spec_data.specs.Log.{Log}
use Rattle.kz_log_store.specs.Stores.{IsUnopened, HasOpenCause}
use Rattle.kz_log_store.proofs.Opening.{read_cause, read_refused}
use Rattle.kz_log_store.proofs.Frames.{read_same}
use Rattle.kz_log_store.proofs.store.LogStore.read_log.Goals as goal

pub invariant_of-store : goal.invariant_of-store
invariant_of-store g c =
    let found = c.in-Ok.found in
    let old = c.args.journal in
    let new = c.read_frames.new.journal in
    record {
      is_log = c.in-Ok.ensures.is_log;
      letter = c.read_frames.ensures.letter;
      down_is = sym c.in-Ok.ensures.cause.0;
      ended = λ up. c.in-Ok.ensures.ended;
      same = λ up. read_same found.0 found.1 (g.D.Disk.told (disk_of old)) (g.D.Disk.told (disk_of new)) c.read_frames.ensures.told (λ file is. c.in-Ok.ensures.answer file is (c.requires.all file is));
    }

pub returns-in-Ok-clause-opened : goal.returns-in-Ok-clause-opened
returns-in-Ok-clause-opened g c = record {
  up = refl;
  told = c.read_frames.ensures.told;
  same = λ file is. (c.in-Ok.ensures.answer file is (c.requires.all file is)).0;
  log = λ file is. (c.in-Ok.ensures.answer file is (c.requires.all file is)).1;
}

pub returns-in-Ok-clause-calm : goal.returns-in-Ok-clause-calm
returns-in-Ok-clause-calm g c = c.in-Ok.ensures.cause.1

pub returns-in-Err-clause-refused : goal.returns-in-Err-clause-refused
returns-in-Err-clause-refused g c =
    subst (λ d. IsUnopened c.in-Err.fault (g.D.Disk.told (disk_of c.args.journal)) (g.D.Disk.told d)) (sym c.into_disk.ensures)
    (read_refused c.in-Err.fault (g.D.Disk.told (disk_of c.args.journal)) (g.D.Disk.told (disk_of c.read_frames.new.journal)) (λ file told. c.in-Err.ensures.answer file told (c.requires.all file told)))

pub returns-in-Err-clause-cause : goal.returns-in-Err-clause-cause
returns-in-Err-clause-cause g c =
    let old = disk_state g.D.Disk.faults c.args.journal in
    let new = disk_state g.D.Disk.faults c.read_frames.new.journal in
    subst (λ d. HasOpenCause c.in-Err.fault (g.D.Disk.faults (disk_of c.args.journal)) (g.D.Disk.faults d) (g.D.Disk.last_failed d)) (sym c.into_disk.ensures)
    (read_cause (Log × Bool) c.in-Err.fault old new (g.D.Disk.last_failed (disk_of c.read_frames.new.journal)) (g.D.Disk.faults (disk_of c.args.journal)) refl c.in-Err.ensures.cause)

pub returns-in-Err-clause-left : goal.returns-in-Err-clause-left
returns-in-Err-clause-left g c = λ file told few left may. c.read_frames.ensures.stop file told few left (subst (λ d. g.D.Disk.may_leave d left) c.into_disk.ensures may)
