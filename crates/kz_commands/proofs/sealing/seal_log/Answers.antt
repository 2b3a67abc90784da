use Rattle.std.proofs.Common.{Err, sym, ◌∙◌, subst}
use Rattle.kz_spec_data.specs.Frames.{log_letter}
use Rattle.kz_log_store.specs.Stores.{store_disk, store_state, SealsDisk, SealsTold}
use Rattle.kz_commands.proofs.Disks.{not_both, one_file}
use Rattle.kz_commands.proofs.Sealed.{sums}
use Rattle.kz_commands.proofs.sealing.seal_log.Goals as goal

pub unreachable-requires-in-Err-Down : goal.unreachable-requires-in-Err-Down
unreachable-requires-in-Err-Down g c =
    let s = c.args.log.now in
    let old = store_state g.E.Disk.faults s in
    let disk = subst (λ e. SealsDisk (Err e) old (store_state g.E.Disk.faults c.seal.new.self)) c.in-Err-Down.field-0-is c.in-Err-Down.ensures.disk in
    not_both old.down disk.0 (sym s.down_is ∙ c.requires.up)

pub returns-in-Ok-clause-sealed : goal.returns-in-Ok-clause-sealed
returns-in-Ok-clause-sealed g c = λ file new was now. sums log_letter file new c.in-Ok.field-0 (g.E.Disk.told (store_disk c.seal.new.self)) (c.in-Ok.ensures.sealed file was) now

pub returns-in-Ok-clause-stop : goal.returns-in-Ok-clause-stop
returns-in-Ok-clause-stop g c = c.seal.ensures.stop c.requires.up

pub returns-in-Err-Failed-clause-stop : goal.returns-in-Err-Failed-clause-stop
returns-in-Err-Failed-clause-stop g c = c.seal.ensures.stop c.requires.up

pub returns-in-Err-Full-clause-sealed : goal.returns-in-Err-Full-clause-sealed
returns-in-Err-Full-clause-sealed g c = λ file new was now.
    let told = g.E.Disk.told (store_disk c.seal.new.self) in
    let full = subst (λ e. SealsTold log_letter file (Err e) told) c.in-Err-Full.field-0-is (c.in-Err-Full.ensures.sealed file was) in
    (one_file told file new full.0 now, full.1)

pub returns-in-Err-Full-clause-stop : goal.returns-in-Err-Full-clause-stop
returns-in-Err-Full-clause-stop g c = c.seal.ensures.stop c.requires.up
