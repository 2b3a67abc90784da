use Rattle.std.specs.Prelude.{⊤}
use Rattle.std.proofs.Common.{◌≡◌, ◌≤◌, false, length, Ok, Err, refl, sym, ap, ◌∙◌, subst}
use Rattle.kz_types.specs.declared.limits.TheConstants.{MAX_FILE_BYTES}
use Rattle.kz_spec_data.specs.Requests.{Disk, ChangesDisk}
use Rattle.kz_spec_data.specs.Requests as answers
use Rattle.kz_spec_data.specs.Frames.{journal_of, LeftByAppend}
use Rattle.kz_journal.specs.Held.{disk_of, is_down, disk_state}
use Rattle.kz_journal.specs.Changes.{answer_of_change_fault, IfUnwritten, HasFrame}
use Rattle.kz_log_store.proofs.Changing.{frame_fits, resized}
use Rattle.kz_log_store.proofs.Frames.{same_after, left_by_change}
use Rattle.kz_log_store.proofs.store.LogStore.put.Goals as goal

pub invariant_of-self : goal.invariant_of-self
invariant_of-self g c =
    let s = c.args.self.now in
    let disk = c.in-Ok.ensures.disk in
    let payload = c.args.payload.now in
    let up : is_down s.journal ≡ false = sym s.down_is ∙ c.requires.up in
    let few : length payload ≤ MAX_FILE_BYTES = frame_fits (length payload) (disk_state g.D.Disk.faults s.journal) _ refl disk.1 in
    record {
      is_log = c.requires.is_log;
      letter = c.write_frame.ensures.kept.0 ∙ s.letter;
      down_is = s.down_is ∙ sym (ap (λ (d : Disk). d.down) disk.2);
      ended = λ h. c.write_frame.ensures.kept.1;
      same = λ h. same_after s.rows c.args.rows s.fresh payload (g.D.Disk.told (disk_of s.journal)) (g.D.Disk.told (disk_of c.write_frame.new.journal)) c.write_frame.ensures.told (s.same up)
          (λ file is. subst (λ n. HasFrame n payload file (g.D.Disk.told (disk_of c.write_frame.new.journal))) s.letter (c.in-Ok.ensures.appended file is))
          (c.requires.makes few);
    }

pub invariant_of-self-in-Err-Failed : goal.invariant_of-self-in-Err-Failed
invariant_of-self-in-Err-Failed g c =
    let s = c.args.self.now in
    let old = disk_state g.D.Disk.faults s.journal in
    let new = disk_state g.D.Disk.faults c.write_frame.new.journal in
    let disk = subst (λ e. ChangesDisk ⊤ (length c.args.payload.now) (answer_of_change_fault e) old new) c.in-Err-Failed.field-0-is c.in-Err-Failed.ensures.disk in
    let down = disk.4 in
    record {
      is_log = s.is_log;
      letter = c.write_frame.ensures.kept.0 ∙ s.letter;
      down_is = sym down;
      ended = λ up. c.write_frame.ensures.kept.1;
      same = λ up. absurd (cc);
    }

pub invariant_of-self-in-Full-1 : goal.invariant_of-self-in-Full-1
invariant_of-self-in-Full-1 g c =
    let s = c.args.self.now in
    let old = disk_state g.D.Disk.faults s.journal in
    let new = disk_state g.D.Disk.faults c.write_frame.new.journal in
    let disk = subst (λ e. ChangesDisk ⊤ (length c.args.payload.now) (answer_of_change_fault e) old new) c.in-Err-Full.field-0-is c.in-Err-Full.ensures.disk in
    let same = subst (λ e. IfUnwritten {T = Unit {0}} (Err e) (disk_of c.write_frame.new.journal ≡ disk_of s.journal)) c.in-Err-Full.field-0-is c.in-Err-Full.ensures.untouched in
    let up : is_down s.journal ≡ false = sym s.down_is ∙ c.requires.up in
    record {
      is_log = s.is_log;
      letter = c.write_frame.ensures.kept.0 ∙ s.letter;
      down_is = s.down_is ∙ sym (ap (λ (d : Disk). d.down) disk.3);
      ended = λ h. c.write_frame.ensures.kept.1;
      same = λ h file is. s.same up file (sym (ap g.D.Disk.told same) ∙ is);
    }

pub invariant_of-self-in-Err-NoMemory : goal.invariant_of-self-in-Err-NoMemory
invariant_of-self-in-Err-NoMemory g c =
    let s = c.args.self.now in
    let old = disk_state g.D.Disk.faults s.journal in
    let new = disk_state g.D.Disk.faults c.write_frame.new.journal in
    let disk = subst (λ e. ChangesDisk ⊤ (length c.args.payload.now) (answer_of_change_fault e) old new) c.in-Err-NoMemory.field-0-is c.in-Err-NoMemory.ensures.disk in
    let same = subst (λ e. IfUnwritten {T = Unit {0}} (Err e) (disk_of c.write_frame.new.journal ≡ disk_of s.journal)) c.in-Err-NoMemory.field-0-is c.in-Err-NoMemory.ensures.untouched in
    let up : is_down s.journal ≡ false = sym s.down_is ∙ c.requires.up in
    record {
      is_log = s.is_log;
      letter = c.write_frame.ensures.kept.0 ∙ s.letter;
      down_is = s.down_is ∙ sym (ap (λ (d : Disk). d.down) disk);
      ended = λ h. c.write_frame.ensures.kept.1;
      same = λ h file is. s.same up file (sym (ap g.D.Disk.told same) ∙ is);
    }

pub returns-in-Ok-clause-disk : goal.returns-in-Ok-clause-disk
returns-in-Ok-clause-disk g c = c.in-Ok.ensures.disk

pub returns-in-Err-Failed-clause-disk : goal.returns-in-Err-Failed-clause-disk
returns-in-Err-Failed-clause-disk g c =
    let old = disk_state g.D.Disk.faults c.args.self.now.journal in
    let new = disk_state g.D.Disk.faults c.write_frame.new.journal in
    subst (λ e. ChangesDisk ⊤ (length c.args.payload.now) (answer_of_change_fault e) old new) c.in-Err-Failed.field-0-is c.in-Err-Failed.ensures.disk

pub returns-in-Err-Full-clause-disk : goal.returns-in-Err-Full-clause-disk
returns-in-Err-Full-clause-disk g c =
    let old = disk_state g.D.Disk.faults c.args.self.now.journal in
    let new = disk_state g.D.Disk.faults c.write_frame.new.journal in
    let disk = subst (λ e. ChangesDisk ⊤ (length c.args.payload.now) (answer_of_change_fault e) old new) c.in-Err-Full.field-0-is c.in-Err-Full.ensures.disk in
    rw c.in-Err-Full.field-0-is disk

pub returns-in-Err-Failed-clause-stop : goal.returns-in-Err-Failed-clause-stop
returns-in-Err-Failed-clause-stop g c = λ failed.
    let s = c.args.self.now in
    let payload = c.args.payload.now in
    let old = disk_state g.D.Disk.faults s.journal in
    let new = disk_state g.D.Disk.faults c.write_frame.new.journal in
    let disk = subst (λ e. ChangesDisk ⊤ (length payload) (answer_of_change_fault e) old new) c.in-Err-Failed.field-0-is c.in-Err-Failed.ensures.disk in
    let up : is_down s.journal ≡ false = sym s.down_is ∙ c.requires.up in
    let few : length payload ≤ MAX_FILE_BYTES = frame_fits (length payload) old _ refl disk.2 in
    left_by_change s.rows c.args.rows s.fresh payload (g.D.Disk.told (disk_of s.journal)) (g.D.Disk.told (disk_of c.write_frame.new.journal)) (g.D.Disk.may_leave (disk_of c.write_frame.new.journal)) c.write_frame.ensures.told (s.same up)
    (λ file is left may. subst (λ n. LeftByAppend n payload (journal_of n file) left) s.letter (c.write_frame.ensures.stop file is left may))
    (c.requires.makes few)
