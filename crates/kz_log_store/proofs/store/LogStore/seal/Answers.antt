use Rattle.std.proofs.Common.{◌≡◌, false, Ok, Err, sym, ap, ◌∙◌, subst}
use Rattle.kz_spec_data.specs.Requests.{Disk}
use Rattle.kz_spec_data.specs.Frames.{journal_of, LeftBySeal}
use Rattle.kz_journal.specs.Held.{disk_of, letter_of, is_down, disk_state}
use Rattle.kz_journal.specs.declared.change_fault.ChangeFault.TheVariants.{Full}
use Rattle.kz_journal.specs.Changes.{AnswersSeal, SealsFile, IfUnsealed}
use Rattle.kz_log_store.proofs.Frames.{same_sealed, left_by_seal, seal_up, seal_done}
use Rattle.kz_log_store.proofs.store.LogStore.seal.Goals as goal

pub invariant_of-self : goal.invariant_of-self
invariant_of-self g c =
    let s = c.args.self.now in
    let old = disk_state g.D.Disk.faults s.journal in
    let new = disk_state g.D.Disk.faults c.write_seal.new.journal in
    let up : is_down s.journal ≡ false = sym s.down_is ∙ c.if-self.false in
    record {
      is_log = s.is_log;
      letter = c.write_seal.ensures.kept.0 ∙ s.letter;
      down_is = s.down_is ∙ sym (seal_up c.in-Ok.done old new c.in-Ok.ensures.disk);
      ended = λ h. c.write_seal.ensures.kept.1;
      same = λ h. same_sealed s.rows s.fresh c.in-Ok.done (g.D.Disk.told (disk_of s.journal)) (g.D.Disk.told (disk_of c.write_seal.new.journal)) c.write_seal.ensures.told (s.same up)
          (λ file is. subst (λ n. AnswersSeal n file (Ok c.in-Ok.done) (g.D.Disk.told (disk_of c.write_seal.new.journal))) s.letter (c.in-Ok.ensures.sealed file is));
    }

pub invariant_of-self-in-Err-Failed : goal.invariant_of-self-in-Err-Failed
invariant_of-self-in-Err-Failed g c =
    let s = c.args.self.now in
    let old = disk_state g.D.Disk.faults s.journal in
    let new = disk_state g.D.Disk.faults c.write_seal.new.journal in
    let disk = subst (λ e. SealsFile (Err e) old new) c.in-Err-Failed.field-0-is c.in-Err-Failed.ensures.disk in
    let down = disk.2 in
    record {
      is_log = s.is_log;
      letter = c.write_seal.ensures.kept.0 ∙ s.letter;
      down_is = sym down;
      ended = λ h. c.write_seal.ensures.kept.1;
      same = λ h. absurd (cc);
    }

pub invariant_of-self-in-Full-1 : goal.invariant_of-self-in-Full-1
invariant_of-self-in-Full-1 g c =
    let s = c.args.self.now in
    let old = disk_state g.D.Disk.faults s.journal in
    let new = disk_state g.D.Disk.faults c.write_seal.new.journal in
    let disk = subst (λ e. SealsFile (Err e) old new) c.in-Err-Full.field-0-is c.in-Err-Full.ensures.disk in
    let same = subst (λ e. IfUnsealed (Err e) (disk_of c.write_seal.new.journal ≡ disk_of s.journal)) c.in-Err-Full.field-0-is c.in-Err-Full.ensures.untouched in
    let up : is_down s.journal ≡ false = sym s.down_is ∙ c.if-self.false in
    record {
      is_log = s.is_log;
      letter = c.write_seal.ensures.kept.0 ∙ s.letter;
      down_is = s.down_is ∙ sym (ap (λ (d : Disk). d.down) disk.1);
      ended = λ h. c.write_seal.ensures.kept.1;
      same = λ h file is. s.same up file (sym (ap g.D.Disk.told same) ∙ is);
    }

pub returns-in-Ok-clause-sealed : goal.returns-in-Ok-clause-sealed
returns-in-Ok-clause-sealed g c = λ file is. subst (λ n. AnswersSeal n file (Ok c.in-Ok.done) (g.D.Disk.told (disk_of c.write_seal.new.journal))) c.args.self.now.letter (c.in-Ok.ensures.sealed file is)

pub returns-in-Err-Full-clause-sealed : goal.returns-in-Err-Full-clause-sealed
returns-in-Err-Full-clause-sealed g c = λ file is.
    let now = g.D.Disk.told (disk_of c.write_seal.new.journal) in
    subst (λ n. AnswersSeal n file (Err (Full c.in-Err-Full.length)) now) c.args.self.now.letter (subst (λ e. AnswersSeal (letter_of c.args.self.now.journal) file (Err e) now) c.in-Err-Full.field-0-is (c.in-Err-Full.ensures.sealed file is))

pub returns-in-Ok-clause-disk : goal.returns-in-Ok-clause-disk
returns-in-Ok-clause-disk g c =
    let s = c.args.self.now in
    seal_done c.in-Ok.done (disk_state g.D.Disk.faults s.journal) (disk_state g.D.Disk.faults c.write_seal.new.journal) (sym s.down_is ∙ c.if-self.false) c.in-Ok.ensures.disk

pub returns-in-Ok-clause-stop : goal.returns-in-Ok-clause-stop
returns-in-Ok-clause-stop g c = λ h.
    let s = c.args.self.now in
    let up : is_down s.journal ≡ false = sym s.down_is ∙ c.if-self.false in
    left_by_seal s.rows s.fresh (g.D.Disk.told (disk_of s.journal)) (g.D.Disk.told (disk_of c.write_seal.new.journal)) (g.D.Disk.may_leave (disk_of c.write_seal.new.journal)) c.write_seal.ensures.told (s.same up)
    (λ file is left may. subst (λ n. LeftBySeal n (journal_of n file) left) s.letter (c.write_seal.ensures.stop file is left may))

pub returns-in-Err-Failed-clause-disk : goal.returns-in-Err-Failed-clause-disk
returns-in-Err-Failed-clause-disk g c =
    let s = c.args.self.now in
    let old = disk_state g.D.Disk.faults s.journal in
    let new = disk_state g.D.Disk.faults c.write_seal.new.journal in
    let disk = subst (λ e. SealsFile (Err e) old new) c.in-Err-Failed.field-0-is c.in-Err-Failed.ensures.disk in
    (sym s.down_is ∙ c.if-self.false, disk.0, disk.1, disk.2, disk.3)

pub returns-in-Err-Failed-clause-stop : goal.returns-in-Err-Failed-clause-stop
returns-in-Err-Failed-clause-stop g c = λ h.
    let s = c.args.self.now in
    let up : is_down s.journal ≡ false = sym s.down_is ∙ c.if-self.false in
    left_by_seal s.rows s.fresh (g.D.Disk.told (disk_of s.journal)) (g.D.Disk.told (disk_of c.write_seal.new.journal)) (g.D.Disk.may_leave (disk_of c.write_seal.new.journal)) c.write_seal.ensures.told (s.same up)
    (λ file is left may. subst (λ n. LeftBySeal n (journal_of n file) left) s.letter (c.write_seal.ensures.stop file is left may))

pub returns-in-Err-Full-clause-disk : goal.returns-in-Err-Full-clause-disk
returns-in-Err-Full-clause-disk g c =
    let s = c.args.self.now in
    let old = disk_state g.D.Disk.faults s.journal in
    let new = disk_state g.D.Disk.faults c.write_seal.new.journal in
    let disk = subst (λ e. SealsFile (Err e) old new) c.in-Err-Full.field-0-is c.in-Err-Full.ensures.disk in
    (sym s.down_is ∙ c.if-self.false, disk.0, disk.1)

pub returns-in-Err-Full-clause-stop : goal.returns-in-Err-Full-clause-stop
returns-in-Err-Full-clause-stop g c = λ h.
    let s = c.args.self.now in
    let up : is_down s.journal ≡ false = sym s.down_is ∙ c.if-self.false in
    left_by_seal s.rows s.fresh (g.D.Disk.told (disk_of s.journal)) (g.D.Disk.told (disk_of c.write_seal.new.journal)) (g.D.Disk.may_leave (disk_of c.write_seal.new.journal)) c.write_seal.ensures.told (s.same up)
    (λ file is left may. subst (λ n. LeftBySeal n (journal_of n file) left) s.letter (c.write_seal.ensures.stop file is left may))
