use Rattle.std.proofs.Common.{Ok, Err, sym, ◌∙◌, subst}
use Rattle.kz_spec_data.specs.Frames.{journal_of, LeftBySeal}
use Rattle.kz_journal.specs.Held.{disk_of, letter_of, disk_state}
use Rattle.kz_journal.specs.declared.change_fault.ChangeFault.TheVariants.{Full}
use Rattle.kz_journal.specs.Changes.{AnswersSeal}
use Rattle.kz_tree_store.specs.Stores.{known}
use Rattle.kz_tree_store.proofs.Frames.{same_sealed, left_by_seal, up_by_seal}
use Rattle.kz_tree_store.proofs.store.TreeStore.seal.Goals as goal

pub invariant_of-self : goal.invariant_of-self
invariant_of-self g c =
    let told = g.D.Disk.told in
    let s = c.args.self.now in
    let up = sym s.down_is ∙ c.if-self.false in
    let now = told (disk_of c.write_seal.new.journal) in
    record {
      positive = s.positive;
      letter = c.write_seal.ensures.kept.0 ∙ s.letter;
      down_is = s.down_is ∙ sym (up_by_seal c.in-Ok.done (disk_state g.D.Disk.faults s.journal) (disk_state g.D.Disk.faults c.write_seal.new.journal) c.in-Ok.ensures.disk);
      ended = λ still. c.write_seal.ensures.kept.1;
      same = λ still file here.
          same_sealed (known s) c.in-Ok.done (told (disk_of s.journal)) now c.write_seal.ensures.told (s.same up) (λ f t. subst (λ l. AnswersSeal l f (Ok c.in-Ok.done) now) s.letter (c.in-Ok.ensures.sealed f t)) file here;
    }

pub returns-in-Ok-clause-sealed : goal.returns-in-Ok-clause-sealed
returns-in-Ok-clause-sealed g c = λ file here. subst (λ l. AnswersSeal l file (Ok c.in-Ok.done) (g.D.Disk.told (disk_of c.write_seal.new.journal))) c.args.self.now.letter (c.in-Ok.ensures.sealed file here)

pub returns-in-Err-Full-clause-sealed : goal.returns-in-Err-Full-clause-sealed
returns-in-Err-Full-clause-sealed g c = λ file here.
    let now = g.D.Disk.told (disk_of c.write_seal.new.journal) in
    subst (λ l. AnswersSeal l file (Err (Full c.in-Err-Full.length)) now) c.args.self.now.letter (subst (λ e. AnswersSeal (letter_of c.args.self.now.journal) file (Err e) now) c.in-Err-Full.field-0-is (c.in-Err-Full.ensures.sealed file here))

pub returns-in-Err-Failed-clause-stop : goal.returns-in-Err-Failed-clause-stop
returns-in-Err-Failed-clause-stop g c = λ now.
    let told = g.D.Disk.told in
    let s = c.args.self.now in
    let up = sym s.down_is ∙ c.if-self.false in
    left_by_seal (known s) (told (disk_of s.journal)) (told (disk_of c.write_seal.new.journal)) (g.D.Disk.may_leave (disk_of c.write_seal.new.journal)) c.write_seal.ensures.told (s.same up)
    (λ file here left may. subst (λ l. LeftBySeal l (journal_of l file) left) s.letter (c.write_seal.ensures.stop file here left may))
