use Rattle.std.proofs.Common.{◌≡◌, Some, Err, arith, sym, ap, subst, ◌∙◌}
use Rattle.kz_spec_data.specs.Frames.{journal_of, LeftBySeal}
use Rattle.kz_journal.specs.declared.place.Place.{Place}
use Rattle.kz_journal.specs.Journals.{IsReadTo, HasClosedGate, EndsSeal, IfNotSealed, file_at, with_seal}
use Rattle.kz_journal.proofs.Crashes.{holds_now, left_at_end}
use Rattle.kz_journal.proofs.Sealed.{no_room}
use Rattle.kz_journal.proofs.Steps.{sums_at_end}
use Rattle.kz_journal.proofs.journal.Journal.seal.Goals as goal

pub returns-then-self-2-clause-sealed : goal.returns-then-self-2-clause-sealed
returns-then-self-2-clause-sealed g c = λ file told.
    let s = c.args.self.now in
    let up = c.if-self.false in
    let ended = c.requires.ended up in
    (told, sym (sums_at_end s.letter s.place file (s.read up file told) (s.closed up ended file told) (s.stands ended)) ∙ c.if-self-2.true)

pub invariant_of-self : goal.invariant_of-self
invariant_of-self g c =
    let s = c.args.self.now in
    let ended = c.requires.ended c.if-self.false in
    let gate = c.in-Ok.ensures.place.0 in
    let long = c.in-Ok.ensures.place.1 in
    let fits = c.in-Ok.ensures.answer.0 in
    record {
      room = omega arith;
      small = λ reading. absurd (cc);
      large = omega arith;
      stands = λ e. omega arith;
      settled = λ up. c.in-Ok.ensures.durable;
      read = λ up. holds_now (g.D.Disk.told s.disk) (g.D.Disk.told c.seal_at.new.disk) (IsReadTo s.letter c.in-Ok.next) c.seal_at.ensures.told
          (λ was is. let new = c.in-Ok.ensures.sealed s.letter was is (s.read up was is) (s.closed up ended was is) in (new.new, new.is, new.read));
      closed = λ up e. holds_now (g.D.Disk.told s.disk) (g.D.Disk.told c.seal_at.new.disk) (HasClosedGate c.in-Ok.next) c.seal_at.ensures.told
          (λ was is. let new = c.in-Ok.ensures.sealed s.letter was is (s.read up was is) (s.closed up ended was is) in (new.new, new.is, new.closed));
    }

pub returns-in-Ok-clause-sealed : goal.returns-in-Ok-clause-sealed
returns-in-Ok-clause-sealed g c = λ file told.
    let s = c.args.self.now in
    let up = c.if-self.false in
    let new = c.in-Ok.ensures.sealed s.letter file told (s.read up file told) (s.closed up (c.requires.ended up) file told) in
    (new.new, new.is, new.journal)

pub returns-in-Ok-clause-any_moment : goal.returns-in-Ok-clause-any_moment
returns-in-Ok-clause-any_moment g c = λ up file told.
    let s = c.args.self.now in
    c.seal_at.ensures.any_moment s.letter file told (s.read up file told) (s.closed up (c.requires.ended up) file told)

pub returns-in-Ok-clause-stop : goal.returns-in-Ok-clause-stop
returns-in-Ok-clause-stop g c = λ up file told.
    let s = c.args.self.now in
    left_at_end g.D.Disk.moment g.D.Disk.left_since g.D.Disk.may_leave s.disk c.seal_at.new.disk (LeftBySeal s.letter (journal_of s.letter file)) (λ t left before now. g.met.D.Disk.counts_now c.seal_at.new.disk t left before now)
    (c.seal_at.ensures.any_moment s.letter file told (s.read up file told) (s.closed up (c.requires.ended up) file told))

pub returns-in-Err-Failed-clause-any_moment : goal.returns-in-Err-Failed-clause-any_moment
returns-in-Err-Failed-clause-any_moment g c = λ up file told.
    let s = c.args.self.now in
    c.seal_at.ensures.any_moment s.letter file told (s.read up file told) (s.closed up (c.requires.ended up) file told)

pub returns-in-Err-Failed-clause-stop : goal.returns-in-Err-Failed-clause-stop
returns-in-Err-Failed-clause-stop g c = λ up file told.
    let s = c.args.self.now in
    left_at_end g.D.Disk.moment g.D.Disk.left_since g.D.Disk.may_leave s.disk c.seal_at.new.disk (LeftBySeal s.letter (journal_of s.letter file)) (λ t left before now. g.met.D.Disk.counts_now c.seal_at.new.disk t left before now)
    (c.seal_at.ensures.any_moment s.letter file told (s.read up file told) (s.closed up (c.requires.ended up) file told))

pub returns-in-Err-Full-clause-sealed : goal.returns-in-Err-Full-clause-sealed
returns-in-Err-Full-clause-sealed g c = λ file told.
    let s = c.args.self.now in
    let up = c.if-self.false in
    let ended = c.requires.ended up in
    let answer = subst (λ e. EndsSeal {T = Place} (Some (with_seal (file_at s.place))) (Err e) (g.D.Disk.faults s.disk) (g.D.Disk.faults c.seal_at.new.disk) (g.D.Disk.last_failed c.seal_at.new.disk)) c.in-Err-Full.field-0-is c.in-Err-Full.ensures.answer in
    let same = subst (λ e. IfNotSealed {T = Place} (Err e) (c.seal_at.new.disk ≡ s.disk)) c.in-Err-Full.field-0-is c.in-Err-Full.ensures.untouched in
    (ap g.D.Disk.told same ∙ told, no_room s.letter s.place file c.in-Err-Full.length (s.read up file told) (s.closed up ended file told) (s.stands ended) c.if-self-2.false answer.0)
