use Rattle.std.proofs.Common.{arith}
use Rattle.kz_spec_data.specs.Frames.{journal_of, LeftByAppend}
use Rattle.kz_journal.specs.Journals.{IsReadTo, HasClosedGate}
use Rattle.kz_journal.proofs.Crashes.{holds_now, left_at_end}
use Rattle.kz_journal.proofs.Steps.{gate_is_end}
use Rattle.kz_journal.proofs.journal.Journal.append.Goals as goal

pub invariant_of-self : goal.invariant_of-self
invariant_of-self g c =
    let s = c.args.self.now in
    let ended = c.requires.ended c.if-self.false in
    let next = c.in-Ok.ensures.next in
    let gate = next.gate_is in
    let long = next.long in
    let fits = c.in-Ok.ensures.answer.0 in
    record {
      room = omega arith;
      small = λ reading. absurd (cc);
      large = omega arith;
      stands = λ e. omega arith;
      settled = λ up. c.in-Ok.ensures.durable;
      read = λ up. holds_now (g.D.Disk.told s.disk) (g.D.Disk.told c.append_at.new.disk) (IsReadTo s.letter c.in-Ok.next) c.append_at.ensures.told
          (λ was is. let new = c.in-Ok.ensures.appended s.letter was is (s.read up was is) (s.closed up ended was is) in (new.new, new.is, new.read));
      closed = λ up e. holds_now (g.D.Disk.told s.disk) (g.D.Disk.told c.append_at.new.disk) (HasClosedGate c.in-Ok.next) c.append_at.ensures.told
          (λ was is. let new = c.in-Ok.ensures.appended s.letter was is (s.read up was is) (s.closed up ended was is) in (new.new, new.is, new.closed));
    }

pub returns-in-Ok-clause-appended : goal.returns-in-Ok-clause-appended
returns-in-Ok-clause-appended g c = λ file told.
    let s = c.args.self.now in
    let up = c.if-self.false in
    let ended = c.requires.ended up in
    let read = s.read up file told in
    let closed = s.closed up ended file told in
    let new = c.in-Ok.ensures.appended s.letter file told read closed in
    record { new = new.new; is = new.is; journal = new.journal; at_is = gate_is_end s.letter s.place file read closed (s.stands ended) }

pub returns-in-Ok-clause-any_moment : goal.returns-in-Ok-clause-any_moment
returns-in-Ok-clause-any_moment g c = λ up file told.
    let s = c.args.self.now in
    c.append_at.ensures.any_moment s.letter file told (s.read up file told) (s.closed up (c.requires.ended up) file told)

pub returns-in-Ok-clause-stop : goal.returns-in-Ok-clause-stop
returns-in-Ok-clause-stop g c = λ up file told.
    let s = c.args.self.now in
    left_at_end g.D.Disk.moment g.D.Disk.left_since g.D.Disk.may_leave s.disk c.append_at.new.disk (LeftByAppend s.letter c.args.payload.now (journal_of s.letter file)) (λ t left before now. g.met.D.Disk.counts_now c.append_at.new.disk t left before now)
    (c.append_at.ensures.any_moment s.letter file told (s.read up file told) (s.closed up (c.requires.ended up) file told))

pub returns-in-Err-Failed-clause-any_moment : goal.returns-in-Err-Failed-clause-any_moment
returns-in-Err-Failed-clause-any_moment g c = λ up file told.
    let s = c.args.self.now in
    c.append_at.ensures.any_moment s.letter file told (s.read up file told) (s.closed up (c.requires.ended up) file told)

pub returns-in-Err-Failed-clause-stop : goal.returns-in-Err-Failed-clause-stop
returns-in-Err-Failed-clause-stop g c = λ up file told.
    let s = c.args.self.now in
    left_at_end g.D.Disk.moment g.D.Disk.left_since g.D.Disk.may_leave s.disk c.append_at.new.disk (LeftByAppend s.letter c.args.payload.now (journal_of s.letter file)) (λ t left before now. g.met.D.Disk.counts_now c.append_at.new.disk t left before now)
    (c.append_at.ensures.any_moment s.letter file told (s.read up file told) (s.closed up (c.requires.ended up) file told))
