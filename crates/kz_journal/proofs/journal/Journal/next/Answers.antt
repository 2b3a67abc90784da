use Rattle.std.proofs.Common.{arith, subst, ◌≡◌, ◌-◌, ◌<◌, ◌≤◌, ℕ}
use Rattle.kz_journal.specs.declared.next.Next.{Next}
use Rattle.kz_journal.specs.Journals.{IsReadTo, HasClosedGate}
use Rattle.kz_journal.specs.Nexts.{ComesNext, IsInRange, IsOnward}
use Rattle.kz_journal.proofs.Crashes.{holds_now}
use Rattle.kz_journal.proofs.Steps.{ended_says, whole_says}
use Rattle.kz_journal.proofs.journal.Journal.next.Goals as goal

pub returns-then-self-2-clause-answer : goal.returns-then-self-2-clause-answer
returns-then-self-2-clause-answer g c = λ file told.
    let s = c.args.self.now in
    let up = c.if-self.false in
    ended_says s.letter s.place file (g.D.Disk.told s.disk) (s.read up file told) (s.closed up c.if-self-2.true file told) (s.stands c.if-self-2.true) told

pub invariant_of-self : goal.invariant_of-self
invariant_of-self g c =
    let s = c.args.self.now in
    let range = subst IsInRange c.in-Ok-Frame.field-0-is c.in-Ok-Frame.ensures.range in
    record {
      room = range.0;
      small = λ reading. range.1;
      large = omega arith;
      stands = λ ended. absurd (cc);
      settled = λ up. c.in-Ok-Frame.ensures.settled;
      read = λ up. holds_now (g.D.Disk.told s.disk) (g.D.Disk.told c.next_at.new.disk) (IsReadTo s.letter c.in-Ok-Frame.further) c.next_at.ensures.told
          (λ was is.
          let n = subst (λ (n : Next). ComesNext s.letter was s.place n (g.D.Disk.told c.next_at.new.disk)) c.in-Ok-Frame.field-0-is (c.in-Ok-Frame.ensures.found s.letter was is (s.read up was is)) in
          (was, n.same, n.read));
      closed = λ up ended. absurd (cc);
    }

pub invariant_of-self-in-Ok-End : goal.invariant_of-self-in-Ok-End
invariant_of-self-in-Ok-End g c =
    let s = c.args.self.now in
    let range = subst IsInRange c.in-Ok-End.field-0-is c.in-Ok-End.ensures.range in
    let stands = range.0 in
    record {
      room = omega arith;
      small = λ reading. absurd (cc);
      large = range.1;
      stands = λ ended. range.0;
      settled = λ up. c.in-Ok-End.ensures.settled;
      read = λ up. holds_now (g.D.Disk.told s.disk) (g.D.Disk.told c.next_at.new.disk) (IsReadTo s.letter c.in-Ok-End.further) c.next_at.ensures.told
          (λ was is.
          let n = subst (λ (n : Next). ComesNext s.letter was s.place n (g.D.Disk.told c.next_at.new.disk)) c.in-Ok-End.field-0-is (c.in-Ok-End.ensures.found s.letter was is (s.read up was is)) in
          (n.new, n.is, n.read));
      closed = λ up ended. holds_now (g.D.Disk.told s.disk) (g.D.Disk.told c.next_at.new.disk) (HasClosedGate c.in-Ok-End.further) c.next_at.ensures.told
          (λ was is.
          let n = subst (λ (n : Next). ComesNext s.letter was s.place n (g.D.Disk.told c.next_at.new.disk)) c.in-Ok-End.field-0-is (c.in-Ok-End.ensures.found s.letter was is (s.read up was is)) in
          (n.new, n.is, n.closed));
    }

pub returns-in-Ok-Frame-clause-answer : goal.returns-in-Ok-Frame-clause-answer
returns-in-Ok-Frame-clause-answer g c = λ file told.
    let s = c.args.self.now in
    let n = subst (λ (n : Next). ComesNext s.letter file s.place n (g.D.Disk.told c.next_at.new.disk)) c.in-Ok-Frame.field-0-is (c.in-Ok-Frame.ensures.found s.letter file told (s.read c.if-self.false file told)) in
    (n.same, n.frame)

pub returns-in-Ok-End-clause-answer : goal.returns-in-Ok-End-clause-answer
returns-in-Ok-End-clause-answer g c = λ file told.
    let s = c.args.self.now in
    let range = subst IsInRange c.in-Ok-End.field-0-is c.in-Ok-End.ensures.range in
    let n = subst (λ (n : Next). ComesNext s.letter file s.place n (g.D.Disk.told c.next_at.new.disk)) c.in-Ok-End.field-0-is (c.in-Ok-End.ensures.found s.letter file told (s.read c.if-self.false file told)) in
    whole_says s.letter s.place c.in-Ok-End.further file (g.D.Disk.told c.next_at.new.disk) n range.0

pub invariant_of-self-in-Damaged-1 : goal.invariant_of-self-in-Damaged-1
invariant_of-self-in-Damaged-1 g c =
    let s = c.args.self.now in
    record {
      room = s.room;
      small = s.small;
      large = s.large;
      stands = s.stands;
      settled = λ up. c.in-Ok-Damaged.ensures.settled;
      read = λ up. holds_now (g.D.Disk.told s.disk) (g.D.Disk.told c.next_at.new.disk) (IsReadTo s.letter s.place) c.next_at.ensures.told
          (λ was is.
          let n = subst (λ (n : Next). ComesNext s.letter was s.place n (g.D.Disk.told c.next_at.new.disk)) c.in-Ok-Damaged.field-0-is (c.in-Ok-Damaged.ensures.found s.letter was is (s.read up was is)) in
          (was, n.0, s.read up was is));
      closed = λ up ended. absurd (cc);
    }

pub returns-in-Ok-Damaged-clause-answer : goal.returns-in-Ok-Damaged-clause-answer
returns-in-Ok-Damaged-clause-answer g c = λ file told.
    let s = c.args.self.now in
    subst (λ (n : Next). ComesNext s.letter file s.place n (g.D.Disk.told c.next_at.new.disk)) c.in-Ok-Damaged.field-0-is (c.in-Ok-Damaged.ensures.found s.letter file told (s.read c.if-self.false file told))

pub returns-in-Ok-Frame-clause-fewer : goal.returns-in-Ok-Frame-clause-fewer
returns-in-Ok-Frame-clause-fewer g c =
    let s = c.args.self.now in
    let range = subst IsInRange c.in-Ok-Frame.field-0-is c.in-Ok-Frame.ensures.range in
    let onward = subst (IsOnward s.place) c.in-Ok-Frame.field-0-is c.in-Ok-Frame.ensures.onward in
    fewer_by s.place.gate s.place.length _ _ onward.0 onward.1 range.0
  where
    fewer_by : (gate long further now : ℕ) → gate < further → now ≡ long → further ≤ now → now - further < long - gate
    fewer_by gate long further now more same within = omega (arith, same)
