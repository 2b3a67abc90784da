use Rattle.std.proofs.Common.{◌≡◌, sym}
use Rattle.kz_disk.proofs.Moments.{weaker}
use Rattle.kz_spec_data.specs.Frames.{journal_of}
use Rattle.kz_journal.proofs.Steps.{read_whole, still_says}
use Rattle.kz_journal.proofs.next.end_at.Goals as goal

pub returns-in-Ok-clause-found : goal.returns-in-Ok-clause-found
returns-in-Ok-clause-found g c = λ letter file told read is.
    read_whole letter c.args.place _ file _ read c.requires.room is (c.in-Ok.ensures.closed file told read.measured)
    c.with_gate.ensures.kept.0 c.with_gate.ensures.kept.1 c.with_gate.ensures.kept.2 c.with_gate.ensures.length

pub returns-in-Ok-clause-any_moment : goal.returns-in-Ok-clause-any_moment
returns-in-Ok-clause-any_moment g c = λ letter file told read is small.
    weaker g.D.Disk.moment g.D.Disk.left_since _ _ _ (λ left. journal_of letter left ≡ journal_of letter file) (c.close.ensures.any_moment file told read.measured (sym is) small)
    (λ left ends. still_says letter c.args.place file left read c.requires.room is ends)

pub returns-in-Err-clause-any_moment : goal.returns-in-Err-clause-any_moment
returns-in-Err-clause-any_moment g c = λ letter file told read is small.
    weaker g.D.Disk.moment g.D.Disk.left_since _ _ _ (λ left. journal_of letter left ≡ journal_of letter file) (c.close.ensures.any_moment file told read.measured (sym is) small)
    (λ left ends. still_says letter c.args.place file left read c.requires.room is ends)
