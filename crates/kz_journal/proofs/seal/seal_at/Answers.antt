use Rattle.std.proofs.Common.{take, refl}
use Rattle.kz_disk.proofs.Moments.{weaker}
use Rattle.kz_spec_data.specs.Frames.{journal_of, LeftBySeal}
use Rattle.kz_journal.specs.Appends.{IsCutAppend}
use Rattle.kz_journal.proofs.Sealed.{seal_done, seal_cut}
use Rattle.kz_journal.proofs.seal.seal_at.Goals as goal

pub returns-in-Ok-clause-sealed : goal.returns-in-Ok-clause-sealed
returns-in-Ok-clause-sealed g c = λ letter file told read closed.
    seal_done letter c.args.place file read closed c.requires.stands c.requires.plain c.seal_bytes-bytes.ensures.fits _ (g.D.Disk.told c.args.disk.now) _ c.seal_bytes-bytes.result
    (c.seal_bytes-bytes.ensures.bytes (take c.args.place.gate file) (read.measured.sum c.requires.plain)) c.in-Ok.ensures.written told refl refl c.max-new_length.ensures

pub returns-in-Ok-clause-any_moment : goal.returns-in-Ok-clause-any_moment
returns-in-Ok-clause-any_moment g c = λ letter file told read closed.
    weaker g.D.Disk.moment g.D.Disk.left_since _ _ (IsCutAppend c.args.place.gate c.seal_bytes-bytes.result file) (LeftBySeal letter (journal_of letter file)) (c.write_after.ensures.any_moment file told)
    (λ left cut. seal_cut letter c.args.place file read closed c.requires.stands c.requires.plain c.seal_bytes-bytes.ensures.fits c.seal_bytes-bytes.result left
    (c.seal_bytes-bytes.ensures.bytes (take c.args.place.gate file) (read.measured.sum c.requires.plain)) cut)

pub returns-in-Err-clause-any_moment : goal.returns-in-Err-clause-any_moment
returns-in-Err-clause-any_moment g c = λ letter file told read closed.
    weaker g.D.Disk.moment g.D.Disk.left_since _ _ (IsCutAppend c.args.place.gate c.seal_bytes-bytes.result file) (LeftBySeal letter (journal_of letter file)) (c.write_after.ensures.any_moment file told)
    (λ left cut. seal_cut letter c.args.place file read closed c.requires.stands c.requires.plain c.seal_bytes-bytes.ensures.fits c.seal_bytes-bytes.result left
    (c.seal_bytes-bytes.ensures.bytes (take c.args.place.gate file) (read.measured.sum c.requires.plain)) cut)
