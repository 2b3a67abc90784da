use Rattle.std.proofs.Common.{◌≡◌, ◌+◌, ◌≤◌, ℕ, List, length, sym, ap, ◌∙◌, subst, arith}
use Rattle.kz_spec_data.specs.Frames.{size_before}
use Rattle.kz_journal.specs.Nexts.{IsReadPast}
use Rattle.kz_journal.specs.Pieces.{StandsAt, IsSumAfter}
use Rattle.kz_journal.proofs.Steps.{read_past, read_damaged}
use Rattle.kz_journal.proofs.next.next_at.Goals as goal

pub returns-in-Ok-from_vec-clause-found : goal.returns-in-Ok-from_vec-clause-found
returns-in-Ok-from_vec-clause-found g c = λ letter file told read.
    let here = c.in-Ok.found.0 in
    let stands = subst (StandsAt here.summed here.gate file) c.in-Frame.is (c.in-Ok.ensures.piece letter file told read) in
    subst (λ (p : List ℕ). IsReadPast letter file c.args.place here.gate p c.past_frame-further.result (g.D.Disk.told c.find_past_seal.new.disk)) (sym c.in-Ok-from_vec.ensures.ok)
    (read_past letter c.args.place here c.past_frame-further.result file c.in-Frame.payload.items (g.D.Disk.told c.find_past_seal.new.disk) (c.in-Ok.ensures.reads.same ∙ told) (c.in-Ok.ensures.read letter file told read)
    (room_by _ _ _ c.in-Ok.ensures.fits.0 c.in-Ok.ensures.fits.1) stands (c.past_frame-further.ensures.gate ∙ ap (λ (p : List ℕ). here.gate + size_before here.summed + length p) c.deref.ensures.value)
    c.past_frame-further.ensures.kept.0 c.past_frame-further.ensures.kept.1
    (λ plain. c.past_frame-further.ensures.sum ∙ subst (IsSumAfter here.gate file) c.in-Frame.is (c.in-Ok.ensures.sum letter file told read plain)))
  where
    room_by : (gate long n : ℕ) → long ≡ n → gate ≤ n → gate ≤ long
    room_by gate long n is le = omega (arith, is)

pub returns-in-Damaged-clause-found : goal.returns-in-Damaged-clause-found
returns-in-Damaged-clause-found g c = λ letter file told read.
    let here = c.in-Ok.found.0 in (
      c.in-Ok.ensures.reads.same ∙ told,
      read_damaged letter c.args.place here file (c.in-Ok.ensures.read letter file told read) (room_by _ _ _ c.in-Ok.ensures.fits.0 c.in-Ok.ensures.fits.1)
          (subst (StandsAt here.summed here.gate file) c.in-Damaged.is (c.in-Ok.ensures.piece letter file told read)),
    )
  where
    room_by : (gate long n : ℕ) → long ≡ n → gate ≤ n → gate ≤ long
    room_by gate long n is le = omega (arith, is)
