use Rattle.std.proofs.Common.{◌≡◌, ◌+◌, true, take, drop, refl, sym, subst}
use Rattle.std.proofs.lemmas.Result.{IfOk-weaker}
use Rattle.kz_spec_data.specs.Frames.{Seal, found_at}
use Rattle.kz_journal.specs.declared.place.Place.{Place}
use Rattle.kz_journal.specs.Journals.{IsReadTo, journal_at}
use Rattle.kz_journal.specs.Pieces.{StandsAt}
use Rattle.kz_journal.proofs.Steps.{read_past_seal, unread_seal}
use Rattle.kz_journal.proofs.next.find_past_seal.Goals as goal

pub returns-in-Ok-Seal-clause-read : goal.returns-in-Ok-Seal-clause-read
returns-in-Ok-Seal-clause-read g c =
    let after : Place = record { gate = c.args.place.gate + 9; summed = true; length = c.args.place.length; sum = c.args.place.sum } in
    IfOk-weaker c.find_after_seal.result (λ found. found.0 ≡ after) _
    (λ found is letter file told read.
    let seal : Seal ≡ found_at c.args.place.summed (take c.args.place.gate file) (drop c.args.place.gate file) = subst (StandsAt c.args.place.summed c.args.place.gate file) c.in-Ok-Seal.field-0-is (c.in-Ok-Seal.ensures.found file told read.measured) in
    subst (λ (p : Place). IsReadTo letter p file × (journal_at c.args.place file ≡ journal_at p file)) (sym is) (
      read_past_seal letter c.args.place file read c.requires.room after seal refl refl refl,
      unread_seal letter c.args.place file read c.requires.room after seal refl refl,
    ))
    c.find_after_seal.ensures.place
