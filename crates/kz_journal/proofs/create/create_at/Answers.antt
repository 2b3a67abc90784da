use Rattle.std.proofs.Common.{ℕ, List, refl, sym, ap, ◌∙◌}
use Rattle.std.specs.Prelude.{option_map}
use Rattle.kz_disk.specs.Disks.{with_piece}
use Rattle.kz_journal.proofs.Created.{new_is_read}
use Rattle.kz_journal.proofs.create.create_at.Goals as goal

pub returns-in-Ok-len-clause-read : goal.returns-in-Ok-len-clause-read
returns-in-Ok-len-clause-read g c = λ file told.
    let before = sym c.len.ensures.same ∙ told in
    new_is_read c.args.letter (g.D.Disk.told c.args.disk.now) _ (c.in-Ok.ensures.written ∙ ap (λ (b : List ℕ). option_map (with_piece 0 b) (g.D.Disk.told c.args.disk.now)) c.new_bytes-bytes.ensures) file before
    _ c.in-Ok-len.length (c.in-Ok-len.ensures.value file before) refl refl c.max.ensures
