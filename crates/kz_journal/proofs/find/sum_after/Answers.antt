use Rattle.std.proofs.Common.{[], ◌∷◌, ◌++◌, ap, ◌∙◌, append_assoc}
use Rattle.kz_spec_data.specs.Checksum.{crc32c}
use Rattle.kz_spec_data.specs.Frames.{open_gate}
use Rattle.kz_journal.proofs.find.sum_after.Goals as goal

pub returns : goal.returns
returns c = λ front is.
    c.crc32c_add-3.ensures _ (c.crc32c_add-2.ensures _ (c.crc32c_add.ensures front is))
    ∙ ap crc32c (append_assoc (front ++ open_gate ∷ []) c.args.size c.args.payload.now ∙ append_assoc front (open_gate ∷ []) (c.args.size ++ c.args.payload.now))
