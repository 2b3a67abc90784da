use Rattle.std.proofs.Common.{subst}
use Rattle.std.proofs.lemmas.Str.{is_utf8-from_IsUtf8}
use Rattle.kz_laws_values.specs.Readable.{IsText}
use Rattle.kz_laws_lines.proofs.held.text.Goals as goal

pub returns : goal.returns
returns c = subst IsText c.as_str.ensures (is_utf8-from_IsUtf8 _ c.as_str.utf8)
