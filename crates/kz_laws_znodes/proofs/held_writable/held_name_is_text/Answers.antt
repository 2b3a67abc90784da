use Rattle.std.proofs.Common.{subst}
use Rattle.std.proofs.lemmas.Str.{is_utf8-from_IsUtf8}
use Rattle.kz_laws_znodes.specs.Writable.{IsText}
use Rattle.kz_laws_znodes.proofs.held_writable.held_name_is_text.Goals as goal

pub returns : goal.returns
returns c = subst IsText c.as_str.ensures (is_utf8-from_IsUtf8 _ c.as_str.utf8)
