use Rattle.std.proofs.Common.{◌≡◌, true, subst}
use Rattle.std.specs.Str.{is_utf8}
use Rattle.std.proofs.lemmas.Str.{is_utf8-from_IsUtf8}
use Rattle.kz_laws_values.proofs.held_paths.name.Goals as goal

pub returns : goal.returns
returns c = subst (λ bytes. is_utf8 bytes ≡ true) c.as_str.ensures (is_utf8-from_IsUtf8 c.as_str.result.now c.as_str.utf8)
