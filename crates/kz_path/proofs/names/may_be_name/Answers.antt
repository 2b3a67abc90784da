use Rattle.std.proofs.Common.{sym, refl}
use Rattle.kz_path.proofs.NameBuffers.{none_restored}
use Rattle.kz_path.proofs.names.may_be_name.Goals as goal

pub returns-then-not-unescape_into : goal.returns-then-not-unescape_into
returns-then-not-unescape_into c = sym (none_restored c.args.part.now (c.if-not-unescape_into.ensures.too_long refl) c.requires)
