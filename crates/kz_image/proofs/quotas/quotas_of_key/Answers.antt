use Rattle.std.proofs.Common.{ap, sym}
use Rattle.std.specs.Prelude.{option_map}
use Rattle.kz_types.specs.Paths.{path_of}
use Rattle.kz_image_rules.specs.QuotaKeys.{entity_of}
use Rattle.kz_laws_znodes.proofs.QuotaLists.{rows_of}
use Rattle.kz_image.proofs.QuotaLists.{long_path_not_found}
use Rattle.kz_image.proofs.quotas.quotas_of_key.Goals as goal

pub returns-in-None : goal.returns-in-None
returns-in-None c = sym (ap (option_map rows_of) (long_path_not_found (path_of (entity_of c.args.key.now)) c.args.entries.now c.requires c.in-None.ensures.path))
