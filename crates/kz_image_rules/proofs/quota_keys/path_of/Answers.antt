use Rattle.std.proofs.Common.{◌<◌, length, ap, arith}
use Rattle.kz_types.specs.Paths.{path_of}
use Rattle.kz_paths.proofs.PathBuffers.{no_long_path}
use Rattle.kz_laws_values.proofs.Keys.{path_holds}
use Rattle.kz_image_rules.specs.QuotaKeys.{entity_of}
use Rattle.kz_image_rules.proofs.quota_keys.path_of.Goals as goal

pub returns-then-push_path-clause-read : goal.returns-then-push_path-clause-read
returns-then-push_path-clause-read c = λ legal. path_holds (entity_of c.args.key.now) legal c.names.ensures

pub returns-else-push_path-clause-path : goal.returns-else-push_path-clause-path
returns-else-push_path-clause-path c =
    let path = path_of (entity_of c.args.key.now) in
    let long : 1024 < length path = omega (arith, c.push_path.ensures.too_long c.if-push_path.false, ap length c.new-path.ensures) in
    no_long_path path long

pub returns-else-push_path-clause-read : goal.returns-else-push_path-clause-read
returns-else-push_path-clause-read c = λ legal. path_holds (entity_of c.args.key.now) legal c.names.ensures
