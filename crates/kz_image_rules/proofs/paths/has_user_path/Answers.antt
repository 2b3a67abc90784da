use Rattle.std.proofs.Common.{◌<◌, Some, length, ap, sym, ◌∙◌, arith}
use Rattle.kz_types.specs.Paths.{path_of, has_path}
use Rattle.kz_types.specs.declared.key.EntityKey.TheVariants as key
use Rattle.kz_paths.proofs.PathBuffers.{no_long_path}
use Rattle.kz_image_rules.proofs.paths.has_user_path.Goals as goal

pub returns-else-push_user : goal.returns-else-push_user
unfolding has_path
returns-else-push_user c =
    let long : 1024 < length (path_of (key.User (Some c.args.name.now))) = omega (arith, c.push_user.ensures.too_long c.if-push_user.false, ap length c.new-path.ensures) in
    c.if-push_user.false ∙ sym (no_long_path (path_of (key.User (Some c.args.name.now))) long)
