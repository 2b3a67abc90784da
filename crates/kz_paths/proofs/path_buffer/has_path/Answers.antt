use Rattle.std.proofs.Common.{◌<◌, length, ap, sym, ◌∙◌, arith}
use Rattle.kz_types.specs.Paths.{path_of, has_path}
use Rattle.kz_paths.proofs.PathBuffers.{no_long_path}
use Rattle.kz_paths.proofs.path_buffer.has_path.Goals as goal

pub returns-else-push_key : goal.returns-else-push_key
unfolding has_path
returns-else-push_key c =
    let long : 1024 < length (path_of c.args.key.now) = omega (arith, c.push_key.ensures.too_long c.if-push_key.false, ap length c.new-path.ensures) in
    c.if-push_key.false ∙ sym (no_long_path (path_of c.args.key.now) long)
