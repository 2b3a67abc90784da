use Rattle.std.proofs.Common.{◌≡◌, ◌<◌, length, ap, sym, ◌∙◌, arith, w8, to_z, of_z}
use Rattle.std.proofs.lemmas.Int.{to_z-of_z}
use mir.Val.{SFits}
use Rattle.kz_types.specs.Paths.{path_of, has_path}
use Rattle.kz_types.specs.declared.key.EntityKey.TheVariants as key
use Rattle.kz_paths.proofs.PathBuffers.{no_long_path}
use Rattle.kz_image_rules.proofs.paths.has_acl_path.Goals as goal

pub returns-else-push_acl : goal.returns-else-push_acl
unfolding has_path path_of
returns-else-push_acl c =
    let pattern = c.args.pattern in
    let kind = c.args.kind in
    let name = c.args.name.now in
    let pattern_fits : SFits w8 pattern = c.ranges.pattern in
    let kind_fits : SFits w8 kind = c.ranges.kind in
    let same : path_of (key.Acl (to_z w8 (of_z w8 pattern)) (to_z w8 (of_z w8 kind)) name) ≡ path_of (key.Acl pattern kind name)
    = ap (λ p. path_of (key.Acl p (to_z w8 (of_z w8 kind)) name)) (to_z-of_z w8 pattern pattern_fits) ∙ ap (λ k. path_of (key.Acl pattern k name)) (to_z-of_z w8 kind kind_fits) in
    let long : 1024 < length (path_of (key.Acl pattern kind name)) = omega (arith, c.push_acl.ensures.too_long c.if-push_acl.false, ap length c.new-path.ensures, ap length same) in
    c.if-push_acl.false ∙ sym (no_long_path (path_of (key.Acl pattern kind name)) long)
