use Rattle.std.proofs.Common.{option_map, sym, ap, ◌∙◌}
use Rattle.kz_types.specs.Order.{bytes_cmp}
use Rattle.kz_types.proofs.Maps.{find-map}
use Rattle.kz_spec_data.specs.Tree.{path_of_rendered}
use Rattle.kz_writer.proofs.Steps.{option_map-twice}
use Rattle.kz_writer.proofs.diff.find_znode.Goals as goal

pub returns : goal.returns
returns g c =
    let f = g.Z.Znode.rendered in
    option_map-twice (λ z. z.now) f c.find_near.result.0 ∙ ap (λ z. option_map f z) c.find_near.ensures
    ∙ sym (find-map bytes_cmp g.Z.Keyed.key path_of_rendered f g.met.Z.Znode.path_is_key c.args.path.now c.args.znodes.now)
