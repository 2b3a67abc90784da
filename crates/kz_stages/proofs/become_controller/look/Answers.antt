use Rattle.std.proofs.Common.{◌≡◌, ◌∷◌, length, refl, ap, ◌∙◌}
use Rattle.kz_types.specs.Paths.{base_paths}
use Rattle.kz_spec_data.specs.Control.{control_path, epoch_path, migration_path}
use Rattle.kz_spec_data.specs.Tree.{Tree, look}
use Rattle.kz_stages.proofs.become_controller.look.Goals as goal

as_many : (t : Tree) → length (look t (control_path ∷ epoch_path ∷ migration_path ∷ base_paths)) ≡ 8
unfolding base_paths
as_many t = refl

pub seen_of-requires : goal.seen_of-requires
seen_of-requires g c =
    ap length c.in_ok-rows.ensures.ok
    ∙ (ap (λ paths. length (look (g.T.ZTree.tree c.args.tree.now.inner) paths)) (c.deref.ensures.value ∙ c.in_ok-paths.ensures.paths)
    ∙ as_many (g.T.ZTree.tree c.args.tree.now.inner))
