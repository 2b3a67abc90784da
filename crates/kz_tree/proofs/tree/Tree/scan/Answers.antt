use Rattle.std.proofs.Common.{option_map, subst, sym}
use Rattle.std.proofs.lemmas.Result.{IfOk-weaker}
use Rattle.kz_tree.specs.Kept.{AreRows}
use Rattle.kz_tree.proofs.Areas.{page_rises}
use Rattle.kz_tree.proofs.tree.Tree.scan.Goals as goal

pub returns-clause-rising : goal.returns-clause-rising
returns-clause-rising c =
    IfOk-weaker c.scan.result _ (λ made. AreRows made.items)
    (λ made is. subst AreRows (sym is) (page_rises c.self.inside.rows (option_map (λ path. path.now) c.args.after) c.args.limit c.self.invariant.paths_rise))
    c.scan.ensures
