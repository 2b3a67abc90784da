use Rattle.std.proofs.Common.{◌≡◌, map, sym, ap, ◌∙◌, subst}
use Rattle.std.specs.Prelude.{IfOk}
use Rattle.kz_types.specs.Order.{bytes_cmp}
use Rattle.kz_types.specs.Covering.{at_keys}
use Rattle.kz_spec_data.specs.Tree.{path_of_rendered}
use Rattle.kz_writer.specs.PathLists.{path_of_spanned}
use Rattle.kz_writer.proofs.PathLists.{at_spanned_rises, delta_of_paths, count_of_spanned}
use Rattle.kz_writer.proofs.delta.ops_at.Goals as goal

pub returns-in_err-have-clause-old_counts : goal.returns-in_err-have-clause-old_counts
returns-in_err-have-clause-old_counts g c =
    count_of_spanned c.args.keys.now c.deref.result.now _ _ (c.deref.ensures.value ∙ c.in_ok-paths.ensures) c.znodes_at.ensures.counts

pub returns-in_err-want-clause-old_counts : goal.returns-in_err-want-clause-old_counts
returns-in_err-want-clause-old_counts g c =
    count_of_spanned c.args.keys.now c.deref.result.now _ _ (c.deref.ensures.value ∙ c.in_ok-paths.ensures) c.znodes_at.ensures.counts

pub returns-in_err-want-clause-new_counts : goal.returns-in_err-want-clause-new_counts
returns-in_err-want-clause-new_counts g c =
    count_of_spanned c.args.keys.now c.deref-2.result.now _ _ (c.deref-2.ensures.value ∙ c.in_ok-paths.ensures) c.znodes_at-2.ensures.counts

pub diff_renderings-requires-clause-have_rises : goal.diff_renderings-requires-clause-have_rises
diff_renderings-requires-clause-have_rises g c =
    at_spanned_rises c.args.keys.now c.deref.result.now (g.O.Bodies.znodes c.args.old.now) c.deref-3.result.now (c.deref.ensures.value ∙ c.in_ok-paths.ensures) (c.deref-3.ensures.value ∙ c.in_ok-have.ensures.ok)

pub diff_renderings-requires-clause-want_rises : goal.diff_renderings-requires-clause-want_rises
diff_renderings-requires-clause-want_rises g c =
    at_spanned_rises c.args.keys.now c.deref-2.result.now (g.N.Bodies.znodes c.args.new.now) c.deref-4.result.now (c.deref-2.ensures.value ∙ c.in_ok-paths.ensures) (c.deref-4.ensures.value ∙ c.in_ok-want.ensures.ok)

pub returns-clause-ok : goal.returns-clause-ok
returns-clause-ok g c =
    let was = g.O.Bodies.znodes c.args.old.now in
    let will = g.N.Bodies.znodes c.args.new.now in
    let same = delta_of_paths c.args.keys.now was will (g.met.O.Bodies.rises c.args.old.now) (g.met.N.Bodies.rises c.args.new.now) c.requires.covers c.requires.rule
    c.deref.result.now c.deref-3.result.now c.deref-4.result.now (c.deref.ensures.value ∙ c.in_ok-paths.ensures) (c.deref-3.ensures.value ∙ c.in_ok-have.ensures.ok)
    (c.deref-4.ensures.value ∙ c.in_ok-want.ensures.ok ∙ ap (λ ps. at_keys bytes_cmp path_of_rendered (map path_of_spanned ps) will) (c.deref-2.ensures.value ∙ sym c.deref.ensures.value)) in
    subst (λ d. IfOk c.diff_renderings.result (λ ops. ops.items ≡ d)) same c.diff_renderings.ensures

pub returns-clause-old_counts : goal.returns-clause-old_counts
returns-clause-old_counts g c =
    count_of_spanned c.args.keys.now c.deref.result.now _ _ (c.deref.ensures.value ∙ c.in_ok-paths.ensures) c.znodes_at.ensures.counts

pub returns-clause-new_counts : goal.returns-clause-new_counts
returns-clause-new_counts g c =
    count_of_spanned c.args.keys.now c.deref-2.result.now _ _ (c.deref-2.ensures.value ∙ c.in_ok-paths.ensures) c.znodes_at-2.ensures.counts
