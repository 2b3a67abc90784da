use Rattle.std.proofs.Common.{◌≡◌, ◌∙◌, ◌++◌, [], ap, subst}
use Rattle.std.specs.Prelude.{IfOk}
use Rattle.std.specs.List.{flat_map}
use Rattle.kz_types.specs.Order.{bytes_cmp}
use Rattle.kz_types.specs.Ordered.{all_put}
use Rattle.kz_writer.specs.PathLists.{path_of_spanned, spanned_by}
use Rattle.kz_writer.proofs.spanned.spanned_in_order.Goals as goal

pub returns : goal.returns
returns c =
    subst (λ ps. IfOk c.put_all.result (λ paths. paths.items ≡ all_put bytes_cmp path_of_spanned ps []))
    (c.in_ok-push_all.ensures ∙ ap (λ ps. ps ++ flat_map spanned_by c.args.keys.now) c.new-paths.ensures.items)
    c.put_all.ensures.put
