use Rattle.std.proofs.Common.{◌≡◌, List, map, sym, ap, ◌∙◌}
use Rattle.std.proofs.lemmas.Option.{IfSome_then}
use Rattle.kz_types.specs.declared.tree.Rendered.{Rendered}
use Rattle.kz_types.specs.Order.{bytes_cmp}
use Rattle.kz_types.specs.Covering.{at_keys}
use Rattle.kz_spec_data.specs.Tree.{path_of_rendered}
use Rattle.kz_spec_data.specs.Metadata.{Image}
use Rattle.kz_spec_data.specs.Rendering.{render}
use Rattle.kz_writer.specs.declared.spanned.SpannedPath.{SpannedPath}
use Rattle.kz_writer.specs.Asked.{Asked}
use Rattle.kz_writer.specs.PathLists.{path_of_spanned, spanned_by_all}
use Rattle.kz_counted_view.proofs.Covered.{counts_are}
use Rattle.kz_counted_view.proofs.after.counts_after.Goals as goal

-- the znodes of metadata at these paths
abbrev znodes_of : List SpannedPath → Image → List Rendered
znodes_of spanned i = at_keys bytes_cmp path_of_rendered (map path_of_spanned spanned) (render i)

pub returns : goal.returns
returns c =
    let image_of = λ (a : Asked). a.image in
    let paths : c.deref.result.now ≡ spanned_by_all c.args.keys.now = c.deref.ensures.value ∙ c.in_ok-paths.ensures ∙ ap spanned_by_all c.keys.ensures.keys in
    let had : c.deref-3.result.now ≡ znodes_of c.deref.result.now c.args.old.now = c.deref-3.ensures.value ∙ c.in_ok-had.ensures.ok ∙ ap (λ a. znodes_of c.deref.result.now (image_of a)) c.new-before.ensures in
    let has : c.deref-4.result.now ≡ znodes_of c.deref.result.now c.args.new.now =
    c.deref-4.ensures.value ∙ c.in_ok-has.ensures.ok ∙ ap (λ a. znodes_of c.deref-2.result.now (image_of a)) c.new-after.ensures ∙ ap (λ ps. znodes_of ps c.args.new.now) (c.deref-2.ensures.value ∙ sym c.deref.ensures.value) in
    IfSome_then c.counts_with.result c.counts_with.ensures
    (λ made sums. counts_are c.args.keys.now c.args.old.now c.args.new.now c.requires.covers c.renderings_differ_at_paths.ensures c.deref.result.now c.deref-3.result.now c.deref-4.result.now paths had has c.args.counts made c.requires.counts sums)
