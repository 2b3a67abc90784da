use Rattle.std.proofs.Common.{◌≡◌, List, [], get_or, set, option_map, sym, ap, ◌∙◌, subst}
use Rattle.std.proofs.lemmas.List.{get_or_read}
use Rattle.kz_types.specs.declared.tree.Row.{Row}
use Rattle.kz_types.proofs.Order.{bytes_order}
use Rattle.kz_sorted.proofs.ItemsOf.{are_parts}
use Rattle.kz_sorted.proofs.BlockFor.{block_rises}
use Rattle.kz_sorted.proofs.Changes.{read_rises}
use Rattle.kz_spec_data.specs.Tree.{path_of_row, row_at, put_row}
use Rattle.kz_row_parts.specs.Numbered.{numbers_of, AreNumbered}
use Rattle.kz_row_parts.proofs.Numbering.{all_same, numbered_one, numbered_put, numbers_at}
use Rattle.kz_row_parts.proofs.changes.put_in_one.Goals as goal

pub find-requires : goal.find-requires
find-requires c = read_rises bytes_order path_of_row c.args.blocks.now.items c.args.place c.index.result.now (are_parts c.args.blocks.now.items c.requires.numbered.blocks) c.requires.within c.index.ensures

pub returns-in_err-put_fitting-clause-kept : goal.returns-in_err-put_fitting-clause-kept
returns-in_err-put_fitting-clause-kept c =
    let same = all_same c.args.blocks.now.items c.put_fitting.new.blocks.items c.args.place c.requires.within c.put_fitting.ensures.one c.in_err-put_fitting.ensures.err in
    subst (λ (bs : List (List Row)). AreNumbered bs c.args.segments.now) (sym same) c.requires.numbered

pub returns-in-Some-clause-kept : goal.returns-in-Some-clause-kept
returns-in-Some-clause-kept c =
    let bs = c.args.blocks.now.items in
    let place = c.args.place in
    let there : c.index.result.now ≡ get_or bs place [] = get_or_read bs place c.index.result.now c.requires.within c.index.ensures [] in
    let at : c.at.result ≡ numbers_of (get_or bs place []) = c.at.ensures ∙ numbers_at bs c.args.segments.now place c.requires.numbered.numbers c.requires.within in
    let found : option_map (λ r. r.now) c.find.result.0 ≡ row_at c.get.result.now.path (get_or bs place []) =
    c.find.ensures ∙ ap (λ path. row_at path c.index.result.now) (c.key.ensures ∙ sym (ap (λ (r : Row). r.path) c.get.ensures)) ∙ ap (row_at c.get.result.now.path) there in
    let number : c.in-Some.numbers ≡ numbers_of (put_row c.args.row (get_or bs place [])) =
    c.in-Some.ensures (get_or bs place []) (block_rises bytes_order path_of_row bs place [] c.requires.numbered.blocks.rises c.requires.within) at found ∙ ap (λ (r : Row). numbers_of (put_row r (get_or bs place []))) c.get.ensures in
    numbered_put c.args.row bs c.put_fitting.new.blocks.items c.args.segments.now c.set.new.self place c.in-Some.numbers c.requires.numbered c.requires.within c.requires.block c.put_fitting.ensures.one c.put_fitting.ensures.kept
    c.in_ok-put_fitting.ensures.ok number c.set.ensures

pub returns-in-None-clause-kept : goal.returns-in-None-clause-kept
returns-in-None-clause-kept c =
    numbered_one c.args.blocks.now.items c.put_fitting.new.blocks.items c.args.segments.now c.number_anew.new.segments c.args.place c.requires.numbered c.requires.within c.put_fitting.ensures.one c.put_fitting.ensures.kept
    (c.number_anew.ensures ∙ ap (λ (bs : List (List Row)). set c.args.segments.now c.args.place (numbers_of (get_or bs c.args.place []))) c.deref.ensures.value)
