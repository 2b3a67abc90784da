use Rattle.std.proofs.Common.{inl, inr, refl}
use Rattle.std.proofs.lemmas.Result.{on_ok_weaker}
use Rattle.kz_types.proofs.Order.{bytes_order}
use Rattle.kz_sorted.proofs.ItemsOf.{are_parts}
use Rattle.kz_sorted.proofs.Changes.{at_either, read_rises, put_in_set, put_in_set_kept, replaced_kept, same_kept}
use Rattle.kz_spec_data.specs.Tree.{path_of_row}
use Rattle.kz_row_parts.proofs.changes.put_fitting.Goals as goal

pub put-requires : goal.put-requires
put-requires c = read_rises bytes_order path_of_row c.args.blocks.now.items c.args.place c.index_mut.result.now (are_parts c.args.blocks.now.items c.requires.blocks) c.requires.within c.index_mut.ensures.value

pub returns-clause-ok : goal.returns-clause-ok
returns-clause-ok c =
    on_ok_weaker c.put.result (put_in_set bytes_order path_of_row c.args.row c.args.blocks.now.items c.args.place c.index_mut.result.now c.put.new.self c.requires.within c.requires.block c.index_mut.ensures.value) c.put.ensures.ok

pub returns-clause-kept : goal.returns-clause-kept
returns-clause-kept c =
    let bs = c.args.blocks.now.items in
    at_either c.put.result _ _ _ c.put.ensures.ok c.put.ensures.err
    (λ changed. elim c.requires.fits [
      | inl room ↦ put_in_set_kept bytes_order path_of_row c.args.row bs c.args.place c.index_mut.result.now c.put.new.self c.requires.blocks c.requires.within c.requires.block room c.index_mut.ensures.value changed
      | inr found ↦ replaced_kept bytes_order path_of_row c.args.row bs c.args.place c.index_mut.result.now c.put.new.self c.requires.blocks c.requires.within c.requires.block found c.index_mut.ensures.value changed
    ])
    (same_kept bytes_order path_of_row bs c.args.place c.index_mut.result.now c.put.new.self c.requires.blocks c.requires.within c.index_mut.ensures.value)

pub returns-clause-one : goal.returns-clause-one
returns-clause-one c = record { block = c.put.new.self; made = refl }
