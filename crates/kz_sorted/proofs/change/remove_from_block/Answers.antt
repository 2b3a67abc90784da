use Rattle.std.proofs.Common.{refl}
use Rattle.std.proofs.lemmas.Result.{on_ok_weaker}
use Rattle.kz_types.proofs.Order.{bytes_order}
use Rattle.kz_sorted.proofs.ItemsOf.{are_parts}
use Rattle.kz_sorted.proofs.Changes.{at_either, read_rises, without_in_set, without_in_set_kept, same_kept}
use Rattle.kz_sorted.proofs.change.remove_from_block.Goals as goal

pub remove-requires : goal.remove-requires
remove-requires g c = read_rises bytes_order g.T.Keyed.key c.args.blocks.now.items c.args.place c.index_mut.result.now (are_parts c.args.blocks.now.items c.requires.blocks) c.requires.within c.index_mut.ensures.value

pub returns-clause-ok : goal.returns-clause-ok
returns-clause-ok g c =
    on_ok_weaker c.remove.result (without_in_set bytes_order g.T.Keyed.key c.args.key.now c.args.blocks.now.items c.args.place c.index_mut.result.now c.remove.new.self c.requires.within c.requires.block c.index_mut.ensures.value) c.remove.ensures.ok

pub returns-clause-kept : goal.returns-clause-kept
returns-clause-kept g c =
    let key = g.T.Keyed.key in
    at_either c.remove.result _ _ _ c.remove.ensures.ok c.remove.ensures.err
    (without_in_set_kept bytes_order key c.args.key.now c.args.blocks.now.items c.args.place c.index_mut.result.now c.remove.new.self c.requires.blocks c.requires.within c.requires.block c.requires.several c.index_mut.ensures.value)
    (same_kept bytes_order key c.args.blocks.now.items c.args.place c.index_mut.result.now c.remove.new.self c.requires.blocks c.requires.within c.index_mut.ensures.value)

pub returns-clause-one : goal.returns-clause-one
returns-clause-one g c = record { block = c.remove.new.self; made = refl }
