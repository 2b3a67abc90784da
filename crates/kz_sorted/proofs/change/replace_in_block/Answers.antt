use Rattle.std.proofs.lemmas.Result.{on_ok_weaker}
use Rattle.kz_types.proofs.Order.{bytes_order}
use Rattle.kz_sorted.proofs.ItemsOf.{are_parts}
use Rattle.kz_sorted.proofs.Changes.{at_either, read_rises, put_in_set, replaced_kept, same_kept}
use Rattle.kz_sorted.proofs.change.replace_in_block.Goals as goal

pub put-requires : goal.put-requires
put-requires g c = read_rises bytes_order g.T.Keyed.key c.args.blocks.now.items c.args.place c.index_mut.result.now (are_parts c.args.blocks.now.items c.requires.blocks) c.requires.within c.index_mut.ensures.value

pub returns-clause-ok : goal.returns-clause-ok
returns-clause-ok g c =
    on_ok_weaker c.put.result (put_in_set bytes_order g.T.Keyed.key c.args.item c.args.blocks.now.items c.args.place c.index_mut.result.now c.put.new.self c.requires.within c.requires.block c.index_mut.ensures.value) c.put.ensures.ok

pub returns-clause-kept : goal.returns-clause-kept
returns-clause-kept g c =
    let key = g.T.Keyed.key in
    at_either c.put.result _ _ _ c.put.ensures.ok c.put.ensures.err
    (replaced_kept bytes_order key c.args.item c.args.blocks.now.items c.args.place c.index_mut.result.now c.put.new.self c.requires.blocks c.requires.within c.requires.block c.requires.found c.index_mut.ensures.value)
    (same_kept bytes_order key c.args.blocks.now.items c.args.place c.index_mut.result.now c.put.new.self c.requires.blocks c.requires.within c.index_mut.ensures.value)
