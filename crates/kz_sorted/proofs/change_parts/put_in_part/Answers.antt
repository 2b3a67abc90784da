use Rattle.std.proofs.lemmas.Result.{on_ok_weaker}
use Rattle.kz_types.proofs.Order.{bytes_order}
use Rattle.kz_sorted.proofs.Changes.{at_either, put_in_set, put_in_part_kept, same_part_kept}
use Rattle.kz_sorted.proofs.change_parts.put_in_part.Goals as goal

pub returns-clause-ok : goal.returns-clause-ok
returns-clause-ok g c =
    on_ok_weaker c.put.result (put_in_set bytes_order g.T.Keyed.key c.args.item c.args.parts.now.items c.args.place c.index_mut.result.now c.put.new.self c.requires.within c.requires.part c.index_mut.ensures.value) c.put.ensures.ok

pub returns-clause-kept : goal.returns-clause-kept
returns-clause-kept g c =
    let key = g.T.Keyed.key in
    at_either c.put.result _ _ _ c.put.ensures.ok c.put.ensures.err
    (put_in_part_kept bytes_order key c.args.item c.args.parts.now.items c.args.place c.index_mut.result.now c.put.new.self c.requires.parts c.requires.within c.requires.part c.index_mut.ensures.value)
    (same_part_kept bytes_order key c.args.parts.now.items c.args.place c.index_mut.result.now c.put.new.self c.requires.parts c.requires.within c.index_mut.ensures.value)
