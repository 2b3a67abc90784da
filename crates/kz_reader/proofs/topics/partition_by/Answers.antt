use Rattle.std.proofs.Common.{◌≡◌, IfOk, Option, subst}
use Rattle.kz_types.specs.declared.tree.Row.{Row}
use Rattle.kz_types.specs.declared.key.EntityKey.TheVariants.{Partition}
use Rattle.kz_types.specs.Paths.{path_of}
use Rattle.kz_spec_data.specs.Translation.{partition_by}
use Rattle.kz_reader.proofs.ReadAhead.{found_there, found_nowhere}
use Rattle.kz_reader.proofs.topics.partition_by.Goals as goal

pub returns-in-Ok-clause-made : goal.returns-in-Ok-clause-made
returns-in-Ok-clause-made c =
    subst (λ (o : Option Row). IfOk c.partition_of_state.result (λ made. made ≡ partition_by c.args.id c.args.assigned.now o))
    (found_there c.args.rows.now (path_of (Partition c.args.name.now c.args.assigned.now.number)) c.in-Ok.place c.index-rows-place.result c.args.spot c.requires.rising c.in-Ok.is c.requires.spot c.index-rows-place.is)
    c.partition_of_state.ensures.made

pub returns-in-Err-clause-made : goal.returns-in-Err-clause-made
returns-in-Err-clause-made c =
    subst (λ (o : Option Row). IfOk c.new_partition.result (λ made. made ≡ partition_by c.args.id c.args.assigned.now o))
    (found_nowhere c.args.rows.now (path_of (Partition c.args.name.now c.args.assigned.now.number)) c.in-Err.field-0 c.args.spot c.in-Err.is c.requires.spot)
    c.new_partition.ensures
