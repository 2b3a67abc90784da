use Rattle.std.proofs.Common.{◌≡◌, None, Option, take, ◌∙◌, subst}
use Rattle.kz_types.specs.Paths.{key_of}
use Rattle.kz_reader.specs.declared.bodies.EntityRead.{EntityRead}
use Rattle.kz_reader.specs.Seen.{IsReadOfIfAny}
use Rattle.kz_reader.proofs.NoKey.{records_without_a_key, nothing_to_note}
use Rattle.kz_reader.proofs.ReadAhead.{own_body}
use Rattle.kz_reader.proofs.rows.read_row.Goals as goal

pub give_entity-requires-clause-own : goal.give_entity-requires-clause-own
give_entity-requires-clause-own c =
    own_body c.args.rows.now c.args.seen.now.done c.args.row.now c.in-Some.field-0 c.requires.rising c.requires.within c.requires.row
    (subst (λ (o : Option EntityRead). IsReadOfIfAny c.args.row.now o) c.in-Some.is c.in_ok-key.ensures.read)

pub returns-in-None-clause-records : goal.returns-in-None-clause-records
returns-in-None-clause-records c =
    let none : key_of c.args.row.now.path ≡ None = subst (λ (o : Option EntityRead). IsReadOfIfAny c.args.row.now o) c.in-None.is c.in_ok-key.ensures.read in
    c.read_other.ensures.records ∙ records_without_a_key c.args.rows.now (take c.args.seen.now.done c.args.rows.now) c.kind.result c.args.row.now none c.kind.ensures

pub returns-in-None-clause-note : goal.returns-in-None-clause-note
returns-in-None-clause-note c =
    let none : key_of c.args.row.now.path ≡ None = subst (λ (o : Option EntityRead). IsReadOfIfAny c.args.row.now o) c.in-None.is c.in_ok-key.ensures.read in
    c.read_other.ensures.note ∙ nothing_to_note c.args.row.now none
