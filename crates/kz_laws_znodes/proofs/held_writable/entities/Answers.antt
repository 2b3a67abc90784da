use Rattle.std.proofs.Common.{sym, subst}
use Rattle.std.specs.List.{All}
use Rattle.std.proofs.lemmas.List.{take_all}
use Rattle.std.proofs.lemmas.List.Elements.{All-more}
use Rattle.kz_laws_znodes.specs.Writable.{IsEntityWritable}
use Rattle.kz_laws_znodes.proofs.held_writable.entities.Goals as goal

pub loop-part-preserved : goal.loop-part-preserved
loop-part-preserved c = All-more IsEntityWritable c.args.parts.now c.loop-part.part-index c.part-item.result c.loop-part-test.true c.loop-part.invariant (subst IsEntityWritable c.part-item.is c.entity.ensures)

pub returns : goal.returns
returns c = subst (All IsEntityWritable) (take_all c.loop-part.part-index c.args.parts.now c.loop-part-test.false) c.loop-part.invariant
