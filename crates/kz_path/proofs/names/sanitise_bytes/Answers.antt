use Rattle.kz_types.proofs.NameLemmas.{sanitised_step, sanitised_done}
use Rattle.kz_path.proofs.names.sanitise_bytes.Goals as goal

pub loop-at-preserved : goal.loop-at-preserved
loop-at-preserved c = sanitised_step c.args.name.now c.loop-at.part.items c.push_sanitised.new.out.items c.loop-at.at c.loop-at-test.true c.loop-at.invariant c.in_ok-push_sanitised.ensures

pub returns : goal.returns
returns c = sanitised_done c.args.name.now c.loop-at.part.items c.loop-at.at c.loop-at-test.false c.loop-at.invariant
