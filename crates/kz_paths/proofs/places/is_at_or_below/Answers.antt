use Rattle.std.proofs.Common.{arith}
use Rattle.std.proofs.lemmas.Grind.{common_steps}
use Rattle.kz_paths.proofs.Prefixes.{at_or_below, elsewhere}
use Rattle.kz_paths.proofs.places.is_at_or_below.Goals as goal

pub returns-then-path-above : goal.returns-then-path-above
returns-then-path-above c = let e = at_or_below c.args.above.now c.args.path.now in grind (arith, common_steps, e)

pub returns-else-path-above : goal.returns-else-path-above
returns-else-path-above c = let e = at_or_below c.args.above.now c.args.path.now in grind (arith, common_steps, e)

pub returns-else-begins_with : goal.returns-else-begins_with
returns-else-begins_with c = let e = at_or_below c.args.above.now c.args.path.now in grind (arith, common_steps, e)

pub returns-then-path-above-ne47 : goal.returns-then-path-above-ne47
returns-then-path-above-ne47 c = elsewhere c.args.above.now c.args.path.now c.if-above-path.true c.if-path-above-ne47.true
