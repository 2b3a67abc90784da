use Rattle.std.proofs.Common.{arith}
use Rattle.std.proofs.lemmas.Grind.{common_steps}
use Rattle.kz_paths.proofs.Prefixes.{below_is}
use Rattle.kz_paths.proofs.places.is_below.Goals as goal

pub returns-then-above-path : goal.returns-then-above-path
returns-then-above-path c = let e = below_is c.args.above.now c.args.path.now in grind (arith, common_steps, e)

pub returns-else-above-path : goal.returns-else-above-path
returns-else-above-path c = let e = below_is c.args.above.now c.args.path.now in grind (arith, common_steps, e)
