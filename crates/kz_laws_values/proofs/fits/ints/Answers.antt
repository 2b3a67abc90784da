use Rattle.std.proofs.Common.{subst}
use Rattle.kz_spec_data.specs.Fields.{AreInts}
use Rattle.kz_laws_values.proofs.Held.{few_ints}
use Rattle.kz_laws_values.proofs.fits.ints.Goals as goal

pub returns : goal.returns
returns c = (subst AreInts c.as_slice.ensures c.in_ranges.ensures, few_ints c.args.list.now c.requires)
