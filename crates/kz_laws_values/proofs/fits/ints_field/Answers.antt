use Rattle.std.proofs.Common.{subst}
use Rattle.kz_spec_data.specs.Forms.{plain, nullable_ints}
use Rattle.kz_spec_data.specs.Records.{FieldFits}
use Rattle.kz_laws_values.proofs.Held.{few_in_field}
use Rattle.kz_laws_values.proofs.fits.ints_field.Goals as goal

pub ints-requires : goal.ints-requires
ints-requires c = few_in_field c.in-Some.list (subst (FieldFits (plain nullable_ints)) c.in-Some.is c.requires)
