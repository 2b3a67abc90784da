use Rattle.std.proofs.Common.{subst}
use Rattle.kz_spec_data.specs.Forms.{text_content}
use Rattle.kz_spec_data.specs.Records.{FieldFits}
use Rattle.kz_laws_values.proofs.Held.{short_in_field}
use Rattle.kz_laws_values.proofs.fits.text_field.Goals as goal

pub string-requires : goal.string-requires
string-requires c = short_in_field c.in-Some.text (subst (FieldFits text_content) c.in-Some.is c.requires)
