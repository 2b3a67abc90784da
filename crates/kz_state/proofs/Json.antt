-- What a look at a JSON value says of the body that it is.
use Rattle.std.proofs.Common.{◌≡◌, true, false, Some, is_some, Err, refl}
use Rattle.serde_json.specs.Data.{Data, null, boolean, number, string, array, object}
use Rattle.serde_json.specs.Find.{as_object}
use Rattle.kz_types.specs.declared.fault.BodyFault.TheVariants.{NotJson}
use Rattle.kz_spec_data.specs.Control.{recorded_in, recorded_or_fault}

pub of_object : (d : Data) → is_some (as_object d) ≡ true → recorded_or_fault (Some d) ≡ recorded_in d
of_object null e = cc
of_object (boolean b) e = cc
of_object (number n) e = cc
of_object (string s) e = cc
of_object (array ds) e = cc
of_object (object ms) e = refl

pub of_no_object : (d : Data) → is_some (as_object d) ≡ false → recorded_or_fault (Some d) ≡ Err NotJson
of_no_object null e = refl
of_no_object (boolean b) e = refl
of_no_object (number n) e = refl
of_no_object (string s) e = refl
of_no_object (array ds) e = refl
of_no_object (object ms) e = cc
