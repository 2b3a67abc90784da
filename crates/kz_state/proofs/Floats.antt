-- What a controller writes has no floats.
use Rattle.std.proofs.Common.{◌≡◌, ℤ, pos, negsuc, false, refl}
use Rattle.serde_json.specs.Find.{of_integer, is_float}
use Rattle.serde_json.specs.Written.{has_float}
use Rattle.kz_types.specs.declared.machine.Recorded.{Recorded}
use Rattle.kz_spec_data.specs.Control.{control_data, recorded_data}

is_no_float : (z : ℤ) → is_float (of_integer z) ≡ false
is_no_float (pos n) = refl
is_no_float (negsuc n) = refl

pub control_has_no_float : (id epoch now : ℤ) → has_float (control_data id epoch now) ≡ false
control_has_no_float id epoch now = rw (is_no_float id, is_no_float epoch) refl

pub recorded_has_no_float : (r : Recorded) → has_float (recorded_data r) ≡ false
recorded_has_no_float r = rw (is_no_float r.controller_epoch, is_no_float r.id, is_no_float r.epoch, is_no_float r.offset) refl
