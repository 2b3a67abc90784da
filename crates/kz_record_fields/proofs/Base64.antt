-- What decoding says of base64.
use Rattle.std.proofs.Common.{◌≡◌, ℕ, List, Some, None, Ok, Err, sym, ap}
use Rattle.std.specs.Result.{result_ok}
use Rattle.base64.specs.declared.decode.DecodeError.{DecodeError}
use Rattle.base64.specs.Engines.{standard}
use Rattle.base64.specs.GeneralPurpose.{decode_of, decoded_of}

pub decoded_is : (text bytes : List ℕ) → decode_of standard text ≡ Ok bytes → Some bytes ≡ decoded_of standard text
unfolding decoded_of
decoded_is text bytes h = sym (ap result_ok h)

pub decoded_none : (text : List ℕ) (e : DecodeError) → decode_of standard text ≡ Err e → None ≡ decoded_of standard text
unfolding decoded_of
decoded_none text e h = sym (ap result_ok h)
