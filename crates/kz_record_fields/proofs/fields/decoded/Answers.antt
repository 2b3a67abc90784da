use Rattle.std.proofs.Common.{◌∙◌, ap, Some}
use Rattle.kz_record_fields.proofs.Base64.{decoded_is, decoded_none}
use Rattle.kz_record_fields.proofs.fields.decoded.Goals as goal

pub returns-in-Ok : goal.returns-in-Ok
returns-in-Ok c = ap (λ b. Some b) c.from_vec.ensures ∙ decoded_is c.args.text.now c.in-Ok.bytes.items c.in-Ok.ensures.ok

pub returns-in-Err-DecodeError : goal.returns-in-Err-DecodeError
returns-in-Err-DecodeError c = decoded_none c.args.text.now c.in-Err-DecodeError.field-0-0 (rw c.in-Err-DecodeError.field-0-is at c.in-Err-DecodeError.ensures.err)
