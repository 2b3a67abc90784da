use Rattle.std.specs.Int.{w8, w16, w32, w64}
use Rattle.kz_laws_values.proofs.Basics.{bytes_8, bytes_16, bytes_32, bytes_64, signs_8, signs_16, signs_32, signs_64}
use Rattle.kz_laws_values.proofs.Faults.{front_faults, unsigned_faults, signed_faults, id_faults, uvarint_faults, varint_faults, varlong_faults, counted_faults}
use Rattle.kz_laws_values.proofs.TextFaults.{text_faults}
use Rattle.kz_laws_values.proofs.records.fault_is_the_first_byte.Goals as goal

pub returns : goal.returns
returns c = record {
  part = front_faults;
  i8 = signed_faults w8 bytes_8 signs_8;
  i16 = signed_faults w16 bytes_16 signs_16;
  u16 = unsigned_faults w16 bytes_16;
  i32 = signed_faults w32 bytes_32 signs_32;
  i64 = signed_faults w64 bytes_64 signs_64;
  id = id_faults;
  uvarint = uvarint_faults;
  varint = varint_faults;
  varlong = varlong_faults;
  counted = counted_faults;
  nullable_text = text_faults;
}
