use Rattle.std.specs.Int.{w8, w16, w32, w64}
use Rattle.kz_spec_data.specs.Fields.{front, unsigned_number, signed_number, id, uvarint, varint, varlong, items_with_count, nullable_bytes, nullable_text}
use Rattle.kz_spec_data.specs.Forms.{non_null, flag, nullable_ints}
use Rattle.kz_laws_values.proofs.Basics.{front_exact, bytes_8, bytes_16, bytes_32, bytes_64, signs_8, signs_16, signs_32, signs_64, unsigned_exact, signed_exact, id_exact, present_exact, flag_exact}
use Rattle.kz_laws_values.proofs.Counted.{uvarint_exact, counted_exact, text_exact, ints_exact}
use Rattle.kz_laws_values.proofs.BatchParts.{varint_exact, varlong_exact}
use Rattle.kz_laws_values.proofs.FieldLaws.{reads_spellings}
use Rattle.kz_laws_values.proofs.records.fields_are_spelled.Goals as goal

pub returns : goal.returns
returns c = record {
  part = λ n. reads_spellings (front n) (front_exact n);
  i8 = reads_spellings (signed_number w8) (signed_exact w8 bytes_8 signs_8);
  i16 = reads_spellings (signed_number w16) (signed_exact w16 bytes_16 signs_16);
  u16 = reads_spellings (unsigned_number w16) (unsigned_exact w16 bytes_16);
  i32 = reads_spellings (signed_number w32) (signed_exact w32 bytes_32 signs_32);
  i64 = reads_spellings (signed_number w64) (signed_exact w64 bytes_64 signs_64);
  id = reads_spellings id id_exact;
  flag = reads_spellings flag flag_exact;
  uvarint = reads_spellings uvarint uvarint_exact;
  varint = reads_spellings varint varint_exact;
  varlong = reads_spellings varlong varlong_exact;
  counted = λ size. reads_spellings (items_with_count size) (counted_exact size);
  nullable_bytes = reads_spellings nullable_bytes (counted_exact 1);
  byte_field = reads_spellings (non_null nullable_bytes) (present_exact nullable_bytes (counted_exact 1));
  nullable_text = reads_spellings nullable_text text_exact;
  text = reads_spellings (non_null nullable_text) (present_exact nullable_text text_exact);
  nullable_ints = reads_spellings nullable_ints ints_exact;
  ints = reads_spellings (non_null nullable_ints) (present_exact nullable_ints ints_exact);
}
