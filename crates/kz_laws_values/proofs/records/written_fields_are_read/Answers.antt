use Rattle.std.specs.Int.{w8, w16, w32, w64}
use Rattle.kz_spec_data.specs.Fields.{front, unsigned_number, signed_number, id, uvarint, varint, varlong, items_with_count, nullable_bytes, nullable_text}
use Rattle.kz_spec_data.specs.Forms.{non_null, flag, nullable_ints}
use Rattle.kz_laws_values.proofs.Basics.{front_exact, bytes_8, bytes_16, bytes_32, bytes_64, signs_8, signs_16, signs_32, signs_64, unsigned_exact, signed_exact, id_exact, present_exact, flag_exact}
use Rattle.kz_laws_values.proofs.Counted.{uvarint_exact, counted_exact, text_exact, ints_exact}
use Rattle.kz_laws_values.proofs.BatchParts.{varint_exact, varlong_exact}
use Rattle.kz_laws_values.proofs.Written.{front_writes, unsigned_writes, signed_writes, id_writes, present_writes, flag_writes, uvarint_writes, counted_writes, text_writes, ints_writes}
use Rattle.kz_laws_values.proofs.WrittenBatches.{varint_writes, varlong_writes}
use Rattle.kz_laws_values.proofs.FieldLaws.{reads_written}
use Rattle.kz_laws_values.proofs.records.written_fields_are_read.Goals as goal

pub returns : goal.returns
returns c = record {
  part = λ n. reads_written (front n) (front_exact n) (front_writes n);
  i8 = reads_written (signed_number w8) (signed_exact w8 bytes_8 signs_8) (signed_writes w8);
  i16 = reads_written (signed_number w16) (signed_exact w16 bytes_16 signs_16) (signed_writes w16);
  u16 = reads_written (unsigned_number w16) (unsigned_exact w16 bytes_16) (unsigned_writes w16);
  i32 = reads_written (signed_number w32) (signed_exact w32 bytes_32 signs_32) (signed_writes w32);
  i64 = reads_written (signed_number w64) (signed_exact w64 bytes_64 signs_64) (signed_writes w64);
  id = reads_written id id_exact id_writes;
  flag = reads_written flag flag_exact flag_writes;
  uvarint = reads_written uvarint uvarint_exact uvarint_writes;
  varint = reads_written varint varint_exact varint_writes;
  varlong = reads_written varlong varlong_exact varlong_writes;
  counted = λ size. reads_written (items_with_count size) (counted_exact size) (counted_writes size);
  nullable_bytes = reads_written nullable_bytes (counted_exact 1) (counted_writes 1);
  byte_field = reads_written (non_null nullable_bytes) (present_exact nullable_bytes (counted_exact 1)) (present_writes nullable_bytes (counted_writes 1));
  nullable_text = reads_written nullable_text text_exact text_writes;
  text = reads_written (non_null nullable_text) (present_exact nullable_text text_exact) (present_writes nullable_text text_writes);
  nullable_ints = reads_written nullable_ints ints_exact ints_writes;
  ints = reads_written (non_null nullable_ints) (present_exact nullable_ints ints_exact) (present_writes nullable_ints ints_writes);
}
