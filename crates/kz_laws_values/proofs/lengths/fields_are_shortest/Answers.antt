use Rattle.std.specs.Int.{w8, w16, w32, w64}
use Rattle.kz_spec_data.specs.Fields.{nullable_bytes, nullable_text}
use Rattle.kz_spec_data.specs.Forms.{nullable_ints}
use Rattle.kz_laws_values.proofs.Fields.{front_shortest, unsigned_shortest, signed_shortest, id_shortest, flag_shortest, uvarint_shortest, varint_shortest, varlong_shortest, counted_shortest, text_shortest, ints_shortest, present_shortest}
use Rattle.kz_laws_values.proofs.lengths.fields_are_shortest.Goals as goal

pub returns : goal.returns
returns c = record {
  part = front_shortest;
  i8 = signed_shortest w8;
  i16 = signed_shortest w16;
  u16 = unsigned_shortest w16;
  i32 = signed_shortest w32;
  i64 = signed_shortest w64;
  id = id_shortest;
  flag = flag_shortest;
  uvarint = uvarint_shortest;
  varint = varint_shortest;
  varlong = varlong_shortest;
  counted = counted_shortest;
  byte_field = present_shortest nullable_bytes (counted_shortest 1);
  nullable_bytes = counted_shortest 1;
  text = present_shortest nullable_text text_shortest;
  nullable_text = text_shortest;
  ints = present_shortest nullable_ints ints_shortest;
  nullable_ints = ints_shortest;
}
