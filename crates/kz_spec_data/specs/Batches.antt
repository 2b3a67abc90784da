-- Which bytes are a record batch (Kafka's format, magic 2), what is read from bytes, and what is written.
use Rattle.std.specs.Prelude.{◌≡◌, ℕ, zero, suc, ◌+◌, ◌-◌, ◌/◌, ◌%◌, ◌<◌, ◌≤◌, ◌^◌, ℤ, pos, negsuc, ◌+ℤ◌, ◌≤ℤ◌, Bool, true, false, not, nat_lt, ◌==◌, ◌&&◌, List, [], ◌∷◌, ◌++◌, length, map, take, drop, Option, Some, None, Result, Ok, Err, if◌then◌else◌}
use Rattle.std.specs.Int.{Width, w8, w16, w32, w64, byte_len, from_be_bytes, to_be_bytes, cast_signed, cast_unsigned, is_negative}
use Rattle.std.specs.Ordering.{int_eq}
use Rattle.kz_types.specs.declared.record.ByteFault.{ByteFault}
use Rattle.kz_types.specs.declared.record.BatchFault.{BatchFault}
use Rattle.kz_types.specs.declared.record.BatchFault.TheVariants.{Short, BadMagic, BadCrc, Compressed, BadCount, BadOrder}
use Rattle.kz_spec_data.specs.Fields.{Reading, Format, ◌>>=◌, front, varint, varlong}
use Rattle.kz_spec_data.specs.Forms.{◌⊗◌, Each, items_at, items_written, AllFit}
use Rattle.kz_spec_data.specs.Checksum.{crc32c}

-- ---- the header: 61 bytes, the highest byte of each number first

-- the number of this width at this place
abbrev pub number_at : Width → ℕ → List ℕ → ℕ
number_at w at bytes = from_be_bytes w (take (byte_len w) (drop at bytes))

abbrev pub signed_at : Width → ℕ → List ℕ → ℤ
signed_at w at bytes = cast_signed w (number_at w at bytes)

-- the offset of the first record
abbrev pub base_offset : List ℕ → ℤ
base_offset bytes = signed_at w64 0 bytes

-- how many bytes follow this field
abbrev pub stated_length : List ℕ → ℤ
stated_length bytes = signed_at w32 8 bytes

abbrev pub leader_epoch : List ℕ → ℤ
leader_epoch bytes = signed_at w32 12 bytes

abbrev pub magic : List ℕ → ℕ
magic bytes = number_at w8 16 bytes

abbrev pub stated_sum : List ℕ → ℕ
stated_sum bytes = number_at w32 17 bytes

abbrev pub attributes : List ℕ → ℕ
attributes bytes = number_at w16 21 bytes

-- the method of compression: the lowest three bits of the attributes
abbrev pub compression : List ℕ → ℕ
compression bytes = attributes bytes % 8

-- bit 5 of the attributes
abbrev pub is_control : List ℕ → Bool
is_control bytes = (attributes bytes / 32) % 2 == 1

-- the offset of the last record, counted from the first
abbrev pub last_delta : List ℕ → ℤ
last_delta bytes = signed_at w32 23 bytes

-- the base timestamp. From 35 on stand the greatest timestamp, and the producer's id, epoch and sequence.
abbrev pub base_time : List ℕ → ℤ
base_time bytes = signed_at w64 27 bytes

-- how many records there are
abbrev pub stated_count : List ℕ → ℤ
stated_count bytes = signed_at w32 57 bytes

-- ---- the records

-- a fault of a field makes the count wrong
abbrev pub countable : {A : Type 0} → Result A ByteFault → Result A BatchFault
countable (Ok x) = Ok x
countable (Err e) = Err BadCount

abbrev pub part : {X : Type 0} → Format ByteFault X → Format BatchFault X
part f = record { spells = f.spells; read = λ r. countable (f.read r); written = f.written; fits = f.fits }

-- the attributes of a record: a byte 0
abbrev pub zero_at : ℕ → List ℕ → Result (Unit {0} × Reading) BatchFault
zero_at at [] = Err BadCount
zero_at at (b ∷ rest) = if b == 0 then Ok (tt, record { at = at + 1; left = rest }) else Err BadCount

abbrev pub no_attributes : Format BatchFault (Unit {0})
no_attributes = record { spells = λ x bytes. bytes ≡ 0 ∷ []; read = λ r. zero_at r.at r.left; written = λ x. 0 ∷ []; fits = λ x. Unit {0} }

-- so many bytes, or none at all for -1
abbrev pub measured_at : ℤ × Reading → Result (Option (List ℕ) × Reading) BatchFault
measured_at (pos n, r) = countable ((front n).read r) >>= λ x. Ok (Some x.0, x.1)
measured_at (negsuc zero, r) = Ok (None, r)
measured_at (negsuc (suc n), r) = Err BadCount

abbrev pub measured_written : Option (List ℕ) → List ℕ
measured_written None = varint.written (negsuc 0)
measured_written (Some x) = varint.written (pos (length x)) ++ x

abbrev pub IsMeasured : Option (List ℕ) → List ℕ → Type 0
IsMeasured None bytes = varint.spells (negsuc 0) bytes
IsMeasured (Some x) bytes = (head : List ℕ) × (bytes ≡ head ++ x) × varint.spells (pos (length x)) head

abbrev pub HasLength : Option (List ℕ) → Type 0
HasLength None = Unit {0}
HasLength (Some x) = length x < 2 ^ 31

-- a length and so many bytes, or the length -1 for null
abbrev pub measured_or_null : Format BatchFault (Option (List ℕ))
measured_or_null = record { spells = IsMeasured; read = λ r. countable (varint.read r) >>= measured_at; written = measured_written; fits = HasLength }

abbrev pub not_null : Option (List ℕ) × Reading → Result (List ℕ × Reading) BatchFault
not_null (None, r) = Err BadCount
not_null (Some x, r) = Ok (x, r)

-- a length and so many bytes
abbrev pub bytes_with_length : Format BatchFault (List ℕ)
bytes_with_length = record {
  spells = λ x bytes. IsMeasured (Some x) bytes;
  read = λ r. measured_or_null.read r >>= not_null;
  written = λ x. measured_written (Some x);
  fits = λ x. HasLength (Some x);
}

-- a header of a record: a key and a value
abbrev pub header : Format BatchFault (List ℕ × Option (List ℕ))
header = bytes_with_length ⊗ measured_or_null

abbrev pub headers_at : ℤ × Reading → Result (List (List ℕ × Option (List ℕ)) × Reading) BatchFault
headers_at (pos n, r) = items_at header.read n r
headers_at (negsuc n, r) = Err BadCount

-- a count, and so many headers
abbrev pub headers : Format BatchFault (List (List ℕ × Option (List ℕ)))
headers = record {
  spells = λ hs bytes. (head : List ℕ) × (body : List ℕ) × (bytes ≡ head ++ body) × varint.spells (pos (length hs)) head × Each header.spells hs body;
  read = λ r. countable (varint.read r) >>= headers_at;
  written = λ hs. varint.written (pos (length hs)) ++ items_written header.written hs;
  fits = λ hs. (length hs < 2 ^ 31) × AllFit header.fits hs;
}

-- The content of a record: attributes, timestamp delta, offset delta, key, value, headers.
abbrev pub Content : Type 0
Content = Unit {0} × (ℤ × (ℤ × (Option (List ℕ) × (List ℕ × List (List ℕ × Option (List ℕ))))))

abbrev pub content : Format BatchFault Content
content = no_attributes ⊗ part varlong ⊗ part varlong ⊗ measured_or_null ⊗ bytes_with_length ⊗ headers

-- what a batch takes of a record: its offset delta and its value
abbrev pub delta_of : Content → ℤ
delta_of c = c.1.1.0

abbrev pub value_of : Content → List ℕ
value_of c = c.1.1.1.1.0

-- the content that these bytes at this place are, all of them
abbrev pub whole : ℕ → List ℕ × Reading → Result (Content × Reading) BatchFault
whole at x = content.read (record { at = at; left = x.0 }) >>= λ c. if length c.1.left == 0 then Ok (c.0, x.1) else Err BadCount

abbrev pub sized_at : ℤ × Reading → Result (Content × Reading) BatchFault
sized_at (pos n, r) = countable ((front n).read r) >>= whole r.at
sized_at (negsuc n, r) = Err BadCount

-- a record: the length of its content, and the content
abbrev pub entry : Format BatchFault Content
entry = record {
  spells = λ c bytes. (head : List ℕ) × (body : List ℕ) × (bytes ≡ head ++ body) × varint.spells (pos (length body)) head × content.spells c body;
  read = λ r. countable (varint.read r) >>= sized_at;
  written = λ c. varint.written (pos (length (content.written c))) ++ content.written c;
  fits = λ c. (length (content.written c) < 2 ^ 31) × content.fits c;
}

-- ---- batches

-- What a batch says. The offset of its last record can pass 64 bits. The records of a control batch aren't read.
pub record BatchContents : Type 0 where
  pub first : ℤ
  pub epoch : ℤ
  pub time : ℤ
  pub last : ℤ
  pub control : Bool
  pub values : List (List ℕ)

-- The records' offsets, counted from the first, are this number and the next ones.
abbrev pub AreNumbered : ℕ → List Content → Type 0
AreNumbered n [] = Unit {0}
AreNumbered n (c ∷ cs) = (delta_of c ≡ pos n) × AreNumbered (n + 1) cs

-- The bytes after the header are these records, the header counts them, and they stand in order.
pub record AreRecords (bytes : List ℕ) (cs : List Content) : Type 0 where
  pub spelled : Each entry.spells cs (drop 61 bytes)
  pub count : stated_count bytes ≡ pos (length cs)
  pub last : last_delta bytes +ℤ pos 1 ≡ pos (length cs)
  pub order : AreNumbered 0 cs

abbrev pub IsContent : Bool → List ℕ → List (List ℕ) → Type 0
IsContent true bytes values = (pos 0 ≤ℤ last_delta bytes) × (values ≡ [])
IsContent false bytes values = (cs : List Content) × AreRecords bytes cs × (values ≡ map value_of cs)

-- The bytes are this batch.
pub record IsBatch (bytes : List ℕ) (batch : BatchContents) : Type 0 where
  pub size : 61 ≤ length bytes
  pub stated : stated_length bytes ≡ pos (length bytes - 12)
  pub format : magic bytes ≡ 2
  pub sum : stated_sum bytes ≡ crc32c (drop 21 bytes)
  pub plain : compression bytes ≡ 0
  pub first : batch.first ≡ base_offset bytes
  pub epoch : batch.epoch ≡ leader_epoch bytes
  pub time : batch.time ≡ base_time bytes
  pub last : batch.last ≡ base_offset bytes +ℤ last_delta bytes
  pub control : batch.control ≡ is_control bytes
  pub content : IsContent batch.control bytes batch.values

-- ---- reading: the first fault in the order in which they are tested

-- the whole batch by its length field, which counts at least 49 bytes
abbrev pub holds_whole_batch : ℤ → ℕ → Bool
holds_whole_batch (pos n) size = not (nat_lt n 49) && not (nat_lt size (12 + n))
holds_whole_batch (negsuc n) size = false

abbrev pub is_short : List ℕ → Bool
is_short bytes = if nat_lt (length bytes) 61 then true else not (holds_whole_batch (stated_length bytes) (length bytes))

-- the bytes that the length field counts, from the attributes on
abbrev pub summed_rest : List ℕ → ℤ → List ℕ
summed_rest rest (pos n) = take (n - 9) rest
summed_rest rest (negsuc n) = []

abbrev pub bytes_under_sum : List ℕ → List ℕ
bytes_under_sum bytes = summed_rest (drop 21 bytes) (stated_length bytes)

-- so many records and no more bytes, where that count is one more than the last delta
abbrev pub records_counted : ℤ → List ℕ → Result (List Content) BatchFault
records_counted (pos n) bytes = items_at entry.read n (record { at = 61; left = drop 61 bytes }) >>= λ x.
    if (length x.1.left == 0) && int_eq (last_delta bytes +ℤ pos 1) (pos n) then Ok x.0 else Err BadCount
records_counted (negsuc n) bytes = Err BadCount

abbrev pub is_numbered : ℕ → List Content → Bool
is_numbered n [] = true
is_numbered n (c ∷ cs) = int_eq (delta_of c) (pos n) && is_numbered (n + 1) cs

-- the values of the batch
abbrev pub values_of : Bool → List ℕ → Result (List (List ℕ)) BatchFault
values_of true bytes = if is_negative (last_delta bytes) then Err BadCount else Ok []
values_of false bytes = records_counted (stated_count bytes) bytes >>= λ cs. if is_numbered 0 cs then Ok (map value_of cs) else Err BadOrder

abbrev pub batch_with : List ℕ → List (List ℕ) → BatchContents
batch_with bytes values = record { first = base_offset bytes; epoch = leader_epoch bytes; time = base_time bytes; last = base_offset bytes +ℤ last_delta bytes; control = is_control bytes; values = values }

unfoldable pub batch_of : List ℕ → Result BatchContents BatchFault
batch_of bytes =
    if is_short bytes then Err Short
    else (if not (magic bytes == 2) then Err (BadMagic (magic bytes))
    else (if not (stated_sum bytes == crc32c (bytes_under_sum bytes)) then Err (BadCrc (stated_sum bytes) (crc32c (bytes_under_sum bytes)))
    else (if not (compression bytes == 0) then Err (Compressed (compression bytes))
    else (if not (int_eq (stated_length bytes) (pos (length bytes - 12))) then Err BadCount
    else (values_of (is_control bytes) bytes >>= λ values. Ok (batch_with bytes values))))))

-- ---- writing

-- the content of the record that holds a value at this offset delta: no key, no header, and the base timestamp
abbrev pub content_with : ℕ → List ℕ → Content
content_with n value = (tt, (pos 0, (pos n, (None, (value, [])))))

abbrev pub records_written : ℕ → List (List ℕ) → List ℕ
records_written n [] = []
records_written n (v ∷ vs) = entry.written (content_with n v) ++ records_written (n + 1) vs

-- from the attributes to the count of records: attributes, last delta, base and greatest timestamp, producer id,
-- producer epoch, base sequence, count
abbrev pub header_written : ℤ → ℕ → List ℕ
header_written time count = to_be_bytes w16 0 ++ (to_be_bytes w32 (cast_unsigned w32 (pos count +ℤ negsuc 0)) ++ (to_be_bytes w64 (cast_unsigned w64 time) ++ (to_be_bytes w64 (cast_unsigned w64 time)
    ++ (to_be_bytes w64 (cast_unsigned w64 (negsuc 0)) ++ (to_be_bytes w16 (cast_unsigned w16 (negsuc 0)) ++ (to_be_bytes w32 (cast_unsigned w32 (negsuc 0)) ++ to_be_bytes w32 count))))))

-- from the attributes on
abbrev pub summed_written : ℤ → List (List ℕ) → List ℕ
summed_written time values = header_written time (length values) ++ records_written 0 values

-- first offset, length of what follows, epoch, format 2, sum, and the bytes that are summed
abbrev pub sealed_written : ℤ → ℤ → List ℕ → List ℕ
sealed_written first epoch rest = to_be_bytes w64 (cast_unsigned w64 first) ++ (to_be_bytes w32 (length rest + 9) ++ (to_be_bytes w32 (cast_unsigned w32 epoch) ++ (2 ∷ (to_be_bytes w32 (crc32c rest) ++ rest))))

-- A batch of these values, whose first offset, epoch and time are given. All records have the batch's time, no producer
-- is named, and nothing is compressed.
abbrev pub batch_written : ℤ → ℤ → ℤ → List (List ℕ) → List ℕ
batch_written first epoch time values = sealed_written first epoch (summed_written time values)

abbrev pub Holds31 : List ℕ → Type 0
Holds31 value = length value + 32 < 2 ^ 31

-- Each length and count fits its field.
pub record BatchFits (values : List (List ℕ)) : Type 0 where
  pub count : length values < 2 ^ 31
  pub each : AllFit Holds31 values
  pub whole : length (summed_written (pos 0) values) + 9 < 2 ^ 31
