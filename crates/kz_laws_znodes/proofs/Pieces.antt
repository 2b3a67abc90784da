-- The bytes of batches: how many they are, and that pieces that were written are read.
use Rattle.std.proofs.Common.{◌≡◌, ℕ, suc, ◌+◌, ◌*◌, ◌^◌, ◌<◌, ◌≤◌, ℤ, pos, false, cond, nat_lt, List, [], ◌∷◌, ◌++◌, length, map, take, drop, Result, Ok, Err, refl, sym, ap, ◌∙◌, length-append, arith, w32}
use Rattle.std.specs.Int.{to_be_bytes, from_be_bytes}
use Rattle.std.specs.List.{flat_map}
use Rattle.std.proofs.Math.Seq.{take-append_seam, drop-append_seam}
use Rattle.std.proofs.lemmas.List.{drop-drop}
use Rattle.std.proofs.lemmas.Nat.{from_be_bytes-to_be_bytes_4}
use Rattle.std.proofs.lemmas.Bool.Decides.{nat_tests}
use Rattle.kz_types.specs.declared.log.BatchRow.{BatchRow}
use Rattle.kz_types.specs.declared.fault.LogWhy.{LogWhy}
use Rattle.kz_types.specs.declared.fault.LogWhy.TheVariants.{Malformed}
use Rattle.kz_spec_data.specs.Fields.{◌>>=◌, varint, groups_of}
use Rattle.kz_spec_data.specs.Forms.{AllFit}
use Rattle.kz_spec_data.specs.Records.{bytes_of_record}
use Rattle.kz_spec_data.specs.Batches.{content, entry, content_with, records_written, batch_written, Holds31, BatchFits}
use Rattle.kz_spec_data.specs.LogFile.{read_pieces, piece_written}

-- ---- batches

content_holds : (a b c d e value : List ℕ) → length value < length ((0 ∷ []) ++ (a ++ (b ++ (c ++ ((d ++ value) ++ (e ++ []))))))
content_holds a b c d e value =
    omega (arith, length-append a (b ++ (c ++ ((d ++ value) ++ (e ++ [])))), length-append b (c ++ ((d ++ value) ++ (e ++ []))), length-append c ((d ++ value) ++ (e ++ [])), length-append (d ++ value) (e ++ []), length-append d value)

after_size : (size text value : List ℕ) → length value < length text → length value < length (size ++ text)
after_size size text value h = let e = length-append size text in omega (arith, e, h)

pub entry_holds : (n : ℕ) (value : List ℕ) → length value < length (entry.written (content_with n value))
entry_holds n value =
    after_size (varint.written (pos (length (content.written (content_with n value))))) (content.written (content_with n value)) value (content_holds (groups_of 9 0) (groups_of 9 (2 * n)) (groups_of 9 1) (groups_of 9 (2 * length value)) (groups_of 9 0) value)

pub count_of_values : (n : ℕ) (values : List (List ℕ)) → length values ≤ length (records_written n values)
count_of_values n [] = omega arith
count_of_values n (v ∷ vs) =
    let e = length-append (entry.written (content_with n v)) (records_written (n + 1) vs) in
    let one = entry_holds n v in
    let h = count_of_values (n + 1) vs in
    omega (arith, e, one, h)

each_value : (n : ℕ) (values : List (List ℕ)) → length (records_written n values) + 61 < 2 ^ 31 → AllFit Holds31 values
each_value n [] h = tt
each_value n (v ∷ vs) h =
    let e = length-append (entry.written (content_with n v)) (records_written (n + 1) vs) in
    let one = entry_holds n v in
    (omega (arith, e, one, h), each_value (n + 1) vs (omega (arith, e, h)))

pub batch_length : (first epoch time : ℤ) (vs : List (List ℕ)) → length (batch_written first epoch time vs) ≡ 61 + length (records_written 0 vs)
batch_length first epoch time vs = omega arith

-- The lengths and counts of a batch fit where its bytes are fewer than 2 ^ 31.
pub batch_fits : (first epoch time : ℤ) (values : List (List ℕ)) → length (batch_written first epoch time values) < 2 ^ 31 → BatchFits values
batch_fits first epoch time values h =
    let count = count_of_values 0 values in
    let size = batch_length first epoch time values in
    record { count = omega (arith, count, h, size); each = each_value 0 values (omega (arith, h, size)); whole = omega (arith, h, size) }

-- ---- pieces

-- the bytes of a batch
abbrev pub bytes_of_row : BatchRow → List ℕ
bytes_of_row b = batch_written b.first b.epoch b.time (map bytes_of_record b.items)

-- the bytes of batches, each after its length
abbrev pub pieces_written : List BatchRow → List ℕ
pieces_written bs = flat_map piece_written bs

piece_length : (p rest : List ℕ) → length ((to_be_bytes w32 (length p) ++ p) ++ rest) ≡ 4 + (length p + length rest)
piece_length p rest = let e = length-append p rest in omega (arith, e)

pub pieces_length : (b : BatchRow) (bs : List BatchRow) → length (pieces_written (b ∷ bs)) ≡ 4 + (length (bytes_of_row b) + length (pieces_written bs))
pieces_length b bs = piece_length (bytes_of_row b) (pieces_written bs)

pub count_of_pieces : (bs : List BatchRow) → length bs ≤ length (pieces_written bs)
count_of_pieces [] = omega arith
count_of_pieces (b ∷ bs) =
    let e = pieces_length b bs in
    let h = count_of_pieces bs in
    omega (arith, e, h)

is_not_less : (a b : ℕ) → b ≤ a → nat_lt a b ≡ false
is_not_less a b h = grind (arith, nat_tests)

-- a piece and the pieces after it, where the bytes are long enough
piece_on : (n size : ℕ) (bytes p rest : List ℕ) (ps : List (List ℕ)) → from_be_bytes w32 (take 4 bytes) ≡ size → nat_lt (length bytes) 4 ≡ false → nat_lt (length bytes) (4 + size) ≡ false → drop (4 + size) bytes ≡ rest → take size (drop 4 bytes) ≡ p
    → read_pieces n rest ≡ Ok (ps, []) → read_pieces (suc n) bytes ≡ Ok (p ∷ ps, [])
piece_on n size bytes p rest ps is long whole after piece more =
    let found = from_be_bytes w32 (take 4 bytes) in
    ap (λ t. cond t (Err Malformed) (cond (nat_lt (length bytes) (4 + found)) (Err Malformed) (read_pieces n (drop (4 + found) bytes) >>= λ (r : List (List ℕ) × List ℕ). Ok (take found (drop 4 bytes) ∷ r.0, r.1)))) long
    ∙ ap (λ k. cond (nat_lt (length bytes) (4 + k)) (Err Malformed) (read_pieces n (drop (4 + k) bytes) >>= λ (r : List (List ℕ) × List ℕ). Ok (take k (drop 4 bytes) ∷ r.0, r.1))) is
    ∙ ap (λ t. cond t (Err Malformed) (read_pieces n (drop (4 + size) bytes) >>= λ (r : List (List ℕ) × List ℕ). Ok (take size (drop 4 bytes) ∷ r.0, r.1))) whole
    ∙ ap (λ xs. read_pieces n xs >>= λ (r : List (List ℕ) × List ℕ). Ok (take size (drop 4 bytes) ∷ r.0, r.1)) after
    ∙ ap (λ (m : Result (List (List ℕ) × List ℕ) LogWhy). m >>= λ (r : List (List ℕ) × List ℕ). Ok (take size (drop 4 bytes) ∷ r.0, r.1)) more
    ∙ ap (λ x. Ok (x ∷ ps, [])) piece

read_one : (n : ℕ) (p rest : List ℕ) (ps : List (List ℕ)) → length p < 2 ^ 32 → read_pieces n rest ≡ Ok (ps, []) → read_pieces (suc n) ((to_be_bytes w32 (length p) ++ p) ++ rest) ≡ Ok (p ∷ ps, [])
read_one n p rest ps few more =
    let bytes : List ℕ = (to_be_bytes w32 (length p) ++ p) ++ rest in
    let size = piece_length p rest in
    piece_on n (length p) bytes p rest ps (from_be_bytes-to_be_bytes_4 (length p) few) (is_not_less (length bytes) 4 (omega (arith, size))) (is_not_less (length bytes) (4 + length p) (omega (arith, size))) (sym (drop-drop (length p) 4 bytes) ∙ drop-append_seam p rest) (take-append_seam p rest) more

-- Pieces that were written are read, and no bytes are left.
pub pieces_read : (bs : List BatchRow) → length (pieces_written bs) < 2 ^ 32 → read_pieces (length bs) (pieces_written bs) ≡ Ok (map bytes_of_row bs, [])
pieces_read [] few = refl
pieces_read (b ∷ bs) few =
    let size = pieces_length b bs in
    read_one (length bs) (bytes_of_row b) (pieces_written bs) (map bytes_of_row bs) (omega (arith, size, few)) (pieces_read bs (omega (arith, size, few)))
