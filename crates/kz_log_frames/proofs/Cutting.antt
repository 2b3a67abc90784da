-- What the fields of a snapshot make of a log.
use Rattle.std.proofs.Common.{◌≡◌, ℕ, ◌<◌, ◌≤◌, nat_lt, Bool, true, false, ◌&&◌, ◌||◌, ◌==◌, ℤ, pos, negsuc, int_le, cond, List, [], ◌∷◌, ◌++◌, length, map, take, drop, Result, Ok, Err, refl, sym, ap, ◌∙◌, subst, append-nil, arith, w32, w64}
use Rattle.std.specs.Int.{from_be_bytes}
use Rattle.std.specs.Ordering.{int_eq}
use Rattle.std.proofs.lemmas.Int.{ints}
use Rattle.std.proofs.lemmas.Bool.Decides.{nat_tests}
use Rattle.kz_types.specs.declared.log.BatchRow.{BatchRow}
use Rattle.kz_spec_data.specs.Fields.{◌>>=◌}
use Rattle.kz_spec_data.specs.Batches.{signed_at}
use Rattle.kz_spec_data.specs.Metadata.{empty_image}
use Rattle.kz_spec_data.specs.Log.{Log, may_be_base}
use Rattle.kz_spec_data.specs.SnapshotRecords.{image_after, in_epoch, snapshot_records}
use Rattle.kz_spec_data.specs.SnapshotBatches.{records_of_batches}
use Rattle.kz_types.specs.declared.fault.LogWhy.{LogWhy}
use Rattle.kz_types.specs.declared.fault.LogWhy.TheVariants.{Malformed, Sequence}
use Rattle.kz_spec_data.specs.LogFile.{Piece, read_pieces, read_batches, records_of_pieces, same_records, image_of_pieces, are_snapshot_batches, is_snapshot, with_base, after_snapshot}
use Rattle.kz_log_frames.specs.declared.fault.FrameFault.{FrameFault}
use Rattle.kz_log_frames.specs.declared.fault.FrameFault.TheVariants.{Why, NoMemory}
use Rattle.kz_log_frames.specs.declared.pieces.Found.{Found}
use Rattle.kz_log_frames.specs.Taken.{Says}
use Rattle.kz_log_frames.specs.Pieces.{row_of_piece, AreFound, ReadsBatches, image_of_rows, is_allowed, cut_or_not}

and_true : (a : Bool) → (a && true) ≡ a
and_true true = refl
and_true false = refl

records_are : (ps : List Piece) → records_of_batches (map row_of_piece ps) ≡ records_of_pieces ps
records_are [] = refl
records_are (p ∷ ps) = ap (λ rs. map (in_epoch p.0.epoch) p.1 ++ rs) (records_are ps)

map_length : (ps : List Piece) → length (map row_of_piece ps) ≡ length ps
map_length [] = refl
map_length (p ∷ ps) = let rest = map_length ps in omega (arith, rest)

fit : (f : Found) (ps : List Piece) → AreFound f ps → f.fits ≡ are_snapshot_batches (pos 0) ps
fit f ps found = sym (ap (are_snapshot_batches (pos 0)) (sym (append-nil ps)) ∙ found.fits [] ∙ and_true f.fits)

-- by the batches that are held, and the count of the bytes after them
pub cut_is : (l : Log) (epoch base : ℤ) (f : Found) (ps : List Piece) (rest : List ℕ) (count : ℕ) → AreFound f ps → count ≡ length rest
    → cut_or_not l epoch base f.rows.items f.fits count ≡ cond (is_snapshot l epoch base ps rest) (Ok (with_base l base (image_of_pieces ps))) (Err Sequence)
cut_is l epoch base f ps rest count found counted =
    ap (λ bs. cut_or_not l epoch base bs f.fits count) found.rows
    ∙ ap (λ t. cut_or_not l epoch base (map row_of_piece ps) t count) (fit f ps found)
    ∙ ap (cut_or_not l epoch base (map row_of_piece ps) (are_snapshot_batches (pos 0) ps)) counted
    ∙ ap (λ n. cond (((length rest == 0) && int_eq epoch l.epoch && may_be_base l base && (int_le (pos 0) base || (n == 0)) && are_snapshot_batches (pos 0) ps) && same_records (records_of_batches (map row_of_piece ps)) (snapshot_records epoch (image_of_rows (map row_of_piece ps)))) (Ok (with_base l base (image_of_rows (map row_of_piece ps)))) (Err Sequence)) (map_length ps)
    ∙ ap (λ rs. cond (((length rest == 0) && int_eq epoch l.epoch && may_be_base l base && (int_le (pos 0) base || (length ps == 0)) && are_snapshot_batches (pos 0) ps) && same_records rs (snapshot_records epoch (image_after rs empty_image))) (Ok (with_base l base (image_after rs empty_image))) (Err Sequence)) (records_are ps)

-- ---- a base of -1

parts : (a b : Bool) → (a && b) ≡ true → (a ≡ true) × (b ≡ true)
parts true b h = (refl, h)
parts false b h = absurd (cc)

none_of : (base : ℤ) (bs : List BatchRow) → (int_le (pos 0) base || (length bs == 0)) ≡ true → base ≡ negsuc 0 → length bs ≡ 0
none_of base bs h is = grind (arith, ints, nat_tests)

empty_rows : (bs : List BatchRow) → length bs ≡ 0 → image_of_rows bs ≡ empty_image
empty_rows [] h = refl
empty_rows (b ∷ bs) h = absurd (omega (arith, h))

pub may_be : (l : Log) (epoch base : ℤ) (bs : List BatchRow) (fits : Bool) (rest : ℕ) → is_allowed l epoch base bs fits rest ≡ true → may_be_base l base ≡ true
may_be l epoch base bs fits rest h = (parts _ (may_be_base l base) (parts _ (int_le (pos 0) base || (length bs == 0)) (parts _ fits h).0).0).1

pub nothing_there : (l : Log) (epoch base : ℤ) (bs : List BatchRow) (fits : Bool) (rest : ℕ) → is_allowed l epoch base bs fits rest ≡ true → base ≡ negsuc 0 → image_of_rows bs ≡ empty_image
nothing_there l epoch base bs fits rest h is = empty_rows bs (none_of base bs (parts _ (int_le (pos 0) base || (length bs == 0)) (parts _ fits h).0).1 is)

-- ---- the fields

abbrev pub count_of : List ℕ → ℕ
count_of bytes = from_be_bytes w32 (take 4 (drop 12 bytes))

abbrev pub judged : Log → List ℕ → List ℕ → List Piece → Result Log LogWhy
judged l bytes rest ps = cond (is_snapshot l (signed_at w32 0 bytes) (signed_at w64 4 bytes) ps rest) (Ok (with_base l (signed_at w64 4 bytes) (image_of_pieces ps))) (Err Sequence)

abbrev pub read : Log → List ℕ → Result Log LogWhy
read l bytes = read_pieces (count_of bytes) (drop 16 bytes) >>= λ (r : List (List ℕ) × List ℕ). read_batches r.0 >>= λ (ps : List Piece). judged l bytes r.1 ps

is_less : (m n : ℕ) → m < n → nat_lt m n ≡ true
is_less m n h = grind (arith, nat_tests)

not_less : (m n : ℕ) → n ≤ m → nat_lt m n ≡ false
not_less m n h = grind (arith, nat_tests)

pub too_short : (l : Log) (bytes : List ℕ) → length bytes < 16 → after_snapshot l bytes ≡ Err Malformed
too_short l bytes few = ap (λ t. cond t (Err Malformed) (read l bytes)) (is_less (length bytes) 16 few)

long_enough : (l : Log) (bytes : List ℕ) → 16 ≤ length bytes → after_snapshot l bytes ≡ read l bytes
long_enough l bytes many = ap (λ t. cond t (Err Malformed) (read l bytes)) (not_less (length bytes) 16 many)

pub pieces_refused : (l : Log) (bytes : List ℕ) (why : LogWhy) → 16 ≤ length bytes → read_pieces (count_of bytes) (drop 16 bytes) ≡ Err why → after_snapshot l bytes ≡ Err why
pieces_refused l bytes why many is =
    long_enough l bytes many ∙ ap (λ (m : Result (List (List ℕ) × List ℕ) LogWhy). m >>= λ (r : List (List ℕ) × List ℕ). read_batches r.0 >>= λ (ps : List Piece). judged l bytes r.1 ps) is

pub batches_refused : (l : Log) (bytes rest : List ℕ) (pieces : List (List ℕ)) (why : LogWhy) → 16 ≤ length bytes → read_pieces (count_of bytes) (drop 16 bytes) ≡ Ok (pieces, rest) → read_batches pieces ≡ Err why → after_snapshot l bytes ≡ Err why
batches_refused l bytes rest pieces why many is said =
    long_enough l bytes many
    ∙ ap (λ (m : Result (List (List ℕ) × List ℕ) LogWhy). m >>= λ (r : List (List ℕ) × List ℕ). read_batches r.0 >>= λ (ps : List Piece). judged l bytes r.1 ps) is
    ∙ ap (λ (m : Result (List Piece) LogWhy). m >>= λ (ps : List Piece). judged l bytes rest ps) said

pub fields_judged : (l : Log) (bytes rest : List ℕ) (pieces : List (List ℕ)) (ps : List Piece) → 16 ≤ length bytes → read_pieces (count_of bytes) (drop 16 bytes) ≡ Ok (pieces, rest) → read_batches pieces ≡ Ok ps → after_snapshot l bytes ≡ judged l bytes rest ps
fields_judged l bytes rest pieces ps many is said =
    long_enough l bytes many
    ∙ ap (λ (m : Result (List (List ℕ) × List ℕ) LogWhy). m >>= λ (r : List (List ℕ) × List ℕ). read_batches r.0 >>= λ (qs : List Piece). judged l bytes r.1 qs) is
    ∙ ap (λ (m : Result (List Piece) LogWhy). m >>= λ (qs : List Piece). judged l bytes rest qs) said

-- ---- what a snapshot's frame is told to be

pub split_refused : {X Y : Type 0} (view : X → List (List ℕ) × List ℕ) (log : Y → Log) (l : Log) (bytes : List ℕ) (fault : FrameFault) → 16 ≤ length bytes → Says view (Err fault) (read_pieces (count_of bytes) (drop 16 bytes))
    → Says log (Err fault) (after_snapshot l bytes)
split_refused view log l bytes (Why why) many said = pieces_refused l bytes why many said
split_refused view log l bytes NoMemory many said = tt

pub read_refused : {Y : Type 0} (log : Y → Log) (l : Log) (bytes rest : List ℕ) (pieces : List (List ℕ)) (fault : FrameFault) → 16 ≤ length bytes → read_pieces (count_of bytes) (drop 16 bytes) ≡ Ok (pieces, rest)
    → ReadsBatches (Err fault) (read_batches pieces) → Says log (Err fault) (after_snapshot l bytes)
read_refused log l bytes rest pieces (Why why) many is said = batches_refused l bytes rest pieces why many is said
read_refused log l bytes rest pieces NoMemory many is said = tt

pub cut_said : (l : Log) (bytes rest : List ℕ) (pieces : List (List ℕ)) (f : Found) (epoch base : ℤ) (count : ℕ) → 16 ≤ length bytes → read_pieces (count_of bytes) (drop 16 bytes) ≡ Ok (pieces, rest) → ReadsBatches (Ok f) (read_batches pieces)
    → epoch ≡ signed_at w32 0 bytes → base ≡ signed_at w64 4 bytes → count ≡ length rest → cut_or_not l epoch base f.rows.items f.fits count ≡ after_snapshot l bytes
cut_said l bytes rest pieces f epoch base count many is said epoch_is base_is counted =
    ap (λ e. cut_or_not l e base f.rows.items f.fits count) epoch_is
    ∙ ap (λ b. cut_or_not l (signed_at w32 0 bytes) b f.rows.items f.fits count) base_is
    ∙ cut_is l (signed_at w32 0 bytes) (signed_at w64 4 bytes) f said.0 rest count said.2 counted
    ∙ sym (fields_judged l bytes rest pieces said.0 many is said.1)

pub says_same : {X Y : Type 0} (view : X → Y) (r : Result X FrameFault) (m n : Result Y LogWhy) → m ≡ n → Says view r m → Says view r n
says_same view r m n same h = subst (λ k. Says view r k) same h
