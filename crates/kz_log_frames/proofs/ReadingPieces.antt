-- The pieces and batches in the frame of a snapshot, one after another.
use Rattle.std.proofs.Common.{◌≡◌, ℕ, suc, ◌+◌, ◌<◌, ◌≤◌, Bool, true, false, not, ◌&&◌, nat_lt, pos, negsuc, ◌+ℤ◌, cond, List, [], ◌∷◌, ◌++◌, length, take, drop, Some, Result, Ok, Err, refl, sym, ap, ◌∙◌, subst, append-nil, append_assoc, arith}
use Rattle.std.specs.Int.{w32, from_be_bytes}
use Rattle.std.specs.Ordering.{int_eq}
use Rattle.std.proofs.lemmas.Bool.Decides.{nat_tests}
use Rattle.std.specs.List.{All}
use Rattle.std.proofs.lemmas.List.{map-append}
use Rattle.std.proofs.lemmas.List.Elements.{All-nil, All-cons, All-append}
use Rattle.kz_types.specs.declared.log.BatchRow.{BatchRow}
use Rattle.kz_types.specs.declared.record.MetaRecord.{MetaRecord}
use Rattle.kz_types.specs.declared.record.BatchFault.{BatchFault}
use Rattle.kz_spec_data.specs.Fields.{◌>>=◌}
use Rattle.kz_spec_data.specs.Batches.{BatchContents, batch_of}
use Rattle.kz_types.specs.declared.fault.LogWhy.{LogWhy}
use Rattle.kz_types.specs.declared.fault.LogWhy.TheVariants.{Malformed, Batch}
use Rattle.kz_spec_data.specs.LogFile.{Piece, with_why, read_values, read_pieces, read_batches, are_snapshot_batches}
use Rattle.kz_log_frames.specs.declared.fault.FrameFault.{FrameFault}
use Rattle.kz_log_frames.specs.declared.fault.FrameFault.TheVariants.{Why, NoMemory}
use Rattle.kz_log_frames.specs.declared.pieces.Found.{Found}
use Rattle.kz_log_frames.specs.Pieces.{IsShortRecord, HaveShortRecords, IsSplit, row_of_piece, read_batch, AreFound, ReadsBatch, ReadsBatches}

-- ---- a piece

is_less : (m n : ℕ) → m < n → nat_lt m n ≡ true
is_less m n h = grind (arith, nat_tests)

not_less : (m n : ℕ) → n ≤ m → nat_lt m n ≡ false
not_less m n h = grind (arith, nat_tests)

abbrev size_of : List ℕ → ℕ
size_of bytes = from_be_bytes w32 (take 4 bytes)

abbrev rest_of : ℕ → List ℕ → Result (List (List ℕ) × List ℕ) LogWhy
rest_of n bytes = read_pieces n (drop (4 + size_of bytes) bytes) >>= λ r. Ok (take (size_of bytes) (drop 4 bytes) ∷ r.0, r.1)

pub cut_short : (bytes : List ℕ) → length bytes < 4 → (n : ℕ) → read_pieces (suc n) bytes ≡ Err Malformed
cut_short bytes few n = ap (λ t. cond t (Err Malformed) (cond (nat_lt (length bytes) (4 + size_of bytes)) (Err Malformed) (rest_of n bytes))) (is_less (length bytes) 4 few)

pub cut_off : (bytes : List ℕ) → 4 ≤ length bytes → length bytes < 4 + size_of bytes → (n : ℕ) → read_pieces (suc n) bytes ≡ Err Malformed
cut_off bytes four few n =
    ap (λ t. cond t (Err Malformed) (cond (nat_lt (length bytes) (4 + size_of bytes)) (Err Malformed) (rest_of n bytes))) (not_less (length bytes) 4 four)
    ∙ ap (λ t. cond t (Err Malformed) (rest_of n bytes)) (is_less (length bytes) (4 + size_of bytes) few)

pub split_off : (bytes piece later : List ℕ) → 4 + size_of bytes ≤ length bytes → piece ≡ take (size_of bytes) (drop 4 bytes) → later ≡ drop (4 + size_of bytes) bytes → IsSplit bytes (Some (piece, later))
split_off bytes piece later many piece_is later_is n =
    ap (λ t. cond t (Err Malformed) (cond (nat_lt (length bytes) (4 + size_of bytes)) (Err Malformed) (rest_of n bytes))) (not_less (length bytes) 4 (omega (arith, many)))
    ∙ ap (λ t. cond t (Err Malformed) (rest_of n bytes)) (not_less (length bytes) (4 + size_of bytes) many)
    ∙ ap (λ p. read_pieces n (drop (4 + size_of bytes) bytes) >>= λ (r : List (List ℕ) × List ℕ). Ok (p ∷ r.0, r.1)) (sym piece_is)
    ∙ ap (λ b. read_pieces n b >>= λ (r : List (List ℕ) × List ℕ). Ok (piece ∷ r.0, r.1)) (sym later_is)

-- ---- pieces

-- these pieces, and then those that were read
abbrev pub with_pieces : List (List ℕ) → Result (List (List ℕ) × List ℕ) LogWhy → Result (List (List ℕ) × List ℕ) LogWhy
with_pieces ps (Ok r) = Ok (ps ++ r.0, r.1)
with_pieces ps (Err why) = Err why

pub pieces_none : (m : Result (List (List ℕ) × List ℕ) LogWhy) → with_pieces [] m ≡ m
pieces_none (Ok r) = refl
pieces_none (Err why) = refl

pieces_on : (ps : List (List ℕ)) (p : List ℕ) (m : Result (List (List ℕ) × List ℕ) LogWhy) → with_pieces ps (m >>= λ r. Ok (p ∷ r.0, r.1)) ≡ with_pieces (ps ++ p ∷ []) m
pieces_on ps p (Ok r) = ap (λ xs. Ok (xs, r.1)) (sym (append_assoc ps (p ∷ []) r.0))
pieces_on ps p (Err why) = refl

pub piece_more : (ps : List (List ℕ)) (p bytes later : List ℕ) (n : ℕ) → IsSplit bytes (Some (p, later)) → with_pieces ps (read_pieces (suc n) bytes) ≡ with_pieces (ps ++ p ∷ []) (read_pieces n later)
piece_more ps p bytes later n split = ap (with_pieces ps) (split n) ∙ pieces_on ps p (read_pieces n later)

pub piece_cut : (ps : List (List ℕ)) (bytes : List ℕ) (n : ℕ) → ((k : ℕ) → read_pieces (suc k) bytes ≡ Err Malformed) → with_pieces ps (read_pieces (suc n) bytes) ≡ Err Malformed
piece_cut ps bytes n h = ap (with_pieces ps) (h n)

pub pieces_all : (ps : List (List ℕ)) (bytes : List ℕ) → with_pieces ps (read_pieces 0 bytes) ≡ Ok (ps, bytes)
pieces_all ps bytes = ap (λ xs. Ok (xs, bytes)) (append-nil ps)

-- ---- batches

into : (m : Result (List MetaRecord) LogWhy) (b : BatchContents) (go : Piece → Result (List Piece) LogWhy) → (m >>= λ items. go (b, items)) ≡ ((m >>= λ items. Ok (b, items)) >>= go)
into (Ok items) b go = refl
into (Err why) b go = refl

through : (m : Result BatchContents LogWhy) (go : Piece → Result (List Piece) LogWhy) → (m >>= λ b. read_values b.values >>= λ items. go (b, items)) ≡ ((m >>= λ b. read_values b.values >>= λ items. Ok (b, items)) >>= go)
through (Ok b) go = into (read_values b.values) b go
through (Err why) go = refl

batch_first : (p : List ℕ) (ps : List (List ℕ)) → read_batches (p ∷ ps) ≡ (read_batch p >>= λ x. read_batches ps >>= λ rest. Ok (x ∷ rest))
batch_first p ps = through (with_why Batch (batch_of p)) (λ x. read_batches ps >>= λ rest. Ok (x ∷ rest))

-- these batches, and then those that were read
abbrev pub with_batches : List Piece → Result (List Piece) LogWhy → Result (List Piece) LogWhy
with_batches ps (Ok more) = Ok (ps ++ more)
with_batches ps (Err why) = Err why

pub batches_none : (m : Result (List Piece) LogWhy) → with_batches [] m ≡ m
batches_none (Ok ps) = refl
batches_none (Err why) = refl

batches_on : (ps : List Piece) (p : Piece) (m : Result (List Piece) LogWhy) → with_batches ps (m >>= λ more. Ok (p ∷ more)) ≡ with_batches (ps ++ p ∷ []) m
batches_on ps p (Ok more) = ap Ok (sym (append_assoc ps (p ∷ []) more))
batches_on ps p (Err why) = refl

pub batch_more : (ps : List Piece) (x : Piece) (p : List ℕ) (rest : List (List ℕ)) → read_batch p ≡ Ok x → with_batches ps (read_batches (p ∷ rest)) ≡ with_batches (ps ++ x ∷ []) (read_batches rest)
batch_more ps x p rest is =
    ap (with_batches ps) (batch_first p rest)
    ∙ ap (λ (m : Result Piece LogWhy). with_batches ps (m >>= λ (y : Piece). read_batches rest >>= λ (more : List Piece). Ok (y ∷ more))) is
    ∙ batches_on ps x (read_batches rest)

pub batch_refused : (ps : List Piece) (why : LogWhy) (p : List ℕ) (rest : List (List ℕ)) → read_batch p ≡ Err why → with_batches ps (read_batches (p ∷ rest)) ≡ Err why
batch_refused ps why p rest is =
    ap (with_batches ps) (batch_first p rest) ∙ ap (λ (m : Result Piece LogWhy). with_batches ps (m >>= λ (y : Piece). read_batches rest >>= λ (more : List Piece). Ok (y ∷ more))) is

-- the batches so far, and what all of them say
pub record HasRead (all left : List (List ℕ)) (f : Found) : Type 0 where
  pub ps : List Piece
  pub found : AreFound f ps
  pub same : with_batches ps (read_batches left) ≡ read_batches all

pub one_more : (all rest : List (List ℕ)) (p : List ℕ) (old new : Found) (had : HasRead all (p ∷ rest) old) → ReadsBatch (Ok new) had.ps (read_batch p) → HasRead all rest new
one_more all rest p old new had read = record { ps = had.ps ++ read.0 ∷ []; found = read.2; same = sym (batch_more had.ps read.0 p rest read.1) ∙ had.same }

pub no_more : (all rest : List (List ℕ)) (p : List ℕ) (old : Found) (fault : FrameFault) (had : HasRead all (p ∷ rest) old) → ReadsBatch (Err fault) had.ps (read_batch p) → ReadsBatches (Err fault) (read_batches all)
no_more all rest p old (Why why) had read = sym had.same ∙ batch_refused had.ps why p rest read
no_more all rest p old NoMemory had read = tt

pub all_read : (all : List (List ℕ)) (f : Found) → HasRead all [] f → ReadsBatches (Ok f) (read_batches all)
all_read all f had = (had.ps, sym had.same ∙ ap Ok (append-nil had.ps), had.found)

pub starts : (all : List (List ℕ)) (f : Found) → f.rows.items ≡ [] → f.last ≡ negsuc 0 → f.fits ≡ true → HasRead all all f
starts all f rows last fits = record {
  ps = [];
  found = record { rows = rows; short = subst HaveShortRecords (sym rows) (All-nil (λ (b : BatchRow). All IsShortRecord b.items)); fits = λ more. ap (λ o. true && are_snapshot_batches (o +ℤ pos 1) more) (sym last) ∙ ap (λ t. t && are_snapshot_batches (f.last +ℤ pos 1) more) (sym fits) };
  same = batches_none (read_batches all);
}

-- ---- a batch that was read

pub refused_batch : (p : List ℕ) (e : BatchFault) → batch_of p ≡ Err e → read_batch p ≡ Err (Batch e)
refused_batch p e is = ap (λ (m : Result BatchContents BatchFault). with_why Batch m >>= λ (b : BatchContents). read_values b.values >>= λ (items : List MetaRecord). Ok (b, items)) is

pub refused_values : (p : List ℕ) (b : BatchContents) (why : LogWhy) → batch_of p ≡ Ok b → read_values b.values ≡ Err why → read_batch p ≡ Err why
refused_values p b why is values =
    ap (λ (m : Result BatchContents BatchFault). with_why Batch m >>= λ (x : BatchContents). read_values x.values >>= λ (items : List MetaRecord). Ok (x, items)) is
    ∙ ap (λ (m : Result (List MetaRecord) LogWhy). m >>= λ (items : List MetaRecord). Ok (b, items)) values

pub whole_batch : (p : List ℕ) (b : BatchContents) (items : List MetaRecord) → batch_of p ≡ Ok b → read_values b.values ≡ Ok items → read_batch p ≡ Ok (b, items)
whole_batch p b items is values =
    ap (λ (m : Result BatchContents BatchFault). with_why Batch m >>= λ (x : BatchContents). read_values x.values >>= λ (xs : List MetaRecord). Ok (x, xs)) is
    ∙ ap (λ (m : Result (List MetaRecord) LogWhy). m >>= λ (xs : List MetaRecord). Ok (b, xs)) values

and_assoc : (a b c : Bool) → (a && (b && c)) ≡ ((a && b) && c)
and_assoc true b c = refl
and_assoc false b c = refl

short_more : (bs : List BatchRow) (b : BatchRow) → HaveShortRecords bs → All IsShortRecord b.items → HaveShortRecords (bs ++ b ∷ [])
short_more bs b short few = All-append (λ (x : BatchRow). All IsShortRecord x.items) bs (b ∷ []) short (All-cons (λ (x : BatchRow). All IsShortRecord x.items) b [] few (All-nil (λ (x : BatchRow). All IsShortRecord x.items)))

-- one batch more
pub found_more : (old new : Found) (ps : List Piece) (b : BatchContents) (items : List MetaRecord) → new.rows.items ≡ old.rows.items ++ row_of_piece (b, items) ∷ [] → new.last ≡ b.last
    → new.fits ≡ (old.fits && (not b.control && nat_lt 0 (length b.values) && int_eq b.first (old.last +ℤ pos 1) && int_eq b.time (pos 0))) → All IsShortRecord items → AreFound old ps → AreFound new (ps ++ (b, items) ∷ [])
found_more old new ps b items rows last fits few had =
    let test : Bool = not b.control && nat_lt 0 (length b.values) && int_eq b.first (old.last +ℤ pos 1) && int_eq b.time (pos 0) in
    record {
      rows = rows ∙ ap (λ bs. bs ++ row_of_piece (b, items) ∷ []) had.rows ∙ sym (map-append row_of_piece ps ((b, items) ∷ []));
      short = subst HaveShortRecords (sym rows) (short_more old.rows.items (row_of_piece (b, items)) had.short few);
      fits = λ more.
          ap (are_snapshot_batches (pos 0)) (append_assoc ps ((b, items) ∷ []) more)
          ∙ had.fits ((b, items) ∷ more)
          ∙ and_assoc old.fits test (are_snapshot_batches (b.last +ℤ pos 1) more)
          ∙ ap (λ t. t && are_snapshot_batches (b.last +ℤ pos 1) more) (sym fits)
          ∙ ap (λ o. new.fits && are_snapshot_batches (o +ℤ pos 1) more) (sym last);
    }
