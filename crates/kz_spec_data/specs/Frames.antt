-- A journal's file: a header, and then frames. Each frame stands after a gate of one byte, and counts where the gate is open.
--
-- There are two formats. In a file of format 02 each frame has a sum. In one of format 01 frames have none up to a seal, and
-- have one after it.
use Rattle.std.specs.Prelude.{◌≡◌, ◌⊎◌, ℕ, zero, suc, ◌+◌, ◌-◌, ◌<◌, max, Bool, true, false, not, nat_lt, ◌==◌, ◌&&◌, ◌||◌, List, [], ◌∷◌, ◌++◌, length, take, drop, bytes_eq, if◌then◌else◌, codes}
use Rattle.std.specs.Int.{w32, to_be_bytes}
use Rattle.kz_types.specs.declared.limits.TheConstants.{MAX_FILE_BYTES}
use Rattle.kz_spec_data.specs.Batches.{number_at}
use Rattle.kz_spec_data.specs.Checksum.{crc32c}

-- ---- the header

-- the letter of a tree's file is `T`, that of a log's file `L`
abbrev pub tree_letter : ℕ
tree_letter = 84

abbrev pub log_letter : ℕ
log_letter = 76

-- the first 16 bytes of a file of format 01
abbrev pub plain_header : ℕ → List ℕ
plain_header letter = codes "KZ-JOURNAL " ++ letter ∷ codes " 01\n"

-- and of format 02
abbrev pub summed_header : ℕ → List ℕ
summed_header letter = codes "KZ-JOURNAL " ++ letter ∷ codes " 02\n"

-- ---- what stands at a gate

abbrev pub open_gate : ℕ
open_gate = 0xA5

abbrev pub closed_gate : ℕ
closed_gate = 0

-- the length in place of which a seal has this number
abbrev pub seal_mark : ℕ
seal_mark = 0xFFFFFFFF

-- how many bytes stand before the payload: gate, length and, where there is one, sum
abbrev pub size_before : Bool → ℕ
size_before false = 5
size_before true = 9

-- the length that is stated after the gate
abbrev pub stated_length : List ℕ → ℕ
stated_length here = number_at w32 1 here

-- the sum that is stated after the length
abbrev pub stated_sum : List ℕ → ℕ
stated_sum here = number_at w32 5 here

abbrev pub payload_of : Bool → List ℕ → List ℕ
payload_of summed here = take (stated_length here) (drop (size_before summed) here)

-- What stands at a gate.
pub data Found : Type 0 where
  Frame : List ℕ → Found  -- an open frame with this payload
  Seal : Found  -- an open seal
  Damaged : Found  -- an open frame or seal with another sum
  End : Found  -- the gate isn't open, or stands outside the file, or its frame or seal passes the end

abbrev pub is_open : List ℕ → Bool
is_open [] = false
is_open (gate ∷ rest) = gate == open_gate

-- the sum of a frame is that of its four bytes of length and its payload
abbrev pub has_sum : Bool → List ℕ → Bool
has_sum false here = true
has_sum true here = stated_sum here == crc32c (take 4 (drop 1 here) ++ payload_of true here)

abbrev pub found_frame : Bool → List ℕ → Found
found_frame summed here =
    if nat_lt (length here) (size_before summed + stated_length here) then End
    else (if has_sum summed here then Frame (payload_of summed here) else Damaged)

-- the sum of a seal is that of all bytes of the file before its gate
abbrev pub found_seal : List ℕ → List ℕ → Found
found_seal before here =
    if nat_lt (length here) 9 then End
    else (if stated_sum here == crc32c before then Seal else Damaged)

-- What stands at a gate: whether frames have sums there, the bytes of the file before the gate, and those from it on.
unfoldable pub found_at : Bool → List ℕ → List ℕ → Found
found_at summed before here =
    if not (is_open here) || nat_lt (length here) 5 then End
    else (if not summed && (stated_length here == seal_mark) then found_seal before here
    else found_frame summed here)

-- ---- the journal of a file

-- A frame: the place of its gate, and its payload.
pub record Framed : Type 0 where
  pub at : ℕ
  pub payload : List ℕ

-- What a file says: its frames, the place of the gate after them, whether a frame there has a sum, and whether a damaged
-- frame or seal stands there. Seals are passed over.
pub record Journal : Type 0 where
  pub frames : List Framed
  pub end : ℕ
  pub summed : Bool
  pub damaged : Bool

-- the same after one frame more in front
abbrev pub after_frame : Framed → Journal → Journal
after_frame f j = record j { frames = f ∷ j.frames }

-- the journal that goes on after what stands at a gate: `go` is the rest, from a place on
abbrev pub going_on : Bool → ℕ → Found → (Bool → ℕ → Journal) → Journal
going_on summed at (Frame payload) go = after_frame (record { at = at; payload = payload }) (go summed (at + size_before summed + length payload))
going_on summed at Seal go = go true (at + 9)
going_on summed at Damaged go = record { frames = []; end = at; summed = summed; damaged = true }
going_on summed at End go = record { frames = []; end = at; summed = summed; damaged = false }

-- The journal from the gate at this place on, with at most so many frames and seals.
unfoldable pub journal_within : ℕ → List ℕ → Bool → ℕ → Journal
journal_within zero file summed at = record { frames = []; end = at; summed = summed; damaged = false }
journal_within (suc most) file summed at = going_on summed at (found_at summed (take at file) (drop at file)) (journal_within most file)

-- The journal from the gate at this place on: no file has more frames and seals than bytes.
abbrev pub journal_from : List ℕ → Bool → ℕ → Journal
journal_from file summed at = journal_within (length file) file summed at

-- The journal of a file of this letter. A file that is shorter than a header, or has another one, is damaged at 0.
unfoldable pub journal_of : ℕ → List ℕ → Journal
journal_of letter file =
    if bytes_eq (take 16 file) (summed_header letter) then journal_from file true 16
    else (if bytes_eq (take 16 file) (plain_header letter) then journal_from file false 16
    else record { frames = []; end = 0; summed = false; damaged = true })

-- ---- what is written

-- a new file: the header, and a closed gate
abbrev pub new_file : ℕ → List ℕ
new_file letter = summed_header letter ++ closed_gate ∷ []

-- what stands after the gate of a frame
abbrev pub frame_written : Bool → List ℕ → List ℕ
frame_written false payload = to_be_bytes w32 (length payload) ++ payload
frame_written true payload = to_be_bytes w32 (length payload) ++ (to_be_bytes w32 (crc32c (to_be_bytes w32 (length payload) ++ payload)) ++ payload)

-- what stands after the gate of a seal, whose file has these bytes before the gate
abbrev pub seal_written : List ℕ → List ℕ
seal_written before = to_be_bytes w32 seal_mark ++ to_be_bytes w32 (crc32c before)

-- ---- appends, and what a stop leaves of them

-- the place of the next gate after a frame with this payload
abbrev pub end_after : Journal → List ℕ → ℕ
end_after j payload = j.end + size_before j.summed + length payload

-- the journal with one frame more
abbrev pub journal_with_frame : List ℕ → Journal → Journal
journal_with_frame payload j = record j { frames = j.frames ++ record { at = j.end; payload = payload } ∷ []; end = end_after j payload }

-- the journal with a seal more
abbrev pub journal_with_seal : Journal → Journal
journal_with_seal j = record j { end = j.end + 9; summed = true }

-- the length that a file would have with a seal after its last frame
abbrev pub sealed_length : ℕ → List ℕ → ℕ
sealed_length letter file = max (length file) ((journal_of letter file).end + 10)

-- Further frames of a file have no sums, and it has no room for a seal.
abbrev pub HasNoRoomForSeal : ℕ → List ℕ → Type 0
HasNoRoomForSeal letter file = ((journal_of letter file).summed ≡ false) × (MAX_FILE_BYTES < sealed_length letter file)

-- A stop in an append leaves the frames from before it, or these and the new one whole.
abbrev pub LeftByAppend : ℕ → List ℕ → Journal → List ℕ → Type 0
LeftByAppend letter payload before left = (journal_of letter left ≡ before) ⊎ (journal_of letter left ≡ journal_with_frame payload before)

-- A stop in a seal leaves the file without it, or with it whole.
abbrev pub LeftBySeal : ℕ → Journal → List ℕ → Type 0
LeftBySeal letter before left = (journal_of letter left ≡ before) ⊎ (journal_of letter left ≡ journal_with_seal before)
