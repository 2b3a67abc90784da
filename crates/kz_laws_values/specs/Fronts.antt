-- What the front of a journal's file says of the whole file.
use Rattle.std.specs.Prelude.{◌≡◌, ℕ, ◌+◌, ◌^◌, ◌<◌, Bool, true, false, List, ◌∷◌, ◌++◌, length}
use Rattle.std.specs.Int.{w32, to_be_bytes}
use Rattle.kz_spec_data.specs.Checksum.{crc32c}
use Rattle.kz_spec_data.specs.Frames.{Journal, Framed, End, found_at, journal_from, journal_of, journal_with_frame, journal_with_seal, frame_written, seal_written, open_gate, seal_mark}

-- These bytes are whole as a journal: a gate stands at their end, and frames have sums there or not.
pub record IsFront (letter : ℕ) (front : List ℕ) (summed : Bool) : Type 0 where
  pub whole : (journal_of letter front).damaged ≡ false
  pub ends : (journal_of letter front).end ≡ length front
  pub sums : (journal_of letter front).summed ≡ summed

-- these frames, and then those of a journal
abbrev pub after_all : List Framed → Journal → Journal
after_all fs j = record j { frames = fs ++ j.frames }

-- A front goes on, whatever stands behind it, as what is found at its end goes on.
abbrev pub FrontGoesOn : Type 0
FrontGoesOn = (letter : ℕ) (front tail : List ℕ) (summed : Bool) → IsFront letter front summed
    → journal_of letter (front ++ tail) ≡ after_all (journal_of letter front).frames (journal_from (front ++ tail) summed (length front))

-- A front ends its file where no frame is found at its end, whatever stands there.
abbrev pub FrontEnds : Type 0
FrontEnds = (letter : ℕ) (front tail : List ℕ) (summed : Bool) → IsFront letter front summed → found_at summed front tail ≡ End
    → journal_of letter (front ++ tail) ≡ journal_of letter front

-- the sum of a frame with this payload
abbrev pub sum_of : List ℕ → ℕ
sum_of payload = crc32c (to_be_bytes w32 (length payload) ++ payload)

-- A frame that is written after an open gate makes a front longer by this frame. The sum of bytes has 32 bits.
abbrev pub FrameIsRead : Type 0
FrameIsRead = (letter : ℕ) (front payload : List ℕ) (summed : Bool) → IsFront letter front summed → length payload < seal_mark → (summed ≡ true → sum_of payload < 2 ^ 32)
    → IsFront letter (front ++ open_gate ∷ frame_written summed payload) summed
    × (journal_of letter (front ++ open_gate ∷ frame_written summed payload) ≡ journal_with_frame payload (journal_of letter front))

-- So does a seal, in a file of format 01 that has none.
abbrev pub SealIsRead : Type 0
SealIsRead = (letter : ℕ) (front : List ℕ) → IsFront letter front false → crc32c front < 2 ^ 32
    → IsFront letter (front ++ open_gate ∷ seal_written front) true
    × (journal_of letter (front ++ open_gate ∷ seal_written front) ≡ journal_with_seal (journal_of letter front))
