-- What is found at a gate, by its tests.
use Rattle.std.proofs.Common.{◌≡◌, ℕ, ◌+◌, ◌<◌, ◌≤◌, Bool, true, false, not, ◌&&◌, ◌==◌, nat_lt, List, length, refl, arith}
use Rattle.std.proofs.lemmas.Bool.Decides.{nat_tests}
use Rattle.kz_spec_data.specs.Checksum.{crc32c}
use Rattle.kz_spec_data.specs.Frames.{Damaged, End, is_open, size_before, stated_length, stated_sum, has_sum, seal_mark, found_at}
use Rattle.kz_laws_values.proofs.Found.{five}

not_less : (m n : ℕ) → n ≤ m → nat_lt m n ≡ false
not_less m n le = grind (arith, nat_tests)

less : (m n : ℕ) → m < n → nat_lt m n ≡ true
less m n lt = grind (arith, nat_tests)

-- a frame that passes the end of the file
pub cut_frame : (summed : Bool) (before here : List ℕ) → is_open here ≡ true → 5 ≤ length here → (not summed && (stated_length here == seal_mark)) ≡ false → length here < size_before summed + stated_length here → found_at summed before here ≡ End
unfolding found_at
cut_frame summed before here gate long no_seal cut =
    let some = not_less (length here) 5 long in
    let passed = less (length here) (size_before summed + stated_length here) cut in
    rw (gate, some, no_seal, passed) refl

-- a frame with another sum
pub damaged_frame : (summed : Bool) (before here : List ℕ) → is_open here ≡ true → (not summed && (stated_length here == seal_mark)) ≡ false → size_before summed + stated_length here ≤ length here → has_sum summed here ≡ false → found_at summed before here ≡ Damaged
unfolding found_at
damaged_frame summed before here gate no_seal whole sum =
    let least = five summed in
    let some : nat_lt (length here) 5 ≡ false = not_less (length here) 5 (omega arith) in
    let all = not_less (length here) (size_before summed + stated_length here) whole in
    rw (gate, some, no_seal, all, sum) refl

-- a seal that passes the end of the file
pub cut_seal : (summed : Bool) (before here : List ℕ) → is_open here ≡ true → 5 ≤ length here → (not summed && (stated_length here == seal_mark)) ≡ true → length here < 9 → found_at summed before here ≡ End
unfolding found_at
cut_seal summed before here gate long mark cut =
    let some = not_less (length here) 5 long in
    let passed = less (length here) 9 cut in
    rw (gate, some, mark, passed) refl

-- a seal with another sum
pub damaged_seal : (summed : Bool) (before here : List ℕ) → is_open here ≡ true → (not summed && (stated_length here == seal_mark)) ≡ true → 9 ≤ length here → (stated_sum here == crc32c before) ≡ false → found_at summed before here ≡ Damaged
unfolding found_at
damaged_seal summed before here gate mark whole sum =
    let some : nat_lt (length here) 5 ≡ false = not_less (length here) 5 (omega arith) in
    let all = not_less (length here) 9 whole in
    rw (gate, some, mark, all, sum) refl
