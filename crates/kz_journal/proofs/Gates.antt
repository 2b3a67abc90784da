-- What is found at a gate, by the bytes that were read.
use Rattle.std.proofs.Common.{◌≡◌, ◌≢◌, ℕ, ◌+◌, ◌-◌, ◌<◌, ◌≤◌, Bool, true, false, ◌==◌, List, [], ◌∷◌, ◌++◌, length, take, drop, refl, sym, ap, ◌∙◌, arith, length-drop, take-add, eq-eqb}
use Rattle.std.specs.Int.{w32, from_be_bytes}
use Rattle.std.proofs.lemmas.Bool.Decides.{nat_tests}
use Rattle.kz_spec_data.specs.Checksum.{crc32c}
use Rattle.kz_spec_data.specs.Frames.{Frame, Seal, Damaged, End, is_open, stated_length, stated_sum, has_sum, seal_mark, open_gate, found_at}
use Rattle.kz_laws_values.proofs.Found.{frame_found, seal_found, short_here}
use Rattle.kz_journal.specs.Pieces.{IsOpenHead}
use Rattle.kz_journal.proofs.FoundTests.{cut_frame, damaged_frame, cut_seal, damaged_seal}

-- at most four bytes
pub few_here : (summed : Bool) (gate long : ℕ) (file : List ℕ) → long ≡ length file → long - gate < 5 → found_at summed (take gate file) (drop gate file) ≡ End
few_here summed gate long file is few = short_here summed (take gate file) (drop gate file) (omega (arith, length-drop gate file))

-- a gate that isn't open
pub shut_here : (summed : Bool) (before here : List ℕ) → is_open here ≡ false → found_at summed before here ≡ End
unfolding found_at
shut_here summed before here shut = rw shut refl

module _ (size here : List ℕ) (head : IsOpenHead size here) where
  pub stated : stated_length here ≡ from_be_bytes w32 size
  stated = ap (from_be_bytes w32) head.is_size

  no_mark : from_be_bytes w32 size ≢ seal_mark → (stated_length here == seal_mark) ≡ false
  no_mark other =
      let n = stated in
      let differs : stated_length here ≢ seal_mark = λ is. other (sym n ∙ is) in
      grind (arith, nat_tests)

  is_mark : from_be_bytes w32 size ≡ seal_mark → (stated_length here == seal_mark) ≡ true
  is_mark mark = eq-eqb (stated_length here) seal_mark (stated ∙ mark)

  pub plain_cut : (before : List ℕ) → from_be_bytes w32 size ≢ seal_mark → length here < 5 + from_be_bytes w32 size → found_at false before here ≡ End
  plain_cut before other cut = let n = stated in cut_frame false before here head.gate head.long (no_mark other) (omega (arith, n))

  pub plain_frame : (before payload : List ℕ) → from_be_bytes w32 size ≢ seal_mark → 5 + from_be_bytes w32 size ≤ length here → payload ≡ take (from_be_bytes w32 size) (drop 5 here) → found_at false before here ≡ Frame payload
  plain_frame before payload other whole is =
      let n = stated in
      frame_found false before here payload (record {
        gate = head.gate;
        whole = omega (arith, n);
        no_seal = no_mark other;
        sum = refl;
        is = ap (λ (k : ℕ). take k (drop 5 here)) n ∙ sym is;
      })

  pub summed_cut : (before : List ℕ) → length here < 9 + from_be_bytes w32 size → found_at true before here ≡ End
  summed_cut before cut = let n = stated in cut_frame true before here head.gate head.long refl (omega (arith, n))

  summed_test : (payload : List ℕ) (sum : ℕ) → payload ≡ take (from_be_bytes w32 size) (drop 9 here) → stated_sum here ≡ sum → has_sum true here ≡ (sum == crc32c (size ++ payload))
  summed_test payload sum is same = λ i. same i == crc32c (head.is_size i ++ (ap (λ (k : ℕ). take k (drop 9 here)) stated ∙ sym is) i)

  pub summed_frame : (before payload : List ℕ) (sum : ℕ) → 9 + from_be_bytes w32 size ≤ length here → payload ≡ take (from_be_bytes w32 size) (drop 9 here) → stated_sum here ≡ sum → sum ≡ crc32c (size ++ payload) → found_at true before here ≡ Frame payload
  summed_frame before payload sum whole is same fits =
      let n = stated in
      frame_found true before here payload (record {
        gate = head.gate;
        whole = omega (arith, n);
        no_seal = refl;
        sum = summed_test payload sum is same ∙ eq-eqb sum (crc32c (size ++ payload)) fits;
        is = ap (λ (k : ℕ). take k (drop 9 here)) n ∙ sym is;
      })

  pub summed_damaged : (before payload : List ℕ) (sum : ℕ) → 9 + from_be_bytes w32 size ≤ length here → payload ≡ take (from_be_bytes w32 size) (drop 9 here) → stated_sum here ≡ sum → sum ≢ crc32c (size ++ payload) → found_at true before here ≡ Damaged
  summed_damaged before payload sum whole is same differs =
      let n = stated in
      let test : (sum == crc32c (size ++ payload)) ≡ false = grind (arith, nat_tests) in
      damaged_frame true before here head.gate refl (omega (arith, n)) (summed_test payload sum is same ∙ test)

  pub seal_cut : (before : List ℕ) → from_be_bytes w32 size ≡ seal_mark → length here < 9 → found_at false before here ≡ End
  seal_cut before mark cut = cut_seal false before here head.gate head.long (is_mark mark) cut

  pub seal_here : (before : List ℕ) (sum : ℕ) → from_be_bytes w32 size ≡ seal_mark → 9 ≤ length here → stated_sum here ≡ sum → sum ≡ crc32c before → found_at false before here ≡ Seal
  seal_here before sum mark whole same fits = seal_found false before here (record { gate = head.gate; whole = whole; mark = is_mark mark; sum = eq-eqb (stated_sum here) (crc32c before) (same ∙ fits) })

  pub seal_damaged : (before : List ℕ) (sum : ℕ) → from_be_bytes w32 size ≡ seal_mark → 9 ≤ length here → stated_sum here ≡ sum → sum ≢ crc32c before → found_at false before here ≡ Damaged
  seal_damaged before sum mark whole same differs =
      let other : stated_sum here ≢ crc32c before = λ is. differs (sym same ∙ is) in
      let test : (stated_sum here == crc32c before) ≡ false = grind (arith, nat_tests) in
      damaged_seal false before here head.gate (is_mark mark) whole test

-- an open gate is the byte of one
open_byte : (here : List ℕ) (size : List ℕ) → is_open here ≡ true → take 4 (drop 1 here) ≡ size → take 5 here ≡ open_gate ∷ size
open_byte [] size gate is = absurd (cc)
open_byte (g ∷ rest) size gate is =
    let same : g ≡ open_gate = grind (arith, nat_tests) in
    (λ i. same i ∷ is i)

-- the bytes up to the next gate, of a frame without a sum
pub plain_bytes : (gate n : ℕ) (file size payload : List ℕ) → IsOpenHead size (drop gate file) → n ≡ length payload → payload ≡ take n (drop 5 (drop gate file)) → take (gate + 5 + length payload) file ≡ take gate file ++ open_gate ∷ (size ++ payload)
plain_bytes gate n file size payload head long is =
    let place : gate + 5 + length payload ≡ gate + (5 + n) = omega arith in
    ap (λ (k : ℕ). take k file) place
    ∙ take-add gate (5 + n) file
    ∙ ap (λ (l : List ℕ). take gate file ++ l) (take-add 5 n (drop gate file) ∙ (λ i. open_byte (drop gate file) size head.gate head.is_size i ++ sym is i))
