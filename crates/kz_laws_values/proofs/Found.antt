-- What stands at a gate stands there whatever follows it, and nothing less than all of it does.
use Rattle.std.proofs.Common.{◌≡◌, ◌≢◌, ◌⊎◌, inl, inr, ⊎_elim, ℕ, zero, suc, ◌+◌, ◌-◌, ◌^◌, ◌<◌, ◌≤◌, Bool, true, false, not, cond, ◌&&◌, ◌||◌, ◌==◌, nat_lt, List, [], ◌∷◌, ◌++◌, length, take, drop, refl, sym, ap, ◌∙◌, subst, arith, length-append, length-take, length-drop, eq-eqb}
use Rattle.std.specs.Int.{w32, from_be_bytes, to_be_bytes}
use Rattle.std.proofs.lemmas.Bool.Decides.{nat_tests}
use Rattle.std.proofs.lemmas.List.{take-append-le, drop-append-le, take-append-drop, length-take-le}
use Rattle.std.proofs.lemmas.Nat.{from_be_bytes-to_be_bytes_4}
use Rattle.kz_spec_data.specs.Checksum.{crc32c}
use Rattle.kz_spec_data.specs.Frames.{Found, Frame, Seal, Damaged, End, is_open, size_before, stated_length, stated_sum, payload_of, has_sum, seal_mark, found_at, frame_written, seal_written, open_gate}
use Rattle.kz_laws_values.specs.Fronts.{sum_of}

-- An open frame stands here, all of it.
pub record IsFrameAt (summed : Bool) (here payload : List ℕ) : Type 0 where
  pub gate : is_open here ≡ true
  pub whole : size_before summed + stated_length here ≤ length here
  pub no_seal : (not summed && (stated_length here == seal_mark)) ≡ false
  pub sum : has_sum summed here ≡ true
  pub is : payload_of summed here ≡ payload

-- An open seal stands here.
pub record IsSealAt (summed : Bool) (before here : List ℕ) : Type 0 where
  pub gate : is_open here ≡ true
  pub whole : 9 ≤ length here
  pub mark : (not summed && (stated_length here == seal_mark)) ≡ true
  pub sum : (stated_sum here == crc32c before) ≡ true

not_less : (m n : ℕ) → n ≤ m → nat_lt m n ≡ false
not_less m n le = grind (arith, nat_tests)

at_least : (m n : ℕ) → nat_lt m n ≡ false → n ≤ m
at_least m n is = grind (arith, nat_tests)

pub five : (summed : Bool) → 5 ≤ size_before summed
five true = omega arith
five false = omega arith

pub frame_found : (summed : Bool) (before here payload : List ℕ) → IsFrameAt summed here payload → found_at summed before here ≡ Frame payload
unfolding found_at
frame_found summed before here payload f =
    let least = five summed in
    let whole = f.whole in
    let some : nat_lt (length here) 5 ≡ false = not_less (length here) 5 (omega arith) in
    let all : nat_lt (length here) (size_before summed + stated_length here) ≡ false = not_less (length here) (size_before summed + stated_length here) whole in
    rw (f.gate, some, f.no_seal, all, f.sum) (ap (λ (p : List ℕ). Frame p) f.is)

pub seal_found : (summed : Bool) (before here : List ℕ) → IsSealAt summed before here → found_at summed before here ≡ Seal
unfolding found_at
seal_found summed before here s =
    let whole = s.whole in
    let some : nat_lt (length here) 5 ≡ false = not_less (length here) 5 (omega arith) in
    let all : nat_lt (length here) 9 ≡ false = not_less (length here) 9 whole in
    rw (s.gate, some, s.mark, all, s.sum) refl

-- ---- what is found, by its tests

-- open, fewer than five bytes, a seal's mark, fewer than nine bytes, the seal's sum, fewer bytes than the frame's, its sum
abbrev found_by : Bool → Bool → Bool → Bool → Bool → Bool → Bool → List ℕ → Found
found_by o short mark cut_seal seal_sum cut_frame frame_sum p =
    cond (not o || short) End (cond mark (cond cut_seal End (cond seal_sum Seal Damaged)) (cond cut_frame End (cond frame_sum (Frame p) Damaged)))

record FrameTests (o short mark cut_frame frame_sum : Bool) (q p : List ℕ) : Type 0 where
  is_o : o ≡ true
  no_mark : mark ≡ false
  not_cut : cut_frame ≡ false
  sum : frame_sum ≡ true
  is : q ≡ p

frame_tests : (o short mark cut_seal seal_sum cut_frame frame_sum : Bool) (q p : List ℕ) → found_by o short mark cut_seal seal_sum cut_frame frame_sum q ≡ Frame p → FrameTests o short mark cut_frame frame_sum q p
frame_tests false short mark cs ss cf sf q p is = absurd (cc)
frame_tests true true mark cs ss cf sf q p is = absurd (cc)
frame_tests true false true true ss cf sf q p is = absurd (cc)
frame_tests true false true false true cf sf q p is = absurd (cc)
frame_tests true false true false false cf sf q p is = absurd (cc)
frame_tests true false false cs ss true sf q p is = absurd (cc)
frame_tests true false false cs ss false false q p is = absurd (cc)
frame_tests true false false cs ss false true q p is = record { is_o = refl; no_mark = refl; not_cut = refl; sum = refl; is = cc }

record SealTests (o mark cut_seal seal_sum : Bool) : Type 0 where
  is_o : o ≡ true
  is_mark : mark ≡ true
  not_cut : cut_seal ≡ false
  sum : seal_sum ≡ true

seal_tests : (o short mark cut_seal seal_sum cut_frame frame_sum : Bool) (q : List ℕ) → found_by o short mark cut_seal seal_sum cut_frame frame_sum q ≡ Seal → SealTests o mark cut_seal seal_sum
seal_tests false short mark cs ss cf sf q is = absurd (cc)
seal_tests true true mark cs ss cf sf q is = absurd (cc)
seal_tests true false true true ss cf sf q is = absurd (cc)
seal_tests true false true false false cf sf q is = absurd (cc)
seal_tests true false false cs ss true sf q is = absurd (cc)
seal_tests true false false cs ss false false q is = absurd (cc)
seal_tests true false false cs ss false true q is = absurd (cc)
seal_tests true false true false true cf sf q is = record { is_o = refl; is_mark = refl; not_cut = refl; sum = refl }

pub frame_at : (summed : Bool) (before here payload : List ℕ) → found_at summed before here ≡ Frame payload → IsFrameAt summed here payload
unfolding found_at
frame_at summed before here payload is =
    let t = frame_tests (is_open here) (nat_lt (length here) 5) (not summed && (stated_length here == seal_mark)) (nat_lt (length here) 9) (stated_sum here == crc32c before)
    (nat_lt (length here) (size_before summed + stated_length here)) (has_sum summed here) (payload_of summed here) payload is in
    record { gate = t.is_o; whole = at_least (length here) (size_before summed + stated_length here) t.not_cut; no_seal = t.no_mark; sum = t.sum; is = t.is }

pub seal_at : (summed : Bool) (before here : List ℕ) → found_at summed before here ≡ Seal → IsSealAt summed before here
unfolding found_at
seal_at summed before here is =
    let t = seal_tests (is_open here) (nat_lt (length here) 5) (not summed && (stated_length here == seal_mark)) (nat_lt (length here) 9) (stated_sum here == crc32c before)
    (nat_lt (length here) (size_before summed + stated_length here)) (has_sum summed here) (payload_of summed here) is in
    record { gate = t.is_o; whole = at_least (length here) 9 t.not_cut; mark = t.is_mark; sum = t.sum }

pub cases_found : (f : Found) → ((p : List ℕ) × (f ≡ Frame p)) ⊎ ((f ≡ Seal) ⊎ ((f ≡ Damaged) ⊎ (f ≡ End)))
cases_found (Frame p) = inl (p, refl)
cases_found Seal = inr (inl refl)
cases_found Damaged = inr (inr (inl refl))
cases_found End = inr (inr (inr refl))

pub nothing_here : (summed : Bool) (before : List ℕ) → found_at summed before [] ≡ End
unfolding found_at
nothing_here summed before = refl

-- a gate that isn't open
pub closed_here : (summed : Bool) (before here : List ℕ) (gate : ℕ) → gate ≢ open_gate → found_at summed before (gate ∷ here) ≡ End
unfolding found_at
closed_here summed before here gate shut =
    let test : (gate == open_gate) ≡ false = grind (arith, nat_tests) in
    rw test refl

-- fewer bytes than a gate and a length
pub short_here : (summed : Bool) (before here : List ℕ) → length here < 5 → found_at summed before here ≡ End
unfolding found_at
short_here summed before here few =
    let test : nat_lt (length here) 5 ≡ true = grind (arith, nat_tests) in
    by (is_open here) test
  where
    by : (o : Bool) → nat_lt (length here) 5 ≡ true → cond (not o || nat_lt (length here) 5) End (cond (not summed && (stated_length here == seal_mark)) (cond (nat_lt (length here) 9) End (cond (stated_sum here == crc32c before) Seal Damaged)) (cond (nat_lt (length here) (size_before summed + stated_length here)) End (cond (has_sum summed here) (Frame (payload_of summed here)) Damaged))) ≡ End
    by true few = rw few refl
    by false few = refl

-- ---- more behind, and less

same_part : (n at : ℕ) (here tail : List ℕ) → at + n ≤ length here → take n (drop at (here ++ tail)) ≡ take n (drop at here)
same_part n at here tail within =
    let left = length-drop at here in
    ap (take n) (drop-append-le at here tail (omega arith)) ∙ take-append-le n (drop at here) tail (omega arith)

same_gate : (here tail : List ℕ) → 1 ≤ length here → is_open (here ++ tail) ≡ is_open here
same_gate [] tail some = absurd (omega arith)
same_gate (g ∷ here) tail some = refl

same_length : (here tail : List ℕ) → 5 ≤ length here → stated_length (here ++ tail) ≡ stated_length here
same_length here tail long = ap (from_be_bytes w32) (same_part 4 1 here tail long)

same_stated_sum : (here tail : List ℕ) → 9 ≤ length here → stated_sum (here ++ tail) ≡ stated_sum here
same_stated_sum here tail long = ap (from_be_bytes w32) (same_part 4 5 here tail long)

same_payload : (summed : Bool) (here tail : List ℕ) → size_before summed + stated_length here ≤ length here → payload_of summed (here ++ tail) ≡ payload_of summed here
same_payload summed here tail whole =
    let least = five summed in
    ap (λ (n : ℕ). take n (drop (size_before summed) (here ++ tail))) (same_length here tail (omega arith))
    ∙ same_part (stated_length here) (size_before summed) here tail whole

sum_test : (a b : ℕ) (l m p q : List ℕ) → a ≡ b → l ≡ m → p ≡ q → (a == crc32c (l ++ p)) ≡ (b == crc32c (m ++ q))
sum_test a b l m p q e f g = (λ i. e i == crc32c (f i ++ g i))

same_sum : (summed : Bool) (here tail : List ℕ) → size_before summed + stated_length here ≤ length here → has_sum summed (here ++ tail) ≡ has_sum summed here
same_sum false here tail whole = refl
same_sum true here tail whole = sum_test _ _ _ _ _ _ (same_stated_sum here tail (omega arith)) (same_part 4 1 here tail (omega arith)) (same_payload true here tail whole)

pub frame_longer : (summed : Bool) (here tail payload : List ℕ) → IsFrameAt summed here payload → IsFrameAt summed (here ++ tail) payload
frame_longer summed here tail payload f =
    let least = five summed in
    let whole = f.whole in
    let n = same_length here tail (omega arith) in
    record {
      gate = same_gate here tail (omega arith) ∙ f.gate;
      whole = omega (arith, n, length-append here tail);
      no_seal = ap (λ (k : ℕ). not summed && (k == seal_mark)) n ∙ f.no_seal;
      sum = same_sum summed here tail whole ∙ f.sum;
      is = same_payload summed here tail whole ∙ f.is;
    }

frame_shorter : (summed : Bool) (here tail payload : List ℕ) → size_before summed + stated_length here ≤ length here → IsFrameAt summed (here ++ tail) payload → IsFrameAt summed here payload
frame_shorter summed here tail payload whole f =
    let least = five summed in
    let n = same_length here tail (omega arith) in
    record {
      gate = sym (same_gate here tail (omega arith)) ∙ f.gate;
      whole = whole;
      no_seal = ap (λ (k : ℕ). not summed && (k == seal_mark)) (sym n) ∙ f.no_seal;
      sum = sym (same_sum summed here tail whole) ∙ f.sum;
      is = sym (same_payload summed here tail whole) ∙ f.is;
    }

-- how long the payload is
pub frame_length : (summed : Bool) (here payload : List ℕ) → IsFrameAt summed here payload → length payload ≡ stated_length here
frame_length summed here payload f =
    let whole = f.whole in
    let left = length-drop (size_before summed) here in
    ap length (sym f.is) ∙ length-take-le (stated_length here) (drop (size_before summed) here) (omega arith)

-- the frame alone
pub frame_alone : (summed : Bool) (here payload : List ℕ) → IsFrameAt summed here payload → IsFrameAt summed (take (size_before summed + length payload) here) payload
frame_alone summed here payload f =
    let least = five summed in
    let whole = f.whole in
    let n = frame_length summed here payload f in
    let k = size_before summed + length payload in
    let long : length (take k here) ≡ k = length-take-le k here (omega arith) in
    let parts : take k here ++ drop k here ≡ here = take-append-drop k here in
    let same : stated_length here ≡ stated_length (take k here) = ap stated_length (sym parts) ∙ same_length (take k here) (drop k here) (omega arith) in
    frame_shorter summed (take k here) (drop k here) payload (omega arith) (subst (λ (h : List ℕ). IsFrameAt summed h payload) (sym parts) f)

pub seal_longer : (summed : Bool) (before here tail : List ℕ) → IsSealAt summed before here → IsSealAt summed before (here ++ tail)
seal_longer summed before here tail s =
    let whole = s.whole in
    record {
      gate = same_gate here tail (omega arith) ∙ s.gate;
      whole = omega (arith, length-append here tail);
      mark = ap (λ (k : ℕ). not summed && (k == seal_mark)) (same_length here tail (omega arith)) ∙ s.mark;
      sum = ap (λ (k : ℕ). k == crc32c before) (same_stated_sum here tail whole) ∙ s.sum;
    }

-- the seal alone
pub seal_alone : (summed : Bool) (before here : List ℕ) → IsSealAt summed before here → IsSealAt summed before (take 9 here)
seal_alone summed before here s =
    let whole = s.whole in
    let long : length (take 9 here) ≡ 9 = length-take-le 9 here whole in
    let parts : here ≡ take 9 here ++ drop 9 here = sym (take-append-drop 9 here) in
    record {
      gate = sym (same_gate (take 9 here) (drop 9 here) (omega arith)) ∙ ap is_open (sym parts) ∙ s.gate;
      whole = omega arith;
      mark = ap (λ (k : ℕ). not summed && (k == seal_mark)) (sym (same_length (take 9 here) (drop 9 here) (omega arith)) ∙ ap stated_length (sym parts)) ∙ s.mark;
      sum = ap (λ (k : ℕ). k == crc32c before) (sym (same_stated_sum (take 9 here) (drop 9 here) (omega arith)) ∙ ap stated_sum (sym parts)) ∙ s.sum;
    }

-- ---- what is written

written_stated : (n : ℕ) (rest : List ℕ) → n < 2 ^ 32 → stated_length (open_gate ∷ to_be_bytes w32 n ++ rest) ≡ n
written_stated n rest fits = from_be_bytes-to_be_bytes_4 n fits

whole_payload : (n : ℕ) (payload : List ℕ) → n ≡ length payload → take n payload ≡ payload
whole_payload n [] is = ap (λ (k : ℕ). take k []) is
whole_payload zero (b ∷ payload) is = absurd (omega arith)
whole_payload (suc n) (b ∷ payload) is = ap (λ (l : List ℕ). b ∷ l) (whole_payload n payload (omega arith))

pub frame_written_at : (summed : Bool) (payload : List ℕ) → length payload < seal_mark → (summed ≡ true → sum_of payload < 2 ^ 32) → IsFrameAt summed (open_gate ∷ frame_written summed payload) payload
frame_written_at false payload few fits =
    let n : stated_length (open_gate ∷ frame_written false payload) ≡ length payload = written_stated (length payload) payload (omega arith) in
    let not_mark : (stated_length (open_gate ∷ frame_written false payload) == seal_mark) ≡ false = grind (arith, nat_tests) in
    record {
      gate = refl;
      whole = omega (arith, n);
      no_seal = not_mark;
      sum = refl;
      is = whole_payload _ payload n;
    }
frame_written_at true payload few fits =
    let n : stated_length (open_gate ∷ frame_written true payload) ≡ length payload = written_stated (length payload) (to_be_bytes w32 (sum_of payload) ++ payload) (omega arith) in
    let s : stated_sum (open_gate ∷ frame_written true payload) ≡ sum_of payload = from_be_bytes-to_be_bytes_4 (sum_of payload) (fits refl) in
    let p : payload_of true (open_gate ∷ frame_written true payload) ≡ payload = whole_payload _ payload n in
    record {
      gate = refl;
      whole = omega (arith, n);
      no_seal = refl;
      sum = ap (λ (q : List ℕ). stated_sum (open_gate ∷ frame_written true payload) == crc32c (to_be_bytes w32 (length payload) ++ q)) p ∙ eq-eqb (stated_sum (open_gate ∷ frame_written true payload)) (sum_of payload) s;
      is = p;
    }

pub seal_written_at : (before : List ℕ) → crc32c before < 2 ^ 32 → IsSealAt false before (open_gate ∷ seal_written before)
seal_written_at before fits = record {
  gate = refl;
  whole = omega arith;
  mark = refl;
  sum = eq-eqb (stated_sum (open_gate ∷ seal_written before)) (crc32c before) (from_be_bytes-to_be_bytes_4 (crc32c before) fits);
}
