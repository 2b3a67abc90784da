use Rattle.std.proofs.Common.{◌≡◌, ◌+◌, ◌<◌, ◌≤◌, ◌++◌, ℕ, List, length, take, drop, sym, ap, ◌∙◌, arith, length-drop}
use Rattle.std.specs.Int.{w32, from_be_bytes}
use Rattle.kz_spec_data.specs.Checksum.{crc32c}
use Rattle.kz_journal.proofs.Gates.{summed_cut, summed_frame, summed_damaged}
use Rattle.kz_journal.proofs.find.find_summed.Goals as goal

pub returns-then-place-from-clause-found : goal.returns-then-place-from-clause-found
returns-then-place-from-clause-found g c = λ file told measured head.
    let here = drop c.args.place.gate file in
    let n : c.from.result ≡ from_be_bytes w32 c.args.size = c.from.ensures ∙ c.from_be_bytes-len.ensures in
    let long = measured.long in
    let rest = length-drop c.args.place.gate file in
    let cut : length here < 9 + c.from.result = omega arith in
    sym (summed_cut c.args.size here head (take c.args.place.gate file) (cut_by (length here) c.from.result (from_be_bytes w32 c.args.size) n cut))
  where
    cut_by : (m n k : ℕ) → n ≡ k → m < 9 + n → m < 9 + k
    cut_by m n k is cut = omega (arith, is)

pub returns-then-crc32c_add-sum-clause-found : goal.returns-then-crc32c_add-sum-clause-found
returns-then-crc32c_add-sum-clause-found g c = λ file told measured head.
    let here = drop c.args.place.gate file in
    let n : c.from.result ≡ from_be_bytes w32 c.args.size = c.from.ensures ∙ c.from_be_bytes-len.ensures in
    let long = measured.long in
    let rest = length-drop c.args.place.gate file in
    let whole : 9 + c.from.result ≤ length here = omega arith in
    let payload = c.in-Ok-read_payload.ensures.bytes file (c.in-Ok.ensures.reads.same ∙ told) ∙ ap (λ (k : ℕ). take k (drop 9 here)) c.from_be_bytes-len.ensures in
    let sum = sym c.if-crc32c_add-sum.true ∙ c.crc32c_add.ensures c.args.size c.crc32c.ensures ∙ ap (λ (p : List ℕ). crc32c (c.args.size ++ p)) c.deref.ensures.value in
    sym (summed_frame c.args.size here head (take c.args.place.gate file) c.in-Ok-read_payload.payload.items c.in-Ok.sum (whole_by (length here) c.from.result (from_be_bytes w32 c.args.size) n whole) payload (c.in-Ok.ensures.sum file told) sum)
  where
    whole_by : (m n k : ℕ) → n ≡ k → 9 + n ≤ m → 9 + k ≤ m
    whole_by m n k is whole = omega (arith, is)

pub returns-else-crc32c_add-sum-clause-found : goal.returns-else-crc32c_add-sum-clause-found
returns-else-crc32c_add-sum-clause-found g c = λ file told measured head.
    let here = drop c.args.place.gate file in
    let n : c.from.result ≡ from_be_bytes w32 c.args.size = c.from.ensures ∙ c.from_be_bytes-len.ensures in
    let long = measured.long in
    let rest = length-drop c.args.place.gate file in
    let whole : 9 + c.from.result ≤ length here = omega arith in
    let payload = c.in-Ok-read_payload.ensures.bytes file (c.in-Ok.ensures.reads.same ∙ told) ∙ ap (λ (k : ℕ). take k (drop 9 here)) c.from_be_bytes-len.ensures in
    let sum = c.crc32c_add.ensures c.args.size c.crc32c.ensures ∙ ap (λ (p : List ℕ). crc32c (c.args.size ++ p)) c.deref.ensures.value in
    sym (summed_damaged c.args.size here head (take c.args.place.gate file) c.in-Ok-read_payload.payload.items c.in-Ok.sum (whole_by (length here) c.from.result (from_be_bytes w32 c.args.size) n whole) payload (c.in-Ok.ensures.sum file told)
    (λ same. c.if-crc32c_add-sum.false (sum ∙ sym same)))
  where
    whole_by : (m n k : ℕ) → n ≡ k → 9 + n ≤ m → 9 + k ≤ m
    whole_by m n k is whole = omega (arith, is)
