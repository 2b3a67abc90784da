use Rattle.std.proofs.Common.{◌≡◌, ◌+◌, ◌<◌, ◌≤◌, ◌++◌, ◌∷◌, ℕ, List, length, take, drop, sym, ap, ◌∙◌, arith, length-drop}
use Rattle.std.specs.Int.{w32, from_be_bytes}
use Rattle.kz_spec_data.specs.Checksum.{crc32c}
use Rattle.kz_spec_data.specs.Frames.{open_gate}
use Rattle.kz_journal.proofs.Gates.{plain_cut, plain_frame, plain_bytes}
use Rattle.kz_journal.proofs.find.find_plain.Goals as goal

pub returns-in-Ok-clause-sum : goal.returns-in-Ok-clause-sum
returns-in-Ok-clause-sum g c = λ file told measured head. c.in-Ok.ensures.no_frame file

pub returns-then-place-from-clause-found : goal.returns-then-place-from-clause-found
returns-then-place-from-clause-found g c = λ file told measured head.
    let here = drop c.args.place.gate file in
    let n : c.from.result ≡ from_be_bytes w32 c.args.size = c.from.ensures ∙ c.from_be_bytes-len.ensures in
    let long = measured.long in
    let rest = length-drop c.args.place.gate file in
    let cut : length here < 5 + c.from.result = omega arith in
    sym (plain_cut c.args.size here head (take c.args.place.gate file) (λ mark. c.if-len.false (c.from_be_bytes-len.ensures ∙ mark)) (cut_by (length here) c.from.result (from_be_bytes w32 c.args.size) n cut))
  where
    cut_by : (m n k : ℕ) → n ≡ k → m < 5 + n → m < 5 + k
    cut_by m n k is cut = omega (arith, is)

pub returns-in-Ok-read_payload-clause-found : goal.returns-in-Ok-read_payload-clause-found
returns-in-Ok-read_payload-clause-found g c = λ file told measured head.
    let here = drop c.args.place.gate file in
    let n : c.from.result ≡ from_be_bytes w32 c.args.size = c.from.ensures ∙ c.from_be_bytes-len.ensures in
    let long = measured.long in
    let rest = length-drop c.args.place.gate file in
    let whole : 5 + c.from.result ≤ length here = omega arith in
    let payload = c.in-Ok-read_payload.ensures.bytes file told ∙ ap (λ (k : ℕ). take k (drop 5 here)) c.from_be_bytes-len.ensures in
    sym (plain_frame c.args.size here head (take c.args.place.gate file) c.in-Ok-read_payload.payload.items (λ mark. c.if-len.false (c.from_be_bytes-len.ensures ∙ mark)) (whole_by (length here) c.from.result (from_be_bytes w32 c.args.size) n whole) payload)
  where
    whole_by : (m n k : ℕ) → n ≡ k → 5 + n ≤ m → 5 + k ≤ m
    whole_by m n k is whole = omega (arith, is)

pub returns-in-Ok-read_payload-clause-sum : goal.returns-in-Ok-read_payload-clause-sum
returns-in-Ok-read_payload-clause-sum g c = λ file told measured head.
    c.sum_after-sum.ensures (take c.args.place.gate file) (measured.sum c.requires.plain)
    ∙ ap (λ (p : List ℕ). crc32c (take c.args.place.gate file ++ open_gate ∷ (c.args.size ++ p))) c.deref.ensures.value
    ∙ ap crc32c (sym (plain_bytes c.args.place.gate c.from_be_bytes-len.result file c.args.size c.in-Ok-read_payload.payload.items head (sym c.in-Ok-read_payload.ensures.long) (c.in-Ok-read_payload.ensures.bytes file told)))
