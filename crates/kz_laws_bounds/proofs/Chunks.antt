-- In how many writes a list of operations is written.
use Rattle.std.proofs.Common.{◌≡◌, ◌⊎◌, inl, inr, ℕ, zero, suc, ◌+◌, ◌-◌, ◌*◌, ◌/◌, ◌≤◌, ◌<◌, nat_le, Bool, true, false, if◌then◌else◌, List, [], ◌∷◌, ◌++◌, length, map, take, drop, refl, sym, ap, ◌∙◌, subst, arith, length-take, length-drop}
use Rattle.std.specs.Prelude.{sum, min}
use Rattle.std.proofs.Math.Nat.{mul-div-le, le-div_iff_mul-le}
use Rattle.std.proofs.lemmas.Bool.Decides.{nat_tests}
use Rattle.std.proofs.lemmas.List.{take-append-drop}
use Rattle.std.proofs.lemmas.List.Sums.{sum_by-append}
use Rattle.kz_types.specs.declared.limits.TheConstants.{MAX_CHUNK, MAX_CHUNK_BYTES}
use Rattle.kz_types.specs.declared.tree.Op.{Op}
use Rattle.kz_spec_data.specs.Difference.{op_size, keeps_bytes, chunk_length, chunk, after_chunk}
use Rattle.kz_spec_machine.specs.Driver.{is_last_write}

-- ---- sums

pub sum_cons : (n : ℕ) (ns : List ℕ) → sum (n ∷ ns) ≡ n + sum ns
sum_cons n ns = sum_by-append (λ x. x) (n ∷ []) ns ∙ alone n (sum ns)
  where
    alone : (a b : ℕ) → (0 + a) + b ≡ a + b
    alone a b = omega arith

-- the bytes of operations
abbrev pub bytes_of : List Op → ℕ
bytes_of ops = sum (map op_size ops)

pub bytes_cons : (o : Op) (ops : List Op) → bytes_of (o ∷ ops) ≡ op_size o + bytes_of ops
bytes_cons o ops = sum_cons (op_size o) (map op_size ops)

pub bytes_append : (xs ys : List Op) → bytes_of (xs ++ ys) ≡ bytes_of xs + bytes_of ys
bytes_append [] ys = alone (bytes_of ys)
  where
    alone : (a : ℕ) → a ≡ 0 + a
    alone a = omega arith
bytes_append (x ∷ xs) ys = sums (bytes_of (x ∷ (xs ++ ys))) (op_size x) (bytes_of (xs ++ ys)) (bytes_of xs) (bytes_of ys) (bytes_of (x ∷ xs)) (bytes_cons x (xs ++ ys)) (bytes_append xs ys) (bytes_cons x xs)
  where
    sums : (all x some a b one : ℕ) → all ≡ x + some → some ≡ a + b → one ≡ x + a → all ≡ one + b
    sums all x some a b one first rest again = omega (arith, first, rest, again)

-- the bytes of the first of them, if there is one
abbrev first_bytes : List Op → ℕ
first_bytes ops = bytes_of (take 1 ops)

one_more : (k : ℕ) (ops : List Op) → bytes_of (take (suc k) ops) ≡ bytes_of (take k ops) + first_bytes (drop k ops)
one_more zero ops = alone (bytes_of (take 1 ops))
  where
    alone : (a : ℕ) → a ≡ 0 + a
    alone a = omega arith
one_more (suc k) [] = refl
one_more (suc k) (o ∷ ops) =
    sums (bytes_of (o ∷ take (suc k) ops)) (op_size o) (bytes_of (take (suc k) ops)) (bytes_of (take k ops)) (first_bytes (drop k ops)) (bytes_of (o ∷ take k ops)) (bytes_cons o (take (suc k) ops)) (one_more k ops) (bytes_cons o (take k ops))
  where
    sums : (all x some a b one : ℕ) → all ≡ x + some → some ≡ a + b → one ≡ x + a → all ≡ one + b
    sums all x some a b one first rest again = omega (arith, first, rest, again)

first_within : (k : ℕ) (ops : List Op) → first_bytes ops ≤ bytes_of (take (suc k) ops)
first_within k [] = omega arith
first_within k (o ∷ ops) = least (bytes_of (o ∷ [])) (op_size o) (bytes_of (o ∷ take k ops)) (bytes_of (take k ops)) (bytes_cons o []) (bytes_cons o (take k ops))
  where
    least : (a x b y : ℕ) → a ≡ x + 0 → b ≡ x + y → a ≤ b
    least a x b y one other = omega (arith, one, other)

-- ---- one write

-- how many operations a write has, of at most so many
record IsLength (n : ℕ) (ops : List Op) (k : ℕ) : Type 0 where
  least : 1 ≤ k
  most : k ≤ n
  full : (k ≡ n) ⊎ (keeps_bytes (suc k) ops ≡ false)

length_by : (b : Bool) (n : ℕ) (ops : List Op) (k : ℕ) → keeps_bytes (suc (suc n)) ops ≡ b → IsLength (suc n) ops k → IsLength (suc (suc n)) ops (if b then suc (suc n) else k)
length_by true n ops k is less = record { least = omega arith; most = omega arith; full = inl refl }
length_by false n ops k is less = record { least = less.least; most = let m = less.most in omega (arith, m); full = inr (further less.full) }
  where
    further : (k ≡ suc n) ⊎ (keeps_bytes (suc k) ops ≡ false) → keeps_bytes (suc k) ops ≡ false
    further (inl same) = ap (λ (m : ℕ). keeps_bytes (suc m) ops) same ∙ is
    further (inr over) = over

length_is : (n : ℕ) (ops : List Op) → IsLength (suc n) ops (chunk_length (suc n) ops)
length_is zero ops = record { least = omega arith; most = omega arith; full = inl refl }
length_is (suc n) ops = length_by (keeps_bytes (suc (suc n)) ops) n ops (chunk_length (suc n) ops) refl (length_is n ops)

-- what a write leaves that isn't the last
record IsEarlier (ops : List Op) : Type 0 where
  least : 1 ≤ length (chunk ops)
  counts : length ops ≡ length (chunk ops) + length (after_chunk ops)
  bytes : bytes_of ops ≡ bytes_of (chunk ops) + bytes_of (after_chunk ops)
  first : first_bytes ops ≤ bytes_of (chunk ops)
  full : (length (chunk ops) ≡ MAX_CHUNK) ⊎ (MAX_CHUNK_BYTES < bytes_of (chunk ops) + first_bytes (after_chunk ops))

not_all : (n k m : ℕ) → m ≡ min k n → nat_le n m ≡ false → (k < n) × (m ≡ k)
not_all n k m is less = (grind (arith, nat_tests), grind (arith, nat_tests))

over_bytes : (limit n : ℕ) → nat_le n limit ≡ false → limit < n
over_bytes limit n is = grind (arith, nat_tests)

earlier_by : (k : ℕ) (ops : List Op) → IsLength MAX_CHUNK ops (suc k) → chunk_length MAX_CHUNK ops ≡ suc k → is_last_write ops ≡ false → IsEarlier ops
earlier_by k ops l is more =
    let taken : length (chunk ops) ≡ min (suc k) (length ops) = ap (λ (n : ℕ). length (take n ops)) is ∙ length-take (suc k) ops in
    let both = not_all (length ops) (suc k) (length (chunk ops)) taken more in
    let left : length (after_chunk ops) ≡ length ops - suc k = ap (λ (n : ℕ). length (drop n ops)) is ∙ length-drop (suc k) ops in
    record {
      least = let m = both.1 in omega (arith, m);
      counts = let less = both.0 in let m = both.1 in omega (arith, left, less, m);
      bytes = ap bytes_of (sym (take-append-drop (chunk_length MAX_CHUNK ops) ops)) ∙ bytes_append (chunk ops) (after_chunk ops);
      first = subst (λ (n : ℕ). first_bytes ops ≤ bytes_of (take n ops)) (sym is) (first_within k ops);
      full = by l.full both.1;
    }
  where
    by : (suc k ≡ MAX_CHUNK) ⊎ (keeps_bytes (suc (suc k)) ops ≡ false) → length (chunk ops) ≡ suc k → (length (chunk ops) ≡ MAX_CHUNK) ⊎ (MAX_CHUNK_BYTES < bytes_of (chunk ops) + first_bytes (after_chunk ops))
    by (inl same) m = inl (m ∙ same)
    by (inr over) m = inr (
        subst (λ (n : ℕ). MAX_CHUNK_BYTES < bytes_of (take n ops) + first_bytes (drop n ops)) (sym is)
        (subst (λ (b : ℕ). MAX_CHUNK_BYTES < b) (one_more (suc k) ops) (over_bytes MAX_CHUNK_BYTES (bytes_of (take (suc (suc k)) ops)) over)))

earlier_at : (n : ℕ) (ops : List Op) → chunk_length MAX_CHUNK ops ≡ n → IsLength MAX_CHUNK ops n → is_last_write ops ≡ false → IsEarlier ops
earlier_at zero ops is l more = absurd (let least = l.least in omega (arith, least))
earlier_at (suc k) ops is l more = earlier_by k ops l is more

earlier : (ops : List Op) → is_last_write ops ≡ false → IsEarlier ops
earlier ops more = earlier_at (chunk_length MAX_CHUNK ops) ops refl (length_is 63 ops) more

-- ---- all writes

-- These operations are written in so many writes, or fewer.
abbrev pub WritesIn : ℕ → List Op → Type 0
WritesIn zero ops = ⊥
WritesIn (suc n) ops = (is_last_write ops ≡ true) ⊎ WritesIn n (after_chunk ops)

pub writes_more : (n m : ℕ) (ops : List Op) → n ≤ m → WritesIn n ops → WritesIn m ops
writes_more zero m ops low w = absurd w
writes_more (suc n) zero ops low w = absurd (omega (arith, low))
writes_more (suc n) (suc m) ops low (inl last) = inl last
writes_more (suc n) (suc m) ops low (inr rest) = inr (writes_more n m (after_chunk ops) (omega (arith, low)) rest)

-- So many writes are full by their number of operations, so many by their bytes, and one is the last.
record IsWritten (ops : List Op) : Type 0 where
  counted : ℕ
  weighed : ℕ
  counts : 64 * counted ≤ length ops
  bytes : 1048576 * weighed + first_bytes ops ≤ 2 * bytes_of ops
  writes : WritesIn (suc (counted + weighed)) ops

first_all : (ops : List Op) → first_bytes ops ≤ bytes_of ops
first_all ops = parts (bytes_of ops) (first_bytes ops) (bytes_of (drop 1 ops)) (ap bytes_of (sym (take-append-drop 1 ops)) ∙ bytes_append (take 1 ops) (drop 1 ops))
  where
    parts : (all a b : ℕ) → all ≡ a + b → a ≤ all
    parts all a b is = omega (arith, is)

last_written : (ops : List Op) → is_last_write ops ≡ true → IsWritten ops
last_written ops last = record { counted = 0; weighed = 0; counts = omega arith; bytes = let one = first_all ops in omega (arith, one); writes = inl last }

-- one write more, full by the number of its operations, or by their bytes
counted_more : (ops : List Op) → IsEarlier ops → IsWritten (after_chunk ops) → length (chunk ops) ≡ MAX_CHUNK → IsWritten ops
counted_more ops e rest full = record {
  counted = suc rest.counted;
  weighed = rest.weighed;
  counts = more (length ops) (length (chunk ops)) (length (after_chunk ops)) rest.counted e.counts full rest.counts;
  bytes = same (bytes_of ops) (bytes_of (chunk ops)) (bytes_of (after_chunk ops)) (first_bytes ops) (first_bytes (after_chunk ops)) rest.weighed e.bytes e.first rest.bytes;
  writes = inr (subst (λ (m : ℕ). WritesIn m (after_chunk ops)) (next rest.counted rest.weighed) rest.writes);
}
  where
    more : (all k l c : ℕ) → all ≡ k + l → k ≡ 64 → 64 * c ≤ l → 64 * suc c ≤ all
    more all k l c sum is low = omega (arith, sum, is, low)

    same : (all k l f g w : ℕ) → all ≡ k + l → f ≤ k → 1048576 * w + g ≤ 2 * l → 1048576 * w + f ≤ 2 * all
    same all k l f g w sum low rest = omega (arith, sum, low, rest)

    next : (a b : ℕ) → suc (a + b) ≡ suc a + b
    next a b = omega arith

weighed_more : (ops : List Op) → IsEarlier ops → IsWritten (after_chunk ops) → MAX_CHUNK_BYTES < bytes_of (chunk ops) + first_bytes (after_chunk ops) → IsWritten ops
weighed_more ops e rest full = record {
  counted = rest.counted;
  weighed = suc rest.weighed;
  counts = more (length ops) (length (chunk ops)) (length (after_chunk ops)) rest.counted e.counts rest.counts;
  bytes = over (bytes_of ops) (bytes_of (chunk ops)) (bytes_of (after_chunk ops)) (first_bytes ops) (first_bytes (after_chunk ops)) rest.weighed e.bytes e.first full rest.bytes;
  writes = inr (subst (λ (m : ℕ). WritesIn m (after_chunk ops)) (next rest.counted rest.weighed) rest.writes);
}
  where
    more : (all k l c : ℕ) → all ≡ k + l → 64 * c ≤ l → 64 * c ≤ all
    more all k l c sum low = omega (arith, sum, low)

    over : (all k l f g w : ℕ) → all ≡ k + l → f ≤ k → 1048576 < k + g → 1048576 * w + g ≤ 2 * l → 1048576 * suc w + f ≤ 2 * all
    over all k l f g w sum low big rest = omega (arith, sum, low, big, rest)

    next : (a b : ℕ) → suc (a + b) ≡ a + suc b
    next a b = omega arith

earlier_written : (ops : List Op) → IsEarlier ops → IsWritten (after_chunk ops) → IsWritten ops
earlier_written ops e rest = by e.full
  where
    by : (length (chunk ops) ≡ MAX_CHUNK) ⊎ (MAX_CHUNK_BYTES < bytes_of (chunk ops) + first_bytes (after_chunk ops)) → IsWritten ops
    by (inl full) = counted_more ops e rest full
    by (inr full) = weighed_more ops e rest full

written_by : (b : Bool) (ops : List Op) → is_last_write ops ≡ b → (b ≡ false → IsWritten (after_chunk ops)) → IsWritten ops
written_by true ops is rest = last_written ops is
written_by false ops is rest = earlier_written ops (earlier ops is) (rest refl)

fewer : (n all k l : ℕ) → all ≡ k + l → 1 ≤ k → all ≤ suc n → l ≤ n
fewer n all k l sum some low = omega (arith, sum, some, low)

none_left : (all k l : ℕ) → all ≡ k + l → 1 ≤ k → all ≤ 0 → ⊥
none_left all k l sum some low = absurd (omega (arith, sum, some, low))

written : (n : ℕ) (ops : List Op) → length ops ≤ n → IsWritten ops
written zero ops low = written_by (is_last_write ops) ops refl (λ more. let e = earlier ops more in absurd (none_left (length ops) (length (chunk ops)) (length (after_chunk ops)) e.counts e.least low))
written (suc n) ops low = written_by (is_last_write ops) ops refl (λ more. let e = earlier ops more in written n (after_chunk ops) (fewer n (length ops) (length (chunk ops)) (length (after_chunk ops)) e.counts e.least low))

-- ---- by their number and their bytes

-- the most writes of so many operations of so many bytes
abbrev pub most_writes : ℕ → ℕ → ℕ
most_writes count bytes = suc (count / 64 + (2 * bytes) / 1048576)

counted_at_most : (x n : ℕ) → 64 * x ≤ n → x ≤ n / 64
counted_at_most x n low = (le-div_iff_mul-le {k = 64} {x = x} {y = n} (omega arith)).1 (turned x n low)
  where
    turned : (x n : ℕ) → 64 * x ≤ n → x * 64 ≤ n
    turned x n low = omega (arith, low)

weighed_at_most : (x n : ℕ) → 1048576 * x ≤ n → x ≤ n / 1048576
weighed_at_most x n low = (le-div_iff_mul-le {k = 1048576} {x = x} {y = n} (omega arith)).1 (turned x n low)
  where
    turned : (x n : ℕ) → 1048576 * x ≤ n → x * 1048576 ≤ n
    turned x n low = omega (arith, low)

pub written_within : (ops : List Op) (count bytes : ℕ) → length ops ≤ count → bytes_of ops ≤ bytes → WritesIn (most_writes count bytes) ops
written_within ops count bytes few light =
    let w = written (length ops) ops (itself (length ops)) in
    writes_more (suc (w.counted + w.weighed)) (most_writes count bytes) ops
    (sums w.counted w.weighed (count / 64) ((2 * bytes) / 1048576)
    (counted_at_most w.counted count (low w.counted (length ops) count w.counts few))
    (weighed_at_most w.weighed (2 * bytes) (high w.weighed (first_bytes ops) (bytes_of ops) bytes w.bytes light)))
    w.writes
  where
    itself : (n : ℕ) → n ≤ n
    itself n = omega arith

    low : (x n m : ℕ) → 64 * x ≤ n → n ≤ m → 64 * x ≤ m
    low x n m one other = omega (arith, one, other)

    high : (x f n m : ℕ) → 1048576 * x + f ≤ 2 * n → n ≤ m → 1048576 * x ≤ 2 * m
    high x f n m one other = omega (arith, one, other)

    sums : (a b x y : ℕ) → a ≤ x → b ≤ y → suc (a + b) ≤ suc (x + y)
    sums a b x y one other = omega (arith, one, other)

-- ---- quotients

pub counted_add : (a b n : ℕ) → a + b ≤ n → a / 64 + b / 64 ≤ n / 64
counted_add a b n low = counted_at_most (a / 64 + b / 64) n (sums (a / 64) (b / 64) a b n (mul-div-le a 64) (mul-div-le b 64) low)
  where
    sums : (x y c d m : ℕ) → 64 * x ≤ c → 64 * y ≤ d → c + d ≤ m → 64 * (x + y) ≤ m
    sums x y c d m one other low = omega (arith, one, other, low)

pub weighed_add : (a b n : ℕ) → a + b ≤ n → (2 * a) / 1048576 + (2 * b) / 1048576 ≤ (2 * n) / 1048576
weighed_add a b n low = weighed_at_most ((2 * a) / 1048576 + (2 * b) / 1048576) (2 * n) (sums ((2 * a) / 1048576) ((2 * b) / 1048576) a b n (mul-div-le (2 * a) 1048576) (mul-div-le (2 * b) 1048576) low)
  where
    sums : (x y c d m : ℕ) → 1048576 * x ≤ 2 * c → 1048576 * y ≤ 2 * d → c + d ≤ m → 1048576 * (x + y) ≤ 2 * m
    sums x y c d m one other low = omega (arith, one, other, low)

-- two lists of operations, one after the other
pub writes_add : (count bytes more heavy counts weights : ℕ) → count + more ≤ counts → bytes + heavy ≤ weights → most_writes count bytes + most_writes more heavy ≤ suc (most_writes counts weights)
writes_add count bytes more heavy counts weights low light =
    sums (count / 64) ((2 * bytes) / 1048576) (more / 64) ((2 * heavy) / 1048576) (counts / 64) ((2 * weights) / 1048576) (counted_add count more counts low) (weighed_add bytes heavy weights light)
  where
    sums : (a b c d e f : ℕ) → a + c ≤ e → b + d ≤ f → suc (a + b) + suc (c + d) ≤ suc (suc (e + f))
    sums a b c d e f one other = omega (arith, one, other)
