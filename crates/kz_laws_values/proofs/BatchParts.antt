-- The fields of a batch's records are exact.
use Rattle.std.proofs.Common.{◌≡◌, ℕ, zero, suc, ◌+◌, ◌*◌, ◌/◌, ◌%◌, ℤ, pos, negsuc, Bool, true, false, cond, ◌==◌, List, [], ◌∷◌, ◌++◌, length, Option, Some, None, Result, Ok, Err, refl, sym, ap, ◌∙◌, subst, append_assoc, append-nil, arith, eq-eqb, eqb-true, ne_eqb}
use borrow.Author.Tests.{eqb-false}
use Rattle.kz_types.specs.declared.record.ByteFault.{ByteFault}
use Rattle.kz_types.specs.declared.record.BatchFault.{BatchFault}
use Rattle.kz_types.specs.declared.record.BatchFault.TheVariants.{BadCount}
use Rattle.kz_spec_data.specs.Fields.{Reading, Format, ◌>>=◌, front, uvarint, uvarlong, varint, varlong, zigzag, unzigzag}
use Rattle.kz_spec_data.specs.Forms.{◌⊗◌}
use Rattle.kz_spec_data.specs.Batches.{countable, part, zero_at, no_attributes, measured_at, measured_or_null, not_null, bytes_with_length, header, headers_at, headers, Content, content, whole, sized_at, entry}
use Rattle.kz_laws_values.proofs.Exact.{AreSmall, came, ok_same, Takes, taken_then, Comes, Exact, small_front, small_after, pair_exact, mapped_exact, Turns}
use Rattle.kz_laws_values.proofs.Basics.{passed_true, cond_true, cond_false, front_takes, front_exact}
use Rattle.kz_laws_values.proofs.Counted.{groups_takes, groups_given, uvarint_exact}
use Rattle.kz_laws_values.proofs.RecordLists.{items_takes, items_given}

-- ---- faults

pub countable_same : {A : Type 0} (m : Result A ByteFault) (y : A) → countable m ≡ Ok y → m ≡ Ok y
countable_same (Ok x) y h = cc
countable_same (Err e) y h = absurd (cc)

pub part_exact : {X : Type 0} (f : Format ByteFault X) → Exact f → Exact (part f)
part_exact f ef = record {
  taken = λ x bytes rest at s. ap countable (ef.taken x bytes rest at s);
  given = λ x r next small h. let c = ef.given x r next small (countable_same (f.read r) (x, next) h) in record { bytes = c.bytes; split = c.split; spelled = c.spelled };
}

-- ---- signed numbers of variable size

uvarlong_given : (n : ℕ) (r next : Reading) → AreSmall r.left → uvarlong.read r ≡ Ok (n, next) → Comes uvarlong n r.left next.left
uvarlong_given n r next small h =
    let g = groups_given 9 2 r.at n r.left next small (omega arith) (omega arith) h in
    record { bytes = g.bytes; split = g.split; spelled = (g.groups, g.few, omega (arith, g.fits)) }

pub uvarlong_exact : Exact uvarlong
uvarlong_exact = record {
  taken = λ n bytes rest at s. groups_takes 9 2 n bytes rest at (omega arith) (omega arith) s.0 s.1 (omega (arith, s.2));
  given = uvarlong_given;
}

halves : (n : ℕ) (even : Bool) → (n % 2 == 0) ≡ even → zigzag (cond even (pos (n / 2)) (negsuc (n / 2))) ≡ n
halves n true e = let h : n % 2 ≡ 0 = eqb-true (n % 2) 0 e in omega (arith, h)
halves n false e = let h = eqb-false (n % 2) 0 e in omega (arith, h)

doubled : (z : ℤ) → unzigzag (zigzag z) ≡ z
doubled (pos n) =
    let even : (2 * n) % 2 ≡ 0 = omega arith in
    let half : (2 * n) / 2 ≡ n = omega arith in
    cond_true ((2 * n) % 2 == 0) _ _ (eq-eqb ((2 * n) % 2) 0 even) ∙ ap pos half
doubled (negsuc n) =
    let odd : (2 * n + 1) % 2 ≡ 1 = omega arith in
    let half : (2 * n + 1) / 2 ≡ n = omega arith in
    cond_false ((2 * n + 1) % 2 == 0) _ _ (ne_eqb ((2 * n + 1) % 2) 0 (λ e. omega (arith, odd, e))) ∙ ap negsuc half

pub turns : Turns unzigzag zigzag
turns = record { there = λ n. halves n (n % 2 == 0) refl; again = doubled }

pub varint_exact : Exact varint
varint_exact = mapped_exact unzigzag zigzag uvarint turns uvarint_exact

pub varlong_exact : Exact varlong
varlong_exact = mapped_exact unzigzag zigzag uvarlong turns uvarlong_exact

-- ---- attributes

abbrev zero_read : Reading → Result (Unit {0} × Reading) BatchFault
zero_read r = Ok (tt, r)

zero_comes : (x : Unit {0}) (b : ℕ) (tail : List ℕ) (at : ℕ) (next : Reading) → b ≡ 0 → zero_read (record { at = at + 1; left = tail }) ≡ Ok (x, next) → Comes no_attributes x (b ∷ tail) next.left
zero_comes x b tail at next zero_is h =
    subst (λ q. Comes no_attributes q.0 (b ∷ tail) q.1.left) (ok_same (tt, record { at = at + 1; left = tail }) (x, next) h)
    (record { bytes = 0 ∷ []; split = ap (λ n. n ∷ tail) zero_is; spelled = refl })

zero_left : (left : List ℕ) (at : ℕ) (x : Unit {0}) (next : Reading) → zero_at at left ≡ Ok (x, next) → Comes no_attributes x left next.left
zero_left [] at x next h = absurd (cc)
zero_left (b ∷ tail) at x next h =
    let c = passed_true (b == 0) BadCount (Ok (tt, record { at = at + 1; left = tail })) (x, next) h in
    zero_comes x b tail at next (eqb-true b 0 c.0) c.1

no_attributes_exact : Exact no_attributes
no_attributes_exact = record {
  taken = λ x bytes rest at s. subst (λ l. Takes no_attributes.read x l rest at) (sym s) refl;
  given = λ x r next small h. zero_left r.left r.at x next h;
}

-- ---- so many bytes, or null

measured_taken : (value : Option (List ℕ)) (bytes rest : List ℕ) (at : ℕ) → measured_or_null.spells value bytes → Takes measured_or_null.read value bytes rest at
measured_taken None bytes rest at s = ap (λ m. countable m >>= measured_at) (varint_exact.taken (negsuc 0) bytes rest at s)
measured_taken (Some x) bytes rest at s =
    subst (λ b. Takes measured_or_null.read (Some x) b rest at) (sym s.1)
    (taken_then (λ r. countable (varint.read r)) measured_at (pos (length x)) (Some x) s.0 x rest at
    (ap countable (varint_exact.taken (pos (length x)) s.0 (x ++ rest) at s.2))
    (ap (λ m. countable m >>= λ y. Ok (Some y.0, y.1)) (front_takes (length x) x rest (at + length s.0) refl)))

measured_after : (z : ℤ) (value : Option (List ℕ)) (left : List ℕ) (mid next : Reading)
    → AreSmall left → Comes varint z left mid.left → measured_at (z, mid) ≡ Ok (value, next) → Comes measured_or_null value left next.left
measured_after (pos n) value left mid next small one h =
    let c = came (countable ((front n).read mid)) (λ x. Ok (Some x.0, x.1)) (value, next) h in
    let two = (front_exact n).given c.value.0 mid c.value.1 (small_after varint (pos n) left mid.left one small) (countable_same ((front n).read mid) c.value c.first) in
    subst (λ q. Comes measured_or_null q.0 left q.1.left) (ok_same (Some c.value.0, c.value.1) (value, next) c.second)
    (record {
      bytes = one.bytes ++ two.bytes;
      split = one.split ∙ ap (λ b. one.bytes ++ b) two.split ∙ sym (append_assoc one.bytes two.bytes c.value.1.left);
      spelled = (one.bytes, ap (λ b. one.bytes ++ b) two.spelled.1, subst (λ k. varint.spells (pos k) one.bytes) (sym two.spelled.0) one.spelled);
    })
measured_after (negsuc zero) value left mid next small one h =
    subst (λ q. Comes measured_or_null q.0 left q.1.left) (ok_same (None, mid) (value, next) h)
    (record { bytes = one.bytes; split = one.split; spelled = one.spelled })
measured_after (negsuc (suc n)) value left mid next small one h = absurd (cc)

measured_given : (value : Option (List ℕ)) (r next : Reading) → AreSmall r.left → measured_or_null.read r ≡ Ok (value, next) → Comes measured_or_null value r.left next.left
measured_given value r next small h =
    let c = came (countable (varint.read r)) measured_at (value, next) h in
    let one = varint_exact.given c.value.0 r c.value.1 small (countable_same (varint.read r) c.value c.first) in
    measured_after c.value.0 value r.left c.value.1 next small one c.second

pub measured_or_null_exact : Exact measured_or_null
measured_or_null_exact = record { taken = measured_taken; given = measured_given }

some_same : (o : Option (List ℕ)) (mid : Reading) (x : List ℕ) (next : Reading) → not_null (o, mid) ≡ Ok (x, next) → (o ≡ Some x) × (mid ≡ next)
some_same None mid x next h = absurd (cc)
some_same (Some y) mid x next h =
    let e : (y, mid) ≡ (x, next) = ok_same (y, mid) (x, next) h in
    (ap (λ (p : List ℕ × Reading). Some p.0) e, ap (λ (p : List ℕ × Reading). p.1) e)

length_given : (x : List ℕ) (r next : Reading) → AreSmall r.left → bytes_with_length.read r ≡ Ok (x, next) → Comes bytes_with_length x r.left next.left
length_given x r next small h =
    let c = came (measured_or_null.read r) not_null (x, next) h in
    let one = measured_given c.value.0 r c.value.1 small c.first in
    let same = some_same c.value.0 c.value.1 x next c.second in
    record {
      bytes = one.bytes;
      split = one.split ∙ ap (λ (n : Reading). one.bytes ++ n.left) same.1;
      spelled = subst (λ o. measured_or_null.spells o one.bytes) same.0 one.spelled;
    }

pub measured_exact : Exact bytes_with_length
measured_exact = record { taken = λ x bytes rest at s. ap (λ m. m >>= not_null) (measured_taken (Some x) bytes rest at s); given = length_given }

-- ---- headers

header_exact : Exact header
header_exact = pair_exact bytes_with_length measured_or_null measured_exact measured_or_null_exact

abbrev Header : Type 0
Header = List ℕ × Option (List ℕ)

headers_taken : (hs : List Header) (bytes rest : List ℕ) (at : ℕ) → headers.spells hs bytes → Takes headers.read hs bytes rest at
headers_taken hs bytes rest at s =
    subst (λ b. Takes headers.read hs b rest at) (sym s.2)
    (taken_then (λ r. countable (varint.read r)) headers_at (pos (length hs)) hs s.0 s.1 rest at
    (ap countable (varint_exact.taken (pos (length hs)) s.0 (s.1 ++ rest) at s.3))
    (items_takes header header_exact hs s.1 rest (at + length s.0) s.4))

headers_after : (z : ℤ) (hs : List Header) (left : List ℕ) (mid next : Reading)
    → AreSmall left → Comes varint z left mid.left → headers_at (z, mid) ≡ Ok (hs, next) → Comes headers hs left next.left
headers_after (pos n) hs left mid next small one h =
    let more = items_given header header_exact n hs mid next (small_after varint (pos n) left mid.left one small) h in
    record {
      bytes = one.bytes ++ more.bytes;
      split = one.split ∙ ap (λ b. one.bytes ++ b) more.split ∙ sym (append_assoc one.bytes more.bytes next.left);
      spelled = (one.bytes, more.bytes, refl, subst (λ k. varint.spells (pos k) one.bytes) (sym more.count) one.spelled, more.each);
    }
headers_after (negsuc n) hs left mid next small one h = absurd (cc)

headers_given : (hs : List Header) (r next : Reading) → AreSmall r.left → headers.read r ≡ Ok (hs, next) → Comes headers hs r.left next.left
headers_given hs r next small h =
    let c = came (countable (varint.read r)) headers_at (hs, next) h in
    let one = varint_exact.given c.value.0 r c.value.1 small (countable_same (varint.read r) c.value c.first) in
    headers_after c.value.0 hs r.left c.value.1 next small one c.second

headers_exact : Exact headers
headers_exact = record { taken = headers_taken; given = headers_given }

-- ---- contents

infixr 20 ◌⊠◌
◌⊠◌ : {E X Y : Type 0} {f : Format E X} {g : Format E Y} → Exact f → Exact g → Exact (f ⊗ g)
ef ⊠ eg = pair_exact _ _ ef eg

pub content_exact : Exact content
content_exact = no_attributes_exact ⊠ part_exact varlong varlong_exact ⊠ part_exact varlong varlong_exact ⊠ measured_or_null_exact ⊠ measured_exact ⊠ headers_exact

-- ---- records

pub none_left : (xs : List ℕ) → length xs ≡ 0 → xs ≡ []
none_left [] l = refl
none_left (x ∷ xs) l = absurd (omega (arith, l))

abbrev content_alone : Reading → Content × Reading → Result (Content × Reading) BatchFault
content_alone next c = cond (length c.1.left == 0) (Ok (c.0, next)) (Err BadCount)

-- the content that these bytes are
whole_takes : (c : Content) (body : List ℕ) (at : ℕ) (next : Reading) → content.spells c body → whole at (body, next) ≡ Ok (c, next)
whole_takes c body at next s =
    ap (λ b. content.read (record { at = at; left = b }) >>= content_alone next) (sym (append-nil body))
    ∙ ap (λ m. m >>= content_alone next) (content_exact.taken c body [] at s)

whole_given : (c : Content) (body : List ℕ) (at : ℕ) (mid next : Reading) → AreSmall body → whole at (body, mid) ≡ Ok (c, next) → content.spells c body × (mid ≡ next)
whole_given c body at mid next small h =
    let d = came (content.read (record { at = at; left = body })) (content_alone mid) (c, next) h in
    let one = content_exact.given d.value.0 (record { at = at; left = body }) d.value.1 small d.first in
    let e = passed_true (length d.value.1.left == 0) BadCount (Ok (d.value.0, mid)) (c, next) d.second in
    let all : body ≡ one.bytes = one.split ∙ ap (λ b. one.bytes ++ b) (none_left d.value.1.left (eqb-true (length d.value.1.left) 0 e.0)) ∙ append-nil one.bytes in
    subst (λ q. content.spells q.0 body × (mid ≡ q.1)) (ok_same (d.value.0, mid) (c, next) e.1)
    (subst (λ b. content.spells d.value.0 b) (sym all) one.spelled, refl)

entry_taken : (c : Content) (bytes rest : List ℕ) (at : ℕ) → entry.spells c bytes → Takes entry.read c bytes rest at
entry_taken c bytes rest at s =
    subst (λ b. Takes entry.read c b rest at) (sym s.2)
    (taken_then (λ r. countable (varint.read r)) sized_at (pos (length s.1)) c s.0 s.1 rest at
    (ap countable (varint_exact.taken (pos (length s.1)) s.0 (s.1 ++ rest) at s.3))
    (ap (λ m. countable m >>= whole (at + length s.0)) (front_takes (length s.1) s.1 rest (at + length s.0) refl)
    ∙ whole_takes c s.1 (at + length s.0) (record { at = (at + length s.0) + length s.1; left = rest }) s.4))

entry_after : (z : ℤ) (c : Content) (left : List ℕ) (mid next : Reading)
    → AreSmall left → Comes varint z left mid.left → sized_at (z, mid) ≡ Ok (c, next) → Comes entry c left next.left
entry_after (pos n) c left mid next small one h =
    let d = came (countable ((front n).read mid)) (whole mid.at) (c, next) h in
    let later = small_after varint (pos n) left mid.left one small in
    let two = (front_exact n).given d.value.0 mid d.value.1 later (countable_same ((front n).read mid) d.value d.first) in
    let body : AreSmall d.value.0 = small_front d.value.0 d.value.1.left (subst AreSmall (two.split ∙ ap (λ b. b ++ d.value.1.left) two.spelled.1) later) in
    let three = whole_given c d.value.0 mid.at d.value.1 next body d.second in
    subst (λ (q : Reading). Comes entry c left q.left) three.1
    (record {
      bytes = one.bytes ++ d.value.0;
      split = one.split ∙ ap (λ b. one.bytes ++ b) (two.split ∙ ap (λ b. b ++ d.value.1.left) two.spelled.1) ∙ sym (append_assoc one.bytes d.value.0 d.value.1.left);
      spelled = (one.bytes, d.value.0, refl, subst (λ k. varint.spells (pos k) one.bytes) (sym two.spelled.0) one.spelled, three.0);
    })
entry_after (negsuc n) c left mid next small one h = absurd (cc)

entry_given : (c : Content) (r next : Reading) → AreSmall r.left → entry.read r ≡ Ok (c, next) → Comes entry c r.left next.left
entry_given c r next small h =
    let d = came (countable (varint.read r)) sized_at (c, next) h in
    let one = varint_exact.given d.value.0 r d.value.1 small (countable_same (varint.read r) d.value d.first) in
    entry_after d.value.0 c r.left d.value.1 next small one d.second

pub entry_exact : Exact entry
entry_exact = record { taken = entry_taken; given = entry_given }
