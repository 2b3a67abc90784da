-- Faults stand at the first byte at which no spelling goes on.
use Rattle.std.proofs.Common.{◌≡◌, ℕ, zero, suc, ◌+◌, ◌-◌, ◌*◌, ◌<◌, ◌≤◌, Bool, true, false, cond, nat_lt, ◌==◌, ◌⊎◌, inl, inr, List, [], ◌∷◌, ◌++◌, length, Option, Some, None, Result, Ok, Err, refl, sym, ap, ◌∙◌, subst, append_assoc, append-nil, length-append, arith, ltb-true, ltb-false}
use Rattle.std.specs.Int.{Width, from_be_bytes, to_be_bytes, cast_signed, byte_len}
use Rattle.std.proofs.lemmas.Int.{of_z-to_z}
use borrow.Author.Tests.{eqb-false}
use Rattle.kz_types.specs.declared.record.ByteFault.{ByteFault}
use Rattle.kz_types.specs.declared.record.ByteFault.TheVariants.{Short, Overlong, NotUtf8}
use Rattle.kz_spec_data.specs.Fields.{Reading, Format, ◌>>=◌, format_through, end_of, front, unsigned_number, signed_number, id, uvarint, uvarlong, varint, varlong, zigzag, unzigzag, groups_at, IsGroups, items_with_count}
use Rattle.kz_laws_values.specs.Texts.{AreBytes}
use Rattle.kz_laws_values.specs.FaultLaws.{GoesOn, IsFirstBad, IsFirstFault, FaultsAreFirst}
use Rattle.kz_laws_values.proofs.Exact.{AreSmall, small_from_bytes, Exact, Turns}
use Rattle.kz_laws_values.proofs.Basics.{cond_false, HasBytes, HasSigns}
use Rattle.kz_laws_values.proofs.Counted.{limit, some_limit, more_groups, uvarint_exact, counted_exact, counted_rest}
use Rattle.kz_laws_values.proofs.BatchParts.{turns, uvarlong_exact}
use Rattle.kz_laws_values.proofs.WrittenBatches.{small_joined}
use Rattle.kz_laws_values.proofs.FieldLaws.{between}

-- ---- what fails

pub err_same : {A E : Type 0} (d e : E) → ◌≡◌ {A = Result A E} (Err d) (Err e) → d ≡ e
err_same d e h = cc

no_fault : {A E : Type 0} (m : Result A E) (x : A) (e : E) → m ≡ Ok x → m ≡ Err e → ⊥
no_fault m x e h g = cc

-- the first part failed, or the second after it
pub failed : {A B E : Type 0} (m : Result A E) (k : A → Result B E) (e : E) → m >>= k ≡ Err e → (m ≡ Err e) ⊎ ((x : A) × (m ≡ Ok x) × (k x ≡ Err e))
failed (Ok x) k e h = inr (x, refl, h)
failed (Err d) k e h = inl (ap Err (err_same d e h))

-- what is made of a value failed where the value did
pub made_fails : {A B E : Type 0} (m : Result A E) (made : A → B) (e : E) → m >>= (λ x. Ok (made x)) ≡ Err e → m ≡ Err e
made_fails (Ok x) made e h = absurd (cc)
made_fails (Err d) made e h = ap Err (err_same d e h)

-- a test that fails at true has failed
failed_true : {A E : Type 0} (b : Bool) (d e : E) (x : A) → cond b (Err d) (Ok x) ≡ Err e → (b ≡ true) × (d ≡ e)
failed_true true d e x h = (refl, err_same d e h)
failed_true false d e x h = absurd (cc)

-- ---- zeros

abbrev pub zeros : ℕ → List ℕ
zeros zero = []
zeros (suc n) = 0 ∷ zeros n

pub length-zeros : (n : ℕ) → length (zeros n) ≡ n
length-zeros zero = refl
length-zeros (suc n) = ap (λ k. suc k) (length-zeros n)

pub small_zeros : (n : ℕ) → AreSmall (zeros n)
small_zeros zero = tt
small_zeros (suc n) = (omega arith, small_zeros n)

filled_to : (bytes : List ℕ) (n : ℕ) → length bytes < n → length (bytes ++ zeros (n - length bytes)) ≡ n
filled_to bytes n lt = omega (arith, lt, length-append bytes (zeros (n - length bytes)), length-zeros (n - length bytes))

-- ---- a byte at which reading fails, whatever follows

pub record Refused {E X : Type 0} (f : Format E X) (r : Reading) (place : ℕ) (e : E) : Type 0 where
  pub before : List ℕ
  pub byte : ℕ
  pub after : List ℕ
  pub left : r.left ≡ before ++ (byte ∷ after)
  pub at : place ≡ r.at + length before
  pub some : GoesOn f before
  pub same : (tail : List ℕ) → f.read (record { at = r.at; left = before ++ (byte ∷ tail) }) ≡ Err e

pub first_bad : {E X : Type 0} (f : Format E X) → Exact f → (r : Reading) (place : ℕ) (e : E) → Refused f r place e → IsFirstBad f r place
first_bad {X = X} f ef r place e c = record {
  before = c.before;
  byte = c.byte;
  after = c.after;
  left = c.left;
  at = c.at;
  some = c.some;
  none = λ g.
      let whole : ((c.before ++ (c.byte ∷ [])) ++ g.1) ++ [] ≡ c.before ++ (c.byte ∷ g.1) =
      append-nil ((c.before ++ (c.byte ∷ [])) ++ g.1) ∙ append_assoc c.before (c.byte ∷ []) g.1 in
      no_fault (f.read (record { at = r.at; left = c.before ++ (c.byte ∷ g.1) })) (g.0, record { at = r.at + length ((c.before ++ (c.byte ∷ [])) ++ g.1); left = [] }) e
      (ap (λ left. f.read (record { at = r.at; left = left })) (sym whole) ∙ ef.taken g.0 ((c.before ++ (c.byte ∷ [])) ++ g.1) [] r.at g.2)
      (c.same g.1);
}

-- ---- bytes and numbers of fixed size

pub front_fails : (n : ℕ) (r : Reading) (fault : ByteFault) → (front n).read r ≡ Err fault → (fault ≡ Short (end_of r)) × (length r.left < n)
front_fails n r fault h =
    let c = failed_true (nat_lt (length r.left) n) (Short (end_of r)) fault _ h in
    (sym c.1, ltb-true (length r.left) n c.0)

short_first : {E X : Type 0} (f : Format E X) (r : Reading) (fault : ByteFault) → fault ≡ Short (end_of r) → GoesOn f r.left → IsFirstFault f r fault
short_first f r fault e g = subst (IsFirstFault f r) (sym e) (refl, g)

pub front_faults : (n : ℕ) → FaultsAreFirst (front n)
front_faults n r fault small h =
    let c = front_fails n r fault h in
    short_first (front n) r fault c.0 (r.left ++ zeros (n - length r.left), zeros (n - length r.left), (filled_to r.left n c.1, refl))

pub unsigned_faults : (w : Width) → HasBytes w → FaultsAreFirst (unsigned_number w)
unsigned_faults w has r fault small h =
    let c = front_fails (byte_len w) r fault (made_fails ((front (byte_len w)).read r) (λ x. (from_be_bytes w x.0, x.1)) fault h) in
    let more : List ℕ = zeros (byte_len w - length r.left) in
    let size : length (r.left ++ more) ≡ byte_len w = filled_to r.left (byte_len w) c.1 in
    let bytes : AreSmall (r.left ++ more) = small_joined r.left more (small_from_bytes r.left small) (small_zeros (byte_len w - length r.left)) in
    short_first (unsigned_number w) r fault c.0 (from_be_bytes w (r.left ++ more), more, (has.below (r.left ++ more) size bytes, sym (has.there (r.left ++ more) size bytes)))

signed_goes : (w : Width) → HasSigns w → (bytes : List ℕ) → GoesOn (unsigned_number w) bytes → GoesOn (signed_number w) bytes
signed_goes w signs bytes g = (cast_signed w g.0, g.1, (signs.fits g.0 g.2.0, g.2.1 ∙ ap (to_be_bytes w) (sym (of_z-to_z w g.0 g.2.0))))

pub signed_faults : (w : Width) → HasBytes w → HasSigns w → FaultsAreFirst (signed_number w)
signed_faults w has signs r fault small h =
    let e = made_fails ((unsigned_number w).read r) (λ x. (cast_signed w x.0, x.1)) fault h in
    let c = front_fails (byte_len w) r fault (made_fails ((front (byte_len w)).read r) (λ x. (from_be_bytes w x.0, x.1)) fault e) in
    let u = unsigned_faults w has r (Short (end_of r)) small (e ∙ ap Err c.0) in
    short_first (signed_number w) r fault c.0 (signed_goes w signs r.left u.1)

-- ---- a value that another one stands for

mapped_goes : {X Y : Type 0} (made : X → Y) (back : Y → X) (f : Format ByteFault X) → Turns made back → (bytes : List ℕ) → GoesOn f bytes → GoesOn (format_through made back f) bytes
mapped_goes made back f t bytes g = (made g.0, g.1, subst (λ x. f.spells x (bytes ++ g.1)) (sym (t.there g.0)) g.2)

mapped_bad : {X Y : Type 0} (made : X → Y) (back : Y → X) (f : Format ByteFault X) → Turns made back → (r : Reading) (place : ℕ) → IsFirstBad f r place → IsFirstBad (format_through made back f) r place
mapped_bad made back f t r place c = record {
  before = c.before;
  byte = c.byte;
  after = c.after;
  left = c.left;
  at = c.at;
  some = mapped_goes made back f t c.before c.some;
  none = λ g. c.none (back g.0, g.1, g.2);
}

mapped_first : {X Y : Type 0} (made : X → Y) (back : Y → X) (f : Format ByteFault X) → Turns made back → (r : Reading) (fault : ByteFault) → IsFirstFault f r fault → IsFirstFault (format_through made back f) r fault
mapped_first made back f t r (Short place) c = (c.0, mapped_goes made back f t r.left c.1)
mapped_first made back f t r (Overlong place) c = mapped_bad made back f t r place c
mapped_first made back f t r (NotUtf8 place) c = mapped_bad made back f t r place c

pub mapped_faults : {X Y : Type 0} (made : X → Y) (back : Y → X) (f : Format ByteFault X) → Turns made back → FaultsAreFirst f → FaultsAreFirst (format_through made back f)
mapped_faults made back f t ff r fault small h = mapped_first made back f t r fault (ff r fault small (made_fails (f.read r) (λ x. (made x.0, x.1)) fault h))

pub id_faults : FaultsAreFirst id
id_faults = mapped_faults (λ x. record { bytes = x }) (λ i. i.bytes) (front 16) (record { there = λ x. refl; again = λ y. refl }) (front_faults 16)

-- ---- numbers of variable size

-- groups that a last group 0 ends
pub record Cut (more last : ℕ) (bytes : List ℕ) : Type 0 where
  pub number : ℕ
  pub groups : IsGroups number (bytes ++ (0 ∷ []))
  pub few : length bytes ≤ more
  pub fits : number < limit more last

cut_nil : (more last : ℕ) → 0 < last → Cut more last []
cut_nil more last some = record { number = 0; groups = (omega arith, refl); few = omega arith; fits = some_limit more last some }

cut_more : (more last b : ℕ) (tail : List ℕ) → 128 ≤ b → b < 256 → Cut more last tail → Cut (suc more) last (b ∷ tail)
cut_more more last b tail least most c = record {
  number = b + 128 * c.number - 128;
  groups = more_groups b c.number (b + 128 * c.number - 128) (tail ++ (0 ∷ [])) least most (omega (arith, least)) c.groups;
  few = omega (arith, c.few);
  fits = omega (arith, most, c.fits);
}

-- a group at which no number goes on
pub record Long (more last at : ℕ) (left : List ℕ) (place : ℕ) : Type 0 where
  pub before : List ℕ
  pub byte : ℕ
  pub after : List ℕ
  pub split : left ≡ before ++ (byte ∷ after)
  pub stands : place ≡ at + length before
  pub cut : Cut more last before
  pub same : (tail : List ℕ) → groups_at more last at (before ++ (byte ∷ tail)) ≡ Err (Overlong place)

abbrev pub Ends : ℕ → ℕ → ℕ → List ℕ → ByteFault → Type 0
Ends more last at left (Short place) = (place ≡ at + length left) × Cut more last left
Ends more last at left (Overlong place) = Long more last at left place
Ends more last at left (NotUtf8 place) = ⊥

nothing_left : (more last at : ℕ) (fault : ByteFault) → 0 < last → Short at ≡ fault → Ends more last at [] fault
nothing_left more last at fault some e = subst (Ends more last at []) e (omega arith, cut_nil more last some)

last_too_great : (last at b : ℕ) (tail : List ℕ) → 0 < last → nat_lt b last ≡ false → Long 0 last at (b ∷ tail) at
unfolding groups_at
last_too_great last at b tail some e = record {
  before = [];
  byte = b;
  after = tail;
  split = refl;
  stands = omega arith;
  cut = cut_nil 0 last some;
  same = λ rest. cond_false (nat_lt b last) _ _ e;
}

last_fails : (last at b : ℕ) (tail : List ℕ) (fault : ByteFault) (low : Bool) → 0 < last → nat_lt b last ≡ low
    → cond {A = Result (ℕ × Reading) ByteFault} low (Ok (b, record { at = at + 1; left = tail })) (Err (Overlong at)) ≡ Err fault → Ends 0 last at (b ∷ tail) fault
last_fails last at b tail fault true some e h = absurd (cc)
last_fails last at b tail fault false some e h = subst (Ends 0 last at (b ∷ tail)) (err_same (Overlong at) fault h) (last_too_great last at b tail some e)

one_more : (more last at b : ℕ) (tail : List ℕ) (fault : ByteFault) → nat_lt b 128 ≡ false → b < 256 → Ends more last (at + 1) tail fault → Ends (suc more) last at (b ∷ tail) fault
unfolding groups_at
one_more more last at b tail (Short place) e most c = (omega (arith, c.0), cut_more more last b tail (ltb-false b 128 e) most c.1)
one_more more last at b tail (Overlong place) e most c = record {
  before = b ∷ c.before;
  byte = c.byte;
  after = c.after;
  split = ap (λ bytes. b ∷ bytes) c.split;
  stands = omega (arith, c.stands);
  cut = cut_more more last b c.before (ltb-false b 128 e) most c.cut;
  same = λ rest. cond_false (nat_lt b 128) _ _ e ∙ ap (λ m. m >>= λ high. Ok (b + 128 * high.0 - 128, high.1)) (c.same rest);
}
one_more more last at b tail (NotUtf8 place) e most c = absurd c

higher_fails : (more last at b : ℕ) (tail : List ℕ) (fault : ByteFault) (low : Bool) → nat_lt b 128 ≡ low → b < 256
    → cond {A = Result (ℕ × Reading) ByteFault} low (Ok (b, record { at = at + 1; left = tail })) (groups_at more last (at + 1) tail >>= λ high. Ok (b + 128 * high.0 - 128, high.1)) ≡ Err fault
    → (groups_at more last (at + 1) tail ≡ Err fault → Ends more last (at + 1) tail fault)
    → Ends (suc more) last at (b ∷ tail) fault
higher_fails more last at b tail fault true e most h go = absurd (cc)
higher_fails more last at b tail fault false e most h go =
    one_more more last at b tail fault e most (go (made_fails (groups_at more last (at + 1) tail) (λ high. (b + 128 * high.0 - 128, high.1)) fault h))

pub groups_fail : (more last at : ℕ) (left : List ℕ) (fault : ByteFault) → AreSmall left → 0 < last → groups_at more last at left ≡ Err fault → Ends more last at left fault
unfolding groups_at
groups_fail zero last at [] fault small some h = nothing_left 0 last at fault some (err_same (Short at) fault h)
groups_fail (suc more) last at [] fault small some h = nothing_left (suc more) last at fault some (err_same (Short at) fault h)
groups_fail zero last at (b ∷ tail) fault small some h = last_fails last at b tail fault (nat_lt b last) some refl h
groups_fail (suc more) last at (b ∷ tail) fault small some h =
    higher_fails more last at b tail fault (nat_lt b 128) refl small.0 h (λ e. groups_fail more last (at + 1) tail fault small.1 some e)

pub cut_goes : (bytes : List ℕ) → Cut 4 16 bytes → GoesOn uvarint bytes
cut_goes bytes c = (c.number, 0 ∷ [], (c.groups, omega (arith, c.few, length-append bytes (0 ∷ [])), omega (arith, c.fits)))

cut_goes_long : (bytes : List ℕ) → Cut 9 2 bytes → GoesOn uvarlong bytes
cut_goes_long bytes c = (c.number, 0 ∷ [], (c.groups, omega (arith, c.few, length-append bytes (0 ∷ [])), omega (arith, c.fits)))

uvarint_first : (r : Reading) (fault : ByteFault) → Ends 4 16 r.at r.left fault → IsFirstFault uvarint r fault
uvarint_first r (Short place) c = (c.0, cut_goes r.left c.1)
uvarint_first r (Overlong place) c = first_bad uvarint uvarint_exact r place (Overlong place) (record {
  before = c.before;
  byte = c.byte;
  after = c.after;
  left = c.split;
  at = c.stands;
  some = cut_goes c.before c.cut;
  same = c.same;
})
uvarint_first r (NotUtf8 place) c = absurd c

uvarlong_first : (r : Reading) (fault : ByteFault) → Ends 9 2 r.at r.left fault → IsFirstFault uvarlong r fault
uvarlong_first r (Short place) c = (c.0, cut_goes_long r.left c.1)
uvarlong_first r (Overlong place) c = first_bad uvarlong uvarlong_exact r place (Overlong place) (record {
  before = c.before;
  byte = c.byte;
  after = c.after;
  left = c.split;
  at = c.stands;
  some = cut_goes_long c.before c.cut;
  same = c.same;
})
uvarlong_first r (NotUtf8 place) c = absurd c

pub uvarint_fails : (r : Reading) (fault : ByteFault) → AreBytes r.left → uvarint.read r ≡ Err fault → Ends 4 16 r.at r.left fault
uvarint_fails r fault small h = groups_fail 4 16 r.at r.left fault (small_from_bytes r.left small) (omega arith) h

pub uvarint_faults : FaultsAreFirst uvarint
uvarint_faults r fault small h = uvarint_first r fault (uvarint_fails r fault small h)

uvarlong_faults : FaultsAreFirst uvarlong
uvarlong_faults r fault small h = uvarlong_first r fault (groups_fail 9 2 r.at r.left fault (small_from_bytes r.left small) (omega arith) h)

pub varint_faults : FaultsAreFirst varint
varint_faults = mapped_faults unzigzag zigzag uvarint turns uvarint_faults

pub varlong_faults : FaultsAreFirst varlong
varlong_faults = mapped_faults unzigzag zigzag uvarlong turns uvarlong_faults

-- ---- lengths and what they count

-- what begins a count begins items too
pub counted_goes : (size : ℕ) (bytes : List ℕ) (n : ℕ) (more : List ℕ) → uvarint.spells n (bytes ++ more) → GoesOn (items_with_count size) bytes
counted_goes size bytes zero more s = (None, more, s)
counted_goes size bytes (suc n) more s =
    let count : suc n ≡ n + 1 = omega arith in
    (Some (zeros (size * n)), more ++ zeros (size * n), (n, bytes ++ more, length-zeros (size * n), subst (λ k. uvarint.spells k (bytes ++ more)) count s, sym (append_assoc bytes more (zeros (size * n)))))

-- items are cut
record Items (size : ℕ) (r : Reading) (fault : ByteFault) : Type 0 where
  pub ends : fault ≡ Short (end_of r)
  pub goes : GoesOn (items_with_count size) r.left

cut_items : (size n : ℕ) (r mid : Reading) (fault : ByteFault) (none : Bool) → AreBytes r.left → uvarint.read r ≡ Ok (n, mid) → (n == 0) ≡ none
    → cond {A = Result (Option (List ℕ) × Reading) ByteFault} none (Ok (None, mid)) ((front (size * (n - 1))).read mid >>= λ items. Ok (Some items.0, items.1)) ≡ Err fault
    → Items size r fault
cut_items size n r mid fault true small h e g = absurd (cc)
cut_items size n r mid fault false small h e g =
    let c = front_fails (size * (n - 1)) mid fault (made_fails ((front (size * (n - 1))).read mid) (λ items. (Some items.0, items.1)) fault g) in
    let b = between uvarint uvarint_exact n r mid small h in
    let some : n ≡ (n - 1) + 1 = omega (arith, eqb-false n 0 e) in
    let more : List ℕ = zeros (size * (n - 1) - length mid.left) in
    let place : end_of mid ≡ end_of r = omega (arith, b.at, length-append b.bytes mid.left, ap length b.left) in
    record {
      ends = c.0 ∙ ap Short place;
      goes = (Some (mid.left ++ more), more, (n - 1, b.bytes, filled_to mid.left (size * (n - 1)) c.1, subst (λ k. uvarint.spells k b.bytes) some b.spelled, ap (λ left. left ++ more) b.left ∙ append_assoc b.bytes mid.left more));
    }

-- where a count or its items fail
pub data CountedFails (size : ℕ) (r : Reading) (fault : ByteFault) : Type 0 where
  at_count : Ends 4 16 r.at r.left fault → CountedFails size r fault
  at_items : fault ≡ Short (end_of r) → GoesOn (items_with_count size) r.left → CountedFails size r fault

counted_where : (size : ℕ) (r : Reading) (fault : ByteFault) → AreBytes r.left
    → (uvarint.read r ≡ Err fault) ⊎ ((x : ℕ × Reading) × (uvarint.read r ≡ Ok x) × (counted_rest size x ≡ Err fault)) → CountedFails size r fault
counted_where size r fault small (inl e) = at_count (uvarint_fails r fault small e)
counted_where size r fault small (inr c) = let i = cut_items size c.0.0 r c.0.1 fault (c.0.0 == 0) small c.1 refl c.2 in at_items i.ends i.goes

pub counted_fails : (size : ℕ) (r : Reading) (fault : ByteFault) → AreBytes r.left → (items_with_count size).read r ≡ Err fault → CountedFails size r fault
counted_fails size r fault small h = counted_where size r fault small (failed (uvarint.read r) (counted_rest size) fault h)

head_first : (size : ℕ) (r : Reading) (fault : ByteFault) → Ends 4 16 r.at r.left fault → IsFirstFault (items_with_count size) r fault
head_first size r (Short place) c = let g = cut_goes r.left c.1 in (c.0, counted_goes size r.left g.0 g.1 g.2)
head_first size r (Overlong place) c = let g = cut_goes c.before c.cut in first_bad (items_with_count size) (counted_exact size) r place (Overlong place) (record {
  before = c.before;
  byte = c.byte;
  after = c.after;
  left = c.split;
  at = c.stands;
  some = counted_goes size c.before g.0 g.1 g.2;
  same = λ rest. ap (λ m. m >>= counted_rest size) (c.same rest);
})
head_first size r (NotUtf8 place) c = absurd c

counted_first : (size : ℕ) (r : Reading) (fault : ByteFault) → CountedFails size r fault → IsFirstFault (items_with_count size) r fault
counted_first size r fault (at_count c) = head_first size r fault c
counted_first size r fault (at_items e g) = short_first (items_with_count size) r fault e g

pub counted_faults : (size : ℕ) → FaultsAreFirst (items_with_count size)
counted_faults size r fault small h = counted_first size r fault (counted_fails size r fault small h)
