-- What is written in the forms of records has at most as many bytes as any spelling of it.
use Rattle.std.proofs.Common.{◌≡◌, ℕ, ◌+◌, ◌<◌, ◌≤◌, Bool, true, false, cond, ◌==◌, List, [], ◌∷◌, ◌++◌, length, Option, Some, None, refl, sym, ap, ◌∙◌, length-append, arith, eqb-true, ne_eqb}
use Rattle.std.specs.Prelude.{⊤}
use Rattle.kz_types.specs.declared.record.CodecFault.{CodecFault}
use Rattle.kz_spec_data.specs.Fields.{Format, format_through, uvarint}
use Rattle.kz_spec_data.specs.Forms.{◌⊗◌, list_of, Each, items_written, Tag, AreTags, tags_written, Known, nothing, both, field_of, Content, Says, tag, section, without_tags}
use Rattle.kz_laws_values.specs.Lengths.{IsShortest}
use Rattle.kz_laws_values.proofs.Fields.{joined, uvarint_below}

-- ---- one after another

pub pair_shortest : {E X Y : Type 0} (f : Format E X) (g : Format E Y) → IsShortest f → IsShortest g → IsShortest (f ⊗ g)
pair_shortest f g sf sg = record { least = λ p bytes s. joined (f.written p.0) (g.written p.1) s.0 s.1 bytes (sf.least p.0 s.0 s.3) (sg.least p.1 s.1 s.4) s.2 }

pub mapped_shortest : {E X Y : Type 0} (made : X → Y) (back : Y → X) (f : Format E X) → IsShortest f → IsShortest (format_through made back f)
mapped_shortest made back f sf = record { least = λ y bytes s. sf.least (back y) bytes s }

-- ---- lists

items_least : {E X : Type 0} (f : Format E X) → IsShortest f → (xs : List X) (bytes : List ℕ) → Each f.spells xs bytes → length (items_written f.written xs) ≤ length bytes
items_least f sf [] bytes s = omega arith
items_least f sf (x ∷ xs) bytes s = joined (f.written x) (items_written f.written xs) s.0 s.1 bytes (sf.least x s.0 s.3) (items_least f sf xs s.1 s.4) s.2

pub list_shortest : {X : Type 0} (f : Format CodecFault X) → IsShortest f → IsShortest (list_of f)
list_shortest f sf = record {
  least = λ xs bytes s. joined (uvarint.written (length xs + 1)) (items_written f.written xs) s.0 s.1 bytes (uvarint_below (length xs + 1) (length xs + 1) s.0 (omega arith) s.3) (items_least f sf xs s.1 s.4) s.2;
}

-- ---- tags

-- tags whose numbers rise from the first of these numbers on and stay below the second
abbrev pub Rise : ℕ → ℕ → List Tag → Type 0
Rise low high [] = low ≤ high
Rise low high (t ∷ ts) = (low ≤ t.number) × (t.number < high) × Rise (t.number + 1) high ts

rise_from : (less low high : ℕ) (ts : List Tag) → less ≤ low → Rise low high ts → Rise less high ts
rise_from less low high [] le r = omega (arith, le, r)
rise_from less low high (t ∷ ts) le r = (omega (arith, le, r.0), r.1, r.2)

rise_order : (low high : ℕ) (ts : List Tag) → Rise low high ts → low ≤ high
rise_order low high [] r = r
rise_order low high (t ∷ ts) r = let h = rise_order (t.number + 1) high ts r.2 in let le = r.0 in omega (arith, le, h)

rise_joined : (low mid high : ℕ) (ts us : List Tag) → Rise low mid ts → Rise mid high us → Rise low high (ts ++ us)
rise_joined low mid high [] us r s = rise_from low mid high us r s
rise_joined low mid high (t ∷ ts) us r s =
    let le = rise_order mid high us s in
    let less = r.1 in
    (r.0, omega (arith, less, le), rise_joined (t.number + 1) mid high ts us r.2 s)

-- a tag that is there, with a field that has at most as many bytes as this one's, or more
pub record Stands (t : Tag) (ts : List Tag) : Type 0 where
  pub bytes : List ℕ
  pub found : field_of t.number ts ≡ Some bytes
  pub many : length t.bytes ≤ length bytes

-- the same of each of these tags
abbrev pub Stand : List Tag → List Tag → Type 0
Stand [] ts = ⊤
Stand (u ∷ us) ts = Stands u ts × Stand us ts

stand_joined : (us vs ts : List Tag) → Stand us ts → Stand vs ts → Stand (us ++ vs) ts
stand_joined [] vs ts s v = v
stand_joined (u ∷ us) vs ts s v = (s.0, stand_joined us vs ts s.1 v)

passed_over : (b : Bool) (x : List ℕ) (o : Option (List ℕ)) (bytes : List ℕ) → b ≡ false → cond b (Some x) o ≡ Some bytes → o ≡ Some bytes
passed_over true x o bytes e h = absurd (cc)
passed_over false x o bytes e h = h

-- tags after the first, of other numbers
stand_later : (low high : ℕ) (us : List Tag) (t : Tag) (ts : List Tag) → t.number < low → Rise low high us → Stand us (t ∷ ts) → Stand us ts
stand_later low high [] t ts less r s = tt
stand_later low high (u ∷ us) t ts less r s =
    let le = r.0 in
    let apart : (t.number == u.number) ≡ false = ne_eqb t.number u.number (λ e. omega (arith, less, le, e)) in (
      record { bytes = s.0.bytes; found = passed_over (t.number == u.number) t.bytes (field_of u.number ts) s.0.bytes apart s.0.found; many = s.0.many },
      stand_later (u.number + 1) high us t ts (omega (arith, less, le)) r.2 s.1,
    )

first_or_later : (least : ℕ) (t : Tag) (later : Option (List ℕ)) (number : ℕ) (bytes : List ℕ) (is : Bool) → (t.number == number) ≡ is → least ≤ t.number
    → cond is (Some t.bytes) later ≡ Some bytes → (later ≡ Some bytes → t.number + 1 ≤ number) → least ≤ number
first_or_later least t later number bytes true e le h go = let same = eqb-true t.number number e in omega (arith, le, same)
first_or_later least t later number bytes false e le h go = let more = go h in omega (arith, le, more)

-- among tags whose numbers rise no lower number stands
stands_from : (least : ℕ) (ts : List Tag) (text : List ℕ) (number : ℕ) (bytes : List ℕ) → AreTags least ts text → field_of number ts ≡ Some bytes → least ≤ number
stands_from least [] text number bytes a h = absurd (cc)
stands_from least (t ∷ ts) text number bytes a h =
    first_or_later least t (field_of number ts) number bytes (t.number == number) refl a.0 h (λ later. stands_from (t.number + 1) ts a.1.2 number bytes a.1.6 later)

-- These tags are no more than those, and are written in no more bytes than this text has.
abbrev AreFewer : List Tag → List Tag → List ℕ → Type 0
AreFewer us ts text = (length us ≤ length ts) × (length (tags_written us) ≤ length text)

same_number : (least : ℕ) (u t : Tag) (us ts : List Tag) (text : List ℕ) (a : AreTags least (t ∷ ts) text) → t.number ≡ u.number → length u.bytes ≤ length t.bytes
    → AreFewer us ts a.1.2 → AreFewer (u ∷ us) (t ∷ ts) text
same_number least u t us ts text a same many fewer =
    let count = fewer.0 in (
      omega (arith, count),
      joined (uvarint.written u.number) (uvarint.written (length u.bytes) ++ (u.bytes ++ tags_written us)) a.1.0 (a.1.1 ++ (t.bytes ++ a.1.2)) text
          (uvarint_below u.number t.number a.1.0 (omega (arith, same)) a.1.4)
          (joined (uvarint.written (length u.bytes)) (u.bytes ++ tags_written us) a.1.1 (t.bytes ++ a.1.2) (a.1.1 ++ (t.bytes ++ a.1.2))
          (uvarint_below (length u.bytes) (length t.bytes) a.1.1 many a.1.5)
          (joined u.bytes (tags_written us) t.bytes a.1.2 (t.bytes ++ a.1.2) many fewer.1 refl)
          refl)
          a.1.3,
    )

other_number : (least : ℕ) (us ts : List Tag) (t : Tag) (text : List ℕ) (a : AreTags least (t ∷ ts) text) → AreFewer us ts a.1.2 → AreFewer us (t ∷ ts) text
other_number least us ts t text a fewer =
    let count = fewer.0 in let size = fewer.1 in
    let whole = ap length a.1.3 ∙ length-append a.1.0 (a.1.1 ++ (t.bytes ++ a.1.2)) in
    let more = length-append a.1.1 (t.bytes ++ a.1.2) in
    let rest = length-append t.bytes a.1.2 in
    (omega (arith, count), omega (arith, size, whole, more, rest))

some_same : {A : Type 0} (x y : A) → ◌≡◌ {A = Option A} (Some x) (Some y) → x ≡ y
some_same x y h = cc

found_first : (is : Bool) (x bytes : List ℕ) (later : Option (List ℕ)) → is ≡ true → cond is (Some x) later ≡ Some bytes → x ≡ bytes
found_first true x bytes later e h = some_same x bytes h
found_first false x bytes later e h = absurd (cc)

by_number : (least high : ℕ) (u t : Tag) (us ts : List Tag) (text : List ℕ) (a : AreTags least (t ∷ ts) text) → (r : Rise u.number high (u ∷ us)) → Stand (u ∷ us) (t ∷ ts)
    → (is : Bool) → (t.number == u.number) ≡ is → (Stand us ts → AreFewer us ts a.1.2) → (Stand (u ∷ us) ts → AreFewer (u ∷ us) ts a.1.2) → AreFewer (u ∷ us) (t ∷ ts) text
by_number least high u t us ts text a r s true e here later =
    let same = eqb-true t.number u.number e in
    let bytes = ap length (found_first (t.number == u.number) t.bytes s.0.bytes (field_of u.number ts) e s.0.found) in
    let many = s.0.many in
    same_number least u t us ts text a same (omega (arith, bytes, many)) (here (stand_later (u.number + 1) high us t ts (omega (arith, same)) r.2 s.1))
by_number least high u t us ts text a r s false e here later =
    let more = stands_from (t.number + 1) ts a.1.2 u.number s.0.bytes a.1.6 (passed_over (t.number == u.number) t.bytes (field_of u.number ts) s.0.bytes e s.0.found) in
    other_number least (u ∷ us) ts t text a (later (stand_later u.number high (u ∷ us) t ts (omega (arith, more)) r s))

none_found : (u : Tag) → Stands u [] → ⊥
none_found u s = let found = s.found in cc

are_fewer : (least low high : ℕ) (us ts : List Tag) (text : List ℕ) → AreTags least ts text → Rise low high us → Stand us ts → AreFewer us ts text
are_fewer least low high [] ts text a r s = (omega arith, omega arith)
are_fewer least low high (u ∷ us) [] text a r s = absurd (none_found u s.0)
are_fewer least low high (u ∷ us) (t ∷ ts) text a r s =
    let rise : Rise u.number high (u ∷ us) = (omega arith, r.1, r.2) in
    by_number least high u t us ts text a rise s (t.number == u.number) refl
    (λ stand. are_fewer (t.number + 1) (u.number + 1) high us ts a.1.2 a.1.6 r.2 stand)
    (λ stand. are_fewer (t.number + 1) u.number high (u ∷ us) ts a.1.2 a.1.6 rise stand)

-- ---- tagged sections

-- The tags that are written for a value stand in each section that says it.
pub record ShortestTags {S : Type 0} (k : Known S) (low high : ℕ) : Type 0 where
  pub rise : (s : S) → Rise low high (k.tags s)
  pub stand : (s : S) (ts : List Tag) → k.says ts s → Stand (k.tags s) ts

pub section_shortest : {S : Type 0} (k : Known S) (low high : ℕ) → ShortestTags k low high → IsShortest (section k)
section_shortest k low high sk = record {
  least = λ s bytes is.
      let fewer = are_fewer 0 low high (k.tags s) is.0 is.1.1 is.1.4 (sk.rise s) (sk.stand s is.0 is.2) in
      joined (uvarint.written (length (k.tags s))) (tags_written (k.tags s)) is.1.0 is.1.1 bytes (uvarint_below (length (k.tags s)) (length is.0) is.1.0 fewer.0 is.1.3) fewer.1 is.1.2;
}

pub nothing_shortest : ShortestTags nothing 0 0
nothing_shortest = record { rise = λ s. omega arith; stand = λ s ts is. tt }

pub closed_shortest : {X : Type 0} (f : Format CodecFault X) → IsShortest f → IsShortest (without_tags f)
closed_shortest f sf = mapped_shortest (λ p. p.0) (λ x. (x, tt)) (f ⊗ section nothing) (pair_shortest f (section nothing) sf (section_shortest nothing 0 0 nothing_shortest))

pub both_shortest : {S T : Type 0} (a : Known S) (b : Known T) (low mid high : ℕ) → ShortestTags a low mid → ShortestTags b mid high → ShortestTags (both a b) low high
both_shortest a b low mid high sa sb = record {
  rise = λ s. rise_joined low mid high (a.tags s.0) (b.tags s.1) (sa.rise s.0) (sb.rise s.1);
  stand = λ s ts is. stand_joined (a.tags s.0) (b.tags s.1) ts (sa.stand s.0 ts is.0) (sb.stand s.1 ts is.1);
}

-- ---- one tag

abbrev tag_written : {X : Type 0} → ℕ → Content X → X → Bool → List Tag
tag_written number c x left_out = cond left_out [] (record { number = number; bytes = c.format.written x } ∷ [])

tag_rises : {X : Type 0} (number : ℕ) (c : Content X) (x : X) (left_out : Bool) → Rise number (number + 1) (tag_written number c x left_out)
tag_rises number c x true = omega arith
tag_rises number c x false = (omega arith, omega arith, omega arith)

is_left_out : (b : Bool) → false ≡ b → b ≡ true → ⊥
is_left_out true e f = cc
is_left_out false e f = cc

tag_stands : {X : Type 0} (number : ℕ) (default : X) (is_default : X → Bool) (c : Content X) → IsShortest c.format → is_default default ≡ true
    → (x : X) (ts : List Tag) (left_out : Bool) (field : Option (List ℕ)) → is_default x ≡ left_out → field_of number ts ≡ field → Says c default x field → Stand (tag_written number c x left_out) ts
tag_stands number default is_default c sc known x ts true field e found s = tt
tag_stands number default is_default c sc known x ts false None e found s = absurd (is_left_out (is_default x) (sym e) (ap is_default s ∙ known))
tag_stands number default is_default c sc known x ts false (Some bytes) e found s = (record { bytes = bytes; found = found; many = sc.least x bytes s.1 }, tt)

pub tag_shortest : {X : Type 0} (number : ℕ) (default : X) (is_default : X → Bool) (c : Content X) → IsShortest c.format → is_default default ≡ true
    → ShortestTags (tag number default is_default c) number (number + 1)
tag_shortest number default is_default c sc known = record {
  rise = λ x. tag_rises number c x (is_default x);
  stand = λ x ts s. tag_stands number default is_default c sc known x ts (is_default x) (field_of number ts) refl refl s;
}
