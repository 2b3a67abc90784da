-- Tagged sections.
use Rattle.std.proofs.Common.{◌≡◌, ℕ, zero, suc, ◌+◌, ◌≤◌, cond, nat_lt, List, [], ◌∷◌, ◌++◌, length, Result, Ok, Err, refl, sym, ap, ◌∙◌, subst, append_assoc, add-zero, le-ltb, ltb-false}
use Rattle.std.specs.Prelude.{⊤}
use Rattle.kz_types.specs.declared.record.CodecFault.{CodecFault}
use Rattle.kz_types.specs.declared.record.CodecFault.TheVariants.{BadField}
use Rattle.kz_spec_data.specs.Fields.{Reading, Format, ◌>>=◌, uvarint, front}
use Rattle.kz_spec_data.specs.Forms.{with_field_fault, ◌⊗◌, Tag, AreTags, Known, nothing, tag_at, tags_at, section, without_tags}
use Rattle.kz_laws_values.proofs.Exact.{AreSmall, came, ok_same, Takes, taken_then, Comes, Exact, small_front, small_rest, small_after, mapped_exact, pair_exact}
use Rattle.kz_laws_values.proofs.Basics.{passed_false, cond_false, lifted_same, front_takes, front_exact}
use Rattle.kz_laws_values.proofs.Counted.{uvarint_exact}

-- ---- a tag

abbrev tag_fields : ℕ → ℕ → ℕ × Reading → Result ((ℕ × Reading) × Reading) CodecFault
tag_fields least at number =
    cond (nat_lt number.0 least) (Err (BadField at))
    (with_field_fault (uvarint.read number.1) >>= λ size. with_field_fault ((front size.0).read size.1) >>= λ content. Ok ((number.0, record { at = size.1.at; left = content.0 }), content.1))

abbrev tag_content : ℕ → ℕ × Reading → Result ((ℕ × Reading) × Reading) CodecFault
tag_content number size = with_field_fault ((front size.0).read size.1) >>= λ content. Ok ((number, record { at = size.1.at; left = content.0 }), content.1)

content_takes : (n : ℕ) (field size rest : List ℕ) (at : ℕ) → uvarint.spells (length field) size
    → Takes (λ r. with_field_fault (uvarint.read r) >>= tag_content n) (n, record { at = at + length size; left = field }) (size ++ field) rest at
content_takes n field size rest at s =
    taken_then (λ r. with_field_fault (uvarint.read r)) (tag_content n) (length field) (n, record { at = at + length size; left = field }) size field rest at
    (ap with_field_fault (uvarint_exact.taken (length field) size (field ++ rest) at s))
    (ap (λ m. with_field_fault m >>= λ content. Ok ((n, record { at = at + length size; left = content.0 }), content.1)) (front_takes (length field) field rest (at + length size) refl))

tag_takes : (least n : ℕ) (field number size rest : List ℕ) (at : ℕ) → least ≤ n → uvarint.spells n number → uvarint.spells (length field) size
    → Takes (tag_at least) (n, record { at = (at + length number) + length size; left = field }) (number ++ (size ++ field)) rest at
tag_takes least n field number size rest at le spelled sized =
    taken_then (λ r. with_field_fault (uvarint.read r)) (tag_fields least at) n (n, record { at = (at + length number) + length size; left = field }) number (size ++ field) rest at
    (ap with_field_fault (uvarint_exact.taken n number ((size ++ field) ++ rest) at spelled))
    (cond_false (nat_lt n least) _ _ (le-ltb n least le) ∙ content_takes n field size rest (at + length number) sized)

-- a tag that was read
record OneTag (least n : ℕ) (field left rest : List ℕ) : Type 0 where
  number : List ℕ
  size : List ℕ
  split : left ≡ (number ++ (size ++ field)) ++ rest
  least_is : least ≤ n
  spelled : uvarint.spells n number
  sized : uvarint.spells (length field) size

-- the field of a tag that was read
record OneField (field left rest : List ℕ) : Type 0 where
  size : List ℕ
  split : left ≡ (size ++ field) ++ rest
  sized : uvarint.spells (length field) size

abbrev tag_read : ℕ → Reading → Reading → (ℕ × Reading) × Reading
tag_read n field next = ((n, field), next)

content_given : (n : ℕ) (r : Reading) (t : (ℕ × Reading) × Reading) → AreSmall r.left
    → with_field_fault (uvarint.read r) >>= tag_content n ≡ Ok t → (t.0.0 ≡ n) × OneField t.0.1.left r.left t.1.left
content_given n r t small h =
    let c = came (with_field_fault (uvarint.read r)) (tag_content n) t h in
    let one = uvarint_exact.given c.value.0 r c.value.1 small (lifted_same (uvarint.read r) c.value c.first) in
    let d = came (with_field_fault ((front c.value.0).read c.value.1)) (λ content. Ok ((n, record { at = c.value.1.at; left = content.0 }), content.1)) t c.second in
    let two = (front_exact c.value.0).given d.value.0 c.value.1 d.value.1 (small_after uvarint c.value.0 r.left c.value.1.left one small) (lifted_same ((front c.value.0).read c.value.1) d.value d.first) in
    subst (λ q. (q.0.0 ≡ n) × OneField q.0.1.left r.left q.1.left) (ok_same (tag_read n (record { at = c.value.1.at; left = d.value.0 }) d.value.1) t d.second) (
      refl,
      record {
        size = one.bytes;
        split = one.split ∙ ap (λ b. one.bytes ++ b) (two.split ∙ ap (λ b. b ++ d.value.1.left) two.spelled.1) ∙ sym (append_assoc one.bytes d.value.0 d.value.1.left);
        sized = subst (λ k. uvarint.spells k one.bytes) (sym two.spelled.0) one.spelled;
      },
    )

tag_given : (least : ℕ) (r : Reading) (t : (ℕ × Reading) × Reading) → AreSmall r.left → tag_at least r ≡ Ok t → OneTag least t.0.0 t.0.1.left r.left t.1.left
tag_given least r t small h =
    let c = came (with_field_fault (uvarint.read r)) (tag_fields least r.at) t h in
    let one = uvarint_exact.given c.value.0 r c.value.1 small (lifted_same (uvarint.read r) c.value c.first) in
    let d = passed_false (nat_lt c.value.0 least) (BadField r.at) (with_field_fault (uvarint.read c.value.1) >>= tag_content c.value.0) t c.second in
    let two = content_given c.value.0 c.value.1 t (small_after uvarint c.value.0 r.left c.value.1.left one small) d.1 in
    record {
      number = one.bytes;
      size = two.1.size;
      split = one.split ∙ ap (λ b. one.bytes ++ b) two.1.split ∙ sym (append_assoc one.bytes (two.1.size ++ t.0.1.left) t.1.left);
      least_is = subst (λ k. least ≤ k) (sym two.0) (ltb-false c.value.0 least d.0);
      spelled = subst (λ k. uvarint.spells k one.bytes) (sym two.0) one.spelled;
      sized = two.1.sized;
    }

-- ---- what tags make of a value

-- these tags, one after another, make of a value this one
abbrev pub Steps : {S : Type 0} → (ℕ → List ℕ → S → S → Type 0) → List Tag → S → S → Type 0
Steps step [] s end = s ≡ end
Steps {S = S} step (t ∷ ts) s end = (mid : S) × step t.number t.bytes s mid × Steps step ts mid end

abbrev pub Rising : ℕ → List Tag → Type 0
Rising least [] = ⊤
Rising least (t ∷ ts) = (least ≤ t.number) × Rising (t.number + 1) ts

rising_tags : (least : ℕ) (ts : List Tag) (text : List ℕ) → AreTags least ts text → Rising least ts
rising_tags least [] text a = tt
rising_tags least (t ∷ ts) text a = (a.0, rising_tags (t.number + 1) ts a.1.2 a.1.6)

-- what is known of tags is read as it is said
pub record ExactTags {S : Type 0} (k : Known S) (step : ℕ → List ℕ → S → S → Type 0) : Type 0 where
  pub takes : (number place at : ℕ) (bytes : List ℕ) (s next : S) → step number bytes s next → k.take number place (record { at = at; left = bytes }) s ≡ Ok next
  pub gives : (number place at : ℕ) (bytes : List ℕ) (s next : S) → AreSmall bytes → k.take number place (record { at = at; left = bytes }) s ≡ Ok next → step number bytes s next
  pub said : (ts : List Tag) (s : S) → Rising 0 ts → Steps step ts k.default s → k.says ts s
  pub stepped : (ts : List Tag) (s : S) → Rising 0 ts → k.says ts s → Steps step ts k.default s

tags_none : {S : Type 0} (k : Known S) (least : ℕ) (s end : S) (rest : List ℕ) (at : ℕ) → s ≡ end → Takes (tags_at k.take 0 least s) end [] rest at
unfolding tags_at
tags_none k least s end rest at e = ap (λ z. Ok (z, record { at = at; left = rest })) e ∙ ap (λ n. Ok (end, record { at = n; left = rest })) (sym (add-zero at))

tags_taken : {S : Type 0} (k : Known S) (step : ℕ → List ℕ → S → S → Type 0) → ExactTags k step
    → (ts : List Tag) (least : ℕ) (s end : S) (body rest : List ℕ) (at : ℕ) → AreTags least ts body → Steps step ts s end → Takes (tags_at k.take (length ts) least s) end body rest at
unfolding tags_at
tags_taken k step ek [] least s end body rest at a steps =
    subst (λ b. Takes (tags_at k.take 0 least s) end b rest at) (sym a) (tags_none k least s end rest at steps)
tags_taken k step ek (t ∷ ts) least s end body rest at a steps =
    let number = a.1.0 in
    let size = a.1.1 in
    let more = a.1.2 in
    let whole : body ≡ (a.1.0 ++ (a.1.1 ++ t.bytes)) ++ a.1.2 =
    a.1.3 ∙ sym (append_assoc a.1.0 (a.1.1 ++ t.bytes) a.1.2 ∙ ap (λ b. a.1.0 ++ b) (append_assoc a.1.1 t.bytes a.1.2)) in
    subst (λ b. Takes (tags_at k.take (suc (length ts)) least s) end b rest at) (sym whole)
    (taken_then (tag_at least) (λ x. k.take x.0.0 at x.0.1 s >>= λ next. tags_at k.take (length ts) (x.0.0 + 1) next x.1)
    (t.number, record { at = (at + length a.1.0) + length a.1.1; left = t.bytes }) end (a.1.0 ++ (a.1.1 ++ t.bytes)) a.1.2 rest at
    (tag_takes least t.number t.bytes a.1.0 a.1.1 (a.1.2 ++ rest) at a.0 a.1.4 a.1.5)
    (ap (λ m. m >>= λ next. tags_at k.take (length ts) (t.number + 1) next (record { at = at + length (a.1.0 ++ (a.1.1 ++ t.bytes)); left = a.1.2 ++ rest })) (ek.takes t.number at ((at + length a.1.0) + length a.1.1) t.bytes s steps.0 steps.1)
    ∙ tags_taken k step ek ts (t.number + 1) steps.0 end a.1.2 rest (at + length (a.1.0 ++ (a.1.1 ++ t.bytes))) a.1.6 steps.2))

-- tags that were read
record Tags {S : Type 0} (step : ℕ → List ℕ → S → S → Type 0) (n least : ℕ) (s end : S) (left rest : List ℕ) : Type 0 where
  tags : List Tag
  bytes : List ℕ
  split : left ≡ bytes ++ rest
  count : length tags ≡ n
  are : AreTags least tags bytes
  steps : Steps step tags s end

tags_given : {S : Type 0} (k : Known S) (step : ℕ → List ℕ → S → S → Type 0) → ExactTags k step
    → (n least : ℕ) (s end : S) (r next : Reading) → AreSmall r.left → tags_at k.take n least s r ≡ Ok (end, next) → Tags step n least s end r.left next.left
unfolding tags_at
tags_given k step ek zero least s end r next small h =
    subst (λ q. Tags step 0 least s q.0 r.left q.1.left) (ok_same (s, r) (end, next) h) (record { tags = []; bytes = []; split = refl; count = refl; are = refl; steps = refl })
tags_given k step ek (suc n) least s end r next small h =
    let c = came (tag_at least r) (λ x. k.take x.0.0 r.at x.0.1 s >>= λ mid. tags_at k.take n (x.0.0 + 1) mid x.1) (end, next) h in
    let t = tag_given least r c.value small c.first in
    let d = came (k.take c.value.0.0 r.at c.value.0.1 s) (λ mid. tags_at k.take n (c.value.0.0 + 1) mid c.value.1) (end, next) c.second in
    let cut : AreSmall ((t.number ++ (t.size ++ c.value.0.1.left)) ++ c.value.1.left) = subst AreSmall t.split small in
    let field : AreSmall c.value.0.1.left = small_rest t.size c.value.0.1.left (small_rest t.number (t.size ++ c.value.0.1.left) (small_front (t.number ++ (t.size ++ c.value.0.1.left)) c.value.1.left cut)) in
    let more = tags_given k step ek n (c.value.0.0 + 1) d.value end c.value.1 next (small_rest (t.number ++ (t.size ++ c.value.0.1.left)) c.value.1.left cut) d.second in
    let place : (t.number ++ (t.size ++ c.value.0.1.left)) ++ more.bytes ≡ t.number ++ (t.size ++ (c.value.0.1.left ++ more.bytes)) =
    append_assoc t.number (t.size ++ c.value.0.1.left) more.bytes ∙ ap (λ b. t.number ++ b) (append_assoc t.size c.value.0.1.left more.bytes) in
    record {
      tags = record { number = c.value.0.0; bytes = c.value.0.1.left } ∷ more.tags;
      bytes = (t.number ++ (t.size ++ c.value.0.1.left)) ++ more.bytes;
      split = t.split ∙ ap (λ b. (t.number ++ (t.size ++ c.value.0.1.left)) ++ b) more.split ∙ sym (append_assoc (t.number ++ (t.size ++ c.value.0.1.left)) more.bytes next.left);
      count = ap suc more.count;
      are = (t.least_is, (t.number, t.size, more.bytes, place, t.spelled, t.sized, more.are));
      steps = (d.value, ek.gives c.value.0.0 r.at c.value.0.1.at c.value.0.1.left s d.value field d.first, more.steps);
    }

section_taken : {S : Type 0} (k : Known S) (step : ℕ → List ℕ → S → S → Type 0) → ExactTags k step
    → (s : S) (bytes rest : List ℕ) (at : ℕ) → (section k).spells s bytes → Takes (section k).read s bytes rest at
section_taken k step ek s bytes rest at said =
    let is = said.1 in
    subst (λ b. Takes (section k).read s b rest at) (sym said.1.2)
    (taken_then (λ r. with_field_fault (uvarint.read r)) (λ count. tags_at k.take count.0 0 k.default count.1) (length said.0) s said.1.0 said.1.1 rest at
    (ap with_field_fault (uvarint_exact.taken (length said.0) said.1.0 (said.1.1 ++ rest) at said.1.3))
    (tags_taken k step ek said.0 0 k.default s said.1.1 rest (at + length said.1.0) said.1.4 (ek.stepped said.0 s (rising_tags 0 said.0 said.1.1 said.1.4) said.2)))

section_given : {S : Type 0} (k : Known S) (step : ℕ → List ℕ → S → S → Type 0) → ExactTags k step
    → (s : S) (r next : Reading) → AreSmall r.left → (section k).read r ≡ Ok (s, next) → Comes (section k) s r.left next.left
section_given k step ek s r next small h =
    let c = came (with_field_fault (uvarint.read r)) (λ count. tags_at k.take count.0 0 k.default count.1) (s, next) h in
    let one = uvarint_exact.given c.value.0 r c.value.1 small (lifted_same (uvarint.read r) c.value c.first) in
    let more = tags_given k step ek c.value.0 0 k.default s c.value.1 next (small_after uvarint c.value.0 r.left c.value.1.left one small) c.second in
    record {
      bytes = one.bytes ++ more.bytes;
      split = one.split ∙ ap (λ b. one.bytes ++ b) more.split ∙ sym (append_assoc one.bytes more.bytes next.left);
      spelled = (
        more.tags,
        (one.bytes, more.bytes, refl, subst (λ n. uvarint.spells n one.bytes) (sym more.count) one.spelled, more.are),
        ek.said more.tags s (rising_tags 0 more.tags more.bytes more.are) more.steps,
      );
    }

pub section_exact : {S : Type 0} (k : Known S) (step : ℕ → List ℕ → S → S → Type 0) → ExactTags k step → Exact (section k)
section_exact k step ek = record { taken = section_taken k step ek; given = section_given k step ek }

-- ---- no tag is known

abbrev pub step_of_nothing : ℕ → List ℕ → Unit {0} → Unit {0} → Type 0
step_of_nothing number bytes s next = ⊤

steps_of_nothing : (ts : List Tag) (s : Unit {0}) → Steps step_of_nothing ts tt s
steps_of_nothing [] s = refl
steps_of_nothing (t ∷ ts) s = (tt, tt, steps_of_nothing ts s)

pub nothing_exact : ExactTags nothing step_of_nothing
nothing_exact = record {
  takes = λ number place at bytes s next step. refl;
  gives = λ number place at bytes s next small h. tt;
  said = λ ts s rising steps. tt;
  stepped = λ ts s rising says. steps_of_nothing ts s;
}

pub closed_exact : {X : Type 0} (f : Format CodecFault X) → Exact f → Exact (without_tags f)
closed_exact f ef =
    mapped_exact (λ p. p.0) (λ x. (x, tt)) (f ⊗ section nothing) (record { there = λ x. refl; again = λ y. refl }) (pair_exact f (section nothing) ef (section_exact nothing step_of_nothing nothing_exact))
