-- What is written spells what it was written for, where it fits.
use Rattle.std.proofs.Common.{◌≡◌, ℕ, zero, suc, ◌+◌, ◌/◌, ◌%◌, ◌^◌, ◌<◌, ◌≤◌, Bool, true, false, cond, nat_lt, ◌==◌, List, [], ◌∷◌, ◌++◌, length, Option, Some, None, option_map, refl, sym, ap, ◌∙◌, subst, append_assoc, append-nil, arith, eq-eqb, ne_eqb, lt-ltb, ltb-true, ltb-false}
use Rattle.std.specs.Prelude.{⊤}
use Rattle.std.specs.Int.{Width}
use Rattle.kz_types.specs.declared.record.ByteFault.{ByteFault}
use Rattle.kz_types.specs.declared.record.CodecFault.{CodecFault}
use Rattle.kz_spec_data.specs.Fields.{Format, format_through, front, unsigned_number, signed_number, id, uvarint, groups_of, IsGroups, items_with_count, nullable_text}
use Rattle.kz_spec_data.specs.Forms.{field, non_null, flag, nullable_ints, ◌⊗◌, list_of, Each, items_written, AllFit, Tag, AreTags, tags_written, Known, nothing, both, field_of, Content, Says, tag, section, without_tags}
use Rattle.kz_laws_values.proofs.Counted.{limit, more_groups}

-- What is written for a value that fits spells it, where the value is short.
pub record Writes {E X : Type 0} (f : Format E X) (short : X → Type 0) : Type 0 where
  pub writes : (x : X) → f.fits x → short x → f.spells x (f.written x)

-- whatever the value
abbrev pub any : {X : Type 0} → X → Type 0
any x = ⊤

-- ---- fields

pub front_writes : (n : ℕ) → Writes (front n) any
front_writes n = record { writes = λ x fits short. (fits, refl) }

pub unsigned_writes : (w : Width) → Writes (unsigned_number w) any
unsigned_writes w = record { writes = λ n fits short. (fits, refl) }

pub signed_writes : (w : Width) → Writes (signed_number w) any
signed_writes w = record { writes = λ z fits short. (fits, refl) }

pub id_writes : Writes id any
id_writes = record { writes = λ i fits short. (fits, refl) }

-- the groups of a number that takes at most so many
pub record Fewest (n most : ℕ) (bytes : List ℕ) : Type 0 where
  pub groups : IsGroups n bytes
  pub few : length bytes ≤ most + 1

one_group : (n most : ℕ) → n < 128 → Fewest n most (n ∷ [])
one_group n most low = record { groups = (low, refl); few = omega arith }

group_and_more : (more most n : ℕ) (low : Bool) → nat_lt n 128 ≡ low → (128 ≤ n → Fewest (n / 128) most (groups_of more (n / 128)))
    → Fewest n (suc most) (cond low (n ∷ []) ((128 + n % 128) ∷ groups_of more (n / 128)))
group_and_more more most n true e go = one_group n (suc most) (ltb-true n 128 e)
group_and_more more most n false e go =
    let g = go (ltb-false n 128 e) in
    record {
      groups = more_groups (128 + n % 128) (n / 128) n (groups_of more (n / 128)) (omega arith) (omega arith) (omega arith) g.groups;
      few = omega (arith, g.few);
    }

first_only : (n more : ℕ) → n < 128 → groups_of (suc more) n ≡ n ∷ []
unfolding groups_of
first_only n more lt = ap (λ b. cond b (n ∷ []) ((128 + n % 128) ∷ groups_of more (n / 128))) (lt-ltb n 128 lt)

pub groups_written : (more most n : ℕ) → most ≤ more → n < limit most 128 → Fewest n most (groups_of more n)
unfolding groups_of
groups_written zero zero n le lt = one_group n 0 lt
groups_written zero (suc most) n le lt = absurd (omega (arith, le))
groups_written (suc more) zero n le lt = subst (Fewest n 0) (sym (first_only n more lt)) (one_group n 0 lt)
groups_written (suc more) (suc most) n le lt =
    group_and_more more most n (nat_lt n 128) refl (λ high. groups_written more most (n / 128) (omega (arith, le)) (omega (arith, lt)))

pub uvarint_spells : (n : ℕ) → n < 2 ^ 32 → uvarint.spells n (uvarint.written n)
uvarint_spells n lt = let g = groups_written 9 4 n (omega arith) (omega (arith, lt)) in (g.groups, g.few, lt)

pub uvarint_writes : Writes uvarint any
uvarint_writes = record { writes = λ n fits short. uvarint_spells n fits }

counted_spells : (size : ℕ) (value : Option (List ℕ)) → (items_with_count size).fits value → (items_with_count size).spells value ((items_with_count size).written value)
counted_spells size None fits = ((omega arith, refl), omega arith, omega arith)
counted_spells size (Some items) fits = (length items / size, uvarint.written (length items / size + 1), fits.0, uvarint_spells (length items / size + 1) fits.1, refl)

pub counted_writes : (size : ℕ) → Writes (items_with_count size) any
counted_writes size = record { writes = λ value fits short. counted_spells size value fits }

pub text_writes : Writes nullable_text any
text_writes = record { writes = λ value fits short. (fits.0, counted_spells 1 value fits.1) }

pub ints_writes : Writes nullable_ints any
ints_writes = record { writes = λ value fits short. (fits.0, counted_spells 4 (option_map _ value) fits.1) }

pub field_writes : {X : Type 0} (f : Format ByteFault X) → Writes f any → Writes (field f) any
field_writes f wf = record { writes = λ x fits short. wf.writes x fits tt }

pub present_writes : {X : Type 0} (f : Format ByteFault (Option X)) → Writes f any → Writes (non_null f) any
present_writes f wf = record { writes = λ x fits short. wf.writes (Some x) fits tt }

pub flag_writes : Writes flag any
flag_writes = record { writes = λ b fits short. refl }

-- ---- forms

pub pair_writes : {E X Y : Type 0} (f : Format E X) (g : Format E Y) (short : Y → Type 0) → Writes f any → Writes g short → Writes (f ⊗ g) (λ p. short p.1)
pair_writes f g short wf wg = record { writes = λ p fits is. (f.written p.0, g.written p.1, refl, wf.writes p.0 fits.0 tt, wg.writes p.1 fits.1 is) }

pub mapped_writes : {E X Y : Type 0} (made : X → Y) (back : Y → X) (f : Format E X) (short : X → Type 0) → Writes f short → Writes (format_through made back f) (λ y. short (back y))
mapped_writes made back f short wf = record { writes = λ y fits is. wf.writes (back y) fits is }

pub items_spell : {E X : Type 0} (f : Format E X) → Writes f any → (xs : List X) → AllFit f.fits xs → Each f.spells xs (items_written f.written xs)
items_spell f wf [] fits = refl
items_spell f wf (x ∷ xs) fits = (f.written x, items_written f.written xs, refl, wf.writes x fits.0 tt, items_spell f wf xs fits.1)

pub list_writes : {X : Type 0} (f : Format CodecFault X) → Writes f any → Writes (list_of f) any
list_writes f wf = record { writes = λ xs fits short. (uvarint.written (length xs + 1), items_written f.written xs, refl, uvarint_spells (length xs + 1) fits.0, items_spell f wf xs fits.1) }

-- ---- tagged sections

-- tags whose numbers rise from the first of these numbers on and stay below the second
abbrev pub Within : ℕ → ℕ → List Tag → Type 0
Within low high [] = low ≤ high
Within low high (t ∷ ts) = (low ≤ t.number) × (t.number < high) × (length t.bytes < 2 ^ 32) × Within (t.number + 1) high ts

within_order : (low high : ℕ) (ts : List Tag) → Within low high ts → low ≤ high
within_order low high [] w = w
within_order low high (t ∷ ts) w = let h = within_order (t.number + 1) high ts w.3 in omega (arith, w.0)

within_from : (less low high : ℕ) (ts : List Tag) → less ≤ low → Within low high ts → Within less high ts
within_from less low high [] le w = omega (arith, le, w)
within_from less low high (t ∷ ts) le w = (omega (arith, le, w.0), w.1, w.2, w.3)

within_joined : (low mid high : ℕ) (ts us : List Tag) → Within low mid ts → Within mid high us → Within low high (ts ++ us)
within_joined low mid high [] us w v = within_from low mid high us w v
within_joined low mid high (t ∷ ts) us w v =
    let le = within_order mid high us v in
    (w.0, omega (arith, w.1, le), w.2, within_joined (t.number + 1) mid high ts us w.3 v)

within_count : (low high : ℕ) (ts : List Tag) → Within low high ts → low + length ts ≤ high
within_count low high [] w = omega (arith, w)
within_count low high (t ∷ ts) w = let h = within_count (t.number + 1) high ts w.3 in omega (arith, w.0, h)

tags_spell : (low high : ℕ) (ts : List Tag) → high < 2 ^ 32 → Within low high ts → AreTags low ts (tags_written ts)
tags_spell low high [] lt w = refl
tags_spell low high (t ∷ ts) lt w = (
  w.0,
  (
    uvarint.written t.number,
    uvarint.written (length t.bytes),
    tags_written ts,
    refl,
    uvarint_spells t.number (omega (arith, w.1, lt)),
    uvarint_spells (length t.bytes) w.2,
    tags_spell (t.number + 1) high ts lt w.3,
  ),
)

-- the tags that are written for a short value say that value, whatever stands before and after them
pub record WritesTags {S : Type 0} (k : Known S) (short : S → Type 0) (low high : ℕ) : Type 0 where
  pub within : (s : S) → k.fits s → short s → Within low high (k.tags s)
  pub says : (s : S) (before after : List Tag) (top : ℕ) → k.fits s → short s → Within 0 low before → Within high top after → k.says (before ++ (k.tags s ++ after)) s

pub section_writes : {S : Type 0} (k : Known S) (short : S → Type 0) (low high : ℕ) → high < 2 ^ 32 → WritesTags k short low high → Writes (section k) short
section_writes k short low high lt wk = record {
  writes = λ s fits is.
      let w = wk.within s fits is in
      let none : 0 ≤ low = omega arith in
      let count : length (k.tags s) < 2 ^ 32 = omega (arith, within_count low high (k.tags s) w, lt) in
      let end : high ≤ high = omega arith in (
        k.tags s,
        (uvarint.written (length (k.tags s)), tags_written (k.tags s), refl, uvarint_spells (length (k.tags s)) count, tags_spell 0 high (k.tags s) lt (within_from 0 low high (k.tags s) none w)),
        subst (λ ts. k.says ts s) (append-nil (k.tags s)) (wk.says s [] [] high fits is none end),
      );
}

pub nothing_writes : WritesTags nothing any 0 0
nothing_writes = record { within = λ s fits is. omega arith; says = λ s before after top fits is w v. tt }

pub closed_writes : {X : Type 0} (f : Format CodecFault X) → Writes f any → Writes (without_tags f) any
closed_writes f wf =
    mapped_writes (λ p. p.0) (λ x. (x, tt)) (f ⊗ section nothing) any (pair_writes f (section nothing) any wf (section_writes nothing any 0 0 (omega arith) nothing_writes))

pub both_writes : {S T : Type 0} (a : Known S) (b : Known T) (one : S → Type 0) (two : T → Type 0) (low mid high : ℕ)
    → WritesTags a one low mid → WritesTags b two mid high → WritesTags (both a b) (λ s. one s.0 × two s.1) low high
both_writes a b one two low mid high wa wb = record {
  within = λ s fits is. within_joined low mid high (a.tags s.0) (b.tags s.1) (wa.within s.0 fits.0 is.0) (wb.within s.1 fits.1 is.1);
  says = λ s before after top fits is w v.
      let first = wa.within s.0 fits.0 is.0 in
      let second = wb.within s.1 fits.1 is.1 in (
        subst (λ ts. a.says (before ++ ts) s.0) (sym (append_assoc (a.tags s.0) (b.tags s.1) after))
            (wa.says s.0 before (b.tags s.1 ++ after) top fits.0 is.0 w (within_joined mid high top (b.tags s.1) after second v)),
        subst (λ ts. b.says ts s.1) (append_assoc before (a.tags s.0) (b.tags s.1 ++ after) ∙ ap (λ ts. before ++ ts) (sym (append_assoc (a.tags s.0) (b.tags s.1) after)))
            (wb.says s.1 (before ++ a.tags s.0) after top fits.1 is.1 (within_joined 0 low mid before (a.tags s.0) w first) v),
      );
}

-- ---- one tag

not_before : (number low : ℕ) (ts rest : List Tag) (least : ℕ) → Within least low ts → low ≤ number → field_of number (ts ++ rest) ≡ field_of number rest
not_before number low [] rest least w le = refl
not_before number low (t ∷ ts) rest least w le =
    let apart : (t.number == number) ≡ false = ne_eqb t.number number (λ e. omega (arith, w.1, le, e)) in
    ap (λ b. cond b (Some t.bytes) (field_of number (ts ++ rest))) apart ∙ not_before number low ts rest (t.number + 1) w.3 le

not_later : (number high top : ℕ) (ts : List Tag) → number < high → Within high top ts → field_of number ts ≡ None
not_later number high top [] lt w = refl
not_later number high top (t ∷ ts) lt w =
    let apart : (t.number == number) ≡ false = ne_eqb t.number number (λ e. omega (arith, lt, w.0, e)) in
    ap (λ b. cond b (Some t.bytes) (field_of number ts)) apart ∙ not_later number (t.number + 1) top ts (omega (arith, lt, w.0)) w.3

abbrev tag_written : {X : Type 0} → ℕ → Content X → X → Bool → List Tag
tag_written number c x left_out = cond left_out [] (record { number = number; bytes = c.format.written x } ∷ [])

tag_within : {X : Type 0} (number : ℕ) (c : Content X) (x : X) (left_out : Bool) → length (c.format.written x) < 2 ^ 32 → Within number (number + 1) (tag_written number c x left_out)
tag_within number c x true lt = omega arith
tag_within number c x false lt = (omega arith, omega arith, lt, omega arith)

tag_says : {X : Type 0} (number : ℕ) (default : X) (c : Content X) (x : X) (left_out : Bool) (after : List Tag) (top : ℕ)
    → (left_out ≡ true → x ≡ default) → c.good x → c.format.spells x (c.format.written x) → Within (number + 1) top after
    → Says c default x (field_of number (tag_written number c x left_out ++ after))
tag_says number default c x true after top same good spelled v =
    subst (Says c default x) (sym (not_later number (number + 1) top after (omega arith) v)) (same refl)
tag_says number default c x false after top same good spelled v =
    subst (Says c default x) (sym (ap (λ b. cond b (Some (c.format.written x)) (field_of number after)) (eq-eqb number number refl))) (good, spelled)

pub tag_writes : {X : Type 0} (number : ℕ) (default : X) (is_default : X → Bool) (c : Content X) (short : X → Type 0)
    → ((x : X) → is_default x ≡ true → x ≡ default)
    → ((x : X) → c.format.fits x → c.format.spells x (c.format.written x))
    → ((x : X) → short x → length (c.format.written x) < 2 ^ 32)
    → WritesTags (tag number default is_default c) short number (number + 1)
tag_writes number default is_default c short same spelled bound = record {
  within = λ x fits is. tag_within number c x (is_default x) (bound x is);
  says = λ x before after top fits is w v.
      subst (Says c default x) (sym (not_before number number before (tag_written number c x (is_default x) ++ after) 0 w (omega arith)))
      (tag_says number default c x (is_default x) after top (same x) fits.0 (spelled x fits.1) v);
}
