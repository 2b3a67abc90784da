-- The header of a load: the last zxid is in range, and the sessions rise from 1 on.
use Rattle.std.proofs.Common.{◌≡◌, ℤ, pos, ◌≤ℤ◌, ◌<ℤ◌, Bool, true, false, ◌&&◌, List, [], ◌∷◌, All, Less, int_cmp, refl, sym, arith}
use Rattle.std.specs.Prelude.{◌+ℤ◌, int_le}
use Rattle.std.specs.Cmp.{int_cmp_is}
use Rattle.std.proofs.lemmas.Int.{ints}
use Rattle.std.proofs.lemmas.List.Elements.{All-nil, All-cons}
use Rattle.kz_types.specs.declared.limits.TheConstants.{MAX_LONG}
use Rattle.kz_types.specs.Ordered.{Rises, RisesAbove}
use Rattle.kz_spec_data.specs.Loads.{rise_from, is_header}
use Rattle.kz_spec_machine.specs.Sound.{IsZxid}

pub and_parts : (a b : Bool) → (a && b) ≡ true → (a ≡ true) × (b ≡ true)
and_parts true b h = (refl, h)
and_parts false b h = absurd (cc)

pub at_most : (a b : ℤ) → int_le a b ≡ true → a ≤ℤ b
at_most a b h = grind (arith, ints)

later : (last s : ℤ) → int_le (last +ℤ pos 1) s ≡ true → last <ℤ s
later last s h = grind (arith, ints)

rise_above : (last : ℤ) (ss : List ℤ) → rise_from (last +ℤ pos 1) ss ≡ true → RisesAbove int_cmp (λ s. s) last ss
rise_above last [] h = tt
rise_above last (s ∷ ss) h =
    let parts = and_parts (int_le (last +ℤ pos 1) s) (rise_from (s +ℤ pos 1) ss) h in
    (sym (int_cmp_is last s Less (later last s parts.0)), rise_above s ss parts.1)

rise : (least : ℤ) (ss : List ℤ) → rise_from least ss ≡ true → Rises int_cmp (λ s. s) ss
rise least [] h = tt
rise least (s ∷ ss) h = rise_above s ss (and_parts (int_le least s) (rise_from (s +ℤ pos 1) ss) h).1

chain : (a b c : ℤ) → a ≤ℤ b → b ≤ℤ c → a ≤ℤ (c +ℤ pos 1)
chain a b c x y = omega (arith, ints)

all_from : (low least : ℤ) (ss : List ℤ) → low ≤ℤ least → rise_from least ss ≡ true → All (λ s. low ≤ℤ s) ss
all_from low least [] under h = All-nil (λ (s : ℤ). low ≤ℤ s)
all_from low least (s ∷ ss) under h =
    let parts = and_parts (int_le least s) (rise_from (s +ℤ pos 1) ss) h in
    let here = at_most least s parts.0 in
    All-cons (λ (s : ℤ). low ≤ℤ s) s ss (omega (arith, ints)) (all_from low (s +ℤ pos 1) ss (chain low least s under here) parts.1)

one : pos 1 ≤ℤ pos 1
one = omega (arith, ints)

-- what a header says
pub record IsHeader (zxid : ℤ) (ss : List ℤ) : Type 0 where
  pub zxid_range : IsZxid zxid
  pub live : Rises int_cmp (λ s. s) ss
  pub least : All (λ s. pos 1 ≤ℤ s) ss

pub header : (zxid : ℤ) (ss : List ℤ) → is_header zxid ss ≡ true → IsHeader zxid ss
header zxid ss h =
    let first = and_parts (int_le (pos 0) zxid && int_le zxid MAX_LONG) (rise_from (pos 1) ss) h in
    let range = and_parts (int_le (pos 0) zxid) (int_le zxid MAX_LONG) first.0 in
    record {
      zxid_range = record { least = at_most (pos 0) zxid range.0; most = at_most zxid MAX_LONG range.1 };
      live = rise (pos 1) ss first.1;
      least = all_from (pos 1) (pos 1) ss one first.1;
    }
