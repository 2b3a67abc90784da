-- Which metadata passes no limit.
use Rattle.std.proofs.Common.{◌≡◌, ℕ, ◌+◌, ◌≤◌, nat_lt, ℤ, Bool, true, false, if◌then◌else◌, cond, List, [], ◌∷◌, length, map, Option, Some, None, All, refl, sym, ap, ◌∙◌, subst, arith}
use Rattle.std.specs.Prelude.{codes}
use Rattle.std.specs.List.{find, sum_by}
use Rattle.std.proofs.lemmas.Bool.Decides.{nat_tests}
use Rattle.std.proofs.lemmas.List.Sums.{sum_by-append}
use Rattle.kz_types.specs.declared.limits.Limit.TheVariants as limits
use Rattle.kz_types.specs.Limits.{number_of_limit}
use Rattle.kz_types.specs.declared.image.TopicEntry.{TopicEntry}
use Rattle.kz_types.specs.declared.limits.TheConstants.{MAX_BODIES_BYTES, MAX_BODY_BYTES, MAX_EPOCH, MAX_ZNODES}
use Rattle.kz_types.specs.declared.tree.Rendered.{Rendered}
use Rattle.kz_types.specs.declared.log.Entry.{Entry}
use Rattle.kz_types.specs.declared.record.RegisterBrokerRecord.{RegisterBrokerRecord}
use Rattle.kz_types.specs.Paths.{roots}
use Rattle.kz_spec_data.specs.Image.{Image, empty_image, all_applied}
use Rattle.kz_spec_data.specs.Log.{all_entries_applied}
use Rattle.kz_spec_data.specs.Rendering.{render, is_long, Excess, excess_by, excess_of, excess}
use Rattle.kz_spec_machine.specs.Sound.{IsTranslated}
use Rattle.kz_laws_machine.specs.Limits.{HasEpoch, IsBare, item_of}
use Rattle.kz_laws_machine.proofs.Related.{AllRelated}
use Rattle.kz_laws_machine.proofs.Raised.{TopicRaised, ImageRaised}
use Rattle.kz_laws_machine.proofs.Effects.{all_raised}
use Rattle.kz_laws_machine.proofs.Sizes.{IsShorter, rendered_shorter}

-- ---- shorter znodes

abbrev body_length : Rendered → ℕ
body_length r = length r.body

within : (limit n : ℕ) → nat_lt limit n ≡ false → n ≤ limit
within limit n is = grind (arith, nat_tests)

not_passed : (limit n : ℕ) → n ≤ limit → nat_lt limit n ≡ false
not_passed limit n low = grind (arith, nat_tests)

at_most_then : (a b c : ℕ) → a ≤ b → b ≤ c → a ≤ c
at_most_then a b c x y = omega (arith, x, y)

below_limit : (limit n m : ℕ) → n ≤ m → nat_lt limit m ≡ false → nat_lt limit n ≡ false
below_limit limit n m low is = not_passed limit n (at_most_then n m limit low (within limit m is))

first_none : (b : Bool) (r : Rendered) (m : Option Rendered) → cond b (Some r) m ≡ None → (b ≡ false) × (m ≡ None)
first_none true r m none = absurd (cc)
first_none false r m none = (refl, none)

none_long : (rs ss : List Rendered) → AllRelated IsShorter rs ss → find is_long ss ≡ None → find is_long rs ≡ None
none_long [] [] all none = refl
none_long [] (s ∷ ss) all none = absurd all
none_long (r ∷ rs) [] all none = absurd all
none_long (r ∷ rs) (s ∷ ss) all none =
    let both = first_none (is_long s) s (find is_long ss) none in
    ap (λ (b : Bool). cond b (Some r) (find is_long rs)) (below_limit MAX_BODY_BYTES (length r.body) (length s.body) all.0.bodies both.0) ∙ none_long rs ss all.1 both.1

same_length : (rs ss : List Rendered) → AllRelated IsShorter rs ss → length rs ≡ length ss
same_length [] [] all = refl
same_length [] (s ∷ ss) all = absurd all
same_length (r ∷ rs) [] all = absurd all
same_length (r ∷ rs) (s ∷ ss) all = let rest = same_length rs ss all.1 in omega (arith, rest)

sum_cons : (r : Rendered) (rs : List Rendered) → sum_by body_length (r ∷ rs) ≡ length r.body + sum_by body_length rs
sum_cons r rs = sum_by-append body_length (r ∷ []) rs ∙ alone (length r.body) (sum_by body_length rs)
  where
    alone : (n m : ℕ) → (0 + n) + m ≡ n + m
    alone n m = omega arith

less_bytes : (rs ss : List Rendered) → AllRelated IsShorter rs ss → sum_by body_length rs ≤ sum_by body_length ss
less_bytes [] [] all = omega arith
less_bytes [] (s ∷ ss) all = absurd all
less_bytes (r ∷ rs) [] all = absurd all
less_bytes (r ∷ rs) (s ∷ ss) all = sums (sum_by body_length (r ∷ rs)) (length r.body) (sum_by body_length rs) (sum_by body_length (s ∷ ss)) (length s.body) (sum_by body_length ss) (sum_cons r rs) (sum_cons s ss) all.0.bodies (less_bytes rs ss all.1)
  where
    sums : (a x m b y n : ℕ) → a ≡ x + m → b ≡ y + n → x ≤ y → m ≤ n → a ≤ b
    sums a x m b y n one other first rest = omega (arith, one, other, first, rest)

abbrev many : Excess
many = record { number = number_of_limit limits.MigratedZnodes; path = codes "/brokers/topics" }

abbrev heavy : Excess
heavy = record { number = number_of_limit limits.BodiesBytes; path = codes "/brokers/topics" }

-- what passes no limit
record Keeps (rs : List Rendered) : Type 0 where
  short : find is_long rs ≡ None
  few : nat_lt MAX_ZNODES (length rs) ≡ false
  small : nat_lt MAX_BODIES_BYTES (sum_by body_length rs) ≡ false

neither : (a b : Bool) (x y : Excess) → (if a then Some x else (if b then Some y else None)) ≡ None → (a ≡ false) × (b ≡ false)
neither true b x y none = absurd (cc)
neither false true x y none = absurd (cc)
neither false false x y none = (refl, refl)

keeps_by : (m : Option Rendered) (rs : List Rendered) → find is_long rs ≡ m → excess_by m rs ≡ None → Keeps rs
keeps_by (Some r) rs is none = absurd (cc)
keeps_by None rs is none = let both = neither (nat_lt MAX_ZNODES (length rs)) (nat_lt MAX_BODIES_BYTES (sum_by body_length rs)) many heavy none in record { short = is; few = both.0; small = both.1 }

no_excess : (rs : List Rendered) → Keeps rs → excess_of rs ≡ None
no_excess rs k =
    ap (λ (m : Option Rendered). excess_by m rs) k.short
    ∙ ap (λ (b : Bool). if b then Some many else (if nat_lt MAX_BODIES_BYTES (sum_by body_length rs) then Some heavy else None)) k.few
    ∙ ap (λ (b : Bool). if b then Some heavy else None) k.small

shorter_keep : (rs ss : List Rendered) → AllRelated IsShorter rs ss → excess_of ss ≡ None → excess_of rs ≡ None
shorter_keep rs ss all none =
    let k = keeps_by (find is_long ss) ss refl none in
    no_excess rs (record {
      short = none_long rs ss all k.short;
      few = ap (λ (n : ℕ). nat_lt MAX_ZNODES n) (same_length rs ss all) ∙ k.few;
      small = below_limit MAX_BODIES_BYTES (sum_by body_length rs) (sum_by body_length ss) (less_bytes rs ss all) k.small;
    })

pub raised_keeps : (i j : Image) → ImageRaised i j → excess j ≡ None → excess i ≡ None
raised_keeps i j raised none = shorter_keep (render i) (render j) (rendered_shorter i j raised) none

-- ---- metadata with brokers and a state alone

bare_raised : (i : Image) → IsBare i → ImageRaised i empty_image
bare_raised i is = record { each = subst (λ (topics : List TopicEntry). AllRelated TopicRaised topics []) (sym is.topics) tt; configs = is.configs; entities = is.quotas; credentials = is.users; entries = is.acls; next = is.next }

empty_keeps : excess empty_image ≡ None
unfolding render roots
empty_keeps = refl

pub bare_keeps : (i : Image) → IsBare i → excess i ≡ None
bare_keeps i is = raised_keeps i empty_image (bare_raised i is) empty_keeps

pub translated_keep : (es : List Entry) (i : Image) → IsBare i → All (λ (e : Entry). IsTranslated e.item) es → All HasEpoch es → excess (all_applied MAX_EPOCH (map item_of es) empty_image) ≡ None → excess (all_entries_applied es i) ≡ None
translated_keep es i is translated epochs none = raised_keeps (all_entries_applied es i) (all_applied MAX_EPOCH (map item_of es) empty_image) (all_raised es i empty_image translated epochs (bare_raised i is)) none

pub others_keep : (i : Image) (brokers : List RegisterBrokerRecord) (state : ℤ) → excess (record i { brokers = brokers; state = state }) ≡ excess i
unfolding render
others_keep i brokers state = refl
