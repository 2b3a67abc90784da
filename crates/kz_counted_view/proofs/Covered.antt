-- The counts of two lists of znodes that differ at known paths alone.
use Rattle.std.proofs.Common.{◌≡◌, ℕ, ◌+◌, Bool, true, false, cond, List, [], ◌∷◌, Option, Some, None, map, length, option_map, is_some, codes, nat_lt, refl, sym, ap, ◌∙◌, arith}
use Rattle.std.specs.List.{sum_by, count_by, find}
use Rattle.std.proofs.lemmas.List.Sums.{sum_by-cons}
use Rattle.std.proofs.lemmas.Bool.{lt-ltb, true≢false}
use Rattle.kz_types.specs.declared.limits.Limit.TheVariants as limits
use Rattle.kz_types.specs.Limits.{number_of_limit}
use Rattle.kz_types.specs.declared.limits.TheConstants.{MAX_BODIES_BYTES, MAX_ZNODES}
use Rattle.kz_types.specs.declared.key.EntityKey.{EntityKey}
use Rattle.kz_types.specs.declared.tree.Rendered.{Rendered}
use Rattle.kz_types.specs.Order.{bytes_cmp}
use Rattle.kz_types.specs.Ordered.{Rises}
use Rattle.kz_types.specs.Covering.{at_keys, Covers}
use Rattle.kz_types.proofs.Order.{bytes_order}
use Rattle.kz_spec_data.specs.Tree.{path_of_rendered}
use Rattle.kz_spec_data.specs.Metadata.{Image}
use Rattle.kz_spec_data.specs.Rendering.{is_long, Excess, excess_by, excess_of, render}
use Rattle.kz_spec_data.specs.Spans.{CoverDifference}
use Rattle.kz_writer.specs.declared.spanned.SpannedPath.{SpannedPath}
use Rattle.kz_writer.specs.PathLists.{path_of_spanned, spanned_by_all, DifferAtPathsAlone}
use Rattle.kz_writer.specs.RenderedRise.{render_rises}
use Rattle.kz_writer.proofs.PathLists.{spanned_rises, spanned_cover}
use Rattle.kz_counted_view.specs.declared.counts.Counts.{Counts}
use Rattle.kz_counted_view.specs.Counting.{counts_of, sum_of, limit_of_counts}
use Rattle.kz_counted_view.proofs.Sums.{covered_sums}

-- the items of a list, each counted once
ones : {A : Type 0} (xs : List A) → sum_by (λ x. 1) xs ≡ length xs
ones [] = refl
ones (x ∷ xs) = omega (arith, sum_by-cons (λ x. 1) x xs, ones xs)

pub covered_counts : (paths : List (List ℕ)) (a b : List Rendered) → Rises bytes_cmp (λ q. q) paths → Rises bytes_cmp path_of_rendered a → Rises bytes_cmp path_of_rendered b → Covers bytes_cmp path_of_rendered paths a b
    → sum_of (counts_of b) (counts_of (at_keys bytes_cmp path_of_rendered paths a)) ≡ sum_of (counts_of a) (counts_of (at_keys bytes_cmp path_of_rendered paths b))
covered_counts paths a b hp ha hb covers =
    let had : List Rendered = at_keys bytes_cmp path_of_rendered paths a in
    let has : List Rendered = at_keys bytes_cmp path_of_rendered paths b in
    let by : (f : Rendered → ℕ) → sum_by f b + sum_by f had ≡ sum_by f a + sum_by f has = λ f. covered_sums bytes_order path_of_rendered f paths a b hp ha hb covers in
    let znodes : length b + length had ≡ length a + length has = omega (arith, by (λ r. 1), ones a, ones b, ones had, ones has) in
    (λ i. record { long = by (λ r. cond (is_long r) 1 0) i; znodes = znodes i; bytes = by (λ r. length r.body) i })

-- ---- from the counts before

cancelled : (a b part : Counts) → sum_of a part ≡ sum_of b part → a ≡ b
cancelled a b part e =
    let long : a.long ≡ b.long = omega (arith, ap (λ (c : Counts). c.long) e) in
    let znodes : a.znodes ≡ b.znodes = omega (arith, ap (λ (c : Counts). c.znodes) e) in
    let bytes : a.bytes ≡ b.bytes = omega (arith, ap (λ (c : Counts). c.bytes) e) in
    (λ i. record { long = long i; znodes = znodes i; bytes = bytes i })

-- the counts with those of the znodes at the spanned paths replaced are those of the new rendering
pub counts_are : (ks : List EntityKey) (old new : Image) → CoverDifference ks (render old) (render new) → DifferAtPathsAlone (render old) (render new)
    → (spanned : List SpannedPath) (had has : List Rendered) → spanned ≡ spanned_by_all ks → had ≡ at_keys bytes_cmp path_of_rendered (map path_of_spanned spanned) (render old) → has ≡ at_keys bytes_cmp path_of_rendered (map path_of_spanned spanned) (render new)
    → (counts made : Counts) → counts ≡ counts_of (render old) → sum_of made (counts_of had) ≡ sum_of counts (counts_of has) → made ≡ counts_of (render new)
counts_are ks old new covers rule spanned had has all was will counts made told sums =
    let paths : List (List ℕ) = map path_of_spanned (spanned_by_all ks) in
    let whole = covered_counts paths (render old) (render new) (spanned_rises ks) (render_rises old) (render_rises new) (spanned_cover ks (render old) (render new) covers rule) in
    let before : counts_of had ≡ counts_of (at_keys bytes_cmp path_of_rendered paths (render old)) = ap counts_of (was ∙ ap (λ (ps : List SpannedPath). at_keys bytes_cmp path_of_rendered (map path_of_spanned ps) (render old)) all) in
    let after : counts_of has ≡ counts_of (at_keys bytes_cmp path_of_rendered paths (render new)) = ap counts_of (will ∙ ap (λ (ps : List SpannedPath). at_keys bytes_cmp path_of_rendered (map path_of_spanned ps) (render new)) all) in
    cancelled made (counts_of (render new)) (counts_of (at_keys bytes_cmp path_of_rendered paths (render old)))
    (ap (sum_of made) (sym before) ∙ sums ∙ ap (λ c. sum_of c (counts_of has)) told ∙ ap (sum_of (counts_of (render old))) after ∙ sym whole)

-- ---- limits

-- the limits on all znodes together, as far as there are too many, or they have too much data
abbrev excess_of_all : Bool → Bool → Option Excess
excess_of_all many much =
    cond many (Some (record { number = number_of_limit limits.MigratedZnodes; path = codes "/brokers/topics" }))
    (cond much (Some (record { number = number_of_limit limits.BodiesBytes; path = codes "/brokers/topics" })) None)

abbrev limit_of_all : Bool → Bool → Option ℕ
limit_of_all many much = cond many (Some (number_of_limit limits.MigratedZnodes)) (cond much (Some (number_of_limit limits.BodiesBytes)) None)

all_told : (many much : Bool) → limit_of_all many much ≡ option_map (λ (e : Excess). e.number) (excess_of_all many much)
all_told true much = refl
all_told false true = refl
all_told false false = refl

-- a znode has too long data where some are counted
long_found : (rs : List Rendered) → is_some (find is_long rs) ≡ nat_lt 0 (count_by is_long rs)
long_found [] = refl
long_found (r ∷ rs) = by (is_long r) (sum_by-cons (λ x. cond (is_long x) 1 0) r rs) (long_found rs)
  where
    by : (b : Bool) → count_by is_long (r ∷ rs) ≡ cond b 1 0 + count_by is_long rs → is_some (find is_long rs) ≡ nat_lt 0 (count_by is_long rs) → is_some (cond b (Some r) (find is_long rs)) ≡ nat_lt 0 (count_by is_long (r ∷ rs))
    by true all later = sym (lt-ltb 0 (count_by is_long (r ∷ rs)) (omega (arith, all)))
    by false all later = later ∙ ap (nat_lt 0) (omega (arith, all))

pub limit_is : (rs : List Rendered) → limit_of_counts (counts_of rs) ≡ option_map (λ (e : Excess). e.number) (excess_of rs)
limit_is rs = by (find is_long rs) (nat_lt 0 (count_by is_long rs)) (long_found rs)
  where
    by : (f : Option Rendered) (long : Bool) → is_some f ≡ long
        → ◌≡◌ {A = Option ℕ} (cond long (Some (number_of_limit limits.BodyBytes)) (limit_of_all (nat_lt MAX_ZNODES (length rs)) (nat_lt MAX_BODIES_BYTES (sum_by (λ (r : Rendered). length r.body) rs))))
        (option_map (λ (e : Excess). e.number) (excess_by f rs))
    by (Some r) true e = refl
    by (Some r) false e = absurd (true≢false e)
    by None true e = absurd (true≢false (sym e))
    by None false e = all_told (nat_lt MAX_ZNODES (length rs)) (nat_lt MAX_BODIES_BYTES (sum_by (λ (r : Rendered). length r.body) rs))
