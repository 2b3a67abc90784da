use Rattle.std.proofs.Common.{◌≡◌, ◌+◌, ◌*◌, ◌<◌, ◌≤◌, List, [], ◌∷◌, ◌++◌, All, length, Some, None, codes, cond, ap, ◌∙◌, arith, length-append, refl}
use Rattle.std.proofs.lemmas.Bool.{le-ltb, lt-ltb}
use Rattle.std.proofs.lemmas.List.Elements.{All-head, All-tail}
use Rattle.std.proofs.lemmas.List.Sums.{sum_by-append}
use Rattle.std.specs.List.{find, sum_by}
use Rattle.kz_types.specs.declared.tree.Rendered.{Rendered}
use Rattle.kz_spec_data.specs.Rendering.{excess_of, is_long}
use Rattle.kz_tests_stores.proofs.limits.all_data_has_at_most_67108864_bytes.Goals as goal

none_long : (rs : List Rendered) (s : Rendered) → All (λ r. length r.body ≡ 1048575) rs → length s.body ≤ 1048575 → find is_long (rs ++ s ∷ []) ≡ None
none_long [] s all short = ap (λ b. cond b (Some s) None) (le-ltb 1048575 (length s.body) short)
none_long (r ∷ rs) s all short =
    let e = All-head (λ (r : Rendered). length r.body ≡ 1048575) r rs all in
    ap (λ b. cond b (Some r) (find is_long (rs ++ s ∷ []))) (le-ltb 1048575 (length r.body) (omega arith))
    ∙ none_long rs s (All-tail (λ (r : Rendered). length r.body ≡ 1048575) r rs all) short

total : (rs : List Rendered) (s : Rendered) → All (λ r. length r.body ≡ 1048575) rs → sum_by (λ (r : Rendered). length r.body) (rs ++ s ∷ []) ≡ length rs * 1048575 + length s.body
total [] s all = refl
total (r ∷ rs) s all =
    let e = All-head (λ (r : Rendered). length r.body ≡ 1048575) r rs all in
    let rest = total rs s (All-tail (λ (r : Rendered). length r.body ≡ 1048575) r rs all) in
    let parts = sum_by-append (λ (r : Rendered). length r.body) (r ∷ []) (rs ++ s ∷ []) in
    omega (arith, e, rest, parts)

at_most : (rs : List Rendered) → find is_long rs ≡ None → length rs ≤ 200000 → sum_by (λ (r : Rendered). length r.body) rs ≤ 67108864 → excess_of rs ≡ None
at_most rs short few little =
    let one = le-ltb 200000 (length rs) few in
    let two = le-ltb 67108864 (sum_by (λ (r : Rendered). length r.body) rs) little in
    rw (short, one, two) refl

above : (rs : List Rendered) → find is_long rs ≡ None → length rs ≤ 200000 → 67108864 < sum_by (λ (r : Rendered). length r.body) rs → excess_of rs ≡ Some (record { number = 6; path = codes "/brokers/topics" })
above rs short few much =
    let one = le-ltb 200000 (length rs) few in
    let two = lt-ltb 67108864 (sum_by (λ (r : Rendered). length r.body) rs) much in
    rw (short, one, two) refl

pub returns-clause-kept : goal.returns-clause-kept
returns-clause-kept c = λ znodes last count all bytes.
    let size = total znodes last all in
    let some = length-append znodes (last ∷ []) in
    at_most (znodes ++ last ∷ []) (none_long znodes last all (omega arith)) (omega arith) (omega arith)

pub returns-clause-over : goal.returns-clause-over
returns-clause-over c = λ znodes last count all bytes.
    let size = total znodes last all in
    let some = length-append znodes (last ∷ []) in
    above (znodes ++ last ∷ []) (none_long znodes last all (omega arith)) (omega arith) (omega arith)
