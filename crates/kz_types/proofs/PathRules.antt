-- Lemmas on the rule of paths.
use Rattle.std.proofs.Common.{◌≡◌, nat_le, ℕ, ◌+◌, ◌-◌, ◌<◌, ◌≤◌, ◌==◌, Bool, true, false, ◌&&◌, List, [], ◌∷◌, ◌++◌, length, take, drop, length-take, length-drop, slice_index, get_or, ◌∙◌, sym, ap, refl, arith, inl, inr}
use Rattle.std.proofs.lemmas.Bool.{cases_lt, ne_eqb, false≢true}
use Rattle.std.proofs.lemmas.Str.{IsUtf8-from_is_utf8}
use Rattle.std.proofs.lemmas.List.{drop_more, get_or-take, get_or-drop, get_or_default}
use Rattle.std.proofs.lemmas.List.Folds.{drop_split, list_all_more}
use Rattle.std.proofs.lemmas.List.Splits.{slice_split_none, slice_split_at, slice_split-cons_yes}
use Rattle.std.specs.List.{All, slice_split, list_all, slice_range}
use Rattle.std.specs.Str.{IsUtf8, is_utf8}
use Rattle.kz_types.specs.PathRule.{parts, is_shown, is_part, is_path, has_path_form}

-- bytes that are no UTF-8
pub is_utf8_false : (bs : List ℕ) → ¬ (IsUtf8 bs) → is_utf8 bs ≡ false
is_utf8_false bs refused = by (is_utf8 bs) refl
  where
    by : (b : Bool) → is_utf8 bs ≡ b → b ≡ false
    by true e = absurd (refused (IsUtf8-from_is_utf8 bs e))
    by false e = refl

-- no slash from `start` to `at`
abbrev pub HasNoSlash : List ℕ → ℕ → ℕ → Type 0
HasNoSlash bs start at = (k : ℕ) → start ≤ k → k < at → (slice_index bs k == 47) ≡ false

range_has_none : (bs : List ℕ) (start at : ℕ) → start ≤ at → at ≤ length bs → HasNoSlash bs start at
    → All (λ b. (b == 47) ≡ false) (slice_range bs start at)
range_has_none bs start at le in_bs none k d l =
    let inner : k < at - start = omega (arith, length-take (at - start) (drop start bs)) in
    let same : get_or (slice_range bs start at) k d ≡ slice_index bs (start + k) =
    get_or-take (at - start) (drop start bs) k d inner ∙ get_or-drop start bs k d ∙ get_or_default bs (start + k) d 0 (omega arith) in
    ap (λ b. b == 47) same ∙ none (start + k) (omega arith) (omega arith)

-- the part that ends at a slash, and what is left
pub split_next : (bs : List ℕ) (start at : ℕ) → start ≤ at → at < length bs → HasNoSlash bs start at → (slice_index bs at == 47) ≡ true
    → slice_split (λ b. b == 47) (drop start bs) ≡ slice_range bs start at ∷ slice_split (λ b. b == 47) (drop (at + 1) bs)
split_next bs start at le lt none hit =
    ap (slice_split (λ b. b == 47)) (drop_split bs start at le ∙ ap (λ r. slice_range bs start at ++ r) (drop_more bs at 0 lt))
    ∙ slice_split_at (λ b. b == 47) (slice_range bs start at) (slice_index bs at) (drop (at + 1) bs) (range_has_none bs start at le (omega arith) none) hit

-- the last part
pub split_last : (bs : List ℕ) (start : ℕ) → start ≤ length bs → HasNoSlash bs start (length bs)
    → slice_split (λ b. b == 47) (drop start bs) ≡ drop start bs ∷ []
split_last bs start le none = slice_split_none (λ b. b == 47) (drop start bs) (λ k d l.
    let inner : start + k < length bs = omega (arith, length-drop start bs) in
    ap (λ b. b == 47) (get_or-drop start bs k d ∙ get_or_default bs (start + k) d 0 inner) ∙ none (start + k) (omega arith) inner)

and_false : (b : Bool) → b && false ≡ false
and_false true = refl
and_false false = refl

and_true : (b : Bool) → b && true ≡ b
and_true true = refl
and_true false = refl

-- all parts of a path, where those from `start` on are left
abbrev pub AreLeft : List ℕ → ℕ → Type 0
AreLeft bs start = list_all is_part (parts bs) ≡ list_all is_part (slice_split (λ b. b == 47) (drop start bs))

-- a part that isn't one of the rule
pub refuse : (bs : List ℕ) (start at : ℕ) (part : Bool) → start ≤ at → at < length bs → HasNoSlash bs start at → (slice_index bs at == 47) ≡ true
    → AreLeft bs start → part ≡ is_part (slice_range bs start at) → part ≡ false → false ≡ (slice_index bs 0 == 47) && list_all is_part (parts bs)
refuse bs start at part le lt none hit left is bad = sym (
    ap (λ b. (slice_index bs 0 == 47) && b) (left ∙ ap (list_all is_part) (split_next bs start at le lt none hit)
    ∙ ap (λ b. b && list_all is_part (slice_split (λ x. x == 47) (drop (at + 1) bs))) (sym is ∙ bad))
    ∙ and_false (slice_index bs 0 == 47))

-- a part that is
pub goes_on : (bs : List ℕ) (start at : ℕ) (part : Bool) → start ≤ at → at < length bs → HasNoSlash bs start at → (slice_index bs at == 47) ≡ true
    → AreLeft bs start → part ≡ is_part (slice_range bs start at) → part ≡ true → AreLeft bs (at + 1)
goes_on bs start at part le lt none hit left is good =
    left ∙ ap (list_all is_part) (split_next bs start at le lt none hit)
    ∙ ap (λ b. b && list_all is_part (slice_split (λ x. x == 47) (drop (at + 1) bs))) (sym is ∙ good)

-- the last part
pub ends : (bs : List ℕ) (start : ℕ) (part : Bool) → start ≤ length bs → HasNoSlash bs start (length bs) → AreLeft bs start
    → part ≡ is_part (drop start bs) → (slice_index bs 0 == 47) ≡ true → part ≡ (slice_index bs 0 == 47) && list_all is_part (parts bs)
ends bs start part le none left is first =
    is ∙ sym (and_true (is_part (drop start bs))) ∙ sym (ap (list_all is_part) (split_last bs start le none)) ∙ sym left
    ∙ sym (ap (λ b. b && list_all is_part (parts bs)) first)

-- whether the bytes from `start` on are shown, with the one at `at`
pub shown_more : (bs : List ℕ) (start at : ℕ) (shown : Bool) → start ≤ at → at < length bs → shown ≡ list_all is_shown (slice_range bs start at)
    → shown && is_shown (slice_index bs at) ≡ list_all is_shown (slice_range bs start (at + 1))
shown_more bs start at shown le lt known =
    let one : (at - start) + 1 ≡ (at + 1) - start = omega arith in
    let place : start + (at - start) ≡ at = omega arith in
    let inner : at - start < length (drop start bs) = omega (arith, length-drop start bs) in
    let value : get_or (drop start bs) (at - start) 0 ≡ slice_index bs at = get_or-drop start bs (at - start) 0 ∙ ap (slice_index bs) place in
    ap (λ b. b && is_shown (slice_index bs at)) known
    ∙ ap (λ b. list_all is_shown (slice_range bs start at) && is_shown b) (sym value)
    ∙ sym (list_all_more is_shown (drop start bs) (at - start) 0 inner)
    ∙ ap (λ k. list_all is_shown (take k (drop start bs))) one

-- no bytes are shown
pub shown_none : (bs : List ℕ) (at : ℕ) → true ≡ list_all is_shown (slice_range bs at at)
shown_none bs at = let none : 0 ≡ at - at = omega arith in ap (λ k. list_all is_shown (take k (drop at bs))) none

-- the byte at `at` is no slash either
pub none_more : (bs : List ℕ) (start at : ℕ) → HasNoSlash bs start at → (slice_index bs at ≡ 47 → ⊥) → HasNoSlash bs start (at + 1)
none_more bs start at none other k low high = elim (cases_lt k at) [
  | inl lt ↦ none k low lt
  | inr ge ↦ let same : k ≡ at = omega arith in ap (λ i. slice_index bs i == 47) same ∙ ne_eqb (slice_index bs at) 47 other
]

-- both hold where their conjunction does
pub both_hold : (a b : Bool) → a && b ≡ true → (a ≡ true) × (b ≡ true)
both_hold true b h = (refl, h)
both_hold false b h = absurd (false≢true h)

-- a path is UTF-8
pub path_is_text : (bs : List ℕ) → is_path bs ≡ true → IsUtf8 bs
unfolding is_path has_path_form
path_is_text bs path = IsUtf8-from_is_utf8 bs
    (both_hold (is_utf8 bs) (slice_index bs 0 == 47) (both_hold (is_utf8 bs && (slice_index bs 0 == 47)) (list_all is_part (parts bs)) (both_hold (has_path_form bs) (nat_le (length bs) 1024) path).0).0).0

-- a path begins with a slash
pub begins_with_slash : (bs : List ℕ) → is_path bs ≡ true → (slice_index bs 0 == 47) ≡ true
unfolding is_path has_path_form
begins_with_slash bs path =
    (both_hold (is_utf8 bs) (slice_index bs 0 == 47) (both_hold (is_utf8 bs && (slice_index bs 0 == 47)) (list_all is_part (parts bs)) (both_hold (has_path_form bs) (nat_le (length bs) 1024) path).0).0).1

-- its parts are legal
pub parts_are_legal : (bs : List ℕ) → is_path bs ≡ true → list_all is_part (parts bs) ≡ true
unfolding is_path has_path_form
parts_are_legal bs path = (both_hold (is_utf8 bs && (slice_index bs 0 == 47)) (list_all is_part (parts bs)) (both_hold (has_path_form bs) (nat_le (length bs) 1024) path).0).1

-- and its parts are those of what stands after it
pub parts_after : (bs : List ℕ) → is_path bs ≡ true → (1 ≤ length bs) × (parts bs ≡ slice_split (λ b. b == 47) (drop 1 bs))
parts_after bs path = by bs (begins_with_slash bs path)
  where
    by : (cs : List ℕ) → (slice_index cs 0 == 47) ≡ true → (1 ≤ length cs) × (parts cs ≡ slice_split (λ b. b == 47) (drop 1 cs))
    by [] h = absurd (false≢true h)
    by (c ∷ cs) h = (omega arith, ap (drop 1) (slice_split-cons_yes (λ b. b == 47) c cs h))

-- its parts after the nothing before its first slash
pub split_of_path : (bs : List ℕ) → is_path bs ≡ true → slice_split (λ b. b == 47) bs ≡ [] ∷ parts bs
split_of_path bs path = by bs (begins_with_slash bs path)
  where
    by : (cs : List ℕ) → (slice_index cs 0 == 47) ≡ true → slice_split (λ b. b == 47) cs ≡ [] ∷ parts cs
    by [] h = absurd (false≢true h)
    by (c ∷ cs) h = let e = slice_split-cons_yes (λ b. b == 47) c cs h in e ∙ ap (λ ps. [] ∷ drop 1 ps) (sym e)
