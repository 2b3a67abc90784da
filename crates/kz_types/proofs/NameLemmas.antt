-- Lemmas on sanitised names.
use Rattle.std.proofs.Common.{◌≡◌, ℕ, suc, ◌+◌, ◌*◌, ◌-◌, ◌/◌, ◌%◌, ◌<◌, ◌≤◌, ◌==◌, Bool, true, false, ◌&&◌, List, [], ◌∷◌, ◌++◌, length, drop, get_or, ◌∙◌, sym, ap, refl, arith, inl, inr, length-drop, Some, None}
use Rattle.std.specs.Prelude.{◌⊎◌, if◌then◌else◌, bytes_eq, Option, Result, Ok, Err, IfOk, MatchOption}
use Rattle.std.specs.Str.{IsUtf8, is_utf8}
use Rattle.std.proofs.lemmas.Str.{is_utf8-from_IsUtf8}
use Rattle.std.proofs.lemmas.Bool.{cases_lt, ne_eqb, and_right, false≢true}
use Rattle.std.proofs.lemmas.Grind.{common_steps}
use Rattle.std.proofs.lemmas.List.{drop_more, drop_all, append_assoc, append-nil}
use Rattle.kz_types.specs.Paths.{part_for_name, sanitised_byte, bytes_of_part, name_of_part, hex_digit, hex_value, is_plain}
use Rattle.kz_types.proofs.NumberLemmas.{bytes_eq-same}
use Rattle.kz_types.proofs.PathRules.{is_utf8_false}

-- ---- one byte after another

pub sanitised_more : (name : List ℕ) (at : ℕ) → at < length name → part_for_name (drop at name) ≡ sanitised_byte (get_or name at 0) ++ part_for_name (drop (at + 1) name)
unfolding part_for_name
sanitised_more name at lt = ap part_for_name (drop_more name at 0 lt)

pub sanitised_end : (name : List ℕ) (at : ℕ) → length name ≤ at → part_for_name (drop at name) ≡ []
unfolding part_for_name
sanitised_end name at end = ap part_for_name (drop_all at name end)

-- a byte other than `%`
pub unescaped_plain : (c : ℕ) (rest : List ℕ) → (c == 37) ≡ false → bytes_of_part (c ∷ rest) ≡ c ∷ bytes_of_part rest
unfolding bytes_of_part
unescaped_plain c [] other = refl
unescaped_plain c (d ∷ []) other = refl
unescaped_plain c (d ∷ e ∷ rest) other = λ i. if other i then (hex_value d * 16 + hex_value e) ∷ bytes_of_part rest else c ∷ bytes_of_part (d ∷ e ∷ rest)

-- a byte before fewer than two
pub unescaped_short : (c : ℕ) (rest : List ℕ) → length rest < 2 → bytes_of_part (c ∷ rest) ≡ c ∷ bytes_of_part rest
unfolding bytes_of_part
unescaped_short c [] short = refl
unescaped_short c (d ∷ []) short = refl
unescaped_short c (d ∷ e ∷ rest) short = absurd (omega arith)

-- `%` before two bytes
pub unescaped_escape : (c d e : ℕ) (rest : List ℕ) → (c == 37) ≡ true → bytes_of_part (c ∷ d ∷ e ∷ rest) ≡ (hex_value d * 16 + hex_value e) ∷ bytes_of_part rest
unfolding bytes_of_part
unescaped_escape c d e rest is = λ i. if is i then (hex_value d * 16 + hex_value e) ∷ bytes_of_part rest else c ∷ bytes_of_part (d ∷ e ∷ rest)

pub unescaped_end : (part : List ℕ) (at : ℕ) → length part ≤ at → bytes_of_part (drop at part) ≡ []
unfolding bytes_of_part
unescaped_end part at end = ap bytes_of_part (drop_all at part end)

-- the same at a place
pub unescaped_one : (part : List ℕ) (at : ℕ) → at < length part → ((get_or part at 0 == 37) ≡ false) ⊎ (length part - at ≤ 2) → bytes_of_part (drop at part) ≡ get_or part at 0 ∷ bytes_of_part (drop (at + 1) part)
unescaped_one part at lt (inl other) = ap bytes_of_part (drop_more part at 0 lt) ∙ unescaped_plain (get_or part at 0) (drop (at + 1) part) other
unescaped_one part at lt (inr short) = ap bytes_of_part (drop_more part at 0 lt) ∙ unescaped_short (get_or part at 0) (drop (at + 1) part) (omega (arith, length-drop (at + 1) part))

pub unescaped_three : (part : List ℕ) (at : ℕ) → 2 < length part - at → (get_or part at 0 == 37) ≡ true
    → bytes_of_part (drop at part) ≡ (hex_value (get_or part (at + 1) 0) * 16 + hex_value (get_or part (at + 2) 0)) ∷ bytes_of_part (drop (at + 3) part)
unescaped_three part at more is =
    let a = drop_more part at 0 (omega arith) in
    let b : drop (at + 1) part ≡ get_or part (at + 1) 0 ∷ drop (at + 2) part =
    drop_more part (at + 1) 0 (omega arith) ∙ ap (λ n. get_or part (at + 1) 0 ∷ drop n part) {x = at + 1 + 1} {y = at + 2} (omega arith) in
    let c : drop (at + 2) part ≡ get_or part (at + 2) 0 ∷ drop (at + 3) part =
    drop_more part (at + 2) 0 (omega arith) ∙ ap (λ n. get_or part (at + 2) 0 ∷ drop n part) {x = at + 2 + 1} {y = at + 3} (omega arith) in
    ap bytes_of_part (a ∙ ap (λ r. get_or part at 0 ∷ r) (b ∙ ap (λ r. get_or part (at + 1) 0 ∷ r) c))
    ∙ unescaped_escape (get_or part at 0) (get_or part (at + 1) 0) (get_or part (at + 2) 0) (drop (at + 3) part) is

-- ---- a sanitised name stands for itself

pub hex_value_digit : (n : ℕ) → n < 16 → hex_value (hex_digit n) ≡ n
hex_value_digit n lt = elim (cases_lt n 10) [
  | inl small ↦ grind (arith, common_steps)
  | inr large ↦ grind (arith, common_steps)
]

plain_is_no_escape : (b : ℕ) → is_plain b ≡ true → (b == 37) ≡ false
plain_is_no_escape b plain = ne_eqb b 37 (λ same. false≢true (ap is_plain (sym same) ∙ plain))

one_byte : (b : ℕ) (bs : List ℕ) → b < 256 → bytes_of_part (part_for_name bs) ≡ bs → (plain : Bool) → is_plain b ≡ plain → bytes_of_part (sanitised_byte b ++ part_for_name bs) ≡ b ∷ bs
one_byte b bs small rest true plain =
    ap (λ p. bytes_of_part ((if p then b ∷ [] else 37 ∷ hex_digit (b / 16) ∷ hex_digit (b % 16) ∷ []) ++ part_for_name bs)) plain
    ∙ unescaped_plain b (part_for_name bs) (plain_is_no_escape b plain) ∙ ap (λ r. b ∷ r) rest
one_byte b bs small rest false plain =
    let high : hex_value (hex_digit (b / 16)) ≡ b / 16 = hex_value_digit (b / 16) (omega arith) in
    let low : hex_value (hex_digit (b % 16)) ≡ b % 16 = hex_value_digit (b % 16) (omega arith) in
    let whole : hex_value (hex_digit (b / 16)) * 16 + hex_value (hex_digit (b % 16)) ≡ b = omega (arith, high, low) in
    ap (λ p. bytes_of_part ((if p then b ∷ [] else 37 ∷ hex_digit (b / 16) ∷ hex_digit (b % 16) ∷ []) ++ part_for_name bs)) plain
    ∙ unescaped_escape 37 (hex_digit (b / 16)) (hex_digit (b % 16)) (part_for_name bs) refl ∙ (λ i. whole i ∷ rest i)

-- what a name is written as stands for it
pub unescaped_sanitised : (name : List ℕ) → ((k : ℕ) → get_or name k 0 < 256) → bytes_of_part (part_for_name name) ≡ name
unfolding part_for_name
unescaped_sanitised [] bytes = unescaped_end [] 0 (omega arith)
unescaped_sanitised (b ∷ bs) bytes = one_byte b bs (bytes 0) (unescaped_sanitised bs (λ k. bytes (suc k))) (is_plain b) refl

pub restored_sanitised : (name : List ℕ) → ((k : ℕ) → get_or name k 0 < 256) → IsUtf8 name → name_of_part (part_for_name name) ≡ Some name
unfolding name_of_part
restored_sanitised name bytes text =
    let e = unescaped_sanitised name bytes in
    (λ i. if bytes_eq (part_for_name (e i)) (part_for_name name) && is_utf8 (e i) then Some (e i) else None)
    ∙ (λ i. if bytes_eq-same (part_for_name name) (part_for_name name) refl i && is_utf8-from_IsUtf8 name text i then Some name else None)

-- ---- the loops that write

pub sanitised_step : (name part more : List ℕ) (at : ℕ) → at < length name → part ++ part_for_name (drop at name) ≡ part_for_name name
    → more ≡ part ++ sanitised_byte (get_or name at 0) → more ++ part_for_name (drop (at + 1) name) ≡ part_for_name name
sanitised_step name part more at lt so_far is =
    ap (λ m. m ++ part_for_name (drop (at + 1) name)) is ∙ append_assoc part (sanitised_byte (get_or name at 0)) (part_for_name (drop (at + 1) name))
    ∙ ap (λ r. part ++ r) (sym (sanitised_more name at lt)) ∙ so_far

pub sanitised_done : (name part : List ℕ) (at : ℕ) → length name ≤ at → part ++ part_for_name (drop at name) ≡ part_for_name name → part ≡ part_for_name name
sanitised_done name part at end so_far = sym (append-nil part) ∙ ap (λ r. part ++ r) (sym (sanitised_end name at end)) ∙ so_far

pub unescaped_step : (part bytes more : List ℕ) (b at next : ℕ) → bytes_of_part (drop at part) ≡ b ∷ bytes_of_part (drop next part)
    → bytes ++ bytes_of_part (drop at part) ≡ bytes_of_part part → more ≡ bytes ++ b ∷ [] → more ++ bytes_of_part (drop next part) ≡ bytes_of_part part
unescaped_step part bytes more b at next step so_far is =
    ap (λ m. m ++ bytes_of_part (drop next part)) is ∙ append_assoc bytes (b ∷ []) (bytes_of_part (drop next part))
    ∙ ap (λ r. bytes ++ r) (sym step) ∙ so_far

pub unescaped_done : (part bytes : List ℕ) (at : ℕ) → length part ≤ at → bytes ++ bytes_of_part (drop at part) ≡ bytes_of_part part → bytes ≡ bytes_of_part part
unescaped_done part bytes at end so_far = sym (append-nil bytes) ∙ ap (λ r. bytes ++ r) (sym (unescaped_end part at end)) ∙ so_far

-- ---- the names that parts have

pub restored_other : (part again bytes : List ℕ) → again ≡ part_for_name bytes → bytes ≡ bytes_of_part part → bytes_eq again part ≡ false → name_of_part part ≡ None
unfolding name_of_part
restored_other part again bytes is from other =
    let none : bytes_eq (part_for_name (bytes_of_part part)) part ≡ false = ap (λ b. bytes_eq (part_for_name b) part) (sym from) ∙ ap (λ a. bytes_eq a part) (sym is) ∙ other in
    λ i. if none i && is_utf8 (bytes_of_part part) then Some (bytes_of_part part) else None

pub restored_no_text : (part bytes : List ℕ) → bytes ≡ bytes_of_part part → ¬ (IsUtf8 bytes) → name_of_part part ≡ None
unfolding name_of_part
restored_no_text part bytes from refused =
    let none : bytes_eq (part_for_name (bytes_of_part part)) part && is_utf8 (bytes_of_part part) ≡ false =
    and_right (bytes_eq (part_for_name (bytes_of_part part)) part) (is_utf8 (bytes_of_part part)) (ap is_utf8 (sym from) ∙ is_utf8_false bytes refused) in
    λ i. if none i then Some (bytes_of_part part) else None

pub restored_text : (part again bytes : List ℕ) → again ≡ part_for_name bytes → bytes ≡ bytes_of_part part → again ≡ part → IsUtf8 bytes → name_of_part part ≡ Some bytes
unfolding name_of_part
restored_text part again bytes is from same text =
    let equal : bytes_eq (part_for_name (bytes_of_part part)) part ≡ true = bytes_eq-same (part_for_name (bytes_of_part part)) part (ap part_for_name (sym from) ∙ sym is ∙ same) in
    let utf8 : is_utf8 (bytes_of_part part) ≡ true = ap is_utf8 (sym from) ∙ is_utf8-from_IsUtf8 bytes text in
    (λ i. if equal i && utf8 i then Some (bytes_of_part part) else None) ∙ ap (λ b. Some b) (sym from)

pub restored_by : {E : Type 0} (part again bytes : List ℕ) (r : Result (Option (List ℕ)) E) → again ≡ part_for_name bytes → bytes ≡ bytes_of_part part → again ≡ part
    → IfOk r (λ made. MatchOption made (¬ (IsUtf8 bytes)) (λ text. (text ≡ bytes) × IsUtf8 bytes)) → IfOk r (λ name. name ≡ name_of_part part)
restored_by part again bytes (Err e) is from same made = tt
restored_by part again bytes (Ok None) is from same made = sym (restored_no_text part bytes from made)
restored_by part again bytes (Ok (Some text)) is from same made = ap (λ t. Some t) made.0 ∙ sym (restored_text part again bytes is from same made.1)
