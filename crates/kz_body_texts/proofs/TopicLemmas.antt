-- Lemmas on the text of a topic's body.
use Rattle.std.proofs.Common.{◌≡◌, ℕ, zero, suc, ◌+◌, ◌*◌, ◌/◌, ◌%◌, inl, inr, ◌^◌, ◌<◌, Bool, true, ◌&&◌, List, [], ◌∷◌, ◌++◌, append_assoc, append-nil, refl, sym, ap, ◌∙◌, arith, codes, length, get_or, drop, FitsSigned, w32, Ordering, Less, Equal, Greater}
use Rattle.std.specs.Prelude.{ℤ, pos, negsuc, slice_index, ⊤}
use Rattle.std.specs.Fmt.{signed_decimal, decimal}
use Rattle.std.specs.Ordering.{nat_cmp, MatchOrdering}
use Rattle.std.specs.Cmp.Lexicographic.{slice_cmp}
use Rattle.std.proofs.lemmas.Cmp.{ranked}
use Rattle.std.proofs.lemmas.List.{drop_more}
use Rattle.std.proofs.lemmas.Fmt.{decimal_digit, decimal_by_steps}
use Rattle.std.proofs.lemmas.Bool.{and_parts, ltb-true, cases_eq}
use Rattle.std.proofs.lemmas.Bool.Decides.{Decides-int_eq}
use Rattle.base64.specs.Engines.{url_safe_no_pad}
use Rattle.base64.specs.GeneralPurpose.{IsBytes, engine_symbols}
use Rattle.base64.specs.Rfc4648.{encode_symbols}
use Rattle.json.specs.Print.{escape_byte, escape, quoted}
use Rattle.serde_json.specs.Data.{Data, object, string, Members, no_members, member, put}
use Rattle.serde_json.specs.Written.{compact_text, comma_if, members_text}
use Rattle.kz_types.specs.Ids.{id_text}
use Rattle.kz_types.specs.declared.bodies.AssignmentRow.{AssignmentRow}
use Rattle.kz_spec_data.specs.Bodies.{whole_data, brokers_data, replicas_members}
use Rattle.kz_body_texts.specs.Texts.{are_digits, in_order, is_plain}
use Rattle.kz_body_texts.proofs.TextLemmas.{added, thrice_added}
use Rattle.kz_body_texts.proofs.Members.{behind, behind_none, behind_both, member_added}
use Rattle.kz_body_texts.proofs.Plain.{plain_one, plain_joined, plain_at}

-- ---- numbers need no escape

plain_digit : (n : ℕ) → n < 10 → escape ((48 + n) ∷ []) ≡ (48 + n) ∷ []
plain_digit n h = plain_one (48 + n) (λ e. omega arith) (λ e. omega arith) (omega arith)

plain_decimal : (n : ℕ) → n < 2 ^ 64 → escape (decimal n) ≡ decimal n
plain_decimal n h = decimal_by_steps (λ n ds. escape ds ≡ ds) plain_digit
    (λ n ds more plain. plain_joined ds ((48 + n % 10) ∷ []) plain (plain_digit (n % 10) (omega arith))) n h

pub plain_signed : (z : ℤ) → FitsSigned w32 z → escape (signed_decimal z) ≡ signed_decimal z
plain_signed (pos n) h = plain_decimal n (omega (arith, h.sfits))
plain_signed (negsuc n) h = plain_joined (45 ∷ []) (decimal (suc n)) (plain_one 45 (λ e. omega arith) (λ e. omega arith) (omega arith)) (plain_decimal (suc n) (omega (arith, h.sfits)))

-- a number's text is its digits
whole_is : (z : ℤ) → compact_text (whole_data z) ≡ signed_decimal z
whole_is (pos n) = refl
whole_is (negsuc n) = refl

-- the name of a partition's member, and its colon
pub name_joined : (t t₁ t₂ t₃ t₄ : List ℕ) (later : Bool) (z : ℤ) → FitsSigned w32 z
    → t₁ ≡ t ++ comma_if later → t₂ ≡ t₁ ++ 34 ∷ [] → t₃ ≡ t₂ ++ compact_text (whole_data z) → t₄ ≡ t₃ ++ codes "\":"
    → t₄ ≡ t ++ (comma_if later ++ (quoted (signed_decimal z) ++ 58 ∷ []))
name_joined t t₁ t₂ t₃ t₄ later z fits e₁ e₂ e₃ e₄ =
    let plain : compact_text (whole_data z) ≡ escape (signed_decimal z) = whole_is z ∙ sym (plain_signed z fits) in
    e₄
    ∙ added t₂ t₃ (compact_text (whole_data z)) (codes "\":") e₃
    ∙ added t₁ t₂ (34 ∷ []) (compact_text (whole_data z) ++ codes "\":") e₂
    ∙ added t t₁ (comma_if later) (34 ∷ (compact_text (whole_data z) ++ codes "\":")) e₁
    ∙ ap (λ d. t ++ (comma_if later ++ 34 ∷ d)) (ap (λ d. d ++ codes "\":") plain ∙ sym (append_assoc (escape (signed_decimal z)) (34 ∷ []) (58 ∷ [])))

-- the member of a partition in a loop over partitions
pub row_added : (rows : List AssignmentRow) (row : AssignmentRow) (at : ℕ) (t t₁ t₂ whole : List ℕ) (later : Bool) → at < length rows → row ≡ get_or rows at row
    → t₁ ≡ t ++ (comma_if later ++ (quoted (signed_decimal row.number) ++ 58 ∷ [])) → t₂ ≡ t₁ ++ compact_text (brokers_data row.replicas)
    → t ++ members_text later (in_order (drop at rows)) ≡ whole → t₂ ++ members_text true (in_order (drop (at + 1) rows)) ≡ whole
row_added rows row at t t₁ t₂ whole later less is e₁ e₂ so_far =
    let step : drop at rows ≡ row ∷ drop (at + 1) rows = drop_more rows at row less ∙ ap (λ r. r ∷ drop (at + 1) rows) (sym is) in
    member_added t t₁ t₂ later (signed_decimal row.number) (brokers_data row.replicas) (in_order (drop (at + 1) rows)) e₁ e₂
    ∙ ap (λ rs. t ++ members_text later (in_order rs)) (sym step) ∙ so_far

-- ---- ids need no escape

abbrev symbols : List ℕ
symbols = engine_symbols url_safe_no_pad

abbrev symbols_are_plain : ℕ → Bool
symbols_are_plain zero = true
symbols_are_plain (suc n) = is_plain (slice_index symbols n) && symbols_are_plain n

plain_below : (n : ℕ) → symbols_are_plain n ≡ true → (i : ℕ) → i < n → is_plain (slice_index symbols i) ≡ true
plain_below zero e i h = absurd (omega arith)
plain_below (suc n) e i h =
    let parts = and_parts _ _ e in
    elim (cases_eq i n) [ inl same ↦ rw same parts.0 | inr other ↦ plain_below n parts.1 i (omega arith) ]

plain_symbol : (i : ℕ) → i < 64 → escape_byte (slice_index symbols i) ≡ slice_index symbols i ∷ []
plain_symbol i h = plain_at (slice_index symbols i) (plain_below 64 refl i h)

plain_then : (i : ℕ) (rest : List ℕ) → i < 64 → escape rest ≡ rest → escape (slice_index symbols i ∷ rest) ≡ slice_index symbols i ∷ rest
plain_then i rest h plain = ap (λ l. l ++ escape rest) (plain_symbol i h) ∙ ap (λ l. slice_index symbols i ∷ l) plain

plain_symbols : (m : List ℕ) → IsBytes m → escape (encode_symbols symbols m) ≡ encode_symbols symbols m
unfolding encode_symbols
plain_symbols [] h = refl
plain_symbols (a ∷ []) h =
    let a_fits : a < 256 = h 0 in
    plain_then (a / 4) _ (omega arith) (plain_then (a % 4 * 16) [] (omega arith) refl)
plain_symbols (a ∷ b ∷ []) h =
    let a_fits : a < 256 = h 0 in
    let b_fits : b < 256 = h 1 in
    plain_then (a / 4) _ (omega arith) (plain_then (a % 4 * 16 + b / 16) _ (omega arith) (plain_then (b % 16 * 4) [] (omega arith) refl))
plain_symbols (a ∷ b ∷ c ∷ rest) h =
    let a_fits : a < 256 = h 0 in
    let b_fits : b < 256 = h 1 in
    let c_fits : c < 256 = h 2 in
    plain_then (a / 4) _ (omega arith) (plain_then (a % 4 * 16 + b / 16) _ (omega arith) (plain_then (b % 16 * 4 + c / 64) _ (omega arith) (plain_then (c % 64) _ (omega arith)
    (plain_symbols rest (λ i. h (suc (suc (suc i))))))))

-- the member of an id
pub id_joined : (t t₁ t₂ t₃ bytes : List ℕ) → IsBytes bytes → t₁ ≡ t ++ codes ",\"topic_id\":\"" → t₂ ≡ t₁ ++ id_text bytes → t₃ ≡ t₂ ++ codes "\""
    → t₃ ≡ t ++ (codes ",\"topic_id\":" ++ compact_text (string (id_text bytes)))
id_joined t t₁ t₂ t₃ bytes are_bytes e₁ e₂ e₃ =
    let plain : escape (id_text bytes) ≡ id_text bytes =
    ap escape (append-nil (encode_symbols symbols bytes)) ∙ plain_symbols bytes are_bytes ∙ sym (append-nil (encode_symbols symbols bytes)) in
    thrice_added t t₁ t₂ t₃ (codes ",\"topic_id\":\"") (id_text bytes) (codes "\"") e₁ e₂ e₃
    ∙ ap (λ l. t ++ (codes ",\"topic_id\":" ++ 34 ∷ (l ++ 34 ∷ []))) (sym plain)

-- ---- members that are put one behind another

-- the names are digits below n
AreBelow : ℕ → Members → Type 0
AreBelow n no_members = ⊤
AreBelow n (member k d ms) = ((j : ℕ) × (k ≡ (48 + j) ∷ []) × (j < n)) × AreBelow n ms

below_more : (n : ℕ) (ms : Members) → AreBelow n ms → AreBelow (n + 1) ms
unfolding AreBelow
below_more n no_members h = tt
below_more n (member k d ms) h = ((h.0.0, h.0.1, omega (arith, h.0.2)), below_more n ms h.1)

below_behind : (n : ℕ) (d : Data) (ms : Members) → AreBelow n ms → AreBelow (n + 1) (behind ms (member ((48 + n) ∷ []) d no_members))
unfolding AreBelow behind
below_behind n d no_members h = ((n, refl, omega arith), tt)
below_behind n d (member k e ms) h = ((h.0.0, h.0.1, omega (arith, h.0.2)), below_behind n d ms h.1)

by_rank : (x y : ℕ) (o : Ordering) → y < x → MatchOrdering o (x < y) (x ≡ y) (y < x) → o ≡ Greater
by_rank x y Less h r = absurd (omega arith)
by_rank x y Equal h r = absurd (omega arith)
by_rank x y Greater h r = refl

above : (n j : ℕ) → j < n → slice_cmp nat_cmp ((48 + n) ∷ []) ((48 + j) ∷ []) ≡ Greater
above n j h =
    let first : nat_cmp (48 + n) (48 + j) ≡ Greater = by_rank (48 + n) (48 + j) (nat_cmp (48 + n) (48 + j)) (omega arith) (ranked (48 + n) (48 + j) (nat_cmp (48 + n) (48 + j)) refl) in
    rw first refl

-- a name above the others goes last
put_above : (n : ℕ) (d : Data) (ms : Members) → AreBelow n ms → put ((48 + n) ∷ []) d ms ≡ behind ms (member ((48 + n) ∷ []) d no_members)
unfolding AreBelow behind
put_above n d no_members h = refl
put_above n d (member k e ms) h =
    let over : slice_cmp nat_cmp ((48 + n) ∷ []) k ≡ Greater = ap (λ l. slice_cmp nat_cmp ((48 + n) ∷ []) l) h.0.1 ∙ above n h.0.0 h.0.2 in
    rw over (ap (λ ns. member k e ns) (put_above n d ms h.1))

replicas_behind : (n : ℕ) (ms : Members) (rows : List AssignmentRow) → AreBelow n ms → are_digits n rows ≡ true → replicas_members ms rows ≡ behind ms (in_order rows)
unfolding behind
replicas_behind n ms [] below h = sym (behind_none ms)
replicas_behind n ms (row ∷ rows) below h =
    let parts = and_parts _ _ h in
    let few : n < 10 = ltb-true n 10 (and_parts _ _ parts.0).0 in
    let is : row.number ≡ pos n = (Decides-int_eq row.number (pos n)).0 (and_parts _ _ parts.0).1 in
    let name : signed_decimal row.number ≡ (48 + n) ∷ [] = ap signed_decimal is ∙ decimal_digit n few in
    let d = brokers_data row.replicas in
    let put : put (signed_decimal row.number) d ms ≡ behind ms (member ((48 + n) ∷ []) d no_members) =
    ap (λ k. put k d ms) name ∙ put_above n d ms below in
    ap (λ ns. replicas_members ns rows) put
    ∙ replicas_behind (n + 1) (behind ms (member ((48 + n) ∷ []) d no_members)) rows (below_behind n d ms below) parts.1
    ∙ behind_both ms (member ((48 + n) ∷ []) d no_members) (in_order rows)
    ∙ ap (λ k. behind ms (member k d (in_order rows))) (sym name)

-- the replicas of partitions whose numbers are their places stand as the partitions do
replicas_in_order : (rows : List AssignmentRow) → are_digits 0 rows ≡ true → replicas_members no_members rows ≡ in_order rows
unfolding AreBelow behind
replicas_in_order rows h = replicas_behind 0 no_members rows tt h

pub in_order_text : (rows : List AssignmentRow) → are_digits 0 rows ≡ true → compact_text (object (in_order rows)) ≡ compact_text (object (replicas_members no_members rows))
in_order_text rows h = ap (λ ms. compact_text (object ms)) (sym (replicas_in_order rows h))
