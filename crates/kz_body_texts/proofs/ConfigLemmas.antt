-- Lemmas on the text of a configuration's body.
use Rattle.std.proofs.Common.{◌≡◌, ℕ, ◌+◌, ◌<◌, Bool, true, List, [], ◌∷◌, ◌++◌, length, get_or, drop, refl, sym, ap, ◌∙◌, codes, Ordering, Less, Equal, Greater, true≢false}
use Rattle.std.specs.Prelude.{⊤}
use Rattle.std.specs.Ordering.{nat_cmp, is_lt, ordering_reverse}
use Rattle.std.specs.Cmp.Lexicographic.{slice_cmp}
use Rattle.std.specs.Fmt.{digits}
use Rattle.std.proofs.lemmas.Bool.{and_parts}
use Rattle.std.proofs.lemmas.Cmp.{nat_list_cmp_total}
use Rattle.std.proofs.lemmas.List.{drop_more}
use Rattle.json.specs.Print.{quoted}
use Rattle.json.proofs.OnLiterals.{json_on_literals}
use Rattle.serde_json.specs.Data.{Data, object, string, Members, no_members, member, put}
use Rattle.serde_json.specs.Written.{compact_text, comma_if, members_text}
use Rattle.kz_types.specs.declared.bodies.Pair.{Pair}
use Rattle.kz_spec_data.specs.Bodies.{with_texts, config_data}
use Rattle.kz_body_texts.specs.Texts.{rise_above, texts_in_order}
use Rattle.kz_body_texts.proofs.TextLemmas.{added}
use Rattle.kz_body_texts.proofs.Members.{behind, behind_none, behind_both, member_added}

-- ---- names that rise

-- the name stands above those of the members
AreUnder : List ℕ → Members → Type 0
AreUnder name no_members = ⊤
AreUnder name (member k d ms) = (slice_cmp nat_cmp name k ≡ Greater) × AreUnder name ms

is_less : (o : Ordering) → is_lt o ≡ true → o ≡ Less
is_less Less h = refl
is_less Equal h = absurd (true≢false (sym h))
is_less Greater h = absurd (true≢false (sym h))

over : (x y : List ℕ) → slice_cmp nat_cmp x y ≡ Less → slice_cmp nat_cmp y x ≡ Greater
over x y less = nat_list_cmp_total.antisymm y x ∙ ap ordering_reverse less

under_behind : (name k : List ℕ) (d : Data) (ms : Members) → AreUnder name ms → slice_cmp nat_cmp name k ≡ Greater → AreUnder name (behind ms (member k d no_members))
unfolding AreUnder behind
under_behind name k d no_members under above = (above, tt)
under_behind name k d (member l e ms) under above = (under.0, under_behind name k d ms under.1 above)

put_above : (name : List ℕ) (d : Data) (ms : Members) → AreUnder name ms → put name d ms ≡ behind ms (member name d no_members)
unfolding AreUnder behind
put_above name d no_members under = refl
put_above name d (member k e ms) under = rw under.0 (ap (λ ns. member k e ns) (put_above name d ms under.1))

texts_behind : (name : List ℕ) (ms : Members) (pairs : List Pair) → ((y : List ℕ) → slice_cmp nat_cmp name y ≡ Less → AreUnder y ms) → rise_above name pairs ≡ true
    → with_texts ms pairs ≡ behind ms (texts_in_order pairs)
unfolding behind
texts_behind name ms [] below h = sym (behind_none ms)
texts_behind name ms (pair ∷ pairs) below h =
    let parts = and_parts _ _ h in
    let less : slice_cmp nat_cmp name pair.name ≡ Less = is_less _ parts.0 in
    let one = member pair.name (string pair.value) no_members in
    ap (λ ns. with_texts ns pairs) (put_above pair.name (string pair.value) ms (below pair.name less))
    ∙ texts_behind pair.name (behind ms one) pairs
    (λ y more. under_behind y pair.name (string pair.value) ms (below y (nat_list_cmp_total.trans name pair.name y less more)) (over pair.name y more)) parts.1
    ∙ behind_both ms one (texts_in_order pairs)

-- pairs whose names rise stand in their order
pub texts_in_order_text : (pairs : List Pair) → rise_above [] pairs ≡ true → compact_text (object (texts_in_order pairs)) ≡ compact_text (object (with_texts no_members pairs))
unfolding AreUnder behind
texts_in_order_text pairs h = ap (λ ms. compact_text (object ms)) (sym (texts_behind [] no_members pairs (λ y less. tt) h))

-- ---- the text

-- the name of a member, and its colon
pub name_joined : (t t₁ t₂ t₃ name : List ℕ) (later : Bool) → t₁ ≡ t ++ comma_if later → t₂ ≡ t₁ ++ quoted name → t₃ ≡ t₂ ++ codes ":"
    → t₃ ≡ t ++ (comma_if later ++ (quoted name ++ 58 ∷ []))
name_joined t t₁ t₂ t₃ name later e₁ e₂ e₃ = e₃ ∙ added t₁ t₂ (quoted name) (58 ∷ []) e₂ ∙ added t t₁ (comma_if later) (quoted name ++ 58 ∷ []) e₁

-- a member in a loop over pairs
pub pair_added : (pairs : List Pair) (pair : Pair) (at : ℕ) (t t₁ t₂ whole : List ℕ) (later : Bool) → at < length pairs → pair ≡ get_or pairs at pair
    → t₁ ≡ t ++ (comma_if later ++ (quoted pair.name ++ 58 ∷ [])) → t₂ ≡ t₁ ++ quoted pair.value
    → t ++ members_text later (texts_in_order (drop at pairs)) ≡ whole → t₂ ++ members_text true (texts_in_order (drop (at + 1) pairs)) ≡ whole
pair_added pairs pair at t t₁ t₂ whole later less is e₁ e₂ so_far =
    let step : drop at pairs ≡ pair ∷ drop (at + 1) pairs = drop_more pairs at pair less ∙ ap (λ p. p ∷ drop (at + 1) pairs) (sym is) in
    member_added t t₁ t₂ later pair.name (string pair.value) (texts_in_order (drop (at + 1) pairs)) e₁ e₂
    ∙ ap (λ ps. t ++ members_text later (texts_in_order ps)) (sym step) ∙ so_far

config_pieces : (pairs : List Pair) → codes "{\"config\":" ++ (compact_text (object (with_texts no_members pairs)) ++ codes ",\"version\":1}") ≡ compact_text (config_data pairs)
unfolding json_on_literals digits
config_pieces pairs = refl

-- the text of a configuration, piece by piece
pub config_joined : (t t₁ t₂ t₃ : List ℕ) (pairs : List Pair) → t ≡ [] → t₁ ≡ t ++ codes "{\"config\":" → t₂ ≡ t₁ ++ compact_text (object (with_texts no_members pairs))
    → t₃ ≡ t₂ ++ codes ",\"version\":1}" → t₃ ≡ compact_text (config_data pairs)
config_joined t t₁ t₂ t₃ pairs none e₁ e₂ e₃ =
    let a = compact_text (object (with_texts no_members pairs)) in
    e₃ ∙ added t₁ t₂ a (codes ",\"version\":1}") e₂ ∙ added t t₁ (codes "{\"config\":") (a ++ codes ",\"version\":1}") e₁
    ∙ ap (λ text. text ++ (codes "{\"config\":" ++ (a ++ codes ",\"version\":1}"))) none ∙ config_pieces pairs
