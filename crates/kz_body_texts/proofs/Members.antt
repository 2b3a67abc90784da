-- Lemmas on members that are put and written one behind another.
use Rattle.std.proofs.Common.{◌≡◌, ℕ, Bool, true, List, [], ◌∷◌, ◌++◌, append_assoc, refl, ap, ◌∙◌}
use Rattle.json.specs.Print.{quoted}
use Rattle.serde_json.specs.Data.{Data, Members, no_members, member}
use Rattle.serde_json.specs.Written.{compact_text, comma_if, members_text}
use Rattle.kz_body_texts.proofs.TextLemmas.{added}

-- members behind others
unfoldable pub behind : Members → Members → Members
behind no_members ns = ns
behind (member k d ms) ns = member k d (behind ms ns)

pub behind_none : (ms : Members) → behind ms no_members ≡ ms
unfolding behind
behind_none no_members = refl
behind_none (member k d ms) = ap (λ ns. member k d ns) (behind_none ms)

pub behind_both : (ms ns os : Members) → behind (behind ms ns) os ≡ behind ms (behind ns os)
unfolding behind
behind_both no_members ns os = refl
behind_both (member k d ms) ns os = ap (λ ns. member k d ns) (behind_both ms ns os)

-- a member, and what is to come behind it
pub member_added : (t t₁ t₂ : List ℕ) (later : Bool) (name : List ℕ) (d : Data) (ms : Members)
    → t₁ ≡ t ++ (comma_if later ++ (quoted name ++ 58 ∷ [])) → t₂ ≡ t₁ ++ compact_text d
    → t₂ ++ members_text true ms ≡ t ++ members_text later (member name d ms)
member_added t t₁ t₂ later name d ms e₁ e₂ =
    let rest = compact_text d ++ members_text true ms in
    added t₁ t₂ (compact_text d) (members_text true ms) e₂
    ∙ added t t₁ (comma_if later ++ (quoted name ++ 58 ∷ [])) rest e₁
    ∙ ap (λ l. t ++ l) (append_assoc (comma_if later) (quoted name ++ 58 ∷ []) rest ∙ ap (λ l. comma_if later ++ l) (append_assoc (quoted name) (58 ∷ []) rest))
