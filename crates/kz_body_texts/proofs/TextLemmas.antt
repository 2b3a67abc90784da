-- Lemmas on the texts of bodies.
use Rattle.std.proofs.Common.{◌≡◌, ℕ, List, [], ◌++◌, append_assoc, refl, ap, ◌∙◌, codes}
use Rattle.std.specs.Prelude.{ℤ, Result, Ok, Err, OnOk}
use Rattle.std.specs.Fmt.{digits}
use Rattle.json.proofs.OnLiterals.{json_on_literals}
use Rattle.serde_json.specs.Data.{object, string, no_members}
use Rattle.serde_json.specs.Written.{compact_text}
use Rattle.kz_types.specs.Ids.{id_text}
use Rattle.kz_types.specs.declared.id.Id.{Id}
use Rattle.kz_types.specs.declared.bodies.AssignmentRow.{AssignmentRow}
use Rattle.kz_spec_data.specs.Bodies.{whole_data, brokers_data, adding_members, replicas_members, removing_members, topic_data, state_data}

-- what is added, and what is still to come
pub added : (old new piece rest : List ℕ) → new ≡ old ++ piece → new ++ rest ≡ old ++ (piece ++ rest)
added old new piece rest e = ap (λ text. text ++ rest) e ∙ append_assoc old piece rest

-- the same of two pieces
both_added : (old new one two rest : List ℕ) → new ≡ old ++ (one ++ two) → new ++ rest ≡ old ++ (one ++ (two ++ rest))
both_added old new one two rest e = added old new (one ++ two) rest e ∙ ap (λ text. old ++ text) (append_assoc one two rest)

-- what ends a text, where a call adds the end of what was to come
pub closed : {T E : Type 0} (r : Result T E) (new old rest whole : List ℕ) → OnOk r (new ≡ old ++ rest) → old ++ rest ≡ whole → OnOk r (new ≡ whole)
closed (Ok t) new old rest whole e all = e ∙ all
closed (Err e) new old rest whole h all = tt

-- three texts that are added one after another
pub thrice_added : (t t₁ t₂ t₃ a b c : List ℕ) → t₁ ≡ t ++ a → t₂ ≡ t₁ ++ b → t₃ ≡ t₂ ++ c → t₃ ≡ t ++ (a ++ (b ++ c))
thrice_added t t₁ t₂ t₃ a b c e₁ e₂ e₃ = e₃ ∙ added t₁ t₂ b c e₂ ∙ added t t₁ a (b ++ c) e₁

-- the pieces of a state's text
state_pieces : (leader leader_epoch controller_epoch : ℤ) (isr : List ℤ) (recovery : ℤ)
    → codes "{\"controller_epoch\":" ++ (compact_text (whole_data controller_epoch)
    ++ (codes ",\"isr\":" ++ (compact_text (brokers_data isr)
    ++ (codes ",\"leader\":" ++ (compact_text (whole_data leader)
    ++ (codes ",\"leader_epoch\":" ++ (compact_text (whole_data leader_epoch)
    ++ (codes ",\"leader_recovery_state\":" ++ (compact_text (whole_data recovery) ++ codes ",\"version\":1}")))))))))
    ≡ compact_text (state_data leader leader_epoch controller_epoch isr recovery)
unfolding json_on_literals digits
state_pieces leader leader_epoch controller_epoch isr recovery = refl

-- the text of a state, piece by piece
pub state_joined : (t t₁ t₂ t₃ t₄ t₅ t₆ : List ℕ) (leader leader_epoch controller_epoch : ℤ) (isr : List ℤ) (recovery : ℤ) → t ≡ []
    → t₁ ≡ t ++ (codes "{\"controller_epoch\":" ++ compact_text (whole_data controller_epoch))
    → t₂ ≡ t₁ ++ (codes ",\"isr\":" ++ compact_text (brokers_data isr))
    → t₃ ≡ t₂ ++ (codes ",\"leader\":" ++ compact_text (whole_data leader))
    → t₄ ≡ t₃ ++ (codes ",\"leader_epoch\":" ++ compact_text (whole_data leader_epoch))
    → t₅ ≡ t₄ ++ (codes ",\"leader_recovery_state\":" ++ compact_text (whole_data recovery))
    → t₆ ≡ t₅ ++ codes ",\"version\":1}"
    → t₆ ≡ compact_text (state_data leader leader_epoch controller_epoch isr recovery)
state_joined t t₁ t₂ t₃ t₄ t₅ t₆ leader leader_epoch controller_epoch isr recovery none e₁ e₂ e₃ e₄ e₅ e₆ =
    let a = compact_text (whole_data controller_epoch) in
    let b = compact_text (brokers_data isr) in
    let c = compact_text (whole_data leader) in
    let d = compact_text (whole_data leader_epoch) in
    let e = compact_text (whole_data recovery) in
    let r₅ = codes ",\"version\":1}" in
    let r₄ = codes ",\"leader_recovery_state\":" ++ (e ++ r₅) in
    let r₃ = codes ",\"leader_epoch\":" ++ (d ++ r₄) in
    let r₂ = codes ",\"leader\":" ++ (c ++ r₃) in
    let r₁ = codes ",\"isr\":" ++ (b ++ r₂) in
    let r = codes "{\"controller_epoch\":" ++ (a ++ r₁) in
    e₆
    ∙ both_added t₄ t₅ (codes ",\"leader_recovery_state\":") e r₅ e₅
    ∙ both_added t₃ t₄ (codes ",\"leader_epoch\":") d r₄ e₄
    ∙ both_added t₂ t₃ (codes ",\"leader\":") c r₃ e₃
    ∙ both_added t₁ t₂ (codes ",\"isr\":") b r₂ e₂
    ∙ both_added t t₁ (codes "{\"controller_epoch\":") a r₁ e₁
    ∙ ap (λ text. text ++ r) none
    ∙ state_pieces leader leader_epoch controller_epoch isr recovery

-- the pieces of a topic's text
topic_pieces : (id : Id) (rows : List AssignmentRow)
    → codes "{\"adding_replicas\":" ++ (compact_text (object (adding_members no_members rows))
    ++ (codes ",\"partitions\":" ++ (compact_text (object (replicas_members no_members rows))
    ++ (codes ",\"removing_replicas\":" ++ (compact_text (object (removing_members no_members rows))
    ++ (codes ",\"topic_id\":" ++ (compact_text (string (id_text id.bytes)) ++ codes ",\"version\":3}")))))))
    ≡ compact_text (topic_data id rows)
unfolding json_on_literals digits
topic_pieces id rows = refl

-- the text of a topic, piece by piece
pub topic_joined : (t t₁ t₂ t₃ t₄ t₅ : List ℕ) (id : Id) (rows : List AssignmentRow) → t ≡ []
    → t₁ ≡ t ++ (codes "{\"adding_replicas\":" ++ compact_text (object (adding_members no_members rows)))
    → t₂ ≡ t₁ ++ (codes ",\"partitions\":" ++ compact_text (object (replicas_members no_members rows)))
    → t₃ ≡ t₂ ++ (codes ",\"removing_replicas\":" ++ compact_text (object (removing_members no_members rows)))
    → t₄ ≡ t₃ ++ (codes ",\"topic_id\":" ++ compact_text (string (id_text id.bytes)))
    → t₅ ≡ t₄ ++ codes ",\"version\":3}"
    → t₅ ≡ compact_text (topic_data id rows)
topic_joined t t₁ t₂ t₃ t₄ t₅ id rows none e₁ e₂ e₃ e₄ e₅ =
    let a = compact_text (object (adding_members no_members rows)) in
    let b = compact_text (object (replicas_members no_members rows)) in
    let c = compact_text (object (removing_members no_members rows)) in
    let d = compact_text (string (id_text id.bytes)) in
    let r₄ = codes ",\"version\":3}" in
    let r₃ = codes ",\"topic_id\":" ++ (d ++ r₄) in
    let r₂ = codes ",\"removing_replicas\":" ++ (c ++ r₃) in
    let r₁ = codes ",\"partitions\":" ++ (b ++ r₂) in
    let r = codes "{\"adding_replicas\":" ++ (a ++ r₁) in
    e₅
    ∙ both_added t₃ t₄ (codes ",\"topic_id\":") d r₄ e₄
    ∙ both_added t₂ t₃ (codes ",\"removing_replicas\":") c r₃ e₃
    ∙ both_added t₁ t₂ (codes ",\"partitions\":") b r₂ e₂
    ∙ both_added t t₁ (codes "{\"adding_replicas\":") a r₁ e₁
    ∙ ap (λ text. text ++ r) none
    ∙ topic_pieces id rows
