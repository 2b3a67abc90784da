-- What is known at a path: each key that spans it holds the same in two metadata.
use Rattle.std.proofs.Common.{◌≡◌, ℕ, List, Option, Some, None, Contains, refl}
use Rattle.kz_types.specs.declared.bodies.Body.{Body}
use Rattle.kz_types.specs.declared.key.EntityKey.{EntityKey}
use Rattle.kz_spec_data.specs.Metadata.{Image}
use Rattle.kz_laws_values.proofs.Legal.{IsGoodKey}
use Rattle.kz_spec_data.specs.Entities.{entity}
use Rattle.kz_spec_data.specs.Spans.{spanned_paths}

-- Each good key that spans this path holds the same in both.
abbrev pub HoldTheSame : Image → Image → List ℕ → Type 0
HoldTheSame old new p = (k : EntityKey) → IsGoodKey k → Contains (spanned_paths k) p → entity old k ≡ entity new k

-- two bodies are the same where that is so if there is either
pub unless_neither : (b c : Option Body) → ((x : Body) → b ≡ Some x → b ≡ c) → ((x : Body) → c ≡ Some x → b ≡ c) → b ≡ c
unless_neither None None one other = refl
unless_neither (Some x) c one other = one x refl
unless_neither None (Some x) one other = other x refl
