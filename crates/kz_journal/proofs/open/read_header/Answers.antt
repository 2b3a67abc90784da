use Rattle.std.proofs.Common.{◌≡◌, ℕ, List, [], ◌∷◌, take, drop, refl, ap, ◌∙◌}
use Rattle.kz_journal.proofs.open.read_header.Goals as goal

from_the_start : (l : List ℕ) → drop 0 l ≡ l
from_the_start [] = refl
from_the_start (b ∷ l) = refl

pub returns-in-Ok-clause-header : goal.returns-in-Ok-clause-header
returns-in-Ok-clause-header g c = λ file told.
    c.in-Ok.ensures.bytes file told ∙ ap (λ (k : ℕ). take k (drop 0 file)) c.read_piece.auto.buf ∙ ap (take 16) (from_the_start file)
