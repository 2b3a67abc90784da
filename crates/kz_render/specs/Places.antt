-- The parts of a path, where there are four or five.
use Rattle.std.specs.Prelude.{◌≡◌, ◌<◌, ℕ, length, List, [], ◌∷◌}
use Rattle.kz_render.specs.declared.places.Parts.{Parts}
use Rattle.kz_render.specs.declared.places.Parts.TheVariants.{Fewer, Four, Five, More}

-- these are all parts, or there are other than four or five
abbrev pub IsCut : List (List ℕ) → Parts → Type 0
IsCut parts Fewer = length parts < 4
IsCut parts (Four a b c d) = parts ≡ a.now ∷ b.now ∷ c.now ∷ d.now ∷ []
IsCut parts (Five a b c d e) = parts ≡ a.now ∷ b.now ∷ c.now ∷ d.now ∷ e.now ∷ []
IsCut parts More = 5 < length parts
