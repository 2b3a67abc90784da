-- The parts of a path, as a value of their number.
use Rattle.std.specs.Prelude.{◌≡◌, ⊤, ℕ, ◌≤◌, length, List, [], ◌∷◌}
use Rattle.kz_path.specs.declared.cut.Parts.{Parts}
use Rattle.kz_path.specs.declared.cut.Parts.TheVariants.{One, Two, Three, Four, Five, Six, More}

-- these are all parts, or there are at least seven
abbrev pub IsCut : List (List ℕ) → Parts → Type 0
IsCut parts (One a) = parts ≡ a.now ∷ []
IsCut parts (Two a b) = parts ≡ a.now ∷ b.now ∷ []
IsCut parts (Three a b c) = parts ≡ a.now ∷ b.now ∷ c.now ∷ []
IsCut parts (Four a b c d) = parts ≡ a.now ∷ b.now ∷ c.now ∷ d.now ∷ []
IsCut parts (Five a b c d e) = parts ≡ a.now ∷ b.now ∷ c.now ∷ d.now ∷ e.now ∷ []
IsCut parts (Six a b c d e f) = parts ≡ a.now ∷ b.now ∷ c.now ∷ d.now ∷ e.now ∷ f.now ∷ []
IsCut parts More = 7 ≤ length parts

-- each part has at most so many bytes
abbrev pub AreWithin : ℕ → Parts → Type 0
AreWithin most (One a) = length a.now ≤ most
AreWithin most (Two a b) = (length a.now ≤ most) × (length b.now ≤ most)
AreWithin most (Three a b c) = (length a.now ≤ most) × (length b.now ≤ most) × (length c.now ≤ most)
AreWithin most (Four a b c d) = (length a.now ≤ most) × (length b.now ≤ most) × (length c.now ≤ most) × (length d.now ≤ most)
AreWithin most (Five a b c d e) = (length a.now ≤ most) × (length b.now ≤ most) × (length c.now ≤ most) × (length d.now ≤ most) × (length e.now ≤ most)
AreWithin most (Six a b c d e f) = (length a.now ≤ most) × (length b.now ≤ most) × (length c.now ≤ most) × (length d.now ≤ most) × (length e.now ≤ most) × (length f.now ≤ most)
AreWithin most More = ⊤
