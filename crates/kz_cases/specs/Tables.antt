-- Tables of cases: their lines, the outcome of each line, and what is printed of them.
use Rattle.std.specs.Prelude.{◌≡◌, ℕ, ◌+◌, ◌==◌, Bool, false, not, List, [], ◌∷◌, ◌++◌, Option, Some, None, IfSome, if◌then◌else◌, codes, decimal}
use Rattle.std.specs.Str.{bytes_eq}
use Rattle.std.specs.List.{count_by}
use Rattle.std.specs.Io.KnownBytes.{Appends}
use Rattle.serde_json.specs.Data.{Data}
use Rattle.serde_json.specs.Written.{compact_text, has_float, IsInOrder}
use Rattle.kz_spec_data.specs.Bodies.{json_of}
use Rattle.kz_case_answers.specs.Answers.{IsAnswer}

-- ---- lines

-- lines of which the first has one more byte at its front
abbrev pub with_byte : ℕ → List (List ℕ) → List (List ℕ)
with_byte b [] = (b ∷ []) ∷ []
with_byte b (line ∷ lines) = (b ∷ line) ∷ lines

-- The lines of a table, without their line breaks. What stands after the last line break is a line unless it is empty.
abbrev pub lines_of : List ℕ → List (List ℕ)
lines_of [] = []
lines_of (b ∷ bs) = if b == 10 then [] ∷ lines_of bs else with_byte b (lines_of bs)

-- ---- outcomes

-- The outcome of a line: what the line has, and what came of it. Nothing came where the line is no case.
pub record Outcome : Type 0 where
  pub expected : List ℕ
  pub came : Option (List ℕ)

abbrev pub is_same : List ℕ → Option (List ℕ) → Bool
is_same expected None = false
is_same expected (Some came) = bytes_eq came expected

-- A line passes where what came is what it has.
abbrev pub passes : Outcome → Bool
passes o = is_same o.expected o.came

-- A line fails where it doesn't pass.
abbrev pub fails : Outcome → Bool
fails o = not (passes o)

-- A text spells a JSON value: its members in the order of their names, and no blank. `compact_text` gives no text of floats.
pub record IsTextOf (d : Data) (text : List ℕ) : Type 0 where
  pub order : IsInOrder text d
  pub compact : has_float d ≡ false → text ≡ compact_text d

-- a text that may be absent, and the value that it spells
abbrev pub IsTextIfAny : Option Data → Option (List ℕ) → Type 0
IsTextIfAny None None = Unit {0}
IsTextIfAny None (Some text) = ⊥
IsTextIfAny (Some d) None = ⊥
IsTextIfAny (Some d) (Some text) = IsTextOf d text

-- The line of a case has the case, and what comes of it is what the code answers.
pub record IsJudged (case : Data) (o : Outcome) : Type 0 where
  pub has : IsTextOf case o.expected
  pub answered : (answer : Option Data) × IsAnswer case answer × IsTextIfAny answer o.came

abbrev pub IsOutcomeOf : List ℕ → Option Data → Outcome → Type 0
IsOutcomeOf line None o = o ≡ record { expected = line; came = None }
IsOutcomeOf line (Some case) o = IsJudged case o

-- An outcome of a line. A line that is no JSON is no case, and has itself.
abbrev pub IsOutcome : List ℕ → Outcome → Type 0
IsOutcome line o = IsOutcomeOf line (json_of line) o

-- outcomes of lines, one of each in their order
abbrev pub AreOutcomes : List (List ℕ) → List Outcome → Type 0
AreOutcomes [] [] = Unit {0}
AreOutcomes [] (o ∷ os) = ⊥
AreOutcomes (line ∷ lines) [] = ⊥
AreOutcomes (line ∷ lines) (o ∷ os) = IsOutcome line o × AreOutcomes lines os

-- ---- what is printed

abbrev pub came_text : Option (List ℕ) → List ℕ
came_text None = codes "no case"
came_text (Some came) = came

-- Two lines are printed of a line that fails, each with its number.
abbrev pub difference : ℕ → Outcome → List ℕ
difference number o =
    decimal number ++ (codes " expected " ++ (o.expected ++ (codes "\n" ++ (decimal number ++ (codes " came " ++ (came_text o.came ++ codes "\n"))))))

-- what is printed of a line
abbrev pub told : ℕ → Outcome → List ℕ
told number o = if passes o then [] else difference number o

-- what is printed of the lines from this number on
abbrev pub all_told : ℕ → List Outcome → List ℕ
all_told number [] = []
all_told number (o ∷ os) = told number o ++ all_told (number + 1) os

-- the last line: how many lines passed and failed
abbrev pub summary : ℕ → ℕ → List ℕ
summary passed failed = decimal passed ++ (codes " passed, " ++ (decimal failed ++ codes " failed\n"))

-- what is printed of a table
abbrev pub report : List Outcome → List ℕ
report os = all_told 1 os ++ summary (count_by passes os) (count_by fails os)

-- A table was judged: what it had left where that is known, what was written before and after, and how many lines failed.
abbrev pub IsReported : Option (List ℕ) → Option (List ℕ) → Option (List ℕ) → ℕ → Type 0
IsReported table before after failed =
    (os : List Outcome) × IfSome table (λ bytes. AreOutcomes (lines_of bytes) os) × Appends before after (report os) × (failed ≡ count_by fails os)
