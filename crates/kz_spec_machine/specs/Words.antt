-- The commands of the program, by its words.
use Rattle.std.specs.Prelude.{◌≡◌, List, [], ◌∷◌, ℕ, Bool, false, ◌&&◌, nat_le, bytes_eq, Option, Some, None, map, option_map, String, string_bytes, codes, if◌then◌else◌}
use Rattle.std.specs.declared.alloc.Global.{Global}
use Rattle.std.specs.List.{list_all}
use Rattle.kz_types.specs.declared.limits.TheConstants.{MAX_GENERATED}
use Rattle.kz_types.specs.Numbers.{is_digit, digits_up_to, canonical}

-- What is told of a tree and a log: their lines, the znodes that the metadata is rendered as at the log's end or at an offset, how
-- they agree, and their figures.
pub data Report : Type 0 where
  DumpTree : Report
  DumpLog : Report
  Render : Report
  RenderAt : ℕ → Report
  Check : Report
  Figures : Report

pub data Command : Type 0 where
  Init : Command
  Load : Command
  Replay : Command
  Upgrade : Command
  -- what stands in both files is told
  Tell : Report → Command
  -- a script with so many changes is written, or with more than are allowed
  Generate : Option ℕ → Command

abbrev pub command_of_word : List ℕ → Option Command
command_of_word word =
    if bytes_eq word (codes "init") then Some Init
    else (if bytes_eq word (codes "load") then Some Load
    else (if bytes_eq word (codes "replay") then Some Replay
    else (if bytes_eq word (codes "upgrade") then Some Upgrade
    else (if bytes_eq word (codes "dump-tree") then Some (Tell DumpTree)
    else (if bytes_eq word (codes "dump-log") then Some (Tell DumpLog)
    else (if bytes_eq word (codes "render") then Some (Tell Render)
    else (if bytes_eq word (codes "check") then Some (Tell Check)
    else (if bytes_eq word (codes "status") then Some (Tell Figures)
    else None))))))))

-- digits, of which the first isn't 0
abbrev pub is_count : List ℕ → Bool
is_count [] = false
is_count (b ∷ bs) = nat_le 49 b && nat_le b 57 && list_all is_digit bs

-- the script of so many changes
abbrev pub generate_of : List ℕ → Option Command
generate_of count = if is_count count then Some (Generate (digits_up_to MAX_GENERATED count)) else None

-- a command and a number
abbrev pub command_of_two : List ℕ → List ℕ → Option Command
command_of_two word number =
    if bytes_eq word (codes "render") then option_map (λ offset. Tell (RenderAt offset)) (canonical number)
    else (if bytes_eq word (codes "generate") then generate_of number
    else None)

-- Each command is one word, or a word and a number.
abbrev pub command_of_words : List (List ℕ) → Option Command
command_of_words [] = None
command_of_words (word ∷ []) = command_of_word word
command_of_words (word ∷ number ∷ []) = command_of_two word number
command_of_words (word ∷ number ∷ other ∷ more) = None

-- the command that these words name, or none
abbrev pub command_of : List (String Global) → Option Command
command_of words = command_of_words (map string_bytes words)
