-- How a run of the program agrees with what its input asks for, and how it ends where an object of the outside fails.
use Rattle.std.specs.Prelude.{◌≡◌, ◌≢◌, ℕ, ◌==◌, Bool, true, false, ◌||◌, List, ◌++◌}
use Rattle.kz_types.specs.declared.limits.Limit.TheVariants as limits
use Rattle.kz_types.specs.Limits.{number_of_limit}
use Rattle.kz_types.specs.declared.outside.Status.{Status}
use Rattle.kz_types.specs.declared.outside.Status.TheVariants as status
use Rattle.kz_types.specs.Causes.{Rose}
use Rattle.kz_spec_machine.specs.Machine.{World}
use Rattle.kz_spec_machine.specs.Output.{Outcome, Progress, outcome_of_replay, written_so_far}

-- a text that another begins with
abbrev pub IsFront : List ℕ → List ℕ → Type 0
IsFront front text = (rest : List ℕ) × (text ≡ front ++ rest)

-- the limit of this number is one on the bytes of a file
abbrev pub is_file_limit : ℕ → Bool
is_file_limit which = (which == number_of_limit limits.TreeFileBytes) || (which == number_of_limit limits.LogFileBytes)

-- A run ended at a limit, one on the bytes of a file or another. A file's limit isn't one of the script's outcome.
abbrev pub EndsAtLimit : Bool → Outcome → List ℕ → World → Status → Type 0
EndsAtLimit true o sent w s = IsFront sent o.text
EndsAtLimit false o sent w s = o ≡ record { text = sent; status = s; world = w }

-- How a run ended, by its status. `o` is the outcome that its script asks for, `p` is what it had written for the lines that it took
-- whole, `sent` is what it wrote, and `w` the world in which it ended. It wrote the whole outcome; where a read failed, exactly what
-- it had to by then; and where a write or a disk failed, a file is full, or memory ran out, a front of the outcome's text.
abbrev pub EndsAs : Outcome → Progress → List ℕ → World → Status → Type 0
EndsAs o p sent w status.Done = o ≡ record { text = sent; status = status.Done; world = w }
EndsAs o p sent w status.Usage = ⊥
EndsAs o p sent w (status.Script line) = o ≡ record { text = sent; status = status.Script line; world = w }
EndsAs o p sent w status.ReadFault = p ≡ record { text = sent; world = w }
EndsAs o p sent w status.WriteFault = IsFront sent o.text
EndsAs o p sent w status.TreeFault = IsFront sent o.text
EndsAs o p sent w status.LogFault = IsFront sent o.text
EndsAs o p sent w (status.TreeDamaged at) = ⊥
EndsAs o p sent w (status.LogDamaged at why) = ⊥
EndsAs o p sent w (status.Disagrees path) = ⊥
EndsAs o p sent w status.NoMemory = IsFront sent o.text
EndsAs o p sent w (status.Limit which number) = EndsAtLimit (is_file_limit which) o sent w (status.Limit which number)
EndsAs o p sent w status.NotEmpty = ⊥
EndsAs o p sent w (status.NoOffset base end) = ⊥

-- A run on this script, from a world on, that has taken these bytes of it and written so much ended as the script asks for, in
-- another world and with this status.
abbrev pub Agrees : World → List ℕ → List ℕ → List ℕ → World → Status → Type 0
Agrees first script taken sent last result = EndsAs (outcome_of_replay first script) (written_so_far first taken) sent last result

-- Each object of the outside has a result of its own. A run, or a part of it, ends with that result exactly where a call of the
-- object failed, and that was the object's last call. With any other result no call of it has failed.
pub record EndsAtFailure {A : Type 0} (own result : A) (faults faults_now : ℕ) (failed failed_now : Bool) : Type 0 where
  pub cause : result ≡ own → Rose faults faults_now
  pub last : result ≡ own → failed_now ≡ true
  pub calm : result ≢ own → faults_now ≡ faults
  pub none : result ≢ own → failed_now ≡ true → failed ≡ true
