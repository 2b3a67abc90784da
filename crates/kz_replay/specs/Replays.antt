-- What a replay does with two files.
use Rattle.std.specs.Prelude.{◌≡◌, ◌⊎◌, ◌∷◌, ◌++◌, ⊤, ℕ, ℤ, List, Option, Some, None, IfSome}
use Rattle.std.specs.Io.KnownBytes.{Appends, Consumes, IsAtEnd}
use Rattle.kz_types.specs.declared.outside.Status.{Status}
use Rattle.kz_types.specs.declared.outside.Status.TheVariants as status
use Rattle.kz_types.specs.declared.machine.Answer.TheVariants as answer
use Rattle.kz_types.specs.declared.machine.Event.{Event}
use Rattle.kz_types.specs.declared.machine.Event.TheVariants as event
use Rattle.kz_types.specs.declared.machine.Reply.{Reply}
use Rattle.kz_types.specs.Causes.{Rose}
use Rattle.kz_spec_data.specs.Tree.{Tree}
use Rattle.kz_spec_data.specs.Log.{Log}
use Rattle.kz_spec_machine.specs.Machine.{World, after_events, next}
use Rattle.kz_spec_machine.specs.Endings.{Agrees, EndsAtFailure}
use Rattle.kz_spec_machine.specs.InStep.{script_events}
use Rattle.kz_spec_machine.specs.Moments.{Moment, replayed_moments}
use Rattle.kz_spec_machine.specs.Openings.{opened_world, IsSoundPair}
use Rattle.kz_spec_machine.specs.Promises.{Promises}
use Rattle.kz_laws_bounds.specs.Bounds.{EndsByItself}
use Rattle.kz_laws_bounds.specs.Events.{AllLeaveBases}
use Rattle.kz_spec_machine.specs.Files.{damage, StandFor, EndsAtDisk}
use Rattle.kz_commands.specs.Outside.{Outside}
use Rattle.kz_replay.specs.Stops.{StandAtMoment}

-- ---- files that are damaged

-- The status tells of no more than that a disk failed or memory ran out.
abbrev pub TellsFailure : Status → Type 0
TellsFailure status.TreeFault = ⊤
TellsFailure status.LogFault = ⊤
TellsFailure status.NoMemory = ⊤
TellsFailure s = ⊥

-- A damaged file ends the run before anything is read or written.
abbrev pub EndsAtDamage : Outside → Outside → Outside → Outside → Option Status → Status → Type 0
EndsAtDamage input input_now out out_now None result = ⊤
EndsAtDamage input input_now out out_now (Some s) result = ((result ≡ s) ⊎ TellsFailure result) × (input_now ≡ input) × (out_now ≡ out)

-- ---- files that stand for a tree and a log

-- What the files stand for at the end: the tree and the log of the world in which the run ended. Where a disk failed, nothing is
-- said here.
abbrev pub LeavesWorld : Status → Outside → Outside → Outside → Outside → List ℕ → List ℕ → World → Type 0
LeavesWorld status.TreeFault tree tree_now log log_now t l w = ⊤
LeavesWorld status.LogFault tree tree_now log log_now t l w = ⊤
LeavesWorld status.WriteFault tree tree_now log log_now t l w = StandFor t l w.shared.tree w.shared.log ⊎ (Rose tree.faults tree_now.faults ⊎ Rose log.faults log_now.faults)
LeavesWorld result tree tree_now log log_now t l w = StandFor t l w.shared.tree w.shared.log

-- Unless a disk failed, they stand for a moment of the replay that keeps up with what was written.
abbrev pub KeepsUpAt : Status → List Moment → List ℕ → List ℕ → List ℕ → Type 0
KeepsUpAt status.TreeFault ms sent t l = ⊤
KeepsUpAt status.LogFault ms sent t l = ⊤
KeepsUpAt result ms sent t l = StandAtMoment ms sent t l

-- A replay of this script, whose files stood for this world, took these bytes, wrote so much, and ended in another world, as the
-- script asks for. Its files stand for that world, which keeps up with what was written.
pub record Replayed (first : World) (script : List ℕ) (input input_now out out_now tree tree_now log log_now : Outside) (result : Status) : Type 0 where
  pub taken : List ℕ
  pub sent : List ℕ
  pub last : World
  pub consumes : Consumes input.bytes input_now.bytes taken
  pub appends : Appends out.bytes out_now.bytes sent
  pub agrees : Agrees first script taken sent last result
  pub leaves : (t l : List ℕ) → tree_now.bytes ≡ Some t → log_now.bytes ≡ Some l → LeavesWorld result tree tree_now log log_now t l last
  pub keeps_up : (t l : List ℕ) → tree_now.bytes ≡ Some t → log_now.bytes ≡ Some l → KeepsUpAt result (replayed_moments first script) sent t l

-- The last reply of each turn among these events ends it, so that its bound doesn't cut it off. Its premise is that before it no
-- client deletes a base znode between a look of a driver and its claim.
abbrev pub ScriptTurnsEnd : World → List Event → Type 0
ScriptTurnsEnd first es = (before after : List Event) (id now : ℤ) (replies : List Reply) → es ≡ before ++ event.Turn id now ∷ after → AllLeaveBases first before
    → (next (after_events first before) (event.Turn id now)).1 ≡ answer.Turn replies → EndsByItself replies

-- What a replay does where its files stand for a sound pair.
pub record ReplaysSoundly (first : World) (input input_now out out_now tree tree_now log log_now : Outside) (result : Status) : Type 0 where
  -- The bytes that were taken of the script, the text that was written, the status, and the files are those that the script asks for.
  pub output : IfSome input.bytes (λ script. Replayed first script input input_now out out_now tree tree_now log log_now result)
  -- The run ends with `TreeFault` or `LogFault` exactly where a call of that disk failed.
  pub tree_disk : EndsAtDisk status.TreeFault result tree.faults tree_now.faults
  pub log_disk : EndsAtDisk status.LogFault result log.faults log_now.faults
  -- What is promised of the events of the script holds at every moment.
  pub promises : IfSome input.bytes (λ script. Promises first (script_events script))
  -- Each turn of the script ends by itself, where before it no client deletes a base znode between a look and a claim.
  pub turns : IfSome input.bytes (λ script. ScriptTurnsEnd first (script_events script))

pub record Replays (input input_now out out_now tree tree_now log log_now : Outside) (result : Status) : Type 0 where
  -- A file that is damaged ends the run.
  pub damaged : (t l : List ℕ) → tree.bytes ≡ Some t → log.bytes ≡ Some l → EndsAtDamage input input_now out out_now (damage t l) result
  -- Files that stand for a sound pair are gone on with.
  pub sound : (t l : List ℕ) (opened_tree : Tree) (opened_log : Log) → tree.bytes ≡ Some t → log.bytes ≡ Some l → StandFor t l opened_tree opened_log → IsSoundPair opened_tree opened_log
      → ReplaysSoundly (opened_world opened_tree opened_log) input input_now out out_now tree tree_now log log_now result
  -- A run that is done has read its input to the end.
  pub whole : result ≡ status.Done → IsAtEnd input_now.bytes
  -- The run ends with `ReadFault` exactly where a read failed, and that was the last read.
  pub source : EndsAtFailure status.ReadFault result input.faults input_now.faults input.last_failed input_now.last_failed
  -- The run ends with `WriteFault` exactly where a write failed, or took nothing, and that was the last write.
  pub sink : EndsAtFailure status.WriteFault result out.faults out_now.faults out.last_failed out_now.last_failed
