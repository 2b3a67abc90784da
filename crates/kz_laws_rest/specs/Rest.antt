-- The tree in step with the log, after each turn that comes to rest, whatever controllers run.
use Rattle.std.specs.Prelude.{◌≡◌, ℤ, true, List, Some, None, All}
use Rattle.kz_types.specs.declared.machine.Event.{Event}
use Rattle.kz_types.specs.declared.machine.Event.TheVariants as event
use Rattle.kz_types.specs.declared.machine.Answer.TheVariants as answer
use Rattle.kz_types.specs.declared.machine.Recorded.{Recorded}
use Rattle.kz_types.specs.declared.machine.Reply.{Reply}
use Rattle.kz_types.specs.declared.machine.Verdict.TheVariants.{Closed}
use Rattle.kz_spec_data.specs.Tree.{migration_record, unclosed_path}
use Rattle.kz_spec_data.specs.Log.{is_migrated_log, end_of}
use Rattle.kz_spec_machine.specs.Driver.{Shared}
use Rattle.kz_spec_machine.specs.Machine.{World, next}
use Rattle.kz_spec_machine.specs.Verdicts.{verdict}
use Rattle.kz_spec_machine.specs.Sound.{IsTime, IsSharedSound, Sound, IsLawful}
use Rattle.kz_spec_machine.specs.InStep.{InStep, StaysInStep, ComesToRest}

-- A turn in a sound world that comes to rest leaves the tree in step with the log.
abbrev pub TurnsRestInStep : Type 0
TurnsRestInStep = (w new : World) (id now : ℤ) (replies : List Reply) → IsTime now → Sound w → ComesToRest w new id now replies → InStep new.shared

-- So does each such turn of a run from a sound world on.
abbrev pub RunsStayInStep : Type 0
RunsStayInStep = (w : World) (es : List Event) → Sound w → All IsLawful es → StaysInStep w es

-- Where the tree is closed and the log migrated, a check tells so, with the offset that is recorded.
abbrev pub ClosedIsTold : Type 0
ClosedIsTold = (s : Shared) (r : Recorded) → IsSharedSound s → is_migrated_log s.log ≡ true → migration_record s.tree ≡ Some r → unclosed_path s.tree ≡ None → verdict s.tree s.log ≡ Closed r.offset

-- After a turn that comes to rest, a check tells that the tree is closed at the log's end.
abbrev pub RestIsTold : Type 0
RestIsTold = (w new : World) (id now : ℤ) (replies : List Reply) → IsTime now → Sound w → ComesToRest w new id now replies → (next new event.Check).1 ≡ answer.Check (Closed (end_of new.shared.log))
