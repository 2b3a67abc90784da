-- Parts of a run, by what they do to the disks.
use Rattle.std.proofs.Common.{◌≡◌, ◌⊎◌, inl, inr, ℕ, List, [], Option, Some, None, Result, Ok, Err, IfOk, OnErr, sym, ◌∙◌, subst, refl}
use Rattle.kz_types.specs.declared.machine.Event.{Event}
use Rattle.kz_types.specs.Causes.{Rose}
use Rattle.kz_types.specs.declared.memory.NoMemory.{NoMemory}
use Rattle.kz_types.specs.declared.machine.Answer.{Answer}
use Rattle.kz_spec_data.specs.Requests.{Disk}
use Rattle.kz_world_parts.specs.Disks.{Disks}
use Rattle.kz_world_parts.specs.TurnStops.{AreUp}
use Rattle.kz_stream.specs.declared.failure.Failure.{Failure}
use Rattle.kz_stream.specs.declared.failure.Failure.TheVariants as failure
use Rattle.kz_stream.specs.Failures.{failure_of}
use Rattle.kz_stream.specs.FailureDisks.{IsQuiet, HasFailed, AreQuiet, AnswerDisks}
use Rattle.kz_stream.specs.declared.ending.Next.{Next}
use Rattle.kz_stream.specs.declared.ending.Next.TheVariants as next_is
use Rattle.kz_stream.specs.declared.ending.Printed.{Printed}
use Rattle.kz_stream.specs.declared.ending.Stop.{Stop}
use Rattle.kz_stream.specs.declared.ending.Stop.TheVariants as stop
use Rattle.kz_stream.specs.Machines.{NextBy, out_of_memory, IsPrinted}
use Rattle.kz_stream.specs.Disks.{NextDisks, StopDisks, PrintedDisks, PartDisks, IsEndOf}

pub no_call : (d : Disks) → AreUp d → AreQuiet d d
no_call d up = record { tree = record { up = up.tree; calm = refl }; log = record { up = up.log; calm = refl } }

pub stays_up : (a b : Disks) → AreQuiet a b → AreUp b
stays_up a b h = record { tree = h.tree.up; log = h.log.up }

quiet_on : (a b c : Disk) → IsQuiet a b → IsQuiet b c → IsQuiet a c
quiet_on a b c h k = record { up = k.up; calm = k.calm ∙ h.calm }

failed_on : (a b c : Disk) → IsQuiet a b → HasFailed b c → HasFailed a c
failed_on a b c h k = record { down = k.down; cause = subst (λ n. Rose n c.faults) h.calm k.cause }

pub both_on : (a b c : Disks) → AreQuiet a b → AreQuiet b c → AreQuiet a c
both_on a b c h k = record { tree = quiet_on a.tree b.tree c.tree h.tree k.tree; log = quiet_on a.log b.log c.log h.log k.log }

answer_on : (m : Option Failure) (a b c : Disks) → AreQuiet a b → AnswerDisks m b c → AnswerDisks m a c
answer_on None a b c h k = both_on a b c h k
answer_on (Some failure.TreeDisk) a b c h k = (failed_on a.tree b.tree c.tree h.tree k.0, quiet_on a.log b.log c.log h.log k.1)
answer_on (Some failure.LogDisk) a b c h k = (quiet_on a.tree b.tree c.tree h.tree k.0, failed_on a.log b.log c.log h.log k.1)
answer_on (Some failure.TreeFull) a b c h k = both_on a b c h k
answer_on (Some failure.LogFull) a b c h k = both_on a b c h k
answer_on (Some failure.NoMemory) a b c h k = both_on a b c h k

pub stop_on : (s : Stop) (a b c : Disks) → AreQuiet a b → StopDisks s b c → StopDisks s a c
stop_on (stop.Ends e) a b c h k = both_on a b c h k
stop_on (stop.Fails f) a b c h k = answer_on (Some f) a b c h k
stop_on stop.SinkFailed a b c h k = (k.0, answer_on k.0 a b c h k.1)

pub part_on : {T : Type 0} (r : Result T Stop) (a b c : Disks) → AreQuiet a b → PartDisks r b c → PartDisks r a c
part_on (Ok x) a b c h k = both_on a b c h k
part_on (Err s) a b c h k = stop_on s a b c h k

-- what is printed for an event, by its answer
by_failure : (m : Option Failure) (a : Answer) (after : Next) (old new : Disks) → AnswerDisks m old new → NextBy m a after → NextDisks after old new
by_failure (Some f) a after old new h is = subst (λ (n : Next). NextDisks n old new) (sym is) h
by_failure None a next_is.GoesOn old new h is = h
by_failure None a (next_is.Ends e) old new h is = h
by_failure None a (next_is.Fails f) old new h is = absurd is

memory_on : (after : Next) (old new : Disks) → NextDisks after old new → NextDisks (out_of_memory after) old new
memory_on next_is.GoesOn old new h = h
memory_on (next_is.Ends e) old new h = h
memory_on (next_is.Fails f) old new h = h

by_memory : (text all : List ℕ) (what after : Next) (old new : Disks) → NextDisks after old new → ((text ≡ all) × (what ≡ after)) ⊎ ((text ≡ []) × (what ≡ out_of_memory after)) → NextDisks what old new
by_memory text all what after old new h (inl k) = subst (λ (n : Next). NextDisks n old new) (sym k.1) h
by_memory text all what after old new h (inr k) = subst (λ (n : Next). NextDisks n old new) (sym k.1) (memory_on after old new h)

pub event_disks : (line : ℕ) (e : Event) (a : Answer) (text : List ℕ) (what : Next) (old new : Disks) → IsPrinted line e a text what → AnswerDisks (failure_of a) old new → NextDisks what old new
event_disks line e a text what old new printed h = by_memory text _ what printed.0 old new (by_failure (failure_of a) a printed.0 old new h printed.1) printed.2

-- what is printed ends the part
pub ends_part : {T : Type 0} (what : Next) (r : Result T Stop) (old new : Disks) → IsEndOf what r → NextDisks what old new → PartDisks r old new
ends_part what (Ok done) old new is h = subst (λ (n : Next). NextDisks n old new) is h
ends_part what (Err (stop.Ends e)) old new is h = subst (λ (n : Next). NextDisks n old new) is h
ends_part what (Err (stop.Fails f)) old new is h = subst (λ (n : Next). NextDisks n old new) is h
ends_part next_is.GoesOn (Err stop.SinkFailed) old new is h = (None, h)
ends_part (next_is.Ends e) (Err stop.SinkFailed) old new is h = (None, h)
ends_part (next_is.Fails f) (Err stop.SinkFailed) old new is h = (Some f, h)

-- the summary changes nothing of it
pub summary_disks : (what : Next) (r : Result Printed NoMemory) (old new : Disks) → NextDisks what old new → IfOk r (λ (p : Printed). p.next ≡ what) → OnErr r (what ≡ next_is.GoesOn) → PrintedDisks r old new
summary_disks what (Ok p) old new h is goes = subst (λ (n : Next). NextDisks n old new) (sym is) h
summary_disks what (Err e) old new h is goes = subst (λ (n : Next). NextDisks n old new) goes h
