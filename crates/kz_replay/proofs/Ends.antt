-- What the status of a run says of its disks.
use Rattle.std.proofs.Common.{◌≡◌, ◌≢◌, Result, Ok, Err, OnOk, IfErr, ℕ, Bool, refl, sym, ap, ◌∙◌, subst}
use Rattle.kz_types.specs.declared.outside.Status.{Status}
use Rattle.kz_types.specs.declared.outside.Status.TheVariants as status
use Rattle.kz_world.specs.Disks.{Disks}
use Rattle.kz_stream.specs.declared.failure.Failure.TheVariants as failure
use Rattle.kz_stream.specs.FailureDisks.{AreQuiet}
use Rattle.kz_stream.specs.declared.ending.Stop.{Stop}
use Rattle.kz_stream.specs.declared.ending.Stop.TheVariants as stop
use Rattle.kz_spec_machine.specs.Endings.{EndsAtFailure}
use Rattle.kz_stream.specs.Endings.{status_of, stop_status, StopsAtSink}
use Rattle.kz_stream.proofs.Failures.{as_result}
use Rattle.kz_stream.specs.Disks.{StopDisks, PartDisks}
use Rattle.kz_stream.proofs.Statuses.{stop_tree, stop_log, stop_write}
use Rattle.kz_stream.proofs.Quiet.{both_on, stop_on}
use Rattle.kz_replay.specs.Disks.{RunDisks}

pub quiet_end : (s : Status) (old new : Disks) → s ≢ status.TreeFault → s ≢ status.LogFault → s ≢ status.WriteFault → AreQuiet old new → RunDisks s old new
quiet_end status.Done old new a b d h = h
quiet_end status.Usage old new a b d h = h
quiet_end (status.Script line) old new a b d h = h
quiet_end status.ReadFault old new a b d h = h
quiet_end status.WriteFault old new a b d h = absurd (d refl)
quiet_end status.TreeFault old new a b d h = absurd (a refl)
quiet_end status.LogFault old new a b d h = absurd (b refl)
quiet_end (status.TreeDamaged at) old new a b d h = h
quiet_end (status.LogDamaged at why) old new a b d h = h
quiet_end status.NoMemory old new a b d h = h
quiet_end (status.Limit which number) old new a b d h = h
quiet_end status.NotEmpty old new a b d h = h
quiet_end (status.Disagrees path) old new a b d h = h
quiet_end (status.NoOffset base end) old new a b d h = h

pub stop_end : (s : Stop) (old new : Disks) → StopDisks s old new → RunDisks (stop_status s) old new
stop_end (stop.Ends e) old new h = quiet_end (status_of e) old new (λ is. cc (stop_tree (stop.Ends e) is)) (λ is. cc (stop_log (stop.Ends e) is)) (λ is. cc (stop_write (stop.Ends e) is)) h
stop_end (stop.Fails failure.TreeDisk) old new h = h
stop_end (stop.Fails failure.LogDisk) old new h = h
stop_end (stop.Fails failure.TreeFull) old new h = h
stop_end (stop.Fails failure.LogFull) old new h = h
stop_end (stop.Fails failure.NoMemory) old new h = h
stop_end stop.SinkFailed old new h = h

-- ---- what holds of a result by its case

pub on_ok : {T E P : Type 0} (r : Result T E) (x : T) → r ≡ Ok x → OnOk r P → P
on_ok {T = T} {E = E} {P = P} r x is h = subst (λ (q : Result T E). OnOk q P) is h

pub on_err : {T E : Type 0} (r : Result T E) (e : E) → r ≡ Err e → (P : E → Type 0) → IfErr r P → P e
on_err {T = T} {E = E} r e is P h = subst (λ (q : Result T E). IfErr q P) is h

pub part_ok : {T : Type 0} (r : Result T Stop) (x : T) → r ≡ Ok x → (old new : Disks) → PartDisks r old new → AreQuiet old new
part_ok {T = T} r x is old new h = subst (λ (q : Result T Stop). PartDisks q old new) is h

pub part_err : {T : Type 0} (r : Result T Stop) (s : Stop) → r ≡ Err s → (old new : Disks) → PartDisks r old new → StopDisks s old new
part_err {T = T} r s is old new h = subst (λ (q : Result T Stop). PartDisks q old new) is h

-- a part in which no disk failed, and then the rest of a run
pub run_on : (s : Status) (a b c : Disks) → AreQuiet a b → RunDisks s b c → RunDisks s a c
run_on status.TreeFault a b c quiet h = stop_on (stop.Fails failure.TreeDisk) a b c quiet h
run_on status.LogFault a b c quiet h = stop_on (stop.Fails failure.LogDisk) a b c quiet h
run_on status.WriteFault a b c quiet h = stop_on stop.SinkFailed a b c quiet h
run_on status.Done a b c quiet h = both_on a b c quiet h
run_on status.Usage a b c quiet h = both_on a b c quiet h
run_on (status.Script line) a b c quiet h = both_on a b c quiet h
run_on status.ReadFault a b c quiet h = both_on a b c quiet h
run_on (status.TreeDamaged at) a b c quiet h = both_on a b c quiet h
run_on (status.LogDamaged at why) a b c quiet h = both_on a b c quiet h
run_on status.NoMemory a b c quiet h = both_on a b c quiet h
run_on (status.Limit which number) a b c quiet h = both_on a b c quiet h
run_on status.NotEmpty a b c quiet h = both_on a b c quiet h
run_on (status.Disagrees path) a b c quiet h = both_on a b c quiet h
run_on (status.NoOffset base end) a b c quiet h = both_on a b c quiet h

-- ---- the sink

err_same : {T : Type 0} (r : Result T Stop) (a b : Stop) → r ≡ Err a → r ≡ Err b → a ≡ b
err_same r a b is same = cc (is, same)

-- the status of a part that stops says that the sink failed exactly where it did
pub sink_status : {T : Type 0} (r : Result T Stop) (s : Stop) (told : Status) (f g : ℕ) (b d : Bool) → r ≡ Err s → told ≡ stop_status s → StopsAtSink r f g b d → EndsAtFailure status.WriteFault told f g b d
sink_status r s told f g b d is told_is ends = as_result (Err stop.SinkFailed) r status.WriteFault told f g b d
    (λ same. is ∙ ap Err (stop_write s (sym told_is ∙ same))) (λ same. told_is ∙ ap stop_status (err_same r s stop.SinkFailed is same)) ends
