-- What the status of a stop says.
use Rattle.std.proofs.Common.{◌≡◌, ◌≢◌, ℕ, Bool, true, false, cond, eqb, List, [], refl, sym, ap, ◌∙◌, subst, append-nil}
use Rattle.kz_types.specs.declared.limits.Limit.TheVariants as limits
use Rattle.kz_types.specs.Limits.{number_of_limit}
use Rattle.kz_types.specs.declared.limits.TheConstants.{MAX_RECORDS}
use Rattle.kz_types.specs.declared.outside.Status.{Status}
use Rattle.kz_types.specs.declared.outside.Status.TheVariants as status
use Rattle.kz_spec_machine.specs.Output.{Outcome, Progress, limit_status}
use Rattle.kz_spec_machine.specs.Machine.{World}
use Rattle.kz_stream.specs.declared.failure.Failure.TheVariants as failure
use Rattle.kz_spec_machine.specs.Endings.{EndsAs, EndsAtLimit, is_file_limit}
use Rattle.kz_stream.specs.declared.ending.Ending.{Ending}
use Rattle.kz_stream.specs.declared.ending.Ending.TheVariants as ending
use Rattle.kz_stream.specs.declared.ending.Stop.{Stop}
use Rattle.kz_stream.specs.declared.ending.Stop.TheVariants as stop
use Rattle.kz_stream.specs.Endings.{status_of, stop_status, Stops}

-- a status of a limit
data IsLimit : Status → Type 0 where
  limit : (which number : ℕ) → IsLimit (status.Limit which number)

one_limit : (b : Bool) (n : ℕ) → IsLimit (cond b (status.Limit n MAX_RECORDS) (status.Limit n 9223372036854775807))
one_limit true n = limit n MAX_RECORDS
one_limit false n = limit n 9223372036854775807

is_limit : (n : ℕ) → IsLimit (limit_status n)
is_limit n = one_limit (eqb n (number_of_limit limits.Records)) n

exactly : (b : Bool) (o : Outcome) (sent : List ℕ) (w : World) (s : Status) → o ≡ record { text = sent; status = s; world = w } → EndsAtLimit b o sent w s
exactly true o sent w s h = ([], ap (λ (r : Outcome). r.text) h ∙ sym (append-nil sent))
exactly false o sent w s h = h

limit_ends : (s : Status) → IsLimit s → (o : Outcome) (p : Progress) (sent : List ℕ) (w : World) → o ≡ record { text = sent; status = s; world = w } → EndsAs o p sent w s
limit_ends _ (limit which number) o p sent w h = exactly (is_file_limit which) o sent w (status.Limit which number) h

pub Stops-EndsAs : (o : Outcome) (p : Progress) (sent : List ℕ) (w : World) (s : Stop) → Stops o sent w s → EndsAs o p sent w (stop_status s)
Stops-EndsAs o p sent w (stop.Ends (ending.BadLine line)) h = h
Stops-EndsAs o p sent w (stop.Ends ending.LongLine) h = h
Stops-EndsAs o p sent w (stop.Ends ending.LongInput) h = h
Stops-EndsAs o p sent w (stop.Ends (ending.StoreLimit n)) h = limit_ends (limit_status n) (is_limit n) o p sent w h
Stops-EndsAs o p sent w (stop.Fails failure.TreeDisk) h = h
Stops-EndsAs o p sent w (stop.Fails failure.LogDisk) h = h
Stops-EndsAs o p sent w (stop.Fails failure.TreeFull) h = h
Stops-EndsAs o p sent w (stop.Fails failure.LogFull) h = h
Stops-EndsAs o p sent w (stop.Fails failure.NoMemory) h = h
Stops-EndsAs o p sent w stop.SinkFailed h = h

-- ---- which stop a status tells of

-- a status that tells of no object of the outside
abbrev IsInner : Status → Type 0
IsInner status.Done = ⊥
IsInner status.Usage = ⊥
IsInner (status.Script line) = Unit {0}
IsInner status.ReadFault = ⊥
IsInner status.WriteFault = ⊥
IsInner status.TreeFault = ⊥
IsInner status.LogFault = ⊥
IsInner (status.TreeDamaged at) = ⊥
IsInner (status.LogDamaged at why) = ⊥
IsInner status.NoMemory = Unit {0}
IsInner (status.Limit which number) = Unit {0}
IsInner status.NotEmpty = ⊥
IsInner (status.Disagrees path) = ⊥
IsInner (status.NoOffset base end) = ⊥

limit_inner : (s : Status) → IsLimit s → IsInner s
limit_inner _ (limit which number) = tt

ending_inner : (e : Ending) → IsInner (status_of e)
ending_inner (ending.BadLine line) = tt
ending_inner ending.LongLine = tt
ending_inner ending.LongInput = tt
ending_inner (ending.StoreLimit n) = limit_inner (limit_status n) (is_limit n)

-- the statuses that no stop has
abbrev IsOfStop : Status → Type 0
IsOfStop status.Done = ⊥
IsOfStop status.Usage = ⊥
IsOfStop status.ReadFault = ⊥
IsOfStop (status.TreeDamaged at) = ⊥
IsOfStop (status.LogDamaged at why) = ⊥
IsOfStop status.NotEmpty = ⊥
IsOfStop (status.Disagrees path) = ⊥
IsOfStop (status.NoOffset base end) = ⊥
IsOfStop s = Unit {0}

inner_of_stop : (s : Status) → IsInner s → IsOfStop s
inner_of_stop (status.Script line) h = tt
inner_of_stop status.NoMemory h = tt
inner_of_stop (status.Limit which number) h = tt
inner_of_stop status.Done h = h
inner_of_stop status.Usage h = h
inner_of_stop status.ReadFault h = h
inner_of_stop status.WriteFault h = tt
inner_of_stop status.TreeFault h = tt
inner_of_stop status.LogFault h = tt
inner_of_stop (status.TreeDamaged at) h = h
inner_of_stop (status.LogDamaged at why) h = h
inner_of_stop status.NotEmpty h = h
inner_of_stop (status.Disagrees path) h = h
inner_of_stop (status.NoOffset base end) h = h

of_stop : (s : Stop) → IsOfStop (stop_status s)
of_stop (stop.Ends e) = inner_of_stop (status_of e) (ending_inner e)
of_stop (stop.Fails failure.TreeDisk) = tt
of_stop (stop.Fails failure.LogDisk) = tt
of_stop (stop.Fails failure.TreeFull) = tt
of_stop (stop.Fails failure.LogFull) = tt
of_stop (stop.Fails failure.NoMemory) = tt
of_stop stop.SinkFailed = tt

pub stop_not_done : (s : Stop) → stop_status s ≢ status.Done
stop_not_done s e = subst IsOfStop e (of_stop s)

pub stop_not_usage : (s : Stop) → stop_status s ≢ status.Usage
stop_not_usage s e = subst IsOfStop e (of_stop s)

pub stop_not_read : (s : Stop) → stop_status s ≢ status.ReadFault
stop_not_read s e = subst IsOfStop e (of_stop s)

-- the status of a sink that failed is no other stop's
pub stop_write : (s : Stop) → stop_status s ≡ status.WriteFault → s ≡ stop.SinkFailed
stop_write (stop.Ends e) is = absurd (subst IsInner is (ending_inner e))
stop_write (stop.Fails failure.TreeDisk) is = cc
stop_write (stop.Fails failure.LogDisk) is = cc
stop_write (stop.Fails failure.TreeFull) is = cc
stop_write (stop.Fails failure.LogFull) is = cc
stop_write (stop.Fails failure.NoMemory) is = cc
stop_write stop.SinkFailed is = refl

-- nor is that of a disk
pub stop_tree : (s : Stop) → stop_status s ≡ status.TreeFault → s ≡ stop.Fails failure.TreeDisk
stop_tree (stop.Ends e) is = absurd (subst IsInner is (ending_inner e))
stop_tree (stop.Fails failure.TreeDisk) is = refl
stop_tree (stop.Fails failure.LogDisk) is = cc
stop_tree (stop.Fails failure.TreeFull) is = cc
stop_tree (stop.Fails failure.LogFull) is = cc
stop_tree (stop.Fails failure.NoMemory) is = cc
stop_tree stop.SinkFailed is = cc

pub stop_log : (s : Stop) → stop_status s ≡ status.LogFault → s ≡ stop.Fails failure.LogDisk
stop_log (stop.Ends e) is = absurd (subst IsInner is (ending_inner e))
stop_log (stop.Fails failure.TreeDisk) is = cc
stop_log (stop.Fails failure.LogDisk) is = refl
stop_log (stop.Fails failure.TreeFull) is = cc
stop_log (stop.Fails failure.LogFull) is = cc
stop_log (stop.Fails failure.NoMemory) is = cc
stop_log stop.SinkFailed is = cc
