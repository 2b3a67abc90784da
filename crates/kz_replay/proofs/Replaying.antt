-- What a replay does with two files, by what it did to the stores that they were opened as.
use Rattle.std.proofs.Common.{◌≡◌, ◌≢◌, inl, inr, ℕ, true, List, [], ◌∷◌, ◌++◌, All, Option, Some, None, IfSome, is_some, Result, Ok, Err, refl, sym, ap, ◌∙◌, subst}
use Rattle.std.proofs.KnownBytes.{Consumes-nil, Appends-nil}
use Rattle.std.proofs.lemmas.List.Elements.{All-nil, All-cons, All-head, All-tail}
use Rattle.std.specs.Io.KnownBytes.{Appends, Consumes, IsAtEnd}
use Rattle.kz_types.specs.Causes.{Rose}
use Rattle.kz_types.specs.declared.fault.LogWhy.{LogWhy}
use Rattle.kz_types.specs.declared.machine.Event.{Event}
use Rattle.kz_types.specs.declared.machine.Event.TheVariants as event
use Rattle.kz_types.specs.declared.outside.Status.{Status}
use Rattle.kz_types.specs.declared.outside.Status.TheVariants as status
use Rattle.kz_spec_data.specs.Tree.{Tree}
use Rattle.kz_spec_data.specs.Log.{Log}
use Rattle.kz_spec_data.specs.Requests.{Only}
use Rattle.kz_tree_store.specs.Opened.{tree_found, tree_in_file, LeavesTree}
use Rattle.kz_log_store.specs.Opened.{log_found, log_stands, LeavesLog}
use Rattle.kz_spec_data.specs.Frames.{Journal, tree_letter, log_letter}
use Rattle.kz_spec_data.specs.TreeFile.{tree_of_stored, stored_in, tree_of}
use Rattle.kz_spec_data.specs.LogFile.{log_in, log_of}
use Rattle.kz_spec_machine.specs.Machine.{World}
use Rattle.kz_spec_machine.specs.Sound.{Sound, IsLawful}
use Rattle.kz_spec_machine.specs.Output.{Progress, place_of, outcome_of_replay}
use Rattle.kz_spec_machine.specs.Endings.{Agrees, EndsAs, EndsAtFailure}
use Rattle.kz_spec_machine.specs.InStep.{script_events}
use Rattle.kz_spec_machine.specs.Moments.{Moment, LeavesMoment, replayed_moments}
use Rattle.kz_spec_data.specs.Lines.{items}
use Rattle.kz_spec_machine.specs.Openings.{opened_world, IsSoundPair}
use Rattle.kz_spec_machine.specs.Promises.{Promises}
use Rattle.kz_spec_machine.specs.Files.{tree_damage, log_damage, first_reason, damage, StandFor, SayTheSame, EndsAtDisk}
use Rattle.kz_laws_bounds.proofs.Worlds.{run_turn_told}
use Rattle.kz_laws_runs.proofs.Commits.{run_commits}
use Rattle.kz_laws_runs.proofs.Agrees.{run_agrees}
use Rattle.kz_laws_runs.proofs.Recorded.{run_recorded}
use Rattle.kz_laws_runs.proofs.InAgreement.{run_agreed}
use Rattle.kz_laws_runs.proofs.Finalised.{run_finalised}
use Rattle.kz_laws_scripts.proofs.Lawful.{script_lawful}
use Rattle.kz_laws_scripts.proofs.Scripts.{script_in_step}
use Rattle.kz_world.specs.Disks.{Disks}
use Rattle.kz_world.specs.TurnStops.{AreUp}
use Rattle.kz_stream.specs.declared.failure.Failure.{Failure}
use Rattle.kz_stream.specs.declared.failure.Failure.TheVariants as failure
use Rattle.kz_stream.specs.FailureDisks.{HasFailed, AreQuiet, AnswerDisks}
use Rattle.kz_stream.specs.Pending.{outcome_to_come, moments_to_come, pending_lines}
use Rattle.kz_stream.proofs.Cut.{state, lines_at_start}
use Rattle.kz_stream.proofs.Failures.{no_failure}
use Rattle.kz_stream.proofs.Runs.{always}
use Rattle.kz_stream.proofs.Moments.{leaves_here}
use Rattle.kz_commands.specs.Outside.{Outside}
use Rattle.kz_commands.specs.Opening.{IsUnopenedStatus, IsForDamage, LeavesUnopened, AreUnopened}
use Rattle.kz_replay.specs.Disks.{RunDisks}
use Rattle.kz_commands.specs.Stops.{Contents, StandsAtStop}
use Rattle.kz_replay.specs.Stops.{StandAtMoment, FilesKeepUp, ReplayStops}
use Rattle.kz_replay.specs.Replays.{EndsAtDamage, LeavesWorld, KeepsUpAt, Replayed, ScriptTurnsEnd, ReplaysSoundly, Replays}

-- ---- what holds of every script

before_all : (before rest : List Event) → All IsLawful (before ++ rest) → All IsLawful before
before_all [] rest all = All-nil IsLawful
before_all (e ∷ es) rest all = All-cons IsLawful e es (All-head IsLawful e (es ++ rest) all) (before_all es rest (All-tail IsLawful e (es ++ rest) all))

here_all : (before after : List Event) (e : Event) → All IsLawful (before ++ e ∷ after) → IsLawful e
here_all [] after e all = All-head IsLawful e after all
here_all (f ∷ fs) after e all = here_all fs after e (All-tail IsLawful f (fs ++ e ∷ after) all)

turns_end : (t : Tree) (l : Log) (es : List Event) → Sound (opened_world t l) → All IsLawful es → ScriptTurnsEnd (opened_world t l) es
turns_end t l es sound lawful before after id now replies is leave told =
    let all : All IsLawful (before ++ event.Turn id now ∷ after) = subst (All IsLawful) is lawful in
    run_turn_told t l before id now replies sound (before_all before (event.Turn id now ∷ after) all) leave (here_all before after (event.Turn id now) all).1 told

script_promises : (t : Tree) (l : Log) (script : List ℕ) → IsSoundPair t l → Promises (opened_world t l) (script_events script)
script_promises t l script pair = let es = script_events script in let lawful = script_lawful script in record {
  committed = run_commits t l es pair lawful;
  agrees = run_agrees t l es pair lawful;
  recorded = run_recorded t l es pair lawful;
  in_agreement = run_agreed t l es pair lawful;
  in_step = script_in_step (opened_world t l) script pair.sound;
  finalised = run_finalised t l es pair lawful;
}

-- ---- files that weren't opened

no_damage : (t l : List ℕ) (tree : Tree) (log : Log) → tree_of t ≡ Ok tree → log_of l ≡ Ok log → damage t l ≡ None
no_damage t l tree log is_tree is_log = ap (λ (r : Result Tree ℕ). first_reason (tree_damage r) (log_damage (log_of l))) is_tree ∙ ap (λ (r : Result Log (ℕ × LogWhy)). log_damage r) is_log

at_damage : (d : Option Status) (result : Status) (input out : Outside) → IsUnopenedStatus result → IsForDamage result d → EndsAtDamage input input out out d result
at_damage None result input out ends h = tt
at_damage (Some s) status.TreeFault input out ends h = (inr tt, refl, refl)
at_damage (Some s) status.LogFault input out ends h = (inr tt, refl, refl)
at_damage (Some s) status.NoMemory input out ends h = (inr tt, refl, refl)
at_damage (Some s) (status.TreeDamaged at) input out ends h = (inl (cc h), refl, refl)
at_damage (Some s) (status.LogDamaged at why) input out ends h = (inl (cc h), refl, refl)
at_damage (Some s) status.Done input out ends h = absurd ends
at_damage (Some s) status.Usage input out ends h = absurd ends
at_damage (Some s) (status.Script line) input out ends h = absurd ends
at_damage (Some s) status.ReadFault input out ends h = absurd ends
at_damage (Some s) status.WriteFault input out ends h = absurd ends
at_damage (Some s) (status.Limit which number) input out ends h = absurd ends
at_damage (Some s) status.NotEmpty input out ends h = absurd ends
at_damage (Some s) (status.Disagrees path) input out ends h = absurd ends
at_damage (Some s) (status.NoOffset base end) input out ends h = absurd ends

-- A run that reads nothing from files that stand for a tree and a log wrote nothing, as the script asks for.
unopened_agrees : (first : World) (script : List ℕ) (result : Status) → IsUnopenedStatus result → IsForDamage result None → Agrees first script [] [] first result
unopened_agrees first script status.TreeFault ends h = ((outcome_of_replay first script).text, refl)
unopened_agrees first script status.LogFault ends h = ((outcome_of_replay first script).text, refl)
unopened_agrees first script status.NoMemory ends h = ((outcome_of_replay first script).text, refl)
unopened_agrees first script (status.TreeDamaged at) ends h = absurd (cc h)
unopened_agrees first script (status.LogDamaged at why) ends h = absurd (cc h)
unopened_agrees first script status.Done ends h = absurd ends
unopened_agrees first script status.Usage ends h = absurd ends
unopened_agrees first script (status.Script line) ends h = absurd ends
unopened_agrees first script status.ReadFault ends h = absurd ends
unopened_agrees first script status.WriteFault ends h = absurd ends
unopened_agrees first script (status.Limit which number) ends h = absurd ends
unopened_agrees first script status.NotEmpty ends h = absurd ends
unopened_agrees first script (status.Disagrees path) ends h = absurd ends
unopened_agrees first script (status.NoOffset base end) ends h = absurd ends

same_tree : (t new : List ℕ) (tree : Tree) → tree_of t ≡ Ok tree → SayTheSame tree_letter t new → tree_of new ≡ Ok tree
same_tree t new tree is same = ap (λ (j : Journal). tree_of_stored (stored_in j)) same ∙ is

same_log : (l new : List ℕ) (log : Log) → log_of l ≡ Ok log → SayTheSame log_letter l new → log_of new ≡ Ok log
same_log l new log is same = ap log_in same ∙ is

-- files that stand for the world that a replay begins in
at_first : (t l : List ℕ) (held_tree : Tree) (held_log : Log) (script : List ℕ) → tree_of t ≡ Ok held_tree → log_of l ≡ Ok held_log → StandAtMoment (replayed_moments (opened_world held_tree held_log) script) [] t l
at_first t l held_tree held_log script is_tree is_log = record {
  tree = held_tree;
  log = held_log;
  stand = record { tree_is = is_tree; log_is = is_log };
  moment = leaves_here (place_of (opened_world held_tree held_log)) (items script) (λ (found : Option Tree). found ≡ Some held_tree) (λ (found : Option Log). found ≡ Some held_log) (λ found is. is, λ found is. is) (Some held_tree) (Some held_log) refl refl;
}

unopened_leaves : (result : Status) (tree tree_now log log_now : Outside) (t l new_t new_l : List ℕ) (held_tree : Tree) (held_log : Log) → IsUnopenedStatus result → LeavesUnopened result t l new_t new_l → StandFor t l held_tree held_log
    → LeavesWorld result tree tree_now log log_now new_t new_l (opened_world held_tree held_log)
unopened_leaves status.TreeFault tree tree_now log log_now t l new_t new_l held_tree held_log ends h stand = tt
unopened_leaves status.LogFault tree tree_now log log_now t l new_t new_l held_tree held_log ends h stand = tt
unopened_leaves status.NoMemory tree tree_now log log_now t l new_t new_l held_tree held_log ends h stand = record { tree_is = same_tree t new_t held_tree stand.tree_is h.0; log_is = same_log l new_l held_log stand.log_is h.1 }
unopened_leaves (status.TreeDamaged at) tree tree_now log log_now t l new_t new_l held_tree held_log ends h stand = record { tree_is = same_tree t new_t held_tree stand.tree_is h.0; log_is = same_log l new_l held_log stand.log_is h.1 }
unopened_leaves (status.LogDamaged at why) tree tree_now log log_now t l new_t new_l held_tree held_log ends h stand = record { tree_is = same_tree t new_t held_tree stand.tree_is h.0; log_is = same_log l new_l held_log stand.log_is h.1 }
unopened_leaves status.Done tree tree_now log log_now t l new_t new_l held_tree held_log ends h stand = absurd ends
unopened_leaves status.Usage tree tree_now log log_now t l new_t new_l held_tree held_log ends h stand = absurd ends
unopened_leaves (status.Script line) tree tree_now log log_now t l new_t new_l held_tree held_log ends h stand = absurd ends
unopened_leaves status.ReadFault tree tree_now log log_now t l new_t new_l held_tree held_log ends h stand = absurd ends
unopened_leaves status.WriteFault tree tree_now log log_now t l new_t new_l held_tree held_log ends h stand = absurd ends
unopened_leaves (status.Limit which number) tree tree_now log log_now t l new_t new_l held_tree held_log ends h stand = absurd ends
unopened_leaves status.NotEmpty tree tree_now log log_now t l new_t new_l held_tree held_log ends h stand = absurd ends
unopened_leaves (status.Disagrees path) tree tree_now log log_now t l new_t new_l held_tree held_log ends h stand = absurd ends
unopened_leaves (status.NoOffset base end) tree tree_now log log_now t l new_t new_l held_tree held_log ends h stand = absurd ends

-- files that weren't opened stand for the first moment of the replay
unopened_keeps_up : (result : Status) (t l new_t new_l : List ℕ) (held_tree : Tree) (held_log : Log) (script : List ℕ) → IsUnopenedStatus result → LeavesUnopened result t l new_t new_l → StandFor t l held_tree held_log
    → KeepsUpAt result (replayed_moments (opened_world held_tree held_log) script) [] new_t new_l
unopened_keeps_up status.TreeFault t l new_t new_l held_tree held_log script ends h stand = tt
unopened_keeps_up status.LogFault t l new_t new_l held_tree held_log script ends h stand = tt
unopened_keeps_up status.NoMemory t l new_t new_l held_tree held_log script ends h stand = at_first new_t new_l held_tree held_log script (same_tree t new_t held_tree stand.tree_is h.0) (same_log l new_l held_log stand.log_is h.1)
unopened_keeps_up (status.TreeDamaged at) t l new_t new_l held_tree held_log script ends h stand = at_first new_t new_l held_tree held_log script (same_tree t new_t held_tree stand.tree_is h.0) (same_log l new_l held_log stand.log_is h.1)
unopened_keeps_up (status.LogDamaged at why) t l new_t new_l held_tree held_log script ends h stand = at_first new_t new_l held_tree held_log script (same_tree t new_t held_tree stand.tree_is h.0) (same_log l new_l held_log stand.log_is h.1)
unopened_keeps_up status.Done t l new_t new_l held_tree held_log script ends h stand = absurd ends
unopened_keeps_up status.Usage t l new_t new_l held_tree held_log script ends h stand = absurd ends
unopened_keeps_up (status.Script line) t l new_t new_l held_tree held_log script ends h stand = absurd ends
unopened_keeps_up status.ReadFault t l new_t new_l held_tree held_log script ends h stand = absurd ends
unopened_keeps_up status.WriteFault t l new_t new_l held_tree held_log script ends h stand = absurd ends
unopened_keeps_up (status.Limit which number) t l new_t new_l held_tree held_log script ends h stand = absurd ends
unopened_keeps_up status.NotEmpty t l new_t new_l held_tree held_log script ends h stand = absurd ends
unopened_keeps_up (status.Disagrees path) t l new_t new_l held_tree held_log script ends h stand = absurd ends
unopened_keeps_up (status.NoOffset base end) t l new_t new_l held_tree held_log script ends h stand = absurd ends

-- whatever a stop leaves of files that weren't opened
pub unopened_stops : (input out : Option (List ℕ)) (tree tree_now log log_now : Contents) → StandsAtStop tree_of tree.told tree.leaves tree.syncs tree_now.syncs tree_now.leaves → StandsAtStop log_of log.told log.leaves log.syncs log_now.syncs log_now.leaves
    → ReplayStops input out out tree tree_now log log_now
unopened_stops input out tree tree_now log log_now tree_stop log_stop t l opened_tree opened_log is_t is_l stand pair stable_t stable_l =
    always input (λ script. (sent : List ℕ) × Appends out out sent × FilesKeepUp (replayed_moments (opened_world opened_tree opened_log) script) sent tree_now log_now) (λ script. (
      [],
      Appends-nil out,
      λ new_t new_l tells_t tells_l left_t left_l. at_first new_t new_l opened_tree opened_log script (tree_stop stable_t.0 t is_t stable_t.1 new_t left_t ∙ stand.tree_is) (log_stop stable_l.0 l is_l stable_l.1 new_l left_l ∙ stand.log_is),
    ))

unopened_soundly : (t l : List ℕ) (opened_tree : Tree) (opened_log : Log) (input out tree tree_now log log_now : Outside) (result : Status) → tree.bytes ≡ Some t → log.bytes ≡ Some l → StandFor t l opened_tree opened_log
    → IsSoundPair opened_tree opened_log → AreUnopened tree tree_now log log_now result → ReplaysSoundly (opened_world opened_tree opened_log) input input out out tree tree_now log log_now result
unopened_soundly t l opened_tree opened_log input out tree tree_now log log_now result is_t is_l stand pair h =
    let first = opened_world opened_tree opened_log in record {
      output = always input.bytes (λ script. Replayed first script input input out out tree tree_now log log_now result) (λ script. record {
        taken = [];
        sent = [];
        last = first;
        consumes = Consumes-nil input.bytes;
        appends = Appends-nil out.bytes;
        agrees = unopened_agrees first script result h.told (subst (IsForDamage result) (no_damage t l opened_tree opened_log stand.tree_is stand.log_is) (h.reason t l is_t is_l));
        leaves = λ new_t new_l is_new_t is_new_l. unopened_leaves result tree tree_now log log_now t l new_t new_l opened_tree opened_log h.told (h.files t l new_t new_l is_t is_l is_new_t is_new_l) stand;
        keeps_up = λ new_t new_l is_new_t is_new_l. unopened_keeps_up result t l new_t new_l opened_tree opened_log script h.told (h.files t l new_t new_l is_t is_l is_new_t is_new_l) stand;
      });
      tree_disk = h.tree_disk;
      log_disk = h.log_disk;
      promises = always input.bytes (λ script. Promises first (script_events script)) (λ script. script_promises opened_tree opened_log script pair);
      turns = always input.bytes (λ script. ScriptTurnsEnd first (script_events script)) (λ script. turns_end opened_tree opened_log (script_events script) pair.sound (script_lawful script));
    }

pub not_opened : (input out tree tree_now log log_now : Outside) (result : Status) → AreUnopened tree tree_now log log_now result → Replays input input out out tree tree_now log log_now result
not_opened input out tree tree_now log log_now result h = record {
  damaged = λ t l is_t is_l. at_damage (damage t l) result input out h.told (h.reason t l is_t is_l);
  sound = λ t l opened_tree opened_log is_t is_l stand pair. unopened_soundly t l opened_tree opened_log input out tree tree_now log log_now result is_t is_l stand pair h;
  whole = λ done. absurd (subst IsUnopenedStatus done h.told);
  source = no_failure status.ReadFault result input.faults input.faults input.last_failed input.last_failed (λ is. subst IsUnopenedStatus is h.told) refl (λ failed. failed);
  sink = no_failure status.WriteFault result out.faults out.faults out.last_failed out.last_failed (λ is. subst IsUnopenedStatus is h.told) refl (λ failed. failed);
}

-- ---- files that were opened

some_map : {A : Type 0} (o : Option A) (P Q : A → Type 0) → ((x : A) → P x → Q x) → IfSome o P → IfSome o Q
some_map None P Q f h = tt
some_map (Some x) P Q f h = f x h

pub record Faults (old new : Disks) (tree tree_now log log_now : Outside) : Type 0 where
  pub tree_before : old.tree.faults ≡ tree.faults
  pub tree_after : new.tree.faults ≡ tree_now.faults
  pub log_before : old.log.faults ≡ log.faults
  pub log_after : new.log.faults ≡ log_now.faults

tree_rose : (old new : Disks) (tree tree_now log log_now : Outside) → Faults old new tree tree_now log log_now → HasFailed old.tree new.tree → Rose tree.faults tree_now.faults
tree_rose old new tree tree_now log log_now f h = subst (λ n. Rose n tree_now.faults) f.tree_before (subst (λ n. Rose old.tree.faults n) f.tree_after h.cause)

log_rose : (old new : Disks) (tree tree_now log log_now : Outside) → Faults old new tree tree_now log log_now → HasFailed old.log new.log → Rose log.faults log_now.faults
log_rose old new tree tree_now log log_now f h = subst (λ n. Rose n log_now.faults) f.log_before (subst (λ n. Rose old.log.faults n) f.log_after h.cause)

-- what both files stand for while no store is down
abbrev Standing : Disks → Outside → Outside → World → Type 0
Standing new tree_now log_now last = AreUp new → (t l : List ℕ) → tree_now.bytes ≡ Some t → log_now.bytes ≡ Some l → StandFor t l last.shared.tree last.shared.log

after_quiet : (old new : Disks) → AreQuiet old new → AreUp new
after_quiet old new h = record { tree = h.tree.up; log = h.log.up }

sink_leaves : (f : Option Failure) (old new : Disks) (tree tree_now log log_now : Outside) (t l : List ℕ) (last : World) → Faults old new tree tree_now log log_now → AnswerDisks f old new
    → (AreUp new → StandFor t l last.shared.tree last.shared.log) → LeavesWorld status.WriteFault tree tree_now log log_now t l last
sink_leaves None old new tree tree_now log log_now t l last faults h stand = inl (stand (after_quiet old new h))
sink_leaves (Some failure.TreeDisk) old new tree tree_now log log_now t l last faults h stand = inr (inl (tree_rose old new tree tree_now log log_now faults h.0))
sink_leaves (Some failure.LogDisk) old new tree tree_now log log_now t l last faults h stand = inr (inr (log_rose old new tree tree_now log log_now faults h.1))
sink_leaves (Some failure.TreeFull) old new tree tree_now log log_now t l last faults h stand = inl (stand (after_quiet old new h))
sink_leaves (Some failure.LogFull) old new tree tree_now log log_now t l last faults h stand = inl (stand (after_quiet old new h))
sink_leaves (Some failure.NoMemory) old new tree tree_now log log_now t l last faults h stand = inl (stand (after_quiet old new h))

run_leaves : (s : Status) (old new : Disks) (tree tree_now log log_now : Outside) (t l : List ℕ) (last : World) → Faults old new tree tree_now log log_now → RunDisks s old new
    → (AreUp new → StandFor t l last.shared.tree last.shared.log) → LeavesWorld s tree tree_now log log_now t l last
run_leaves status.TreeFault old new tree tree_now log log_now t l last faults h stand = tt
run_leaves status.LogFault old new tree tree_now log log_now t l last faults h stand = tt
run_leaves status.WriteFault old new tree tree_now log log_now t l last faults h stand = sink_leaves h.0 old new tree tree_now log log_now t l last faults h.1 stand
run_leaves status.Done old new tree tree_now log log_now t l last faults h stand = stand (after_quiet old new h)
run_leaves status.Usage old new tree tree_now log log_now t l last faults h stand = stand (after_quiet old new h)
run_leaves (status.Script line) old new tree tree_now log log_now t l last faults h stand = stand (after_quiet old new h)
run_leaves status.ReadFault old new tree tree_now log log_now t l last faults h stand = stand (after_quiet old new h)
run_leaves (status.TreeDamaged at) old new tree tree_now log log_now t l last faults h stand = stand (after_quiet old new h)
run_leaves (status.LogDamaged at why) old new tree tree_now log log_now t l last faults h stand = stand (after_quiet old new h)
run_leaves status.NoMemory old new tree tree_now log log_now t l last faults h stand = stand (after_quiet old new h)
run_leaves (status.Limit which number) old new tree tree_now log log_now t l last faults h stand = stand (after_quiet old new h)
run_leaves status.NotEmpty old new tree tree_now log log_now t l last faults h stand = stand (after_quiet old new h)
run_leaves (status.Disagrees path) old new tree tree_now log log_now t l last faults h stand = stand (after_quiet old new h)
run_leaves (status.NoOffset base end) old new tree tree_now log log_now t l last faults h stand = stand (after_quiet old new h)

-- the count of a disk that didn't fail
calm_count : (a b c d : ℕ) → a ≡ c → b ≡ d → b ≡ a → d ≡ c
calm_count a b c d is_a is_b same = sym is_b ∙ same ∙ is_a

tree_calm : (s : Status) (old new : Disks) → s ≢ status.TreeFault → s ≢ status.WriteFault → RunDisks s old new → new.tree.faults ≡ old.tree.faults
tree_calm status.TreeFault old new other sink h = absurd (other refl)
tree_calm status.LogFault old new other sink h = h.0.calm
tree_calm status.WriteFault old new other sink h = absurd (sink refl)
tree_calm status.Done old new other sink h = h.tree.calm
tree_calm status.Usage old new other sink h = h.tree.calm
tree_calm (status.Script line) old new other sink h = h.tree.calm
tree_calm status.ReadFault old new other sink h = h.tree.calm
tree_calm (status.TreeDamaged at) old new other sink h = h.tree.calm
tree_calm (status.LogDamaged at why) old new other sink h = h.tree.calm
tree_calm status.NoMemory old new other sink h = h.tree.calm
tree_calm (status.Limit which number) old new other sink h = h.tree.calm
tree_calm status.NotEmpty old new other sink h = h.tree.calm
tree_calm (status.Disagrees path) old new other sink h = h.tree.calm
tree_calm (status.NoOffset base end) old new other sink h = h.tree.calm

log_calm : (s : Status) (old new : Disks) → s ≢ status.LogFault → s ≢ status.WriteFault → RunDisks s old new → new.log.faults ≡ old.log.faults
log_calm status.TreeFault old new other sink h = h.1.calm
log_calm status.LogFault old new other sink h = absurd (other refl)
log_calm status.WriteFault old new other sink h = absurd (sink refl)
log_calm status.Done old new other sink h = h.log.calm
log_calm status.Usage old new other sink h = h.log.calm
log_calm (status.Script line) old new other sink h = h.log.calm
log_calm status.ReadFault old new other sink h = h.log.calm
log_calm (status.TreeDamaged at) old new other sink h = h.log.calm
log_calm (status.LogDamaged at why) old new other sink h = h.log.calm
log_calm status.NoMemory old new other sink h = h.log.calm
log_calm (status.Limit which number) old new other sink h = h.log.calm
log_calm status.NotEmpty old new other sink h = h.log.calm
log_calm (status.Disagrees path) old new other sink h = h.log.calm
log_calm (status.NoOffset base end) old new other sink h = h.log.calm

tree_ends : (s : Status) (old new : Disks) (tree tree_now log log_now : Outside) → Faults old new tree tree_now log log_now → RunDisks s old new → EndsAtDisk status.TreeFault s tree.faults tree_now.faults
tree_ends s old new tree tree_now log log_now f h = record {
  cause = λ is. tree_rose old new tree tree_now log log_now f (subst (λ (x : Status). RunDisks x old new) is h).0;
  calm = λ other sink. calm_count old.tree.faults new.tree.faults tree.faults tree_now.faults f.tree_before f.tree_after (tree_calm s old new other sink h);
}

log_ends : (s : Status) (old new : Disks) (tree tree_now log log_now : Outside) → Faults old new tree tree_now log log_now → RunDisks s old new → EndsAtDisk status.LogFault s log.faults log_now.faults
log_ends s old new tree tree_now log log_now f h = record {
  cause = λ is. log_rose old new tree tree_now log log_now f (subst (λ (x : Status). RunDisks x old new) is h).1;
  calm = λ other sink. calm_count old.log.faults new.log.faults log.faults log_now.faults f.log_before f.log_after (log_calm s old new other sink h);
}

-- a run that began at the first byte
agrees : (first : World) (script taken sent : List ℕ) (last : World) (result : Status)
    → EndsAs (outcome_to_come (state (place_of first) [] 0) script) (pending_lines (state (place_of first) [] 0) taken) sent last result → Agrees first script taken sent last result
agrees first script taken sent last result h = subst (λ (p : Progress). EndsAs (outcome_of_replay first script) p sent last result) (sym (lines_at_start (place_of first) 0 taken)) h

-- ---- what a stop leaves of files that were opened

pub tree_read : (r : Result Tree ℕ) (t : Tree) → tree_found r ≡ Some t → r ≡ Ok t
tree_read (Ok x) t is = cc is
tree_read (Err e) t is = absurd (cc is)

pub log_read : (r : Result Log (ℕ × LogWhy)) (l : Log) → log_found r ≡ Some l → r ≡ Ok l
log_read (Ok x) l is = cc is
log_read (Err e) l is = absurd (cc is)

-- What stores leave keeps up with what is written: so do the files that they stand on.
files_keep_up : (ms : List Moment) (sent : List ℕ) (tree log : Contents) → LeavesMoment ms sent (LeavesTree tree.told tree.leaves) (LeavesLog log.told log.leaves) → FilesKeepUp ms sent tree log
files_keep_up ms sent tree log h = λ t l tells_t tells_l left_t left_l.
    let at = h (tree_in_file t) (log_stands l) (record { tells = tells_t; file = t; left = left_t; is = refl }) (record { tells = tells_l; file = l; left = left_l; is = refl }) in record {
      tree = at.moment.pair.tree;
      log = at.moment.pair.log;
      stand = record { tree_is = tree_read (tree_of t) at.moment.pair.tree at.tree_is; log_is = log_read (log_of l) at.moment.pair.log at.log_is };
      moment = record { moment = at.moment; among = at.among; part = at.part; rest = at.rest; front = at.front; written = at.written; tree_is = refl; log_is = refl };
    }

-- What is told of a run from this world on.
abbrev pub Told : World → Outside → Outside → Outside → Outside → World → Status → Disks → Contents → Contents → List ℕ → Type 0
Told first input input_now out out_now last result old tree_left log_left script =
    (taken : List ℕ) × (sent : List ℕ) × Consumes input.bytes input_now.bytes taken × Appends out.bytes out_now.bytes sent
    × EndsAs (outcome_to_come (state (place_of first) [] 0) script) (pending_lines (state (place_of first) [] 0) taken) sent last result
    × (AreUp old → LeavesMoment (moments_to_come (state (place_of first) [] 0) script) sent (LeavesTree tree_left.told tree_left.leaves) (LeavesLog log_left.told log_left.leaves))

-- where no status tells of a failed disk
keeps_up_at : (result : Status) (ms : List Moment) (sent t l : List ℕ) → StandAtMoment ms sent t l → KeepsUpAt result ms sent t l
keeps_up_at status.TreeFault ms sent t l h = tt
keeps_up_at status.LogFault ms sent t l h = tt
keeps_up_at status.Done ms sent t l h = h
keeps_up_at status.Usage ms sent t l h = h
keeps_up_at (status.Script line) ms sent t l h = h
keeps_up_at status.ReadFault ms sent t l h = h
keeps_up_at status.WriteFault ms sent t l h = h
keeps_up_at (status.TreeDamaged at) ms sent t l h = h
keeps_up_at (status.LogDamaged at why) ms sent t l h = h
keeps_up_at status.NoMemory ms sent t l h = h
keeps_up_at (status.Limit which number) ms sent t l h = h
keeps_up_at status.NotEmpty ms sent t l h = h
keeps_up_at (status.Disagrees path) ms sent t l h = h
keeps_up_at (status.NoOffset base end) ms sent t l h = h

-- A run over stores that were opened: what its files stood for, and stand for while no store is down, and what it did to its disks.
pub record Opened (held_tree : Tree) (held_log : Log) (last : World) (old new : Disks) (input input_now out out_now tree tree_now log log_now : Outside) (tree_left log_left : Contents) (result : Status) : Type 0 where
  pub tree_stood : (t : List ℕ) → tree.bytes ≡ Some t → tree_of t ≡ Ok held_tree
  pub log_stood : (l : List ℕ) → log.bytes ≡ Some l → log_of l ≡ Ok held_log
  pub up : AreUp old
  pub faults : Faults old new tree tree_now log log_now
  pub standing : Standing new tree_now log_now last
  pub output : Sound (opened_world held_tree held_log) → IfSome input.bytes (Told (opened_world held_tree held_log) input input_now out out_now last result old tree_left log_left)
  pub tree_stays : (t : List ℕ) → tree_now.bytes ≡ Some t → (is_some tree_left.told ≡ true) × tree_left.leaves t
  pub log_stays : (l : List ℕ) → log_now.bytes ≡ Some l → (is_some log_left.told ≡ true) × log_left.leaves l
  pub disks : Sound (opened_world held_tree held_log) → AreUp old → RunDisks result old new

opened_soundly : (held_tree : Tree) (held_log : Log) (last : World) (old new : Disks) (input input_now out out_now tree tree_now log log_now : Outside) (tree_left log_left : Contents) (result : Status)
    → Opened held_tree held_log last old new input input_now out out_now tree tree_now log log_now tree_left log_left result → IsSoundPair held_tree held_log
    → ReplaysSoundly (opened_world held_tree held_log) input input_now out out_now tree tree_now log log_now result
opened_soundly held_tree held_log last old new input input_now out out_now tree tree_now log log_now tree_left log_left result h pair =
    let first = opened_world held_tree held_log in
    let disks = h.disks pair.sound h.up in record {
      output = some_map input.bytes (Told first input input_now out out_now last result old tree_left log_left) (λ script. Replayed first script input input_now out out_now tree tree_now log log_now result) (λ script told. record {
        taken = told.0;
        sent = told.1;
        last = last;
        consumes = told.2;
        appends = told.3;
        agrees = agrees first script told.0 told.1 last result told.4;
        leaves = λ t l is_t is_l. run_leaves result old new tree tree_now log log_now t l last h.faults disks (λ up. h.standing up t l is_t is_l);
        keeps_up = λ t l is_t is_l.
            let stays_t = h.tree_stays t is_t in
            let stays_l = h.log_stays l is_l in
            keeps_up_at result (replayed_moments first script) told.1 t l (files_keep_up (replayed_moments first script) told.1 tree_left log_left (told.5 h.up) t l stays_t.0 stays_l.0 stays_t.1 stays_l.1);
      }) (h.output pair.sound);
      tree_disk = tree_ends result old new tree tree_now log log_now h.faults disks;
      log_disk = log_ends result old new tree tree_now log log_now h.faults disks;
      promises = always input.bytes (λ script. Promises first (script_events script)) (λ script. script_promises held_tree held_log script pair);
      turns = always input.bytes (λ script. ScriptTurnsEnd first (script_events script)) (λ script. turns_end held_tree held_log (script_events script) pair.sound (script_lawful script));
    }

abbrev tree_or : Tree → Result Tree ℕ → Tree
tree_or x (Ok t) = t
tree_or x (Err e) = x

abbrev log_or : Log → Result Log (ℕ × LogWhy) → Log
log_or x (Ok l) = l
log_or x (Err e) = x

pub opened : (held_tree : Tree) (held_log : Log) (last : World) (old new : Disks) (input input_now out out_now tree tree_now log log_now : Outside) (tree_left log_left : Contents) (result : Status)
    → Opened held_tree held_log last old new input input_now out out_now tree tree_now log log_now tree_left log_left result
    → (result ≡ status.Done → IsAtEnd input_now.bytes)
    → EndsAtFailure status.ReadFault result input.faults input_now.faults input.last_failed input_now.last_failed
    → EndsAtFailure status.WriteFault result out.faults out_now.faults out.last_failed out_now.last_failed
    → Replays input input_now out out_now tree tree_now log log_now result
opened held_tree held_log last old new input input_now out out_now tree tree_now log log_now tree_left log_left result h whole source sink = record {
  damaged = λ t l is_t is_l. subst (λ (d : Option Status). EndsAtDamage input input_now out out_now d result) (sym (no_damage t l held_tree held_log (h.tree_stood t is_t) (h.log_stood l is_l))) tt;
  sound = λ t l opened_tree opened_log is_t is_l stand pair.
      let same_tree : held_tree ≡ opened_tree = ap (tree_or held_tree) (sym (h.tree_stood t is_t) ∙ stand.tree_is) in
      let same_log : held_log ≡ opened_log = ap (log_or held_log) (sym (h.log_stood l is_l) ∙ stand.log_is) in
      let own = subst (λ (x : Log). IsSoundPair held_tree x) (sym same_log) (subst (λ (x : Tree). IsSoundPair x opened_log) (sym same_tree) pair) in
      subst (λ (x : Log). ReplaysSoundly (opened_world opened_tree x) input input_now out out_now tree tree_now log log_now result) same_log
      (subst (λ (x : Tree). ReplaysSoundly (opened_world x held_log) input input_now out out_now tree tree_now log log_now result) same_tree
      (opened_soundly held_tree held_log last old new input input_now out out_now tree tree_now log log_now tree_left log_left result h own));
  whole = whole;
  source = source;
  sink = sink;
}

-- ---- what a store's file stands for

tells : (o : Option (List ℕ)) (file : List ℕ) → o ≡ Some file → is_some o ≡ true
tells o file is = ap is_some is

-- A stop may leave what a file has, and leaves nothing but this tree: the file stands for it.
pub tree_stands : (t : Tree) (told : Option (List ℕ)) (leaves : List ℕ → Type 0) → Only t (LeavesTree told leaves) → ((file : List ℕ) → told ≡ Some file → leaves file) → (file : List ℕ) → told ≡ Some file → tree_of file ≡ Ok t
tree_stands t told leaves only stay file is = tree_read (tree_of file) t (only (tree_in_file file) (record { tells = tells told file is; file = file; left = stay file is; is = refl }))

pub log_stands_for : (l : Log) (told : Option (List ℕ)) (leaves : List ℕ → Type 0) → Only l (LeavesLog told leaves) → ((file : List ℕ) → told ≡ Some file → leaves file) → (file : List ℕ) → told ≡ Some file → log_of file ≡ Ok l
log_stands_for l told leaves only stay file is = log_read (log_of file) l (only (log_stands file) (record { tells = tells told file is; file = file; left = stay file is; is = refl }))

-- ---- stops

-- Whatever a stop leaves of files that were opened.
pub opened_stops : (held_tree : Tree) (held_log : Log) (last : World) (old : Disks) (input input_now out out_now : Outside) (tree tree_now log log_now : Contents) (result : Status)
    → ((t : List ℕ) → tree.told ≡ Some t → tree_of t ≡ Ok held_tree) → ((l : List ℕ) → log.told ≡ Some l → log_of l ≡ Ok held_log) → AreUp old
    → (Sound (opened_world held_tree held_log) → IfSome input.bytes (Told (opened_world held_tree held_log) input input_now out out_now last result old tree_now log_now))
    → ReplayStops input.bytes out.bytes out_now.bytes tree tree_now log log_now
opened_stops held_tree held_log last old input input_now out out_now tree tree_now log log_now result tree_stood log_stood up output t l opened_tree opened_log is_t is_l stand pair stable_t stable_l =
    let same_tree : held_tree ≡ opened_tree = ap (tree_or held_tree) (sym (tree_stood t is_t) ∙ stand.tree_is) in
    let same_log : held_log ≡ opened_log = ap (log_or held_log) (sym (log_stood l is_l) ∙ stand.log_is) in
    let own = subst (λ (x : Log). IsSoundPair held_tree x) (sym same_log) (subst (λ (x : Tree). IsSoundPair x opened_log) (sym same_tree) pair) in
    let Stops : Tree → Log → Type 0 = λ x y. IfSome input.bytes (λ script. (sent : List ℕ) × Appends out.bytes out_now.bytes sent × FilesKeepUp (replayed_moments (opened_world x y) script) sent tree_now log_now) in
    subst (λ (y : Log). Stops opened_tree y) same_log
    (subst (λ (x : Tree). Stops x held_log) same_tree
    (some_map input.bytes (Told (opened_world held_tree held_log) input input_now out out_now last result old tree_now log_now)
    (λ script. (sent : List ℕ) × Appends out.bytes out_now.bytes sent × FilesKeepUp (replayed_moments (opened_world held_tree held_log) script) sent tree_now log_now)
    (λ script told. (told.1, told.3, files_keep_up (replayed_moments (opened_world held_tree held_log) script) told.1 tree_now log_now (told.5 up)))
    (output own.sound)))
