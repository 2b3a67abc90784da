-- How the commands end that tell what stands in two files.
use Rattle.std.proofs.Common.{◌≡◌, ◌≢◌, ℕ, ℤ, Bool, true, false, List, [], Option, Some, None, Result, Ok, Err, refl, sym, ap, ◌∙◌, subst, cond}
use Rattle.std.specs.Prelude.{⊤, if◌then◌else◌}
use Rattle.std.specs.Io.KnownBytes.{Appends}
use Rattle.std.proofs.KnownBytes.{Appends-nil}
use Rattle.kz_types.specs.declared.machine.Verdict.{Verdict}
use Rattle.kz_types.specs.declared.machine.Verdict.TheVariants.{Unmigrated, Unrecorded, Closed, Ahead, Disagrees}
use Rattle.kz_types.specs.declared.outside.Status.{Status}
use Rattle.kz_types.specs.declared.outside.Status.TheVariants as status
use Rattle.kz_spec_data.specs.Tree.{Tree}
use Rattle.kz_spec_data.specs.Log.{Log}
use Rattle.kz_spec_data.specs.TreeFile.{tree_of}
use Rattle.kz_spec_data.specs.LogFile.{log_of}
use Rattle.kz_spec_machine.specs.Endings.{IsFront, EndsAtFailure}
use Rattle.kz_spec_data.specs.Frames.{tree_letter, log_letter}
use Rattle.kz_spec_machine.specs.Files.{damage, StandFor, SayTheSame, EndsAtDisk}
use Rattle.kz_spec_machine.specs.Words.{Report, DumpTree, DumpLog, Render, RenderAt, Check, Figures}
use Rattle.kz_spec_machine.specs.Reports.{Printed, printed, refused, check_printed, report_of, EndsAsPrinted}
use Rattle.kz_output.specs.declared.output.OutputFault.{OutputFault}
use Rattle.kz_output.specs.declared.output.OutputFault.TheVariants as fault
use Rattle.kz_output.specs.Outputs.{WritesFront, EndsAtSink}
use Rattle.kz_commands.specs.Outside.{Outside, OfFiles}
use Rattle.kz_tree_store.specs.declared.store.TreeStore.{TreeStore}
use Rattle.kz_tree_store.specs.Stores as trees
use Rattle.kz_log_store.specs.declared.store.LogStore.{LogStore}
use Rattle.kz_log_store.specs.Stores as logs
use Rattle.kz_commands.specs.Opening.{AreOpened, AreUnopened, IsUnopenedStatus, IsForDamage, LeavesUnopened}
use Rattle.kz_commands.proofs.Opened.{both_whole}
use Rattle.kz_commands.proofs.Disks.{says}
use Rattle.kz_commands.proofs.Sealed.{AreOpen}
use Rattle.kz_reports.specs.Reports.{PrintEnds, status_of}
use Rattle.kz_reports.specs.Tells.{TellsDamage, Tells}

-- ---- the statuses that a report has

abbrev pub IsOwn : Status → Type 0
IsOwn status.Done = ⊤
IsOwn (status.Disagrees path) = ⊤
IsOwn (status.NoOffset base end) = ⊤
IsOwn s = ⊥

own_either : (text : List ℕ) (base end : ℤ) (b : Bool) → IsOwn (if b then printed text else refused (status.NoOffset base end)).status
own_either text base end true = tt
own_either text base end false = tt

own_check : (v : Verdict) → IsOwn (check_printed v).status
own_check Unmigrated = tt
own_check Unrecorded = tt
own_check (Closed offset) = tt
own_check (Ahead offset paths) = tt
own_check (Disagrees path) = tt

own_report : (r : Report) (t : Tree) (l : Log) → IsOwn (report_of r t l).status
own_report DumpTree t l = tt
own_report DumpLog t l = tt
own_report Render t l = tt
own_report (RenderAt offset) t l = own_either _ _ _ _
own_report Check t l = own_check _
own_report Figures t l = tt

printed_ends : (p : Printed) (s : Status) → IsOwn s → p.status ≡ s → EndsAsPrinted p p.text s
printed_ends p status.Done own is = (refl, is)
printed_ends p (status.Disagrees path) own is = (refl, is)
printed_ends p (status.NoOffset base end) own is = (refl, is)
printed_ends p status.Usage own is = absurd own
printed_ends p (status.Script line) own is = absurd own
printed_ends p status.ReadFault own is = absurd own
printed_ends p status.WriteFault own is = absurd own
printed_ends p status.TreeFault own is = absurd own
printed_ends p status.LogFault own is = absurd own
printed_ends p (status.TreeDamaged at) own is = absurd own
printed_ends p (status.LogDamaged at why) own is = absurd own
printed_ends p status.NoMemory own is = absurd own
printed_ends p (status.Limit which number) own is = absurd own
printed_ends p status.NotEmpty own is = absurd own

-- a status of a report isn't one of the outside, nor `Usage`
own_differs : (s other : Status) → IsOwn s → (IsOwn other → ⊥) → s ≢ other
own_differs s other own differ is = differ (subst IsOwn is own)

-- ---- how printing ends

pub told_ends : (r : Report) (t : Tree) (l : Log) (ended : Result Status OutputFault) (taken taken_now : Option (List ℕ)) → PrintEnds (report_of r t l) ended taken taken_now
    → (sent : List ℕ) × Appends taken taken_now sent × EndsAsPrinted (report_of r t l) sent (status_of ended)
told_ends r t l (Ok s) taken taken_now is = ((report_of r t l).text, is.0, printed_ends (report_of r t l) s (subst IsOwn is.1 (own_report r t l)) is.1)
told_ends r t l (Err fault.SinkFailed) taken taken_now is = is
told_ends r t l (Err fault.NoMemory) taken taken_now is = is

-- the statuses of a command that opened its files
abbrev IsTold : Status → Type 0
IsTold status.Done = ⊤
IsTold (status.Disagrees path) = ⊤
IsTold (status.NoOffset base end) = ⊤
IsTold status.WriteFault = ⊤
IsTold status.NoMemory = ⊤
IsTold s = ⊥

own_told : (s : Status) → IsOwn s → IsTold s
own_told status.Done own = tt
own_told (status.Disagrees path) own = tt
own_told (status.NoOffset base end) own = tt
own_told status.Usage own = absurd own
own_told (status.Script line) own = absurd own
own_told status.ReadFault own = absurd own
own_told status.WriteFault own = absurd own
own_told status.TreeFault own = absurd own
own_told status.LogFault own = absurd own
own_told (status.TreeDamaged at) own = absurd own
own_told (status.LogDamaged at why) own = absurd own
own_told status.NoMemory own = absurd own
own_told (status.Limit which number) own = absurd own
own_told status.NotEmpty own = absurd own

-- a status that is printed is a report's own
abbrev IsOwnWhereOk : Result Status OutputFault → Type 0
IsOwnWhereOk (Ok s) = IsOwn s
IsOwnWhereOk (Err e) = ⊤

own_where_ok : (r : Report) (t : Tree) (l : Log) (ended : Result Status OutputFault) (taken taken_now : Option (List ℕ)) → PrintEnds (report_of r t l) ended taken taken_now → IsOwnWhereOk ended
own_where_ok r t l (Ok s) taken taken_now is = subst IsOwn is.1 (own_report r t l)
own_where_ok r t l (Err e) taken taken_now is = tt

told_status : (ended : Result Status OutputFault) → IsOwnWhereOk ended → IsTold (status_of ended)
told_status (Ok s) own = own_told s own
told_status (Err fault.SinkFailed) own = tt
told_status (Err fault.NoMemory) own = tt

told_differs : (s other : Status) → IsTold s → (IsTold other → ⊥) → s ≢ other
told_differs s other told differ is = differ (subst IsTold is told)

sink_told : (ended : Result Status OutputFault) (f g : ℕ) (b d : Bool) → IsOwnWhereOk ended → EndsAtSink ended f g b d → EndsAtFailure status.WriteFault (status_of ended) f g b d
sink_told (Ok s) f g b d own e = record {
  cause = λ is. absurd (own_differs s status.WriteFault own (λ h. h) is);
  last = λ is. absurd (own_differs s status.WriteFault own (λ h. h) is);
  calm = λ other. e.calm (λ is. cc is);
  none = λ other. e.none (λ is. cc is);
}
sink_told (Err fault.SinkFailed) f g b d own e = record {
  cause = λ is. e.cause refl;
  last = λ is. e.last refl;
  calm = λ other. absurd (other refl);
  none = λ other. absurd (other refl);
}
sink_told (Err fault.NoMemory) f g b d own e = record {
  cause = λ is. cc is;
  last = λ is. cc is;
  calm = λ other. e.calm (λ is. cc is);
  none = λ other. e.none (λ is. cc is);
}

-- ---- files that aren't opened

unopened_told : (p : Printed) (result : Status) (taken : Option (List ℕ)) → IsUnopenedStatus result → IsForDamage result None → (sent : List ℕ) × Appends taken taken sent × EndsAsPrinted p sent result
unopened_told p status.TreeFault taken is why = ([], Appends-nil taken, refl)
unopened_told p status.LogFault taken is why = ([], Appends-nil taken, refl)
unopened_told p status.NoMemory taken is why = ([], Appends-nil taken, (p.text, refl))
unopened_told p (status.TreeDamaged at) taken is why = absurd (cc why)
unopened_told p (status.LogDamaged at cause) taken is why = absurd (cc why)
unopened_told p status.Done taken is cause = absurd is
unopened_told p status.Usage taken is cause = absurd is
unopened_told p (status.Script line) taken is cause = absurd is
unopened_told p status.ReadFault taken is cause = absurd is
unopened_told p status.WriteFault taken is cause = absurd is
unopened_told p (status.Disagrees path) taken is cause = absurd is
unopened_told p (status.Limit which number) taken is cause = absurd is
unopened_told p status.NotEmpty taken is cause = absurd is
unopened_told p (status.NoOffset base end) taken is cause = absurd is

tells_damage : (d : Option Status) (result : Status) (out : Outside) → IsForDamage result d → TellsDamage d result out out
tells_damage None result out why = tt
tells_damage (Some s) result out why = (why, refl)

unopened_differs : (s other : Status) → IsUnopenedStatus s → (IsUnopenedStatus other → ⊥) → s ≢ other
unopened_differs s other is differ same = differ (subst IsUnopenedStatus same is)

pub unopened_tells : (r : Report) (out tree tree_now log log_now : Outside) (result : Status) → AreUnopened tree tree_now log log_now result → Tells r out out tree tree_now log log_now result
unopened_tells r out tree tree_now log log_now result is = record {
  ran = unopened_differs result status.Usage is.told (λ h. h);
  damaged = λ t l is_t is_l. tells_damage (damage t l) result out (is.reason t l is_t is_l);
  told = λ t l held_tree held_log is_t is_l stand.
      unopened_told (report_of r held_tree held_log) result out.bytes is.told (subst (IsForDamage result) (both_whole t l held_tree held_log stand.tree_is stand.log_is) (is.reason t l is_t is_l));
  files = is.files;
  tree_disk = is.tree_disk;
  log_disk = is.log_disk;
  sink = record {
    cause = λ same. absurd (unopened_differs result status.WriteFault is.told (λ h. h) same);
    last = λ same. absurd (unopened_differs result status.WriteFault is.told (λ h. h) same);
    calm = λ _. refl;
    none = λ _ h. h;
  };
}

-- ---- files that are opened

leaves_told : (s : Status) (t l new_t new_l : List ℕ) → IsTold s → SayTheSame tree_letter t new_t × SayTheSame log_letter l new_l → LeavesUnopened s t l new_t new_l
leaves_told status.Done t l new_t new_l told h = h
leaves_told (status.Disagrees path) t l new_t new_l told h = h
leaves_told (status.NoOffset base end) t l new_t new_l told h = h
leaves_told status.WriteFault t l new_t new_l told h = h
leaves_told status.NoMemory t l new_t new_l told h = h
leaves_told status.Usage t l new_t new_l told h = absurd told
leaves_told (status.Script line) t l new_t new_l told h = absurd told
leaves_told status.ReadFault t l new_t new_l told h = absurd told
leaves_told status.TreeFault t l new_t new_l told h = absurd told
leaves_told status.LogFault t l new_t new_l told h = absurd told
leaves_told (status.TreeDamaged at) t l new_t new_l told h = absurd told
leaves_told (status.LogDamaged at why) t l new_t new_l told h = absurd told
leaves_told (status.Limit which number) t l new_t new_l told h = absurd told
leaves_told status.NotEmpty t l new_t new_l told h = absurd told

ok_same : {A E : Type 0} (r : Result A E) (a b : A) → r ≡ Ok a → r ≡ Ok b → a ≡ b
ok_same r a b is_a is_b = cc (is_a, is_b)

pub opened_tells : (r : Report) (ended : Result Status OutputFault) (out out_now tree tree_now log log_now : Outside) (are : AreOpen tree tree_now log log_now)
    → PrintEnds (report_of r are.found are.held) ended out.bytes out_now.bytes → EndsAtSink ended out.faults out_now.faults out.last_failed out_now.last_failed → Tells r out out_now tree tree_now log log_now (status_of ended)
opened_tells r ended out out_now tree tree_now log log_now are prints ends =
    let own = own_where_ok r are.found are.held ended out.bytes out_now.bytes prints in
    let told = told_status ended own in
    record {
      ran = told_differs (status_of ended) status.Usage told (λ h. h);
      damaged = λ t l is_t is_l. subst (λ d. TellsDamage d (status_of ended) out out_now) (sym (both_whole t l are.found are.held (are.tree_stands t is_t) (are.log_stands l is_l))) tt;
      told = λ t l a b is_t is_l stand.
          subst (λ x. (sent : List ℕ) × Appends out.bytes out_now.bytes sent × EndsAsPrinted (report_of r x b) sent (status_of ended)) (ok_same (tree_of t) are.found a (are.tree_stands t is_t) stand.tree_is)
          (subst (λ x. (sent : List ℕ) × Appends out.bytes out_now.bytes sent × EndsAsPrinted (report_of r are.found x) sent (status_of ended)) (ok_same (log_of l) are.held b (are.log_stands l is_l) stand.log_is)
          (told_ends r are.found are.held ended out.bytes out_now.bytes prints));
      files = λ t l new_t new_l is_t is_l is_new_t is_new_l. leaves_told (status_of ended) t l new_t new_l told
          (says tree_letter t new_t tree_now.bytes (are.tree_same t is_t) is_new_t, says log_letter l new_l log_now.bytes (are.log_same l is_l) is_new_l);
      tree_disk = record { cause = λ same. absurd (told_differs (status_of ended) status.TreeFault told (λ h. h) same); calm = λ _ _. are.tree_calm };
      log_disk = record { cause = λ same. absurd (told_differs (status_of ended) status.LogFault told (λ h. h) same); calm = λ _ _. are.log_calm };
      sink = sink_told ended out.faults out_now.faults out.last_failed out_now.last_failed own ends;
    }

-- the same of two stores that were opened
pub opened_stores_tell : {D E : Type 0} {tree_disk : _} {log_disk : _} (r : Report) (t : TreeStore D tree_disk) (l : LogStore E log_disk) (ended : Result Status OutputFault) (out out_now tree tree_now log log_now : Outside) → AreOpened t l tree tree_now log log_now
    → PrintEnds (report_of r (trees.held_tree t) (logs.held_log l)) ended out.bytes out_now.bytes → EndsAtSink ended out.faults out_now.faults out.last_failed out_now.last_failed → Tells r out out_now tree tree_now log log_now (status_of ended)
opened_stores_tell r t l ended out out_now tree tree_now log log_now is prints ends = opened_tells r ended out out_now tree tree_now log log_now (record {
  tree_same = is.tree_opened.same;
  log_same = is.log_opened.same;
  found = trees.held_tree t;
  held = logs.held_log l;
  tree_stands = is.tree_opened.tree;
  log_stands = λ file told. (is.log_opened.log file told).log;
  tree_calm = is.tree_calm;
  log_calm = is.log_calm;
}) prints ends
