-- At every moment of a run a migration is committed whole or not at all.
use Rattle.std.proofs.Common.{◌≡◌, inl, inr, ℤ, Bool, true, false, if◌then◌else◌, List, [], ◌∷◌, take, Option, Some, None, Result, Ok, Err, All, refl, sym, ap, ◌∙◌, subst}
use Rattle.kz_types.specs.declared.limits.TheConstants.{MAX_APPEND_RECORDS}
use Rattle.kz_types.specs.declared.driver.Stage.{Stage}
use Rattle.kz_types.specs.declared.driver.Stage.TheVariants as stage
use Rattle.kz_types.specs.declared.fault.TreeFault.{TreeFault}
use Rattle.kz_types.specs.declared.fault.LogFault.{LogFault}
use Rattle.kz_types.specs.declared.machine.Event.{Event}
use Rattle.kz_types.specs.declared.machine.Recorded.{Recorded}
use Rattle.kz_types.specs.declared.plan.Plan.{Plan}
use Rattle.kz_types.specs.declared.plan.Plan.TheVariants as plan
use Rattle.kz_types.specs.declared.record.MetaRecord.{MetaRecord}
use Rattle.kz_types.specs.declared.tree.Op.{Op}
use Rattle.kz_types.specs.declared.tree.Row.{Row}
use Rattle.kz_spec_data.specs.Tree.{Tree, multi}
use Rattle.kz_spec_data.specs.Log.{Log, append, is_migrated_log, is_open_log, reset}
use Rattle.kz_spec_data.specs.Translation.{Unreadable, translate}
use Rattle.kz_spec_machine.specs.Driver.{Shared, Driver, epoch_or_zero, claim_ops, remaining_at, write_ops, begin_record, commit_records, begin_request, write_request, request_at, with_tree, with_log, shared_after, reaches_store, planned_step, step}
use Rattle.kz_spec_machine.specs.Machine.{World, pair_of, after_events, request_pairs, cut_world}
use Rattle.kz_spec_machine.specs.Sound.{IsTime, IsSharedSound, IsSoundDriver, IsLawful, Sound}
use Rattle.kz_spec_machine.specs.Openings.{opened_world, IsSoundPair}
use Rattle.kz_spec_machine.specs.Promises.{IsTranslation, BeginsNone, StaysCommitted, CommitsWhole, CommittedWhole}
use Rattle.kz_laws_machine.specs.Effects.{IsUnchanged}
use Rattle.kz_laws_events.proofs.Tests.{true_or_false}
use Rattle.kz_laws_events.proofs.Filling.{begun_log, appended_log}
use Rattle.kz_laws_events.proofs.Grown.{migrated_settled}
use Rattle.kz_laws_events.proofs.Elected.{MayElect, elected_of, elected_closed}
use Rattle.kz_laws_events.proofs.Elected as elected
use Rattle.kz_laws_events.proofs.Changed.{IsLeaderBatch, more_of, more_closed}
use Rattle.kz_laws_events.proofs.Changed as changed
use Rattle.kz_laws_events.proofs.Exits.{reset_unmigrated}
use Rattle.kz_laws_commits.specs.Commits.{Copies}
use Rattle.kz_laws_commits.proofs.Own.{commit_translates}
use Rattle.kz_laws_commits.proofs.Steps.{step_copies}
use Rattle.kz_laws_commits.proofs.Events.{event_copies}
use Rattle.kz_laws_commits.proofs.After.{step_same}
use Rattle.kz_laws_commits.proofs.Begins.{batch_begins, same_begins, election_begins}
use Rattle.kz_laws_runs.proofs.Linked.{Promised, run_linked, linked_of}
use Rattle.kz_laws_events.proofs.Snapshots.{MaySnapshot, cut_is}

-- ---- the commit

-- what a request brings that commits a migration
abbrev Brings : Shared → Shared → Type 0
Brings s new = is_migrated_log s.log ≡ false → is_migrated_log new.log ≡ true → IsTranslation s.tree new.log × (new.tree ≡ s.tree)

same_log : (s new : Shared) → new.log ≡ s.log → Brings s new
same_log s new same before after = absurd (true_or_false (is_migrated_log s.log) (sym (ap is_migrated_log same) ∙ after) before)

still : (s : Shared) (new : Log) → is_migrated_log new ≡ false → Brings s (record s { log = new })
still s new none before after = absurd (true_or_false (is_migrated_log new) after none)

tree_brings : (s : Shared) (r : Result Tree TreeFault) → Brings s (with_tree s r)
tree_brings s (Ok t) = same_log s (record s { tree = t }) refl
tree_brings s (Err e) = same_log s s refl

log_brings : (s : Shared) (r : Result Log LogFault) → ((new : Log) → r ≡ Ok new → Brings s (record s { log = new })) → Brings s (with_log s r)
log_brings s (Ok new) made = made new refl
log_brings s (Err e) made = same_log s s refl

write_brings : (s : Shared) (epoch now : ℤ) (m : Option ℤ) (ops : List Op) (target : Recorded) → Brings s (shared_after s epoch now (write_request m ops target))
write_brings s epoch now None ops target = same_log s s refl
write_brings s epoch now (Some claim) ops target = tree_brings s (multi s.tree (write_ops claim ops target))

begin_brings : (s : Shared) (now : ℤ) (d : Driver) (rows : List Row) (t : Result (List MetaRecord) Unreadable) → translate rows ≡ t → IsSharedSound s → IsSoundDriver s d → d.stage ≡ stage.BeginMigration rows → Brings s (shared_after s (epoch_or_zero d.epoch) now (begin_request t))
begin_brings s now d rows (Ok records) is kept fine at =
    log_brings s (append s.log (epoch_or_zero d.epoch) now (begin_record ∷ [])) (λ new made. still s new (begun_log s now d rows records new kept fine at is made).batch.still)
begin_brings s now d rows (Err e) is kept fine at = same_log s s refl

records_bring : (s : Shared) (now : ℤ) (d : Driver) (records : List MetaRecord) → IsSharedSound s → IsSoundDriver s d → Copies s d → d.stage ≡ stage.AppendRecords records → Brings s (shared_after s (epoch_or_zero d.epoch) now (request_at s now d (stage.AppendRecords records)))
records_bring s now d [] kept fine copies at =
    log_brings s (append s.log (epoch_or_zero d.epoch) now commit_records) (λ new made before after. (commit_translates s now d new kept fine copies at made, refl))
records_bring s now d (r ∷ rs) kept fine copies at =
    log_brings s (append s.log (epoch_or_zero d.epoch) now (take MAX_APPEND_RECORDS (r ∷ rs))) (λ new made. still s new (appended_log s now d r rs new kept fine at made).batch.still)

request_brings : (s : Shared) (now : ℤ) (d : Driver) (x : Stage) → d.stage ≡ x → IsSharedSound s → IsSoundDriver s d → Copies s d → Brings s (shared_after s (epoch_or_zero d.epoch) now (request_at s now d x))
request_brings s now d (stage.ClaimLeadership seen) at kept fine copies = tree_brings s (multi s.tree (claim_ops seen d now))
request_brings s now d (stage.BeginMigration rows) at kept fine copies = begin_brings s now d rows (translate rows) refl kept fine at
request_brings s now d (stage.AppendRecords records) at kept fine copies = records_bring s now d records kept fine copies at
request_brings s now d (stage.WriteResync target ops) at kept fine copies = write_brings s (epoch_or_zero d.epoch) now d.claim (remaining_at s.tree s.log target.offset) target
request_brings s now d (stage.WriteDelta target ops) at kept fine copies = write_brings s (epoch_or_zero d.epoch) now d.claim (remaining_at s.tree s.log target.offset) target
request_brings s now d x at kept fine copies = same_log s s refl

either_brings : (b : Bool) (x s : Shared) → Brings s x → Brings s (if b then x else s)
either_brings true x s made = made
either_brings false x s made = same_log s s refl

step_brings : (p : Plan) (s : Shared) (running : List ℤ) (now : ℤ) (d : Driver) → IsSharedSound s → IsSoundDriver s d → Copies s d → Brings s (planned_step p s running now d).shared
unfolding planned_step
step_brings p s running now d kept fine copies =
    let r = request_at s now d d.stage in
    either_brings (reaches_store p r) (shared_after s (epoch_or_zero d.epoch) now r) s (request_brings s now d d.stage refl kept fine copies)

-- ---- a migrated log

settled_still : (s : Shared) (new : Log) → IsSharedSound s → is_migrated_log s.log ≡ true → new ≡ s.log → StaysCommitted s.log new
settled_still s new kept migrated same = record {
  migrated = ap is_migrated_log same ∙ migrated;
  settled = ap is_open_log same ∙ migrated_settled s.tree s.log kept.log (kept.agreement migrated);
  begins = subst (BeginsNone s.log) (sym same) (same_begins s.log);
}

step_commits : (p : Plan) (s : Shared) (running : List ℤ) (now : ℤ) (d : Driver) → IsTime now → IsSharedSound s → IsSoundDriver s d → Copies s d → CommitsWhole (pair_of s) (pair_of (planned_step p s running now d).shared)
step_commits p s running now d time kept fine copies = record {
  commits = step_brings p s running now d kept fine copies;
  stays = λ migrated. inr (inl (settled_still s (planned_step p s running now d).shared.log kept migrated (step_same p s running now d kept fine migrated)));
}

step_keeps : (s : Shared) (running : List ℤ) (now : ℤ) (d : Driver) → IsTime now → IsSharedSound s → IsSoundDriver s d → Copies s d → Copies (step s running now d).shared (step s running now d).driver
unfolding step
step_keeps s running now d time kept fine copies = (step_copies plan.Deliver s running now d time kept fine copies).driver

elected_commits : (s : Shared) (now : ℤ) → MayElect s → CommitsWhole (pair_of s) (pair_of (record s { log = elected_of s.log now }))
elected_commits s now m = record {
  commits = λ before after. absurd (true_or_false (is_migrated_log s.log) (elected.was s now m after) before);
  stays = λ migrated. inr (inl (record {
    migrated = (elected.longer s now m).migrated migrated;
    settled = elected_closed s now m;
    begins = election_begins s now m migrated;
  }));
}

batch_commits : (s : Shared) (now : ℤ) (items : List MetaRecord) → IsLeaderBatch s now items → CommitsWhole (pair_of s) (pair_of (record s { log = more_of s now items }))
batch_commits s now items b = record {
  commits = λ before after. absurd (true_or_false (is_migrated_log s.log) (changed.was s now items b after) before);
  stays = λ migrated. inr (inl (record {
    migrated = (changed.longer s now items b).migrated migrated;
    settled = more_closed s now items b;
    begins = batch_begins s.log s.log.epoch now items b.unmarked;
  }));
}

tree_commits : (s : Shared) (new : Tree) → IsSharedSound s → (is_migrated_log s.log ≡ true → IsUnchanged s.tree new) → CommitsWhole (pair_of s) (pair_of (record s { tree = new }))
tree_commits s new kept unchanged = record {
  commits = λ before after. absurd (true_or_false (is_migrated_log s.log) after before);
  stays = λ migrated. inr (inl (settled_still s s.log kept migrated refl));
}

reset_commits : (s : Shared) → IsSharedSound s → CommitsWhole (pair_of s) (pair_of (record s { log = reset s.log }))
reset_commits s kept = record {
  commits = λ before after. absurd (true_or_false (is_migrated_log (reset s.log)) after (reset_unmigrated s.log));
  stays = λ migrated. inl refl;
}

snapshot_commits : (w : World) → Sound w → MaySnapshot w → CommitsWhole (pair_of w.shared) (pair_of (cut_world w).shared)
snapshot_commits w sound m =
    let c = cut_is w sound m in
    record {
      commits = λ before after. absurd (true_or_false (is_migrated_log w.shared.log) m.migrated before);
      stays = λ migrated. inr (inr (record {
        record_is = m.may.record_is;
        recorded = m.may.found;
        may = m.may.allowed;
        cut = m.may.cut;
        tree = refl;
        migrated = c.migrated;
        settled = c.settled ∙ migrated_settled w.shared.tree w.shared.log sound.kept.log (sound.kept.agreement migrated);
      }));
    }

commits_promised : Promised Copies CommitsWhole
commits_promised = record {
  on_step = step_commits;
  keeps = step_keeps;
  each_event = event_copies;
  on_election = elected_commits;
  on_batch = batch_commits;
  on_tree = tree_commits;
  on_reset = reset_commits;
  on_snapshot = snapshot_commits;
}

pub run_commits : (t : Tree) (l : Log) (es : List Event) → IsSoundPair t l → All IsLawful es → CommittedWhole (opened_world t l) es
run_commits t l es pair lawful =
    let w : World = opened_world t l in
    linked_of CommitsWhole (pair_of w.shared) (request_pairs w es) (pair_of (after_events w es).shared)
    (run_linked Copies CommitsWhole es w commits_promised lawful pair.sound (λ id d found. absurd (cc)))
