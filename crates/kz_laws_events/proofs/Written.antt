-- What a write that is taken leaves true.
use Rattle.std.proofs.Common.{◌≡◌, ◌≢◌, ℤ, pos, negsuc, ◌≤ℤ◌, Bool, true, false, if◌then◌else◌, List, Option, Some, None, option_map, is_some, refl, sym, ap, ◌∙◌, subst, length, arith}
use Rattle.std.specs.Prelude.{Ok}
use Rattle.std.proofs.lemmas.Int.{ints}
use Rattle.kz_types.specs.declared.tree.Op.{Op}
use Rattle.kz_types.specs.declared.driver.Stage.{Stage}
use Rattle.kz_types.specs.declared.driver.Stage.TheVariants as stage
use Rattle.kz_types.specs.declared.machine.Recorded.{Recorded}
use Rattle.kz_types.specs.declared.machine.Reply.{Reply}
use Rattle.kz_types.specs.declared.machine.Reply.TheVariants as reply
use Rattle.kz_spec_data.specs.Control.{recorded_of, written_recorded}
use Rattle.kz_spec_data.specs.Tree.{Tree, multi, migration_record, has_offset}
use Rattle.kz_spec_data.specs.Log.{Log, image_at}
use Rattle.kz_spec_data.specs.Image.{is_migrated_state}
use Rattle.kz_spec_data.specs.Difference.{chunk, after_chunk}
use Rattle.kz_spec_machine.specs.Driver.{Shared, Driver, at_stage, begins_again, remaining_at, is_last_write, write_ops, after_write, writes, after_answer}
use Rattle.kz_spec_machine.specs.Sound.{TreeShape, RecordAgrees, Agreement, IsSharedSound, claim_version, IsCurrent, shown_in, WasElected, OwnRecord, IsAfterMigration, IsTargetOf, Targets, Writes, IsAtRest, is_filling, AtStage, IsSoundDriver}
use Rattle.kz_laws_machine.proofs.Numbers.{at_most_by, same_number}
use Rattle.kz_laws_machine.proofs.Written.{claims_same, own_written}
use Rattle.kz_laws_machine.specs.TreeLaws.{Completed}
use Rattle.kz_laws_machine.proofs.Multi.{multi_ran, shape_kept, write_keeps_shape, last_write, remaining_after_write}
use Rattle.kz_laws_machine.proofs.Later.{not_last_unclosed}
use Rattle.kz_laws_machine.proofs.Claim.{write_keeps_shown}
use Rattle.kz_laws_machine.proofs.Beside.{write_keeps_recorded}
use Rattle.kz_laws_events.specs.Steps.{WritesTo, WriteLeads, WriteKeeps}
use Rattle.kz_laws_events.proofs.Tests.{true_or_false, not_below_zero}
use Rattle.kz_laws_events.proofs.Targets.{target_read, Holds, holds_at}
use Rattle.kz_laws_events.proofs.Writing.{write_leads}
use Rattle.kz_laws_events.proofs.Unheard.{relook}

-- what is known of a write that is taken
pub record Took (s : Shared) (d : Driver) (claim : ℤ) (target : Recorded) (new : Tree) : Type 0 where
  pub kept : IsSharedSound s
  pub fine : IsSoundDriver s d
  pub after : IsAfterMigration s.log d.claim
  pub aim : IsTargetOf target d.id d.epoch d.view
  pub targets : Targets s.tree s.log target
  pub read : recorded_of (written_recorded target) ≡ Some target
  pub leads : WriteLeads s d new
  pub made : multi s.tree (write_ops claim (remaining_at s.tree s.log target.offset) target) ≡ Ok new
  pub shape : TreeShape new

shape_after : (s : Shared) (claim : ℤ) (target : Recorded) (new : Tree) → TreeShape s.tree → multi s.tree (write_ops claim (remaining_at s.tree s.log target.offset) target) ≡ Ok new → TreeShape new
shape_after s claim target new shape made =
    let ops = write_ops claim (remaining_at s.tree s.log target.offset) target in
    shape_kept s.tree new ops (multi_ran s.tree new ops made) (write_keeps_shape s.tree (image_at s.log target.offset) claim target) shape

pub took : (s : Shared) (d : Driver) (claim : ℤ) (target : Recorded) (ops : List Op) (new : Tree) → IsSharedSound s → IsSoundDriver s d → WritesTo d.stage target ops → d.claim ≡ Some claim → multi s.tree (write_ops claim (remaining_at s.tree s.log target.offset) target) ≡ Ok new
    → Took s d claim target new
took s d claim target ops new kept fine at claimed made =
    let holds : Holds s d target ops = holds_at s d d.stage target ops at fine.stage in
    let leads = write_leads s d claim target ops new kept fine at claimed made in
    record {
      kept = kept;
      fine = fine;
      after = holds.after;
      aim = holds.aim;
      targets = (holds.writes leads.current).targets;
      read = target_read s d target kept.log fine holds.aim;
      leads = leads;
      made = made;
      shape = shape_after s claim target new kept.tree made;
    }

pub completed : (s : Shared) (d : Driver) (claim : ℤ) (target : Recorded) (new : Tree) → Took s d claim target new → is_last_write (remaining_at s.tree s.log target.offset) ≡ true → Completed new (image_at s.log target.offset) (written_recorded target)
completed s d claim target new k last = last_write s.tree new (image_at s.log target.offset) claim target k.kept.tree last k.made

same_record : (m : Option Recorded) (target r : Recorded) → m ≡ Some target → m ≡ Some r → target ≡ r
same_record m target r one two = cc

below_none : (o : ℤ) → pos 0 ≤ℤ o → o ≡ negsuc 0 → ⊥
below_none o low is = absurd (omega (arith, ints, low, is))

least_of : (o : ℤ) → pos 0 ≤ℤ o → negsuc 0 ≤ℤ o
least_of o low = omega (arith, ints, low)

-- ---- how the tree and the log agree

agrees_last : (s : Shared) (d : Driver) (claim : ℤ) (target : Recorded) (new : Tree) → Took s d claim target new → is_last_write (remaining_at s.tree s.log target.offset) ≡ true → Agreement new s.log
agrees_last s d claim target new k last =
    let old : Agreement s.tree s.log = k.kept.agreement k.after.migrated in
    let all = completed s d claim target new k last in
    let recorded = all.recorded ∙ k.read in
    record {
      holds = ap is_some (write_keeps_shown s.tree new (image_at s.log target.offset) claim target k.made) ∙ old.holds;
      ended = old.ended;
      fits = old.fits;
      record_there = λ none. cc (recorded, none);
      recorded = λ r found. subst (RecordAgrees new s.log) (same_record (migration_record new) target r recorded found) (record {
        least = least_of target.offset k.aim.not_negative;
        first = λ is. absurd (below_none target.offset k.aim.not_negative is);
        end = λ low. k.targets.end;
        past = λ low. k.targets.past;
        same = λ low closed. all.area;
      });
    }

agrees_more : (s : Shared) (d : Driver) (claim : ℤ) (target : Recorded) (new : Tree) → Took s d claim target new → is_last_write (remaining_at s.tree s.log target.offset) ≡ false → Agreement new s.log
agrees_more s d claim target new k more =
    let old : Agreement s.tree s.log = k.kept.agreement k.after.migrated in
    let same = write_keeps_recorded s.tree new (image_at s.log target.offset) claim target more k.made in
    record {
      holds = ap is_some (write_keeps_shown s.tree new (image_at s.log target.offset) claim target k.made) ∙ old.holds;
      ended = old.ended;
      fits = old.fits;
      record_there = λ none. old.record_there (sym same ∙ none);
      recorded = λ r found.
          let a = old.recorded r (sym same ∙ found) in
          record {
            least = a.least;
            first = a.first;
            end = a.end;
            past = a.past;
            same = λ low closed. absurd (not_last_unclosed s.tree new (image_at s.log target.offset) claim target k.kept.tree k.shape more k.made closed);
          };
    }

agrees_by : (s : Shared) (d : Driver) (claim : ℤ) (target : Recorded) (new : Tree) (b : Bool) → is_last_write (remaining_at s.tree s.log target.offset) ≡ b → Took s d claim target new → Agreement new s.log
agrees_by s d claim target new true last k = agrees_last s d claim target new k last
agrees_by s d claim target new false more k = agrees_more s d claim target new k more

shared_after_write : (s : Shared) (d : Driver) (claim : ℤ) (target : Recorded) (new : Tree) → Took s d claim target new → IsSharedSound (record s { tree = new })
shared_after_write s d claim target new k = record {
  tree = k.shape;
  log = k.kept.log;
  before = k.kept.before;
  agreement = λ migrated. agrees_by s d claim target new (is_last_write (remaining_at s.tree s.log target.offset)) refl k;
}

-- ---- the driver

-- the stages of a driver that writes: with more to write, and after the last write
pub record WritesFrom (target : Recorded) (more : List Op → Stage) (last : Stage) : Type 0 where
  pub more_at : (t : Tree) (l : Log) (d : Driver) (ops : List Op) → IsAfterMigration l d.claim → IsTargetOf target d.id d.epoch d.view → (IsCurrent t d.claim → Writes t l target ops) → AtStage t l d (more ops)
  pub more_elected : (e : Option ℤ) (ops : List Op) → e ≢ None → WasElected e (more ops)
  pub last_at : (t : Tree) (l : Log) (d : Driver) → IsAfterMigration l d.claim → (IsCurrent t d.claim → IsAtRest t d.view d.recorded) → AtStage t l d last
  pub last_elected : (e : Option ℤ) → e ≢ None → WasElected e last

pub resync_from : (target : Recorded) → WritesFrom target (λ rest. stage.WriteResync target rest) stage.KraftControllerToBrokerComm
resync_from target = record { more_at = λ t l d ops after aim writes. (after, aim, writes); more_elected = λ e ops h. h; last_at = λ t l d after rests. (after, rests); last_elected = λ e h. h }

pub delta_from : (target : Recorded) → WritesFrom target (λ rest. stage.WriteDelta target rest) stage.DualWrite
delta_from target = record { more_at = λ t l d ops after aim writes. (after, aim, writes); more_elected = λ e ops h. h; last_at = λ t l d after rests. (after, rests); last_elected = λ e h. h }

elected_of : (log_epoch : ℤ) (version shown epoch claim : Option ℤ) → Rattle.kz_spec_machine.specs.Sound.Claims log_epoch version shown epoch claim → claim ≢ None → epoch ≢ None
elected_of log_epoch version shown epoch None claims some = absurd (some refl)
elected_of log_epoch version shown epoch (Some v) claims some = claims.elected

-- the driver with what it recorded, at another stage
written_at : (s : Shared) (d : Driver) (claim : ℤ) (target : Recorded) (new : Tree) (x : Stage) (own : Option ℤ) → Took s d claim target new → is_filling d.stage ≡ false → WasElected d.epoch x → OwnRecord new s.log own → AtStage new s.log (record d { stage = x; recorded = own }) x
    → IsSoundDriver (record s { tree = new }) (record d { stage = x; recorded = own })
written_at s d claim target new x own k settled elected owns at = record {
  id = k.fine.id;
  epochs = k.fine.epochs;
  elected = elected;
  claims = claims_same s.log.epoch (claim_version s.tree) (shown_in s.tree) (claim_version new) (shown_in new) d.epoch d.claim k.leads.effect.version k.leads.effect.shown k.fine.claims;
  views = record {
    view = k.fine.views.view;
    epoch_range = k.fine.views.epoch_range;
    migrated = k.fine.views.migrated;
    unknown = λ migrated none some. absurd (true_or_false (is_migrated_state d.view.image.state) k.aim.migrated none);
  };
  own_record = owns;
  leads = λ leads filling. k.fine.leads leads settled;
  stage = at;
}

own_last : (s : Shared) (d : Driver) (claim : ℤ) (target : Recorded) (new : Tree) → Took s d claim target new → Completed new (image_at s.log target.offset) (written_recorded target) → OwnRecord new s.log (Some target.offset)
own_last s d claim target new k all =
    let closed = all.closed (ap has_offset k.read ∙ not_below_zero target.offset k.aim.not_negative) in
    record {
      low = λ o is. (k.after.migrated, target, all.recorded ∙ k.read, at_most_by o target.offset (sym (same_number target.offset o is)));
      rest = λ o r is found same end. closed;
    }

rests_last : (s : Shared) (d : Driver) (claim : ℤ) (target : Recorded) (new : Tree) → Took s d claim target new → Completed new (image_at s.log target.offset) (written_recorded target) → IsAtRest new d.view (Some target.offset)
rests_last s d claim target new k all = record {
  closed = all.closed (ap has_offset k.read ∙ not_below_zero target.offset k.aim.not_negative);
  same = ap (option_map (λ (r : Recorded). r.offset)) (all.recorded ∙ k.read);
  view = ap (λ (o : ℤ). Some o) k.aim.offset;
  known = k.aim.migrated;
}

writes_more : (s : Shared) (d : Driver) (claim : ℤ) (target : Recorded) (new : Tree) → Took s d claim target new → is_last_write (remaining_at s.tree s.log target.offset) ≡ false → Writes new s.log target (after_chunk (remaining_at s.tree s.log target.offset))
writes_more s d claim target new k more = record {
  targets = record { end = k.targets.end; past = k.targets.past; recorded = λ r found. k.targets.recorded r (sym (write_keeps_recorded s.tree new (image_at s.log target.offset) claim target more k.made) ∙ found) };
  remaining = sym (remaining_after_write s.tree new (image_at s.log target.offset) claim target k.kept.tree k.made);
}

driver_by : (s : Shared) (d : Driver) (claim : ℤ) (target : Recorded) (new : Tree) (more : List Op → Stage) (last : Stage) (b : Bool) → is_last_write (remaining_at s.tree s.log target.offset) ≡ b → WritesFrom target more last → Took s d claim target new → is_filling d.stage ≡ false
    → IsSoundDriver (record s { tree = new }) (if◌then◌else◌ {A = Driver × Reply} b (record d { stage = last; recorded = Some target.offset }, reply.Recorded target.offset)
    (at_stage (more (after_chunk (remaining_at s.tree s.log target.offset))) d, reply.Wrote (length (chunk (remaining_at s.tree s.log target.offset))))).0
driver_by s d claim target new more last true is from k settled =
    let all = completed s d claim target new k is in
    let elected = elected_of s.log.epoch (claim_version s.tree) (shown_in s.tree) d.epoch d.claim k.fine.claims k.after.claimed in
    written_at s d claim target new last (Some target.offset) k settled (from.last_elected d.epoch elected) (own_last s d claim target new k all)
    (from.last_at new s.log (record d { stage = last; recorded = Some target.offset }) k.after (λ c. rests_last s d claim target new k all))
driver_by s d claim target new more last false is from k settled =
    let rest = after_chunk (remaining_at s.tree s.log target.offset) in
    let elected = elected_of s.log.epoch (claim_version s.tree) (shown_in s.tree) d.epoch d.claim k.fine.claims k.after.claimed in
    written_at s d claim target new (more rest) d.recorded k settled (from.more_elected d.epoch rest elected) (own_written s.tree new s.log d.recorded k.leads.effect k.fine.own_record)
    (from.more_at new s.log (record d { stage = more rest; recorded = d.recorded }) rest k.after k.aim (λ c. writes_more s d claim target new k is))

pub taken_driver : (s : Shared) (d : Driver) (claim : ℤ) (target : Recorded) (ops : List Op) (new : Tree) (more : List Op → Stage) (last : Stage) → WritesFrom target more last → IsSharedSound s → IsSoundDriver s d → WritesTo d.stage target ops → is_filling d.stage ≡ false → d.claim ≡ Some claim
    → multi s.tree (write_ops claim (remaining_at s.tree s.log target.offset) target) ≡ Ok new → IsSoundDriver (record s { tree = new }) (after_write claim (remaining_at s.tree s.log target.offset) target more last d (Ok new)).0
taken_driver s d claim target ops new more last from kept fine at settled claimed made =
    driver_by s d claim target new more last (is_last_write (remaining_at s.tree s.log target.offset)) refl from (took s d claim target ops new kept fine at claimed made) settled

driver_written : (s : Shared) (d : Driver) (claim : ℤ) (target : Recorded) (new : Tree) (more : List Op → Stage) (last : Stage) → WritesFrom target more last → Took s d claim target new → is_filling d.stage ≡ false → d.claim ≡ Some claim
    → IsSoundDriver (record s { tree = new }) (writes s.tree d.claim (remaining_at s.tree s.log target.offset) target more last d).0
driver_written s d claim target new more last from k settled claimed =
    let ops = remaining_at s.tree s.log target.offset in
    subst (λ (m : Option ℤ). IsSoundDriver (record s { tree = new }) (writes s.tree m ops target more last d).0) (sym claimed)
    (subst (λ r. IsSoundDriver (record s { tree = new }) (after_write claim ops target more last d r).0) (sym k.made)
    (driver_by s d claim target new more last (is_last_write ops) refl from k settled))

-- the driver looks anew where the answer is lost
pub write_lost : (s : Shared) (d : Driver) (claim : ℤ) (target : Recorded) (ops : List Op) (new : Tree) → IsSharedSound s → IsSoundDriver s d → WritesTo d.stage target ops → is_filling d.stage ≡ false → d.claim ≡ Some claim
    → multi s.tree (write_ops claim (remaining_at s.tree s.log target.offset) target) ≡ Ok new → IsSoundDriver (record s { tree = new }) (begins_again d)
write_lost s d claim target ops new kept fine at settled claimed made =
    let k = took s d claim target ops new kept fine at claimed made in
    relook s new d fine (elected_of s.log.epoch (claim_version s.tree) (shown_in s.tree) d.epoch d.claim fine.claims k.after.claimed) settled (own_written s.tree new s.log d.recorded k.leads.effect fine.own_record)
    (λ migrated none some. absurd (true_or_false (is_migrated_state d.view.image.state) k.aim.migrated none))

-- ---- a write that is taken

at_write : (s : Shared) (running : List ℤ) (now : ℤ) (d : Driver) (x : Stage) (claim : ℤ) (target : Recorded) (ops : List Op) (new : Tree) → d.stage ≡ x → WritesTo x target ops → Took s d claim target new → d.claim ≡ Some claim
    → IsSoundDriver (record s { tree = new }) (after_answer s running now d x).0
at_write s running now d stage.Uninitialized claim target ops new is at k claimed = absurd at
at_write s running now d stage.Inactive claim target ops new is at k claimed = absurd at
at_write s running now d stage.WaitForControllerQuorum claim target ops new is at k claimed = absurd at
at_write s running now d stage.WaitForBrokers claim target ops new is at k claimed = absurd at
at_write s running now d stage.ListBrokers claim target ops new is at k claimed = absurd at
at_write s running now d stage.ReadControlZnodes claim target ops new is at k claimed = absurd at
at_write s running now d (stage.ClaimLeadership seen) claim target ops new is at k claimed = absurd at
at_write s running now d (stage.ScanForMigration rows) claim target ops new is at k claimed = absurd at
at_write s running now d (stage.BeginMigration rows) claim target ops new is at k claimed = absurd at
at_write s running now d (stage.AppendRecords records) claim target ops new is at k claimed = absurd at
at_write s running now d stage.ReadLogForResync claim target ops new is at k claimed = absurd at
at_write s running now d (stage.ScanForResync to rows) claim target ops new is at k claimed = absurd at
at_write s running now d (stage.WriteResync to held) claim target ops new is at k claimed =
    driver_written s d claim to new (λ rest. stage.WriteResync to rest) stage.KraftControllerToBrokerComm (resync_from to) (subst (λ (x : Recorded). Took s d claim x new) (sym at.0) k) (ap is_filling is) claimed
at_write s running now d stage.KraftControllerToBrokerComm claim target ops new is at k claimed = absurd at
at_write s running now d stage.DualWrite claim target ops new is at k claimed = absurd at
at_write s running now d (stage.WriteDelta to held) claim target ops new is at k claimed =
    driver_written s d claim to new (λ rest. stage.WriteDelta to rest) stage.DualWrite (delta_from to) (subst (λ (x : Recorded). Took s d claim x new) (sym at.0) k) (ap is_filling is) claimed

pub write_keeps : (s : Shared) (running : List ℤ) (now : ℤ) (d : Driver) (claim : ℤ) (target : Recorded) (ops : List Op) (new : Tree) → IsSharedSound s → IsSoundDriver s d → WritesTo d.stage target ops → d.claim ≡ Some claim
    → multi s.tree (write_ops claim (remaining_at s.tree s.log target.offset) target) ≡ Ok new → WriteKeeps s running now d new
write_keeps s running now d claim target ops new kept fine at claimed made =
    let k = took s d claim target ops new kept fine at claimed made in
    record { shared = shared_after_write s d claim target new k; driver = at_write s running now d d.stage claim target ops new refl at k claimed }
