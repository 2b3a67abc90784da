-- What a rollback leaves.
use Rattle.std.specs.Prelude.{◌≡◌, ℤ, negsuc, ◌≤ℤ◌, true, false, List, [], Some, None, Ok, Err, option_map, All}
use Rattle.kz_types.specs.Limits.{number_of_limit}
use Rattle.kz_types.specs.declared.driver.ClaimSeen.{ClaimSeen}
use Rattle.kz_types.specs.declared.driver.Stage.TheVariants as stage
use Rattle.kz_types.specs.declared.fault.TreeFault.{TreeFault}
use Rattle.kz_types.specs.declared.fault.TreeFault.TheVariants as tree_fault
use Rattle.kz_types.specs.declared.limits.Limit.TheVariants as limits
use Rattle.kz_types.specs.declared.limits.TheConstants.{MAX_LONG}
use Rattle.kz_types.specs.declared.machine.Answer.{Answer}
use Rattle.kz_types.specs.declared.machine.Answer.TheVariants as answer
use Rattle.kz_types.specs.declared.machine.Event.{Event}
use Rattle.kz_types.specs.declared.machine.Event.TheVariants as event
use Rattle.kz_types.specs.declared.machine.Recorded.{Recorded}
use Rattle.kz_spec_data.specs.Control.{migration_path}
use Rattle.kz_spec_data.specs.Tree.{Tree, area, row_at, multi, migration_record}
use Rattle.kz_spec_data.specs.Log.{image_of, is_migrated_log, reset}
use Rattle.kz_spec_data.specs.Rendering.{render}
use Rattle.kz_spec_machine.specs.Driver.{Shared, Driver, claim_ops}
use Rattle.kz_spec_machine.specs.Machine.{World, driver_of, is_held_tree, exit_ops, tree_after_ops, rollback_refusal, reset_world, next, after_events}
use Rattle.kz_spec_machine.specs.Sound.{IsTime, IsSharedSound, IsSoundDriver, Sound, IsLawful}

-- ZooKeeper is given back: no KRaft controller holds it, and nothing of the migration is recorded there. Its migrated area is as it
-- was, and, where the migration was committed, is the rendering of all of the metadata. The log begins anew, and its epoch stays.
pub record IsGivenBack (w new : World) : Type 0 where
  pub area_left : area new.shared.tree ≡ area w.shared.tree
  pub whole : is_migrated_log w.shared.log ≡ true → area w.shared.tree ≡ render (image_of w.shared.log)
  pub free : is_held_tree new.shared.tree ≡ false
  pub unrecorded : row_at migration_path new.shared.tree.rows ≡ None
  pub log : new.shared.log ≡ reset w.shared.log

-- A rollback that is done gives ZooKeeper back.
abbrev pub RollbacksGiveBack : Type 0
RollbacksGiveBack = (w new : World) → Sound w → next w event.Rollback ≡ (new, answer.RolledBack) → IsGivenBack w new

-- One that stopped after the log was reset goes on as it would have gone on.
abbrev pub RollbacksGoOn : Type 0
RollbacksGoOn = (w : World) → rollback_refusal w ≡ None → next (reset_world w) event.Rollback ≡ next w event.Rollback

-- What a rollback leaves of the tree and of the log, and its answer, are the same.
pub record EndsAlike (one two : World × Answer) : Type 0 where
  pub tree : one.0.shared.tree ≡ two.0.shared.tree
  pub log : one.0.shared.log ≡ two.0.shared.log
  pub told : one.1 ≡ two.1

-- So does a rollback of every other world with that tree and that log, in which no controller runs.
abbrev pub RollbacksResume : Type 0
RollbacksResume = (w half : World) → rollback_refusal w ≡ None → half.drivers ≡ [] → half.shared.tree ≡ w.shared.tree → half.shared.log ≡ reset w.shared.log → EndsAlike (next half event.Rollback) (next w event.Rollback)

-- One that stopped after the tree was given back, too, is done when it is called again, and changes nothing: of every world with
-- that tree and that log, in which no controller runs.
abbrev pub RollbacksRepeat : Type 0
RollbacksRepeat = (w new again : World) → Sound w → next w event.Rollback ≡ (new, answer.RolledBack) → again.drivers ≡ [] → again.shared.tree ≡ new.shared.tree → again.shared.log ≡ new.shared.log → next again event.Rollback ≡ (again, answer.RolledBack)

-- The tree's request of a rollback is refused with no code of ZooKeeper. All that can refuse it is the limit on transactions, where
-- the tree has had all of them.
abbrev pub RollbacksMeetNoCode : Type 0
RollbacksMeetNoCode = (w : World) (f : TreeFault) → Sound w → tree_after_ops w.shared.tree (exit_ops w.shared.tree) ≡ Err f → (f ≡ tree_fault.Limit 0 (number_of_limit limits.Long)) × (MAX_LONG ≤ℤ w.shared.tree.zxid)

-- A claim on a log that isn't migrated records that there is no offset yet, whatever was recorded before.
abbrev pub EarlyClaimsRecordNone : Type 0
EarlyClaimsRecordNone = (s : Shared) (d : Driver) (seen : ClaimSeen) (now : ℤ) (t : Tree) → IsTime now → IsSharedSound s → IsSoundDriver s d → d.stage ≡ stage.ClaimLeadership seen → is_migrated_log s.log ≡ false
    → multi s.tree (claim_ops seen d now) ≡ Ok t → option_map (λ (r : Recorded). r.offset) (migration_record t) ≡ Some (negsuc 0)

-- So does the claim of a controller that was elected after the log was reset, before the tree was given back: after whatever
-- events, until the next migration is committed.
abbrev pub ClaimsAfterResetRecordNone : Type 0
ClaimsAfterResetRecordNone = (w : World) (es : List Event) (id now : ℤ) (d : Driver) (seen : ClaimSeen) (t : Tree) → Sound w → rollback_refusal w ≡ None → All IsLawful es → IsTime now → is_migrated_log (after_events (reset_world w) es).shared.log ≡ false
    → driver_of id (after_events (reset_world w) es).drivers ≡ Some d → d.stage ≡ stage.ClaimLeadership seen → multi (after_events (reset_world w) es).shared.tree (claim_ops seen d now) ≡ Ok t → option_map (λ (r : Recorded). r.offset) (migration_record t) ≡ Some (negsuc 0)
