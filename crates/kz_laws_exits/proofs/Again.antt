-- A rollback that is called again after its tree was given back, and claims after its log was reset.
use Rattle.std.proofs.Common.{◌≡◌, ℤ, negsuc, Bool, true, false, List, [], ◌++◌, Option, Some, None, is_some, option_map, Result, Ok, Err, All, refl, sym, ap, ◌∙◌, subst}
use Rattle.kz_types.specs.declared.driver.ClaimSeen.{ClaimSeen}
use Rattle.kz_types.specs.declared.driver.Stage.TheVariants as stage
use Rattle.kz_types.specs.declared.fault.TreeFault.{TreeFault}
use Rattle.kz_types.specs.declared.machine.Answer.{Answer}
use Rattle.kz_types.specs.declared.machine.Answer.TheVariants as answer
use Rattle.kz_types.specs.declared.machine.Event.{Event}
use Rattle.kz_types.specs.declared.machine.Event.TheVariants as event
use Rattle.kz_types.specs.declared.machine.Recorded.{Recorded}
use Rattle.kz_types.specs.declared.tree.Op.{Op}
use Rattle.kz_types.specs.declared.tree.Row.{Row}
use Rattle.kz_spec_data.specs.Control.{control_path, migration_path}
use Rattle.kz_spec_data.specs.Tree.{Tree, row_at, multi, migration_record}
use Rattle.kz_spec_data.specs.Log.{Log, is_migrated_log, reset}
use Rattle.kz_spec_machine.specs.Driver.{Shared, Driver, least, views_migrated, claim_ops}
use Rattle.kz_spec_machine.specs.Machine.{World, first_of, running_ids, driver_of, exit_refusal, rollback_refusal, is_held_tree, deleted_if, exit_ops, tree_after_ops, reset_world, given_back, unless_refused, next, after_events}
use Rattle.kz_spec_machine.specs.Sound.{IsTime, IsSharedSound, IsSoundDriver, Sound, IsLawful}
use Rattle.kz_laws_events.proofs.Tests.{true_or_false}
use Rattle.kz_laws_events.proofs.Claiming.{taken}
use Rattle.kz_laws_events.proofs.Exits.{reset_world_sound}
use Rattle.kz_laws_events.proofs.Runs.{run_sound}
use Rattle.kz_laws_exits.specs.Rollbacks.{IsGivenBack, EndsAlike}
use Rattle.kz_laws_exits.proofs.GivenBack.{exit_again, rollback_gives_back}

-- ---- a rollback that is called again

no_ops : (t : Tree) → is_held_tree t ≡ false → row_at migration_path t.rows ≡ None → exit_ops t ≡ []
no_ops t free none =
    ap (λ (b : Bool). deleted_if b control_path ++ deleted_if (is_some (row_at migration_path t.rows)) migration_path) free
    ∙ ap (λ (m : Option Row). deleted_if (is_some m) migration_path) none

-- nothing is asked of the tree
given : (w : World) → exit_ops w.shared.tree ≡ [] → reset w.shared.log ≡ w.shared.log → given_back (reset_world w) (tree_after_ops w.shared.tree (exit_ops w.shared.tree)) ≡ (w, answer.RolledBack)
given w none same =
    ap (λ (os : List Op). given_back (reset_world w) (tree_after_ops w.shared.tree os)) none
    ∙ ap (λ (l : Log). (record { shared = record w.shared { log = l }; drivers = w.drivers }, answer.RolledBack)) same

not_refused : (w : World) (l : Log) → w.drivers ≡ [] → w.shared.log ≡ reset l → rollback_refusal w ≡ None
not_refused w l none log =
    ap (λ (ds : List Driver). first_of (option_map (λ (id : ℤ). answer.Running id) (least (running_ids ds))) (exit_refusal w.shared.tree w.shared.log)) none
    ∙ ap (exit_refusal w.shared.tree) log ∙ exit_again w.shared.tree l

reset_same : (l old : Log) → l ≡ reset old → reset l ≡ l
reset_same l old is = ap reset is ∙ sym is

pub rollback_repeats : (w new again : World) → Sound w → next w event.Rollback ≡ (new, answer.RolledBack) → again.drivers ≡ [] → again.shared.tree ≡ new.shared.tree → again.shared.log ≡ new.shared.log → next again event.Rollback ≡ (again, answer.RolledBack)
unfolding next
rollback_repeats w new again sound told none tree log =
    let k : IsGivenBack w new = rollback_gives_back w new sound told in
    let at : again.shared.log ≡ reset w.shared.log = log ∙ k.log in
    let ops : exit_ops again.shared.tree ≡ [] = no_ops again.shared.tree (ap is_held_tree tree ∙ k.free) (ap (λ (t : Tree). row_at migration_path t.rows) tree ∙ k.unrecorded) in
    ap (λ (m : Option Answer). unless_refused again m (given_back (reset_world again) (tree_after_ops again.shared.tree (exit_ops again.shared.tree)))) (not_refused again w.shared.log none at)
    ∙ given again ops (reset_same again.shared.log w.shared.log at)

-- ---- a rollback that goes on in another world

ends_alike : (one two : World) (r : Result Tree TreeFault) → one.shared.tree ≡ two.shared.tree → one.shared.log ≡ two.shared.log → EndsAlike (given_back one r) (given_back two r)
ends_alike one two (Ok t) tree log = record { tree = refl; log = log; told = refl }
ends_alike one two (Err f) tree log = record { tree = tree; log = log; told = refl }

given_alike : (w half : World) → half.shared.tree ≡ w.shared.tree → half.shared.log ≡ reset w.shared.log → EndsAlike (given_back (reset_world half) (tree_after_ops half.shared.tree (exit_ops half.shared.tree))) (given_back (reset_world w) (tree_after_ops w.shared.tree (exit_ops w.shared.tree)))
given_alike w half tree log =
    subst (λ (r : Result Tree TreeFault). EndsAlike (given_back (reset_world half) r) (given_back (reset_world w) (tree_after_ops w.shared.tree (exit_ops w.shared.tree)))) (sym (ap (λ (t : Tree). tree_after_ops t (exit_ops t)) tree))
    (ends_alike (reset_world half) (reset_world w) (tree_after_ops w.shared.tree (exit_ops w.shared.tree)) tree (ap reset log))

alike_by : (one two : World) (a b : Option Answer) (x y : World × Answer) → a ≡ None → b ≡ None → EndsAlike x y → EndsAlike (unless_refused one a x) (unless_refused two b y)
alike_by one two None None x y first second k = k
alike_by one two (Some a) b x y first second k = absurd (cc)
alike_by one two None (Some b) x y first second k = absurd (cc)

pub rollback_resumes : (w half : World) → rollback_refusal w ≡ None → half.drivers ≡ [] → half.shared.tree ≡ w.shared.tree → half.shared.log ≡ reset w.shared.log → EndsAlike (next half event.Rollback) (next w event.Rollback)
unfolding next
rollback_resumes w half none alone tree log =
    alike_by half w (rollback_refusal half) (rollback_refusal w) (given_back (reset_world half) (tree_after_ops half.shared.tree (exit_ops half.shared.tree))) (given_back (reset_world w) (tree_after_ops w.shared.tree (exit_ops w.shared.tree)))
    (not_refused half w.shared.log alone log) none (given_alike w half tree log)

-- ---- claims on a log that isn't migrated

unknown_by : (l : Log) (known : Bool) → (known ≡ true → is_migrated_log l ≡ true) → is_migrated_log l ≡ false → known ≡ false
unknown_by l true knows none = absurd (true_or_false (is_migrated_log l) (knows refl) none)
unknown_by l false knows none = refl

pub early_claim : (s : Shared) (d : Driver) (seen : ClaimSeen) (now : ℤ) (t : Tree) → IsTime now → IsSharedSound s → IsSoundDriver s d → d.stage ≡ stage.ClaimLeadership seen → is_migrated_log s.log ≡ false → multi s.tree (claim_ops seen d now) ≡ Ok t
    → option_map (λ (r : Recorded). r.offset) (migration_record t) ≡ Some (negsuc 0)
early_claim s d seen now t time kept fine at none made = (taken s d seen now t time kept fine at made).unrecorded (unknown_by s.log (views_migrated d) fine.views.migrated none)

pub claim_after_reset : (w : World) (es : List Event) (id now : ℤ) (d : Driver) (seen : ClaimSeen) (t : Tree) → Sound w → rollback_refusal w ≡ None → All IsLawful es → IsTime now → is_migrated_log (after_events (reset_world w) es).shared.log ≡ false
    → driver_of id (after_events (reset_world w) es).drivers ≡ Some d → d.stage ≡ stage.ClaimLeadership seen → multi (after_events (reset_world w) es).shared.tree (claim_ops seen d now) ≡ Ok t → option_map (λ (r : Recorded). r.offset) (migration_record t) ≡ Some (negsuc 0)
claim_after_reset w es id now d seen t sound refused lawful time none found at made =
    let now_sound : Sound (after_events (reset_world w) es) = run_sound es (reset_world w) lawful (reset_world_sound w sound refused) in
    early_claim (after_events (reset_world w) es).shared d seen now t time now_sound.kept (now_sound.each id d found) at none made
