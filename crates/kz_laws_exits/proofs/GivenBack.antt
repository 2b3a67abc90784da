-- What a rollback leaves.
use Rattle.std.proofs.Common.{◌≡◌, ◌≢◌, ℕ, ℤ, pos, negsuc, ◌+ℤ◌, Bool, true, false, not, List, [], ◌∷◌, ◌++◌, Option, Some, None, is_some, option_map, Result, Ok, Err, if◌then◌else◌, All, refl, sym, ap, ◌∙◌, subst}
use Rattle.std.specs.Ordering.{int_eq}
use Rattle.std.proofs.lemmas.Bool.Decides.{Decides-int_eq}
use Rattle.std.proofs.lemmas.List.Elements.{All-nil, All-cons}
use Rattle.kz_types.specs.declared.fault.TreeFault.{TreeFault}
use Rattle.kz_types.specs.declared.machine.Answer.{Answer}
use Rattle.kz_types.specs.declared.machine.Answer.TheVariants as answer
use Rattle.kz_types.specs.declared.machine.Event.TheVariants as event
use Rattle.kz_types.specs.declared.machine.Recorded.{Recorded}
use Rattle.kz_types.specs.declared.tree.Op.{Op}
use Rattle.kz_types.specs.declared.tree.Op.TheVariants as op
use Rattle.kz_types.specs.declared.tree.Row.{Row}
use Rattle.kz_types.specs.Paths.{is_migrated}
use Rattle.kz_spec_data.specs.Control.{control_path, migration_path}
use Rattle.kz_spec_data.specs.Tree.{Tree, row_at, multi, area, after_op, migration_record, unclosed_path, path_of_op}
use Rattle.kz_spec_data.specs.Log.{Log, end_of, image_at, image_of, is_migrated_log, reset}
use Rattle.kz_spec_data.specs.Rendering.{render}
use Rattle.kz_spec_machine.specs.Driver.{shown_by, least}
use Rattle.kz_spec_machine.specs.Machine.{World, first_of, unless, behind_refusal, rest_refusal, is_finalised_log, running_ids, exit_refusal, rollback_refusal, is_held_tree, deleted_if, exit_ops, tree_after_ops, reset_world, given_back, unless_refused, next}
use Rattle.kz_spec_machine.specs.Sound.{TreeShape, Agreement, Sound}
use Rattle.kz_laws_machine.proofs.Rows.{still, others_kept, op_rises, deleted_found}
use Rattle.kz_laws_machine.proofs.Claim.{shown_still}
use Rattle.kz_laws_machine.proofs.Multi.{multi_ran, outside_left, control_outside, migration_outside}
use Rattle.kz_laws_events.proofs.Targets.{closed_offset}
use Rattle.kz_laws_events.proofs.Refusals.{first_none, unless_none}
use Rattle.kz_laws_events.proofs.Exits.{MayRollBack, may_roll_back, reset_unmigrated}
use Rattle.kz_laws_exits.specs.Rollbacks.{IsGivenBack}

-- ---- a tree at rest at the log's end

unclosed_none : (m : Option (List ℕ)) → option_map (λ (path : List ℕ). answer.Unclosed path) m ≡ None → m ≡ None
unclosed_none None none = refl
unclosed_none (Some path) none = absurd (cc)

behind_none : (r : Recorded) (end : ℤ) → behind_refusal (Some r) end ≡ None → r.offset ≡ end
behind_none r end none = (Decides-int_eq r.offset end).0 (unless_none (int_eq r.offset end) (answer.Behind r.offset end) none)

-- what is recorded there
pub record IsRecordedAt (t : Tree) (end : ℤ) : Type 0 where
  pub closed : unclosed_path t ≡ None
  pub record_is : Recorded
  pub found : migration_record t ≡ Some record_is
  pub offset : record_is.offset ≡ end

recorded_by : (t : Tree) (end : ℤ) (m : Option Recorded) → migration_record t ≡ m → m ≢ None → unclosed_path t ≡ None → behind_refusal m end ≡ None → IsRecordedAt t end
recorded_by t end None is some closed none = absurd (some refl)
recorded_by t end (Some r) is some closed none = record { closed = closed; record_is = r; found = is; offset = behind_none r end none }

pub at_rest : (t : Tree) (l : Log) → Agreement t l → rest_refusal t (end_of l) ≡ None → IsRecordedAt t (end_of l)
at_rest t l agrees none =
    let both = first_none (option_map (λ (path : List ℕ). answer.Unclosed path) (unclosed_path t)) (behind_refusal (migration_record t) (end_of l)) none in
    recorded_by t (end_of l) (migration_record t) refl agrees.record_there (unclosed_none (unclosed_path t) both.0) both.1

whole_area : (t : Tree) (l : Log) → Agreement t l → IsRecordedAt t (end_of l) → area t ≡ render (image_of l)
whole_area t l agrees k =
    let r = k.record_is in
    (agrees.recorded r k.found).same (closed_offset t r k.found k.closed) k.closed ∙ ap (λ (o : ℤ). render (image_at l o)) k.offset

-- ---- the tree that is given back

pub apart : control_path ≢ migration_path
apart same = cc

none_still : (m n : Option Row) → option_map still m ≡ option_map still n → n ≡ None → m ≡ None
none_still None n same none = refl
none_still (Some r) n same none = absurd (let both : option_map still (Some r) ≡ None = same ∙ ap (option_map still) none in cc)

absent : (m : Option Row) → is_some m ≡ false → m ≡ None
absent None is = refl
absent (Some r) is = absurd (cc)

unheld : (m : Option Row) → m ≡ None → is_some (shown_by m) ≡ false
unheld m none = ap (λ (x : Option Row). is_some (shown_by x)) none

held_still : (m n : Option Row) → option_map still m ≡ option_map still n → is_some (shown_by m) ≡ is_some (shown_by n)
held_still m n same = ap is_some (sym (shown_still m) ∙ ap shown_by same ∙ shown_still n)

-- no KRaft controller holds it, and nothing is recorded
abbrev IsFree : Tree → Type 0
IsFree t = (is_held_tree t ≡ false) × (row_at migration_path t.rows ≡ None)

one_deleted : (t new : Tree) (path : List ℕ) → multi t (op.Delete path (negsuc 0) ∷ []) ≡ Ok new → new.rows ≡ after_op (t.zxid +ℤ pos 1) (op.Delete path (negsuc 0)) t.rows
one_deleted t new path is = (multi_ran t new (op.Delete path (negsuc 0) ∷ []) is).rows

gone : (t new : Tree) (held there : Bool) → is_held_tree t ≡ held → is_some (row_at migration_path t.rows) ≡ there → TreeShape t → tree_after_ops t (deleted_if held control_path ++ deleted_if there migration_path) ≡ Ok new → IsFree new
gone t new false false held there shape is =
    let same : t ≡ new = cc in
    subst IsFree same (held, absent (row_at migration_path t.rows) there)
gone t new true false held there shape is =
    let zxid = t.zxid +ℤ pos 1 in
    let rows = one_deleted t new control_path is in
    let o = op.Delete control_path (negsuc 0) in (
      unheld (row_at control_path new.rows) (ap (row_at control_path) rows ∙ deleted_found zxid control_path (negsuc 0) t.rows shape.rise),
      none_still (row_at migration_path new.rows) (row_at migration_path t.rows) (ap (λ (x : List Row). option_map still (row_at migration_path x)) rows ∙ others_kept zxid o migration_path t.rows (λ same. apart (sym same))) (absent (row_at migration_path t.rows) there),
    )
gone t new false true held there shape is =
    let zxid = t.zxid +ℤ pos 1 in
    let rows = one_deleted t new migration_path is in
    let o = op.Delete migration_path (negsuc 0) in (
      held_still (row_at control_path new.rows) (row_at control_path t.rows) (ap (λ (x : List Row). option_map still (row_at control_path x)) rows ∙ others_kept zxid o control_path t.rows apart) ∙ held,
      ap (row_at migration_path) rows ∙ deleted_found zxid migration_path (negsuc 0) t.rows shape.rise,
    )
gone t new true true held there shape is =
    let zxid = t.zxid +ℤ pos 1 in
    let first = op.Delete control_path (negsuc 0) in
    let second = op.Delete migration_path (negsuc 0) in
    let between = after_op zxid first t.rows in
    let rows : new.rows ≡ after_op zxid second between = (multi_ran t new (first ∷ second ∷ []) is).rows in (
      unheld (row_at control_path new.rows)
          (none_still (row_at control_path new.rows) (row_at control_path between) (ap (λ (x : List Row). option_map still (row_at control_path x)) rows ∙ others_kept zxid second control_path between apart) (deleted_found zxid control_path (negsuc 0) t.rows shape.rise)),
      ap (row_at migration_path) rows ∙ deleted_found zxid migration_path (negsuc 0) between (op_rises zxid first t.rows shape.rise),
    )

outside_deleted : (b : Bool) (path : List ℕ) (rest : List Op) → is_migrated path ≡ false → All (λ o. is_migrated (path_of_op o) ≡ false) rest → All (λ o. is_migrated (path_of_op o) ≡ false) (deleted_if b path ++ rest)
outside_deleted true path rest is all = All-cons (λ o. is_migrated (path_of_op o) ≡ false) (op.Delete path (negsuc 0)) rest is all
outside_deleted false path rest is all = all

exit_outside : (t : Tree) → All (λ o. is_migrated (path_of_op o) ≡ false) (exit_ops t)
exit_outside t = outside_deleted (is_held_tree t) control_path (deleted_if (is_some (row_at migration_path t.rows)) migration_path) control_outside (last (is_some (row_at migration_path t.rows)))
  where
    last : (b : Bool) → All (λ o. is_migrated (path_of_op o) ≡ false) (deleted_if b migration_path)
    last true = All-cons (λ o. is_migrated (path_of_op o) ≡ false) (op.Delete migration_path (negsuc 0)) [] migration_outside (All-nil (λ o. is_migrated (path_of_op o) ≡ false))
    last false = All-nil (λ o. is_migrated (path_of_op o) ≡ false)

area_left : (t new : Tree) (ops : List Op) → tree_after_ops t ops ≡ Ok new → TreeShape t → All (λ o. is_migrated (path_of_op o) ≡ false) ops → area new ≡ area t
area_left t new [] is shape all = ap area (let same : new ≡ t = cc in same)
area_left t new (o ∷ os) is shape all = outside_left t new (o ∷ os) is shape all

-- ---- a rollback that is done

done_by : (w new : World) (r : Result Tree TreeFault) → given_back (reset_world w) r ≡ (new, answer.RolledBack) → (t : Tree) × (r ≡ Ok t) × (new.shared.tree ≡ t) × (new.shared.log ≡ reset w.shared.log)
done_by w new (Ok t) is = (t, refl, sym (ap (λ (x : World × Answer). x.0.shared.tree) is), sym (ap (λ (x : World × Answer). x.0.shared.log) is))
done_by w new (Err f) is = absurd (let told = ap (λ (x : World × Answer). x.1) is in cc)

no_refusal : (m : Option Answer) (r : Answer) → m ≡ Some r → r ≡ answer.RolledBack → (m ≡ Some answer.RolledBack)
no_refusal m r is told = is ∙ ap (λ (x : Answer). Some x) told

-- no rollback is refused as done
running_told : (m : Option ℤ) → option_map (λ (id : ℤ). answer.Running id) m ≡ Some answer.RolledBack → ⊥
running_told None is = cc
running_told (Some id) is = cc

unclosed_told : (m : Option (List ℕ)) → option_map (λ (path : List ℕ). answer.Unclosed path) m ≡ Some answer.RolledBack → ⊥
unclosed_told None is = cc
unclosed_told (Some path) is = cc

unless_told : (b : Bool) (a : Answer) → (a ≡ answer.RolledBack → ⊥) → unless b a ≡ Some answer.RolledBack → ⊥
unless_told true a other is = cc
unless_told false a other is = other (let same : a ≡ answer.RolledBack = cc in same)

behind_told : (m : Option Recorded) (end : ℤ) → behind_refusal m end ≡ Some answer.RolledBack → ⊥
behind_told None end is = cc
behind_told (Some r) end is = unless_told (int_eq r.offset end) (answer.Behind r.offset end) (λ same. cc) is

first_told : (a b : Option Answer) → (a ≡ Some answer.RolledBack → ⊥) → (b ≡ Some answer.RolledBack → ⊥) → first_of a b ≡ Some answer.RolledBack → ⊥
first_told (Some x) b one other is = one is
first_told None b one other is = other is

rest_told : (t : Tree) (b : Bool) (end : ℤ) → (if b then rest_refusal t end else None) ≡ Some answer.RolledBack → ⊥
rest_told t true end is = first_told (option_map (λ (path : List ℕ). answer.Unclosed path) (unclosed_path t)) (behind_refusal (migration_record t) end) (unclosed_told (unclosed_path t)) (behind_told (migration_record t) end) is
rest_told t false end is = cc

refusal_told : (w : World) → rollback_refusal w ≡ Some answer.RolledBack → ⊥
refusal_told w is =
    let l = w.shared.log in
    first_told (option_map (λ (id : ℤ). answer.Running id) (least (running_ids w.drivers))) (exit_refusal w.shared.tree l) (running_told (least (running_ids w.drivers)))
    (first_told (unless (not (is_finalised_log l)) answer.Finalised) (if is_migrated_log l then rest_refusal w.shared.tree (end_of l) else None)
    (unless_told (not (is_finalised_log l)) answer.Finalised (λ same. cc)) (rest_told w.shared.tree (is_migrated_log l) (end_of l))) is

gives_back : (w new : World) (t : Tree) → Sound w → rollback_refusal w ≡ None → tree_after_ops w.shared.tree (exit_ops w.shared.tree) ≡ Ok t → new.shared.tree ≡ t → new.shared.log ≡ reset w.shared.log → IsGivenBack w new
gives_back w new t sound none made tree log =
    let m : MayRollBack w = may_roll_back w none in
    let old = w.shared.tree in
    let free : IsFree t = gone old t (is_held_tree old) (is_some (row_at migration_path old.rows)) refl refl sound.kept.tree made in
    record {
      area_left = ap area tree ∙ area_left old t (exit_ops old) made sound.kept.tree (exit_outside old);
      whole = λ migrated. whole_area old w.shared.log (sound.kept.agreement migrated) (at_rest old w.shared.log (sound.kept.agreement migrated) (m.rest migrated));
      free = ap is_held_tree tree ∙ free.0;
      unrecorded = ap (λ (x : Tree). row_at migration_path x.rows) tree ∙ free.1;
      log = log;
    }

by_refusal : (w new : World) (m : Option Answer) → rollback_refusal w ≡ m → Sound w → unless_refused w m (given_back (reset_world w) (tree_after_ops w.shared.tree (exit_ops w.shared.tree))) ≡ (new, answer.RolledBack) → IsGivenBack w new
by_refusal w new (Some a) is sound told = absurd (refusal_told w (is ∙ ap (λ (x : World × Answer). Some x.1) told))
by_refusal w new None is sound told =
    let d = done_by w new (tree_after_ops w.shared.tree (exit_ops w.shared.tree)) told in
    gives_back w new d.0 sound is d.1 d.2 d.3

pub rollback_gives_back : (w new : World) → Sound w → next w event.Rollback ≡ (new, answer.RolledBack) → IsGivenBack w new
unfolding next
rollback_gives_back w new sound told = by_refusal w new (rollback_refusal w) refl sound told

-- ---- a rollback that goes on

pub reset_unfinished : (l : Log) → is_finalised_log (reset l) ≡ false
unfolding image_at
reset_unfinished l = refl

pub exit_again : (t : Tree) (l : Log) → exit_refusal t (reset l) ≡ None
exit_again t l = rw (reset_unfinished l, reset_unmigrated l) refl

refused_again : (w : World) → rollback_refusal w ≡ None → rollback_refusal (reset_world w) ≡ None
refused_again w none =
    let running = option_map (λ (id : ℤ). answer.Running id) (least (running_ids w.drivers)) in
    ap (λ (m : Option Answer). first_of m (exit_refusal w.shared.tree (reset w.shared.log))) (first_none running (exit_refusal w.shared.tree w.shared.log) none).0
    ∙ exit_again w.shared.tree w.shared.log

pub rollback_goes_on : (w : World) → rollback_refusal w ≡ None → next (reset_world w) event.Rollback ≡ next w event.Rollback
unfolding next
rollback_goes_on w none =
    let rest = given_back (reset_world w) (tree_after_ops w.shared.tree (exit_ops w.shared.tree)) in
    ap (λ (m : Option Answer). unless_refused (reset_world w) m rest) (refused_again w none) ∙ sym (ap (λ (m : Option Answer). unless_refused w m rest) none)
