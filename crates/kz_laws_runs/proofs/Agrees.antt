-- At every moment of a run each path of the migrated area agrees with the log.
use Rattle.std.proofs.Common.{◌≡◌, ℤ, true, List, [], ◌∷◌, map, All, ap, ◌⊎◌, inl, inr, pos, negsuc, ◌≤ℤ◌, ℕ, Option, Some, sym, ◌∙◌, subst, arith}
use Rattle.std.specs.Prelude.{⊤}
use Rattle.kz_types.specs.declared.machine.Event.{Event}
use Rattle.kz_types.specs.declared.plan.Plan.{Plan}
use Rattle.kz_types.specs.declared.record.MetaRecord.{MetaRecord}
use Rattle.kz_types.specs.declared.tree.Rendered.{Rendered}
use Rattle.kz_spec_data.specs.Tree.{Tree, area, rendered_row, migration_record}
use Rattle.kz_spec_data.specs.Log.{Log, is_migrated_log, reset}
use Rattle.kz_spec_machine.specs.Driver.{Shared, Driver, planned_step}
use Rattle.kz_spec_machine.specs.Machine.{World, Pair, pair_of, after_events, request_pairs, cut_world}
use Rattle.kz_spec_machine.specs.Sound.{IsTime, IsSharedSound, IsSoundDriver, IsLawful, Sound}
use Rattle.kz_spec_machine.specs.Openings.{opened_world, IsSoundPair}
use Rattle.kz_spec_machine.specs.Promises.{Linked, PathsAgree, source_after, AgreeFrom, Agreeing, at_path, IsRendered, IsAsCommitted}
use Rattle.kz_laws_machine.specs.Effects.{IsUnchanged}
use Rattle.kz_laws_events.proofs.Elected.{MayElect, elected_of}
use Rattle.kz_laws_events.proofs.Elected as elected
use Rattle.kz_laws_events.proofs.Changed.{IsLeaderBatch, more_of}
use Rattle.kz_laws_events.proofs.Changed as changed
use Rattle.kz_laws_events.proofs.Exits.{reset_unmigrated}
use Rattle.kz_laws_agreement.proofs.Effects.{nothing_owed, Leaves, left_agrees, longer_agrees}
use Rattle.kz_laws_agreement.proofs.Steps.{step_agrees}
use Rattle.kz_laws_runs.proofs.Linked.{Promised, run_linked, linked_of}
use Rattle.std.proofs.lemmas.Int.{ints}
use Rattle.kz_types.specs.declared.machine.Recorded.{Recorded}
use Rattle.kz_spec_data.specs.Rendering.{render}
use Rattle.kz_laws_machine.specs.Snapshots.{IsCut}
use Rattle.kz_laws_events.proofs.Snapshots.{MaySnapshot, cuts}

-- what each request does, whatever the migrated area was at the commit
abbrev pub Agrees : Pair → Pair → Type 0
Agrees p q = (source : List Rendered) → PathsAgree source p → PathsAgree (source_after source p) q

-- nothing is asked of drivers
abbrev pub Anything : Shared → Driver → Type 0
Anything s d = ⊤

step_agrees_by : (p : Plan) (s : Shared) (running : List ℤ) (now : ℤ) (d : Driver) → IsTime now → IsSharedSound s → IsSoundDriver s d → Anything s d → Agrees (pair_of s) (pair_of (planned_step p s running now d).shared)
step_agrees_by p s running now d time kept fine any source agrees = step_agrees p source s running now d time kept fine agrees

elected_agrees : (s : Shared) (now : ℤ) → MayElect s → Agrees (pair_of s) (pair_of (record s { log = elected_of s.log now }))
elected_agrees s now m source agrees = longer_agrees source s (elected_of s.log now) (elected.longer s now m) (elected.was s now m) agrees

batch_agrees : (s : Shared) (now : ℤ) (items : List MetaRecord) → IsLeaderBatch s now items → Agrees (pair_of s) (pair_of (record s { log = more_of s now items }))
batch_agrees s now items b source agrees = longer_agrees source s (more_of s now items) (changed.longer s now items b) (changed.was s now items b) agrees

unchanged_leaves : (t new : Tree) → IsUnchanged t new → Leaves t new
unchanged_leaves t new u = record { area_is = ap (map rendered_row) u.rows; recorded = u.recorded }

tree_agrees : (s : Shared) (new : Tree) → IsSharedSound s → (is_migrated_log s.log ≡ true → IsUnchanged s.tree new) → Agrees (pair_of s) (pair_of (record s { tree = new }))
tree_agrees s new kept unchanged source agrees = left_agrees source s new (λ migrated. unchanged_leaves s.tree new (unchanged migrated)) agrees

reset_agrees : (s : Shared) → IsSharedSound s → Agrees (pair_of s) (pair_of (record s { log = reset s.log }))
reset_agrees s kept source agrees = nothing_owed (source_after source (pair_of s)) (record s { log = reset s.log }) (reset_unmigrated s.log)

same_record : (x y : Recorded) (found : Option Recorded) → found ≡ Some x → found ≡ Some y → x ≡ y
same_record x y found a b = cc

not_none : (o : ℤ) → pos 0 ≤ℤ o → o ≡ negsuc 0 → ⊥
not_none o least is = omega (arith, ints, least, is)

-- a path that is as rendered at a batch end is so after a snapshot
cut_path : (t : Tree) (l cut : Log) (source other : List Rendered) (at : ℤ) (r : Recorded) (path : List ℕ) → IsCut l cut at → pos 0 ≤ℤ at → r.offset ≡ at → IsAsCommitted t source r path ⊎ IsRendered t l r path → IsAsCommitted t other r path ⊎ IsRendered t cut r path
cut_path t l cut source other at r path cuts least is (inl old) = absurd (not_none at least (sym is ∙ old.none))
cut_path t l cut source other at r path cuts least is (inr old) =
    let low : at ≤ℤ old.offset = subst (λ (o : ℤ). o ≤ℤ old.offset) is old.recorded in
    inr (record {
      offset = old.offset;
      end = cuts.batch_end old.offset old.end low;
      past = cuts.past old.offset old.past;
      recorded = old.recorded;
      same = old.same ∙ ap (λ i. at_path path (render i)) (sym (cuts.image old.offset old.end low));
    })

snapshot_agrees : (w : World) → Sound w → MaySnapshot w → Agrees (pair_of w.shared) (pair_of (cut_world w).shared)
snapshot_agrees w sound m source agrees migrated r found path =
    let q = m.may.record_is in
    let same : r ≡ q = same_record r q (migration_record w.shared.tree) found m.may.found in
    cut_path w.shared.tree w.shared.log (cut_world w).shared.log source (source_after source (pair_of w.shared)) q.offset r path (cuts w sound m) m.may.least (ap (λ (x : Recorded). x.offset) same)
    (agrees m.migrated r found path)

pub agrees_promised : Promised Anything Agrees
agrees_promised = record {
  on_step = step_agrees_by;
  keeps = λ s running now d time kept fine any. tt;
  each_event = λ w e lawful sound each id d found. tt;
  on_election = elected_agrees;
  on_batch = batch_agrees;
  on_tree = tree_agrees;
  on_reset = reset_agrees;
  on_snapshot = snapshot_agrees;
}

-- from one moment on
pub agree_from : (source : List Rendered) (p : Pair) (qs : List Pair) → Linked Agrees p qs → PathsAgree source p → AgreeFrom source p qs
agree_from source p [] linked agrees = agrees
agree_from source p (q ∷ qs) linked agrees = (agrees, agree_from (source_after source p) q qs linked.1 (linked.0 source agrees))

pub run_agrees : (t : Tree) (l : Log) (es : List Event) → IsSoundPair t l → All IsLawful es → Agreeing (opened_world t l) es
run_agrees t l es pair lawful =
    let w : World = opened_world t l in
    agree_from (area t) (pair_of w.shared) (request_pairs w es)
    (linked_of Agrees (pair_of w.shared) (request_pairs w es) (pair_of (after_events w es).shared)
    (run_linked Anything Agrees es w agrees_promised lawful pair.sound (λ id d found. tt)))
    pair.paths
