-- At every moment of a run a tree that wasn't written since an offset was recorded is as it was recorded.
use Rattle.std.proofs.Common.{◌≡◌, ℤ, true, List, [], ◌∷◌, map, All, ap, sym, ◌∙◌}
use Rattle.std.proofs.lemmas.List.Elements.{All-cons, All-nil}
use Rattle.kz_types.specs.declared.machine.Event.{Event}
use Rattle.kz_types.specs.declared.plan.Plan.{Plan}
use Rattle.kz_types.specs.declared.record.MetaRecord.{MetaRecord}
use Rattle.kz_spec_data.specs.Tree.{Tree, rendered_row}
use Rattle.kz_spec_data.specs.Log.{Log, is_migrated_log, reset}
use Rattle.kz_spec_data.specs.Rendering.{render}
use Rattle.kz_spec_machine.specs.Driver.{Shared, Driver, planned_step}
use Rattle.kz_spec_machine.specs.Machine.{World, Pair, pair_of, after_events, request_pairs, cut_world}
use Rattle.kz_spec_machine.specs.Sound.{IsTime, IsSharedSound, IsSoundDriver, IsLawful}
use Rattle.kz_spec_machine.specs.Openings.{opened_world, IsSoundPair}
use Rattle.kz_spec_machine.specs.Promises.{Linked, IsAsRecorded, StayingAsRecorded}
use Rattle.kz_laws_machine.specs.Effects.{IsUnchanged}
use Rattle.kz_laws_events.proofs.Tests.{true_or_false}
use Rattle.kz_laws_events.proofs.Resync.{recorded_within}
use Rattle.kz_laws_events.proofs.StepCases.{all_steps}
use Rattle.kz_laws_events.proofs.Elected.{MayElect, elected_of, shared_elected}
use Rattle.kz_laws_events.proofs.Changed.{IsLeaderBatch, more_of}
use Rattle.kz_laws_events.proofs.Changed as changed
use Rattle.kz_laws_events.proofs.Exits.{reset_unmigrated}
use Rattle.kz_laws_runs.proofs.Agrees.{Anything}
use Rattle.kz_laws_runs.proofs.Linked.{Promised, run_linked, linked_of}
use Rattle.kz_laws_events.proofs.Snapshots.{cut_is}

-- what each request leaves
abbrev Leaves : Pair → Pair → Type 0
Leaves p q = IsAsRecorded q

-- a sound tree and log
sound_recorded : (s : Shared) → IsSharedSound s → IsAsRecorded (pair_of s)
sound_recorded s kept migrated r found least closed = ((kept.agreement migrated).recorded r found).same least closed

step_recorded : (p : Plan) (s : Shared) (running : List ℤ) (now : ℤ) (d : Driver) → IsTime now → IsSharedSound s → IsSoundDriver s d → Anything s d → IsAsRecorded (pair_of (planned_step p s running now d).shared)
step_recorded p s running now d time kept fine any = sound_recorded (planned_step p s running now d).shared (all_steps p s running now d time kept fine).shared

elected_recorded : (s : Shared) (now : ℤ) → MayElect s → IsAsRecorded (pair_of (record s { log = elected_of s.log now }))
elected_recorded s now m = sound_recorded (record s { log = elected_of s.log now }) (shared_elected s now m)

-- more batches leave what was rendered at an offset that the log had
batch_recorded : (s : Shared) (now : ℤ) (items : List MetaRecord) → IsLeaderBatch s now items → IsAsRecorded (pair_of (record s { log = more_of s now items }))
batch_recorded s now items b migrated r found least closed =
    let before = changed.was s now items b migrated in
    sound_recorded s b.kept before r found least closed
    ∙ ap render (sym ((changed.longer s now items b).image r.offset (recorded_within s r b.kept before found)))

tree_recorded : (s : Shared) (new : Tree) → IsSharedSound s → (is_migrated_log s.log ≡ true → IsUnchanged s.tree new) → IsAsRecorded (pair_of (record s { tree = new }))
tree_recorded s new kept unchanged migrated r found least closed =
    let u = unchanged migrated in
    ap (map rendered_row) u.rows ∙ sound_recorded s kept migrated r (sym u.recorded ∙ found) least (sym u.unclosed ∙ closed)

reset_recorded : (s : Shared) → IsSharedSound s → IsAsRecorded (pair_of (record s { log = reset s.log }))
reset_recorded s kept migrated r found least closed = absurd (true_or_false (is_migrated_log (reset s.log)) migrated (reset_unmigrated s.log))

recorded_promised : Promised Anything Leaves
recorded_promised = record {
  on_step = step_recorded;
  keeps = λ s running now d time kept fine any. tt;
  each_event = λ w e lawful sound each id d found. tt;
  on_election = elected_recorded;
  on_batch = batch_recorded;
  on_tree = tree_recorded;
  on_reset = reset_recorded;
  on_snapshot = λ w sound may. sound_recorded (cut_world w).shared (cut_is w sound may).sound.kept;
}

all_recorded : (p : Pair) (qs : List Pair) → IsAsRecorded p → Linked Leaves p qs → All IsAsRecorded (p ∷ qs)
all_recorded p [] own linked = All-cons IsAsRecorded p [] own (All-nil IsAsRecorded)
all_recorded p (q ∷ qs) own linked = All-cons IsAsRecorded p (q ∷ qs) own (all_recorded q qs linked.0 linked.1)

pub run_recorded : (t : Tree) (l : Log) (es : List Event) → IsSoundPair t l → All IsLawful es → StayingAsRecorded (opened_world t l) es
run_recorded t l es pair lawful =
    let w : World = opened_world t l in
    all_recorded (pair_of w.shared) (request_pairs w es) (sound_recorded w.shared pair.sound.kept)
    (linked_of Leaves (pair_of w.shared) (request_pairs w es) (pair_of (after_events w es).shared)
    (run_linked Anything Leaves es w recorded_promised lawful pair.sound (λ id d found. tt)))
