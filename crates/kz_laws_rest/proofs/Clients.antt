-- What events of ZooKeeper clients leave of a sound world.
use Rattle.std.proofs.Common.{◌≡◌, ℤ, true, false, map, Option, Some, None, refl, sym, ap, ◌∙◌}
use Rattle.std.specs.Prelude.{Result, Ok, Err}
use Rattle.kz_types.specs.declared.fault.TreeFault.{TreeFault}
use Rattle.kz_types.specs.declared.move_fault.MoveFault.{MoveFault}
use Rattle.kz_types.specs.declared.machine.Answer.{Answer}
use Rattle.kz_types.specs.declared.machine.Event.{Event}
use Rattle.kz_types.specs.declared.machine.Event.TheVariants as event
use Rattle.kz_spec_data.specs.Tree.{Tree, multi, begin_session, end_session, rendered_row}
use Rattle.kz_spec_data.specs.Log.{Log, image_of}
use Rattle.kz_spec_data.specs.Rendering.{render}
use Rattle.kz_spec_machine.specs.Driver.{Driver}
use Rattle.kz_spec_machine.specs.Machine.{World, driver_of, moved_world, is_held_tree, client_refusal, client_world, unless_refused, next}
use Rattle.kz_spec_machine.specs.Sound.{claim_version, shown_in, Sound}
use Rattle.kz_spec_machine.specs.InStep.{InStep}
use Rattle.kz_laws_machine.specs.Effects.{IsUnchanged}
use Rattle.kz_laws_machine.proofs.Sessions.{begin_leaves, end_leaves}
use Rattle.kz_laws_machine.proofs.Clients.{client_leaves_held}
use Rattle.kz_laws_events.proofs.Unheld.{none_claimed}
use Rattle.kz_laws_rest.specs.Clients.{IsOfClient}

abbrev Leaves : World → World → Type 0
Leaves w new = IsUnchanged w.shared.tree new.shared.tree × (new.shared.log ≡ w.shared.log) × (new.drivers ≡ w.drivers)

itself : (w : World) → Leaves w w
itself w = (record { rows = refl; recorded = refl; unclosed = refl; version = refl; shown = refl }, refl, refl)

moved_leaves : (w : World) (r : Result Tree MoveFault) → ((t : Tree) → r ≡ Ok t → IsUnchanged w.shared.tree t) → Leaves w (moved_world w r).0
moved_leaves w (Ok t) made = (made t refl, refl, refl)
moved_leaves w (Err f) made = itself w

client_leaves : (w : World) (r : Result Tree TreeFault) → ((t : Tree) → r ≡ Ok t → IsUnchanged w.shared.tree t) → Leaves w (client_world w r).0
client_leaves w (Ok t) made = (made t refl, refl, refl)
client_leaves w (Err f) made = itself w

unless_leaves : (w : World) (refusal : Option Answer) (rest : World × Answer) → (refusal ≡ None → Leaves w rest.0) → Leaves w (unless_refused w refusal rest).0
unless_leaves w (Some a) rest made = itself w
unless_leaves w None rest made = made refl

pub event_leaves : (w : World) (e : Event) → IsOfClient e → Sound w → is_held_tree w.shared.tree ≡ true → Leaves w (next w e).0
unfolding next
event_leaves w (event.ZkOpen session) of_client sound held =
    moved_leaves w (begin_session w.shared.tree session) (λ t is. (begin_leaves w.shared.tree t session is sound.kept.tree).1)
event_leaves w (event.ZkExpire session) of_client sound held =
    moved_leaves w (end_session w.shared.tree session) (λ t is. (end_leaves w.shared.tree t session is sound.kept.tree).1)
event_leaves w (event.Zk ops) of_client sound held =
    unless_leaves w (client_refusal w.shared.tree ops) (client_world w (multi w.shared.tree ops))
    (λ none. client_leaves w (multi w.shared.tree ops) (λ t is. client_leaves_held w.shared.tree t ops is none held sound.kept.tree))
event_leaves w e of_client sound held = absurd of_client

pub step_kept : (w : World) (e : Event) → IsOfClient e → Sound w → is_held_tree w.shared.tree ≡ true → InStep w.shared → InStep (next w e).0.shared
step_kept w e of_client sound held step =
    let left = event_leaves w e of_client sound held in
    record {
      closed = left.0.unclosed ∙ step.closed;
      same = ap (map rendered_row) left.0.rows ∙ step.same ∙ ap (λ (l : Log). render (image_of l)) (sym left.1);
    }

pub none_claims : (w : World) (id : ℤ) (d : Driver) → Sound w → is_held_tree w.shared.tree ≡ false → driver_of id w.drivers ≡ Some d → d.claim ≡ None
none_claims w id d sound free found = none_claimed w.shared.log.epoch (claim_version w.shared.tree) (shown_in w.shared.tree) d.epoch d.claim (sound.each id d found).claims free
