use Rattle.std.proofs.Common.{◌≡◌, ◌⊎◌, true, false, subst}
use Rattle.kz_spec_machine.specs.Failures.{is_failure, IsLeft}
use Rattle.kz_spec_machine.specs.Machine.{next}
use Rattle.kz_spec_machine.specs.Sound.{Sound}
use Rattle.kz_world_parts.specs.Disks.{payloads_of}
use Rattle.kz_world_parts.specs.TurnStops.{AreUp, LeavesOneOf, failure_pairs}
use Rattle.kz_world_parts.specs.EventDisks.{disks_in, EventDisks}
use Rattle.kz_world_parts.specs.Fences.{IsOfFenced, TellsFence}
use Rattle.kz_world_parts.specs.Worlds.{world_of_parts, plain_world, world_of}
use Rattle.kz_world.proofs.Events.{event_done, event_failed, event_disks, event_stop, sound_after, fenced_after}
use Rattle.kz_world.proofs.machine.World.event.Goals as goal

pub returns-clause-next : goal.returns-clause-next
returns-clause-next g c =
    let plain = plain_world g.T.ZTree.tree g.L.MetaLog.log in
    let world = world_of g.T.ZTree.tree g.L.MetaLog.log in
    let disks = disks_in g.T.ZTree.disk g.L.MetaLog.disk in
    let payloads = payloads_of g.T.ZTree.payload_bytes g.L.MetaLog.payload_bytes in
    let p = c.self.inside.parts in
    let q = c.let_happen.new.parts in
    let w = world p in
    let new = world q in
    let e = c.args.event.now in
    let told = c.answered.result in
    let told_is = c.answered.ensures in
    let old = disks (world_of_parts p) in
    let later = disks (world_of_parts q) in
    subst (λ v. Sound (plain v) → is_failure told ≡ false → next (plain v) e ≡ (new, told)) c.self.view_is (λ sound.
    event_done w new e payloads c.let_happen.result told old later told_is (c.let_happen.ensures.ok sound) (c.let_happen.ensures.disks sound))

pub returns-clause-failed : goal.returns-clause-failed
returns-clause-failed g c =
    let plain = plain_world g.T.ZTree.tree g.L.MetaLog.log in
    let world = world_of g.T.ZTree.tree g.L.MetaLog.log in
    let disks = disks_in g.T.ZTree.disk g.L.MetaLog.disk in
    let payloads = payloads_of g.T.ZTree.payload_bytes g.L.MetaLog.payload_bytes in
    let p = c.self.inside.parts in
    let q = c.let_happen.new.parts in
    let w = world p in
    let new = world q in
    let e = c.args.event.now in
    let told = c.answered.result in
    let told_is = c.answered.ensures in
    let old = disks (world_of_parts p) in
    let later = disks (world_of_parts q) in
    subst (λ v. Sound (plain v) → is_failure told ≡ true → IsLeft (plain v) e told new) c.self.view_is (λ sound.
    event_failed w new e c.let_happen.result told told_is (c.let_happen.ensures.ok sound) c.let_happen.ensures.err)

pub returns-clause-sound : goal.returns-clause-sound
returns-clause-sound g c =
    let plain = plain_world g.T.ZTree.tree g.L.MetaLog.log in
    let world = world_of g.T.ZTree.tree g.L.MetaLog.log in
    let disks = disks_in g.T.ZTree.disk g.L.MetaLog.disk in
    let payloads = payloads_of g.T.ZTree.payload_bytes g.L.MetaLog.payload_bytes in
    let p = c.self.inside.parts in
    let q = c.let_happen.new.parts in
    let w = world p in
    let new = world q in
    let e = c.args.event.now in
    let told = c.answered.result in
    let told_is = c.answered.ensures in
    let old = disks (world_of_parts p) in
    let later = disks (world_of_parts q) in
    subst (λ v. Sound (plain v) → Sound new) c.self.view_is (λ sound.
    sound_after w e told new c.requires (event_done w new e payloads c.let_happen.result told old later told_is (c.let_happen.ensures.ok sound) (c.let_happen.ensures.disks sound))
    (event_failed w new e c.let_happen.result told told_is (c.let_happen.ensures.ok sound) c.let_happen.ensures.err) sound)

pub returns-clause-disks : goal.returns-clause-disks
returns-clause-disks g c =
    let plain = plain_world g.T.ZTree.tree g.L.MetaLog.log in
    let world = world_of g.T.ZTree.tree g.L.MetaLog.log in
    let disks = disks_in g.T.ZTree.disk g.L.MetaLog.disk in
    let payloads = payloads_of g.T.ZTree.payload_bytes g.L.MetaLog.payload_bytes in
    let p = c.self.inside.parts in
    let q = c.let_happen.new.parts in
    let w = world p in
    let new = world q in
    let e = c.args.event.now in
    let told = c.answered.result in
    let told_is = c.answered.ensures in
    let old = disks (world_of_parts p) in
    let later = disks (world_of_parts q) in
    subst (λ v. Sound (plain v) → EventDisks (plain v) e payloads told (disks v) later) c.self.view_is (λ sound.
    event_disks w new e payloads c.let_happen.result told old later told_is (c.let_happen.ensures.ok sound) (c.let_happen.ensures.disks sound))

pub returns-clause-fenced : goal.returns-clause-fenced
returns-clause-fenced g c =
    let plain = plain_world g.T.ZTree.tree g.L.MetaLog.log in
    let world = world_of g.T.ZTree.tree g.L.MetaLog.log in
    let disks = disks_in g.T.ZTree.disk g.L.MetaLog.disk in
    let payloads = payloads_of g.T.ZTree.payload_bytes g.L.MetaLog.payload_bytes in
    let p = c.self.inside.parts in
    let q = c.let_happen.new.parts in
    let w = world p in
    let new = world q in
    let e = c.args.event.now in
    let told = c.answered.result in
    let told_is = c.answered.ensures in
    let old = disks (world_of_parts p) in
    let later = disks (world_of_parts q) in
    subst (λ v. Sound (plain v) → IsOfFenced (plain v) e ⊎ TellsFence told → new.shared ≡ (plain v).shared) c.self.view_is (λ sound.
    fenced_after w e told new c.requires (event_done w new e payloads c.let_happen.result told old later told_is (c.let_happen.ensures.ok sound) (c.let_happen.ensures.disks sound))
    (event_failed w new e c.let_happen.result told told_is (c.let_happen.ensures.ok sound) c.let_happen.ensures.err) sound)

pub returns-clause-stop : goal.returns-clause-stop
returns-clause-stop g c =
    let plain = plain_world g.T.ZTree.tree g.L.MetaLog.log in
    let world = world_of g.T.ZTree.tree g.L.MetaLog.log in
    let disks = disks_in g.T.ZTree.disk g.L.MetaLog.disk in
    let payloads = payloads_of g.T.ZTree.payload_bytes g.L.MetaLog.payload_bytes in
    let p = c.self.inside.parts in
    let q = c.let_happen.new.parts in
    let w = world p in
    let new = world q in
    let e = c.args.event.now in
    let told = c.answered.result in
    let told_is = c.answered.ensures in
    let old = disks (world_of_parts p) in
    let later = disks (world_of_parts q) in
    subst (λ v. Sound (plain v) → AreUp (disks v) → is_failure told ≡ true → LeavesOneOf (failure_pairs (plain v) e told) (g.T.ZTree.left q.tree.inner) (g.L.MetaLog.left q.log.inner)) c.self.view_is (λ sound.
    event_stop w e c.let_happen.result told old (g.T.ZTree.left q.tree.inner) (g.L.MetaLog.left q.log.inner) told_is (c.let_happen.ensures.stop sound))
