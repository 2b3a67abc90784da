use Rattle.std.proofs.Common.{◌≡◌, ap, ◌∙◌, Some}
use Rattle.std.specs.Prelude.{slice_get}
use Rattle.std.proofs.lemmas.Option.{get_or_from_slice_get}
use Rattle.kz_spec_data.specs.Tree.{Tree}
use Rattle.kz_spec_machine.specs.Machine.{World}
use Rattle.kz_world_parts.specs.Drivers.{shared_of}
use Rattle.kz_world_parts.specs.Starts.{start_of}
use Rattle.kz_world_parts.specs.Worlds.{world_of}
use Rattle.kz_world.proofs.turns.turn_start.Goals as goal

pub returns-in-Ok-new-clause-start : goal.returns-in-Ok-new-clause-start
returns-in-Ok-new-clause-start g c = λ d at_is.
    let tree = g.T.ZTree.tree in
    let log = g.L.MetaLog.log in
    let m = world_of tree log c.read.new.parts in
    let ids = m.shared.declared in
    let read = c.index.result.now in
    let there : slice_get m.drivers c.args.at ≡ Some d = ap (λ (w : World). slice_get w.drivers c.args.at) c.read.ensures.world ∙ at_is in
    let read_is : read ≡ d = c.index.ensures ∙ get_or_from_slice_get m.drivers c.args.at d read there in
    c.in-Ok-new.ensures.ok ids ∙ ap (λ (t : Tree). start_of (shared_of t (log c.inner_mut.result.now) ids) read) (c.tree.ensures ∙ ap tree c.inner.ensures)
    ∙ ap (λ s. start_of (shared_of m.shared.tree (log s) ids) read) c.inner_mut.ensures.lent ∙ ap (start_of m.shared) read_is ∙ ap (λ (w : World). start_of w.shared d) c.read.ensures.world
