use Rattle.std.proofs.Common.{[], subst}
use Rattle.kz_spec_data.specs.Lines.{with_front}
use Rattle.kz_stream.specs.declared.ending.Next.{Next}
use Rattle.kz_stream.specs.Disks.{NextDisks}
use Rattle.kz_stream.specs.Machines.{plain_place}
use Rattle.kz_stream.proofs.Moments.{closing_keeps_up}
use Rattle.kz_stream.proofs.Quiet.{summary_disks, stays_up}
use Rattle.kz_stream.proofs.stream.closing.Goals as goal

pub returns-clause-disks : goal.returns-clause-disks
returns-clause-disks g c = λ sound up. summary_disks c.in_ok-printed.printed.next c.with_summary.result _ _ (c.in_ok-printed.ensures.disks sound up) c.with_summary.ensures.next c.with_summary.ensures.memory

pub returns-clause-stop : goal.returns-clause-stop
returns-clause-stop g c = λ sound up.
    let world = g.M.Machine.world in
    let old = c.args.place.now in
    let new = c.last_line.new.place in
    let m = new.machine in
    let printed = c.in_ok-printed.printed in
    closing_keeps_up printed.next c.with_summary.result (plain_place world old) (plain_place world new) (with_front c.args.line.now []) printed.text.items (g.M.Machine.tree_left m) (g.M.Machine.log_left m)
    (c.in_ok-printed.ensures.stop sound up) (c.in_ok-printed.ensures.moments sound)
    (λ goes. g.met.M.Machine.settled m (stays_up (g.M.Machine.disks old.machine) (g.M.Machine.disks m) (subst (λ (n : Next). NextDisks n (g.M.Machine.disks old.machine) (g.M.Machine.disks m)) goes (c.in_ok-printed.ensures.disks sound up))))
    c.with_summary.ensures.text
