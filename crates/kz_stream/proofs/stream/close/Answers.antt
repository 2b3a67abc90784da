use Rattle.std.proofs.Common.{[], sym, ap, ◌∙◌, append-nil}
use Rattle.kz_types.specs.declared.outside.Status.TheVariants as status
use Rattle.kz_spec_data.specs.Lines.{with_front}
use Rattle.kz_spec_machine.specs.Output.{end_of_run, outcome}
use Rattle.kz_stream.specs.Machines.{plain_place}
use Rattle.kz_stream.proofs.Outcomes.{begins_none}
use Rattle.kz_stream.proofs.Runs.{each_ok, each_stop}
use Rattle.kz_stream.proofs.Quiet.{ends_part}
use Rattle.kz_stream.proofs.stream.close.Goals as goal

pub returns-clause-disks : goal.returns-clause-disks
returns-clause-disks g c = λ sound up. ends_part c.in-Ok.printed.next c.print.result _ _ c.print.ensures.why (c.in-Ok.ensures.disks sound up)

pub returns-clause-ok : goal.returns-clause-ok
returns-clause-ok g c =
    let world = g.M.Machine.world in
    let printed = c.in-Ok.printed in
    let text = printed.text.items in
    let w = world c.closing.new.place.machine in
    let o = outcome (plain_place world c.args.place.now) (with_front c.args.line.now []) in
    each_ok c.print.result
    (λ h. (
      text,
      h.0,
      λ sound. begins_none text printed.next w o (end_of_run w status.Done) h.1 (c.in-Ok.ensures.begins sound) ∙ ap (λ t. record { text = t; status = status.Done; world = w }) (append-nil text),
      λ sound up. c.in-Ok.ensures.stop sound up text ([], sym (append-nil text)),
    )) c.print.ensures.ok

pub returns-clause-stop : goal.returns-clause-stop
returns-clause-stop g c =
    let world = g.M.Machine.world in
    let w = world c.closing.new.place.machine in
    let o = outcome (plain_place world c.args.place.now) (with_front c.args.line.now []) in
    each_stop c.print.result _ _ (λ s h. (h.0, h.1, λ sound. h.2 w o (end_of_run w status.Done) (c.in-Ok.ensures.begins sound), λ sound up. c.in-Ok.ensures.stop sound up h.0 h.3)) c.print.ensures.stop
