use Rattle.std.proofs.Common.{List, subst, ◌∙◌, to_z-of_z}
use Rattle.std.specs.List.{flat_map}
use Rattle.kz_types.specs.declared.tree.Rendered.{Rendered}
use Rattle.kz_spec_machine.specs.Dumps.{rendered_line}
use Rattle.kz_output.specs.Outputs.{WritesFront}
use Rattle.kz_reports.proofs.Lists.{text_flush_fault}
use Rattle.kz_reports.proofs.texts.print_rendering.Goals as goal

pub returns-clause-err : goal.returns-clause-err
returns-clause-err g c =
    subst (λ (zs : List Rendered). WritesFront (g.K.Sink.taken c.args.out.now) (g.K.Sink.taken c.flush.new.out) (flat_map rendered_line zs)) (c.deref.ensures.value ∙ (rw (to_z-of_z c.ranges.offset) at c.in-Ok.ensures))
    (text_flush_fault _ _ _ c.new-output.result c.put_all.new.output (flat_map rendered_line c.deref.result.now) c.new-output.ensures c.in-Ok-put_all.ensures.ok c.in-Err-flush.ensures.err)
