use Rattle.std.proofs.Common.{◌≡◌, ◌∷◌, ap, ◌∙◌, subst, sym, rules}
use Rattle.std.specs.List.{flat_map}
use Rattle.kz_spec_machine.specs.Dumps.{row_line}
use Rattle.kz_reports.proofs.Lists.{IsPutUpTo, at_start, with_line, at_fault}
use Rattle.kz_reports.proofs.lines.put_rows.Goals as goal

pub loop-row-init : goal.loop-row-init
loop-row-init g c =
    let rows : c.into_iter-row-iterator.result ≡ c.args.tree.now.rows = c.into_iter-row-iterator.ensures.into_iter_gives ∙ c.rows-row-items.ensures in (
      subst (λ rest. IsPutUpTo (g.K.Sink.taken c.args.out.now) c.args.output.now (g.K.Sink.taken c.args.out.now) c.args.output.now (flat_map row_line c.args.tree.now.rows) (flat_map row_line rest)) (sym rows)
          (at_start (g.K.Sink.taken c.args.out.now) c.args.output.now (flat_map row_line c.args.tree.now.rows)),
      search rules,
    )

pub loop-row-preserved : goal.loop-row-preserved
loop-row-preserved g c =
    let row = c.in-Some.row.now in
    let rest = c.next.new.self in
    let steps : c.loop-row.row-iterator ≡ row ∷ rest = c.in-Some.ensures.steps in (
      with_line _ _ _ c.args.output.now c.loop-row.output c.put_line.new.output (row_line row) (flat_map row_line rest) (flat_map row_line c.args.tree.now.rows)
          (subst (λ xs. IsPutUpTo (g.K.Sink.taken c.args.out.now) c.args.output.now (g.K.Sink.taken c.loop-row.out) c.loop-row.output (flat_map row_line c.args.tree.now.rows) (flat_map row_line xs)) steps c.loop-row.invariant.0) c.in-Ok.ensures.ok,
      search rules,
    )

pub returns-in-Err-clause-err : goal.returns-in-Err-clause-err
returns-in-Err-clause-err g c =
    let row = c.in-Some.row.now in
    let rest = c.next.new.self in
    let steps : c.loop-row.row-iterator ≡ row ∷ rest = c.in-Some.ensures.steps in
    at_fault _ _ _ c.args.output.now c.loop-row.output (row_line row) (flat_map row_line rest) (flat_map row_line c.args.tree.now.rows)
    (subst (λ xs. IsPutUpTo (g.K.Sink.taken c.args.out.now) c.args.output.now (g.K.Sink.taken c.loop-row.out) c.loop-row.output (flat_map row_line c.args.tree.now.rows) (flat_map row_line xs)) steps c.loop-row.invariant.0) c.in-Err.ensures.err
