use Rattle.std.proofs.Common.{◌≡◌, List, ℕ, ◌++◌, subst, ◌∙◌}
use Rattle.std.specs.List.{flat_map}
use Rattle.kz_output.specs.Outputs.{WritesFront}
use Rattle.kz_spec_machine.specs.Dumps.{tree_head_line, row_line}
use Rattle.kz_reports.proofs.Lists.{head_fault, rest_fault, flush_fault}
use Rattle.kz_reports.proofs.texts.print_tree.Goals as goal

pub returns-in-Err-clause-err : goal.returns-in-Err-clause-err
returns-in-Err-clause-err g c =
    let head : c.deref.result.now ≡ (tree_head_line c.args.tree.now.sessions c.args.tree.now.zxid) = c.deref.ensures.value ∙ c.in-Ok.ensures in
    subst (λ (x : List ℕ). WritesFront (g.K.Sink.taken c.args.out.now) (g.K.Sink.taken c.put.new.out) (x ++ (flat_map row_line c.args.tree.now.rows))) head
    (head_fault c.new-output.result c.deref.result.now (flat_map row_line c.args.tree.now.rows) c.new-output.ensures _ _ c.in-Err.ensures.err)

pub returns-in-Err-put_rows-clause-err : goal.returns-in-Err-put_rows-clause-err
returns-in-Err-put_rows-clause-err g c =
    let head : c.deref.result.now ≡ (tree_head_line c.args.tree.now.sessions c.args.tree.now.zxid) = c.deref.ensures.value ∙ c.in-Ok.ensures in
    subst (λ (x : List ℕ). WritesFront (g.K.Sink.taken c.args.out.now) (g.K.Sink.taken c.put_rows.new.out) (x ++ (flat_map row_line c.args.tree.now.rows))) head
    (rest_fault c.new-output.result c.deref.result.now (flat_map row_line c.args.tree.now.rows) c.new-output.ensures _ _ _ c.put.new.self c.in-Ok-put.ensures.ok c.in-Err-put_rows.ensures.err)

pub returns-clause-err : goal.returns-clause-err
returns-clause-err g c =
    let head : c.deref.result.now ≡ (tree_head_line c.args.tree.now.sessions c.args.tree.now.zxid) = c.deref.ensures.value ∙ c.in-Ok.ensures in
    subst (λ (x : List ℕ). WritesFront (g.K.Sink.taken c.args.out.now) (g.K.Sink.taken c.flush.new.out) (x ++ (flat_map row_line c.args.tree.now.rows))) head
    (flush_fault c.new-output.result c.deref.result.now (flat_map row_line c.args.tree.now.rows) c.new-output.ensures _ _ _ _ c.put.new.self c.put_rows.new.output c.in-Ok-put.ensures.ok c.in-Ok-put_rows.ensures.ok c.in-Err-flush.ensures.err)
