use Rattle.std.proofs.Common.{◌≡◌, List, ℕ, ◌++◌, subst, ◌∙◌}
use Rattle.std.specs.List.{flat_map}
use Rattle.kz_types.specs.declared.log.BatchRow.{BatchRow}
use Rattle.kz_output.specs.Outputs.{WritesFront}
use Rattle.kz_spec_data.specs.Log.{end_of}
use Rattle.kz_spec_machine.specs.Dumps.{log_head_line, batch_line}
use Rattle.kz_reports.proofs.Lists.{head_fault, rest_fault, flush_fault}
use Rattle.kz_reports.proofs.texts.print_log.Goals as goal

pub returns-in-Err-clause-err : goal.returns-in-Err-clause-err
returns-in-Err-clause-err g c =
    let head : c.deref.result.now ≡ (log_head_line c.args.log.now.base (end_of c.args.log.now) c.args.log.now.epoch) = c.deref.ensures.value ∙ c.in-Ok.ensures in
    subst (λ (x : List ℕ). WritesFront (g.K.Sink.taken c.args.out.now) (g.K.Sink.taken c.put.new.out) (x ++ (flat_map batch_line c.args.log.now.batches))) head
    (head_fault c.new-output.result c.deref.result.now (flat_map batch_line c.args.log.now.batches) c.new-output.ensures _ _ c.in-Err.ensures.err)

pub returns-in-Err-put_all-clause-err : goal.returns-in-Err-put_all-clause-err
returns-in-Err-put_all-clause-err g c =
    let head : c.deref.result.now ≡ (log_head_line c.args.log.now.base (end_of c.args.log.now) c.args.log.now.epoch) = c.deref.ensures.value ∙ c.in-Ok.ensures in
    subst (λ (bs : List BatchRow). WritesFront (g.K.Sink.taken c.args.out.now) (g.K.Sink.taken c.put_all.new.out) ((log_head_line c.args.log.now.base (end_of c.args.log.now) c.args.log.now.epoch) ++ flat_map batch_line bs)) c.batches.ensures
    (subst (λ (x : List ℕ). WritesFront (g.K.Sink.taken c.args.out.now) (g.K.Sink.taken c.put_all.new.out) (x ++ (flat_map batch_line c.batches.result.now))) head
    (rest_fault c.new-output.result c.deref.result.now (flat_map batch_line c.batches.result.now) c.new-output.ensures _ _ _ c.put.new.self c.in-Ok-put.ensures.ok c.in-Err-put_all.ensures.err))

pub returns-clause-err : goal.returns-clause-err
returns-clause-err g c =
    let head : c.deref.result.now ≡ (log_head_line c.args.log.now.base (end_of c.args.log.now) c.args.log.now.epoch) = c.deref.ensures.value ∙ c.in-Ok.ensures in
    subst (λ (bs : List BatchRow). WritesFront (g.K.Sink.taken c.args.out.now) (g.K.Sink.taken c.flush.new.out) ((log_head_line c.args.log.now.base (end_of c.args.log.now) c.args.log.now.epoch) ++ flat_map batch_line bs)) c.batches.ensures
    (subst (λ (x : List ℕ). WritesFront (g.K.Sink.taken c.args.out.now) (g.K.Sink.taken c.flush.new.out) (x ++ (flat_map batch_line c.batches.result.now))) head
    (flush_fault c.new-output.result c.deref.result.now (flat_map batch_line c.batches.result.now) c.new-output.ensures _ _ _ _ c.put.new.self c.put_all.new.output c.in-Ok-put.ensures.ok c.in-Ok-put_all.ensures.ok c.in-Err-flush.ensures.err))
