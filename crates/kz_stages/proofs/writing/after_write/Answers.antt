use Rattle.std.proofs.Common.{◌≡◌, Some, sym, ap, ◌∙◌, subst}
use Rattle.kz_types.specs.declared.driver.Stage.{Stage}
use Rattle.kz_types.specs.declared.machine.Reply.TheVariants as reply
use Rattle.kz_spec_data.specs.Difference.{after_chunk}
use Rattle.kz_spec_machine.specs.Driver.{at_stage}
use Rattle.kz_stages.specs.declared.row.Stage.{Stage as HeldStage}
use Rattle.kz_stages.specs.declared.writing.WriteOutcome.{WriteOutcome}
use Rattle.kz_stages.specs.Rows.{driver_of, stage_of}
use Rattle.kz_stages.specs.Writes.{held_remainder, held_scope, more_of, last_of, after_write_outcome}
use Rattle.kz_stages.proofs.writing.after_write.Goals as goal

pub returns-in-More-clause-driver : goal.returns-in-More-clause-driver
returns-in-More-clause-driver c = λ r holds.
    let d = driver_of c.args.row.now in
    let old = c.args.row.now.stage in
    let later : stage_of c.later_write.result ≡ more_of (held_scope old) r.target (after_chunk r.ops) = subst (λ (s : HeldStage). held_remainder s ≡ Some r → stage_of c.later_write.result ≡ more_of (held_scope s) r.target (after_chunk r.ops)) c.replace.ensures.value (c.later_write.ensures r) holds in
    ap (λ (w : WriteOutcome). after_write_outcome w r (λ rest. more_of (held_scope old) r.target rest) (last_of (held_scope old)) d) c.in-More.is
    ∙ ap (λ (s : Stage). (at_stage s d, reply.Wrote c.in-More.count)) (sym later)
