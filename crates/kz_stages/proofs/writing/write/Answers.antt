use Rattle.std.proofs.Common.{◌≡◌, ◌∙◌, ℤ, Option, Some, Ok, Err, Result, refl, sym, ap, false, subst, rules, SFits, w32, to_z, of_z, to_z-of_z}
use Rattle.std.proofs.lemmas.Result.{err_from_is_err_and}
use Rattle.kz_types.specs.declared.fault.TreeFault.TheVariants as tree_fault
use Rattle.kz_types.specs.declared.machine.DriverState.TheVariants as state
use Rattle.kz_types.specs.declared.machine.Reply.{Reply}
use Rattle.kz_types.specs.declared.machine.Reply.TheVariants as reply
use Rattle.kz_spec_data.specs.Requests.{Multi, IsTaken, ChangesDisk}
use Rattle.kz_spec_data.specs.Tree.{multi}
use Rattle.kz_spec_machine.specs.Driver.{reaches, write_ops}
use Rattle.kz_resync.specs.Remainders.{Remainder}
use Rattle.kz_requests.specs.declared.fault.StepFault.{StepFault}
use Rattle.kz_requests.specs.declared.fault.StepFault.TheVariants as step_fault
use Rattle.kz_requests.specs.Disks.{answer_of_made}
use Rattle.kz_stages.specs.Rows.{driver_of}
use Rattle.kz_stages.specs.Writes.{held_scope, more_of, last_of, write_outcome, written_tree, IsWritten, WriteFares, WriteDisk, WriteStop}
use Rattle.kz_stages.proofs.Requests.{fault_tree, fault_disk, fault_fares, fault_stop}
use Rattle.kz_stages.proofs.Writings.{same_held, writes_is, under_claim}
use Rattle.kz_stages.proofs.writing.write.Goals as goal

pub returns-in_default-claim-clause-tree : goal.returns-in_default-claim-clause-tree
returns-in_default-claim-clause-tree g c = λ r holds.
    let t = g.T.ZTree.tree c.args.tree.now.inner in
    let told : Result Reply StepFault = Ok (reply.Moved state.BecomeController) in
    subst (λ (own : Option ℤ). IsWritten (reaches c.args.tree.now.plan false) t own r told t) (sym c.in_default-claim.is) refl

pub returns-in_default-claim-clause-disk : goal.returns-in_default-claim-clause-disk
returns-in_default-claim-clause-disk g c = λ r holds.
    let disk = g.T.ZTree.disk c.args.tree.now.inner in
    let told : Result Reply StepFault = Ok (reply.Moved state.BecomeController) in
    subst (λ (own : Option ℤ). WriteDisk g.T.ZTree.payload_bytes (g.T.ZTree.tree c.args.tree.now.inner) own r c.args.tree.now.plan told disk disk) (sym c.in_default-claim.is) (tt, refl)

pub returns-in_err-written-clause-tree : goal.returns-in_err-written-clause-tree
returns-in_err-written-clause-tree g c = λ r holds.
    let told = c.from_residual.result in
    let same = err_from_is_err_and told c.from_residual.ensures.1 in
    let x = c.in-Some.remaining.now in
    let fits : SFits w32 c.in-Some-claim.claim = search rules in
    let claim = to_z w32 (of_z w32 c.in-Some-claim.claim) in
    let t = g.T.ZTree.tree c.args.tree.now.inner in
    let new = g.T.ZTree.tree c.ask_write.new.tree.inner in
    let at = reaches c.args.tree.now.plan false in
    under_claim (λ own y. IsWritten at t own y told new) c.args.row.now.claim claim x r (c.in-Some-claim.is ∙ ap Some (sym (to_z-of_z fits))) (same_held x r (c.in-Some.ensures ∙ holds))
    (fault_tree at (written_tree t claim x) t new c.in_err-written.field-0.0 c.ask_write.result told c.in_err-written.was (same.1 ∙ ap Err same.2) c.ask_write.ensures.tree)

pub returns-in_err-written-clause-fares : goal.returns-in_err-written-clause-fares
returns-in_err-written-clause-fares g c = λ r holds.
    let told = c.from_residual.result in
    let same = err_from_is_err_and told c.from_residual.ensures.1 in
    let old = c.args.tree.now in
    let new = c.ask_write.new.tree in
    subst (λ (own : Option ℤ). WriteFares own told old new) (sym c.in-Some-claim.is)
    (fault_fares old new c.in_err-written.field-0.0 c.ask_write.result told c.in_err-written.was (same.1 ∙ ap Err same.2) c.ask_write.ensures.fares)

pub returns-in_err-written-clause-disk : goal.returns-in_err-written-clause-disk
returns-in_err-written-clause-disk g c = λ r holds.
    let told = c.from_residual.result in
    let same = err_from_is_err_and told c.from_residual.ensures.1 in
    let x = c.in-Some.remaining.now in
    let fits : SFits w32 c.in-Some-claim.claim = search rules in
    let claim = to_z w32 (of_z w32 c.in-Some-claim.claim) in
    let t = g.T.ZTree.tree c.args.tree.now.inner in
    let bytes = g.T.ZTree.payload_bytes in
    let plan = c.args.tree.now.plan in
    let old = g.T.ZTree.disk c.args.tree.now.inner in
    let new = g.T.ZTree.disk c.ask_write.new.tree.inner in
    let ops = write_ops claim x.ops x.target in
    under_claim (λ own y. WriteDisk bytes t own y plan told old new) c.args.row.now.claim claim x r (c.in-Some-claim.is ∙ ap Some (sym (to_z-of_z fits))) (same_held x r (c.in-Some.ensures ∙ holds))
    (fault_disk (ChangesDisk (IsTaken (multi t ops)) (bytes t (Multi ops))) (answer_of_made (multi t ops)) plan old new c.in_err-written.field-0.0 c.ask_write.result told c.in_err-written.was (same.1 ∙ ap Err same.2) c.ask_write.ensures.disk)

pub returns-in_err-written-clause-stop : goal.returns-in_err-written-clause-stop
returns-in_err-written-clause-stop g c = λ r holds failed.
    let told = c.from_residual.result in
    let same = err_from_is_err_and told c.from_residual.ensures.1 in
    let x = c.in-Some.remaining.now in
    let fits : SFits w32 c.in-Some-claim.claim = search rules in
    let claim = to_z w32 (of_z w32 c.in-Some-claim.claim) in
    let t = g.T.ZTree.tree c.args.tree.now.inner in
    let at = reaches c.args.tree.now.plan false in
    let left = g.T.ZTree.left c.ask_write.new.tree.inner in
    under_claim (λ own y. WriteStop at t own y left) c.args.row.now.claim claim x r (c.in-Some-claim.is ∙ ap Some (sym (to_z-of_z fits))) (same_held x r (c.in-Some.ensures ∙ holds))
    (c.ask_write.ensures.stop (fault_stop (step_fault.Tree tree_fault.Device) c.in_err-written.field-0.0 c.ask_write.result told c.in_err-written.was (same.1 ∙ ap Err same.2) failed))

pub returns-clause-driver : goal.returns-clause-driver
returns-clause-driver g c = λ r holds.
    let row = c.args.row.now in
    let x = c.in-Some.remaining.now in
    let fits : SFits w32 c.in-Some-claim.claim = search rules in
    let claim = to_z w32 (of_z w32 c.in-Some-claim.claim) in
    let t = g.T.ZTree.tree c.args.tree.now.inner in
    let written = c.in_ok-written.written in
    let said = subst (λ (y : Remainder). written ≡ write_outcome claim y (multi t (write_ops claim y.ops y.target))) (same_held x r (c.in-Some.ensures ∙ holds)) c.in_ok-written.ensures.said in
    writes_is t row.claim claim r (λ rest. more_of (held_scope row.stage) r.target rest) (last_of (held_scope row.stage)) (driver_of row) written (driver_of c.after_write.new.row, c.after_write.result)
    (c.in-Some-claim.is ∙ ap Some (sym (to_z-of_z fits))) said (c.after_write.ensures.driver r holds)

pub returns-clause-tree : goal.returns-clause-tree
returns-clause-tree g c = λ r holds.
    let told : Result Reply StepFault = Ok c.after_write.result in
    let x = c.in-Some.remaining.now in
    let fits : SFits w32 c.in-Some-claim.claim = search rules in
    let claim = to_z w32 (of_z w32 c.in-Some-claim.claim) in
    let t = g.T.ZTree.tree c.args.tree.now.inner in
    let new = g.T.ZTree.tree c.ask_write.new.tree.inner in
    under_claim (λ own y. IsWritten (reaches c.args.tree.now.plan false) t own y told new) c.args.row.now.claim claim x r (c.in-Some-claim.is ∙ ap Some (sym (to_z-of_z fits))) (same_held x r (c.in-Some.ensures ∙ holds))
    c.in_ok-written.ensures.tree

pub returns-clause-fares : goal.returns-clause-fares
returns-clause-fares g c = λ r holds.
    let told : Result Reply StepFault = Ok c.after_write.result in
    let fares = c.in_ok-written.ensures.fares in
    subst (λ (own : Option ℤ). WriteFares own told c.args.tree.now c.ask_write.new.tree) (sym c.in-Some-claim.is) (record { heard = fares.heard; counted = fares.counted })

pub returns-clause-disk : goal.returns-clause-disk
returns-clause-disk g c = λ r holds.
    let told : Result Reply StepFault = Ok c.after_write.result in
    let x = c.in-Some.remaining.now in
    let fits : SFits w32 c.in-Some-claim.claim = search rules in
    let claim = to_z w32 (of_z w32 c.in-Some-claim.claim) in
    let t = g.T.ZTree.tree c.args.tree.now.inner in
    let old = g.T.ZTree.disk c.args.tree.now.inner in
    let new = g.T.ZTree.disk c.ask_write.new.tree.inner in
    under_claim (λ own y. WriteDisk g.T.ZTree.payload_bytes t own y c.args.tree.now.plan told old new) c.args.row.now.claim claim x r (c.in-Some-claim.is ∙ ap Some (sym (to_z-of_z fits))) (same_held x r (c.in-Some.ensures ∙ holds))
    c.in_ok-written.ensures.disk
