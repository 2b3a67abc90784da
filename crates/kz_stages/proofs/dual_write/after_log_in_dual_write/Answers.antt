use Rattle.std.proofs.Common.{◌≡◌, Bool, true, false, cond, List, sym, ap, ◌∙◌, subst, rules}
use Rattle.std.specs.Ordering.{int_eq}
use Rattle.kz_types.specs.declared.codes.TheConstants.{POST_MIGRATION}
use Rattle.kz_types.specs.declared.tree.Op.{Op}
use Rattle.kz_types.specs.declared.machine.DriverState.TheVariants as state
use Rattle.kz_types.specs.declared.machine.Reply.{Reply}
use Rattle.kz_types.specs.declared.machine.Reply.TheVariants as reply
use Rattle.kz_types.specs.declared.driver.Stage.TheVariants as stage
use Rattle.kz_spec_data.specs.Image.{Image}
use Rattle.kz_spec_data.specs.Log.{Log, View, read_view}
use Rattle.kz_spec_data.specs.Difference.{diff}
use Rattle.kz_spec_data.specs.Rendering.{render}
use Rattle.kz_spec_machine.specs.Driver.{Driver, at_stage, target_of, driver_at_log_end, is_recorded_at, after_rest, resigned_driver}
use Rattle.kz_stages.specs.Drivers.{HasEpoch}
use Rattle.kz_stages.specs.Rows.{driver_of, stage_of}
use Rattle.kz_stages.proofs.dual_write.after_log_in_dual_write.Goals as goal

-- a driver that has read this much
abbrev reading : Driver → View → Driver
reading d v = record d { view = v }

-- what a driver does whose migration isn't over
going_on : (before : Image) (d : Driver) (l : Log) (v : View) → v ≡ read_view l d.view → int_eq v.image.state POST_MIGRATION ≡ false
    → after_rest before (driver_at_log_end l d) ≡ cond (is_recorded_at d.recorded v.position) (reading d v, reply.Idle) (at_stage (stage.WriteDelta (target_of (reading d v)) (diff (render before) (render v.image))) (reading d v), reply.Looked)
going_on before d l v is going =
    ap (λ w. after_rest before (reading d w)) (sym is)
    ∙ ap (λ b. cond b (resigned_driver (reading d v), reply.Moved state.Inactive) (cond (is_recorded_at d.recorded v.position) (reading d v, reply.Idle) (at_stage (stage.WriteDelta (target_of (reading d v)) (diff (render before) (render v.image))) (reading d v), reply.Looked))) going

pub returns-then-is_recorded_at-clause-ok : goal.returns-then-is_recorded_at-clause-ok
returns-then-is_recorded_at-clause-ok c = λ l is.
    let row = c.args.row.now in
    let v = c.args.view in
    let d = driver_of row in
    let going : int_eq v.image.state POST_MIGRATION ≡ false = search rules in
    let recorded : is_recorded_at row.recorded v.position ≡ true = search rules in
    going_on row.view.image d l v is going
    ∙ ap (λ b. cond b (reading d v, reply.Idle) (at_stage (stage.WriteDelta (target_of (reading d v)) (diff (render row.view.image) (render v.image))) (reading d v), reply.Looked)) recorded

pub returns-clause-ok : goal.returns-clause-ok
returns-clause-ok c = λ l is.
    let row = c.args.row.now in
    let v = c.args.view in
    let d = driver_of row in
    let going : int_eq v.image.state POST_MIGRATION ≡ false = search rules in
    let recorded : is_recorded_at row.recorded v.position ≡ false = search rules in
    let ops : c.in_ok-ops.ops.items ≡ diff (render row.view.image) (render v.image) = search rules in
    going_on row.view.image d l v is going
    ∙ ap (λ b. cond b (reading d v, reply.Idle) (at_stage (stage.WriteDelta (target_of (reading d v)) (diff (render row.view.image) (render v.image))) (reading d v), reply.Looked)) recorded
    ∙ ap (λ (os : List Op). (at_stage (stage.WriteDelta (target_of (reading d v)) os) (reading d v), reply.Looked)) (sym ops)
    ∙ ap (λ w. (at_stage (stage.WriteDelta (target_of (reading d w)) c.in_ok-ops.ops.items) (reading d w), reply.Looked)) is
    ∙ ap (λ x. (x, reply.Looked)) (c.begin_delta.ensures.driver l is)

pub returns-clause-kept : goal.returns-clause-kept
returns-clause-kept c = λ kept at. c.begin_delta.ensures.kept (subst (λ s. HasEpoch c.args.row.now.epoch (stage_of s)) at kept.elected)
