use Rattle.std.proofs.Common.{◌∙◌, ap, sym, subst, rules, w32, arith}
use Rattle.std.proofs.lemmas.Int.{ints, to_z-of_z}
use mir.Val.{SFits}
use Rattle.kz_spec_data.specs.Log.{Log, IsLog, record_count, with_row}
use Rattle.kz_log.specs.Rows.{GoesOn}
use Rattle.kz_log.proofs.Batches.{end_high, record_count-push}
use Rattle.kz_log.proofs.Pushing.{is_log_on, pushed_is}
use Rattle.kz_log.proofs.rows.LogRows.push.Goals as goal

pub overflow_add-self : goal.overflow_add-self
overflow_add-self c =
    let l : Log = record { epoch = c.self.inside.epoch; base = c.self.inside.base; base_image = c.self.inside.base_image; batches = c.self.inside.batches.items } in
    let on : GoesOn l c.args.row = subst (λ h. GoesOn h c.args.row) (sym c.self.view_is) c.requires in
    let both = is_log_on l c.args.row c.self.invariant.0 on in
    let high = end_high (with_row l c.args.row) both in
    let low = both.base in
    let count = c.self.invariant.1 in
    let more = record_count-push l.batches c.args.row in
    let len = c.len-count.ensures in
    omega (arith, ints, high, low, count, more, len)

pub invariant_of-self-2 : goal.invariant_of-self-2
invariant_of-self-2 c =
    let l : Log = record { epoch = c.self.inside.epoch; base = c.self.inside.base; base_image = c.self.inside.base_image; batches = c.self.inside.batches.items } in
    let on : GoesOn l c.args.row = subst (λ h. GoesOn h c.args.row) (sym c.self.view_is) c.requires in
    let epoch : SFits w32 c.args.row.epoch = search rules in
    let made = pushed_is l c.args.row _ c.push.new.self.items (to_z-of_z w32 c.args.row.epoch epoch) c.in-Ok.ensures.items in
    let count = c.self.invariant.1 in
    let more = ap record_count c.in-Ok.ensures.items ∙ record_count-push l.batches c.args.row in
    let len = c.len-count.ensures in
    (subst IsLog (sym made) (is_log_on l c.args.row c.self.invariant.0 on), omega (arith, count, more, len))

pub returns-clause-is_log : goal.returns-clause-is_log
returns-clause-is_log c =
    let l : Log = record { epoch = c.self.inside.epoch; base = c.self.inside.base; base_image = c.self.inside.base_image; batches = c.self.inside.batches.items } in
    let on : GoesOn l c.args.row = subst (λ h. GoesOn h c.args.row) (sym c.self.view_is) c.requires in
    let epoch : SFits w32 c.args.row.epoch = search rules in
    let made = pushed_is l c.args.row _ c.push.new.self.items (to_z-of_z w32 c.args.row.epoch epoch) c.in-Ok.ensures.items in
    subst IsLog (sym made) (is_log_on l c.args.row c.self.invariant.0 on)
