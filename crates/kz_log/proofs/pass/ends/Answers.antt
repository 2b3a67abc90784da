use Rattle.std.proofs.Common.{◌∙◌, ◌+ℤ◌, pos, List, ap, sym, to_z, of_z, w64, rules, arith}
use Rattle.std.proofs.lemmas.Int.{ints, to_z-of_z}
use mir.Val.{SFits}
use Rattle.kz_types.specs.declared.log.Entry.{Entry}
use Rattle.kz_settle.specs.Settling.{ends_by}
use Rattle.kz_log.specs.Reading.{unread_entries}
use Rattle.kz_log.proofs.Batches.{is_not_before, ends_none, ends_skip, unread_consecutive}
use Rattle.kz_log.proofs.pass.ends.Goals as goal

pub loop-here-preserved : goal.loop-here-preserved
loop-here-preserved c =
    let here = c.loop-here.here in
    let r = c.in-Some.r in
    let at = to_z w64 (of_z w64 c.args.at) in
    let e : Entry = record { offset = here.position +ℤ pos 1; epoch = r.epoch; item = r.item.now } in
    let es : List Entry = unread_entries r.next.position r.next.epoch r.next.items.now r.next.rest.now in
    let read = c.in-Some.ensures.record in record {
      same = sym (ends_skip at e es (sym c.if-closes.ensures)) ∙ ap (ends_by at) (sym read) ∙ c.loop-here.invariant.same;
      room = let next = c.in-Some.ensures.place in let room = c.in-Some.ensures.room in let was = c.loop-here.invariant.room in omega (arith, ints, next, room, was);
    }

pub returns : goal.returns
returns c =
    let here = c.loop-here.here in
    let first = c.args.cursor in
    let at = to_z w64 (of_z w64 c.args.at) in
    let fits : SFits w64 here.position = search rules in
    let over = is_not_before here.position at fits c.loop-here-test.false in
    sym (ends_none at here.position (unread_entries here.position here.epoch here.items.now here.rest.now) (unread_consecutive here.position here.epoch here.items.now here.rest.now) over)
    ∙ c.loop-here.invariant.same ∙ ap (λ o. ends_by o (unread_entries first.position first.epoch first.items.now first.rest.now)) (to_z-of_z w64 c.args.at c.ranges.at)
