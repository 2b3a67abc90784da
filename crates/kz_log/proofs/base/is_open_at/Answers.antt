use Rattle.std.proofs.Common.{◌∙◌, ◌+ℤ◌, refl, ap, sym, pos, List, false, to_z, of_z, w64, rules, arith}
use Rattle.std.proofs.lemmas.Int.{ints, to_z-of_z}
use mir.Val.{SFits}
use Rattle.kz_types.specs.declared.log.Entry.{Entry}
use Rattle.kz_log.specs.Reading.{entries_after, unread_entries, is_open_by}
use Rattle.kz_log.proofs.Batches.{is_before, is_not_before, within, unread_consecutive}
use Rattle.kz_log.proofs.OpenAt.{open_none, open_next}
use Rattle.kz_log.proofs.base.is_open_at.Goals as goal

pub loop-here-init : goal.loop-here-init
loop-here-init c =
    let at = to_z w64 (of_z w64 c.args.at) in
    let base = to_z w64 (of_z w64 c.args.base) in record {
      same = ap (λ es. is_open_by at false es) c.start-here.ensures.records;
      room =
          let from = to_z-of_z w64 c.args.base c.ranges.base in
          let place = c.start-here.ensures.place in let room = c.start-here.ensures.room in let end = c.requires in omega (arith, ints, from, place, room, end);
    }

pub loop-here-preserved : goal.loop-here-preserved
loop-here-preserved c =
    let here = c.loop-here.here in
    let r = c.in-Some.r in
    let at = to_z w64 (of_z w64 c.args.at) in
    let place : SFits w64 here.position = search rules in
    let e : Entry = record { offset = here.position +ℤ pos 1; epoch = r.epoch; item = r.item.now } in
    let es : List Entry = unread_entries r.next.position r.next.epoch r.next.items.now r.next.rest.now in
    let read = c.in-Some.ensures.record in
    let under = within at here.position e refl (is_before here.position at place c.loop-here-test.true) in record {
      same = ap (λ b. is_open_by at b es) c.is_open_after-inside.ensures ∙ sym (open_next at c.loop-here.inside e es under) ∙ ap (λ xs. is_open_by at c.loop-here.inside xs) (sym read) ∙ c.loop-here.invariant.same;
      room = let next = c.in-Some.ensures.place in let room = c.in-Some.ensures.room in let was = c.loop-here.invariant.room in omega (arith, ints, next, room, was);
    }

pub returns : goal.returns
returns c =
    let here = c.loop-here.here in
    let at = to_z w64 (of_z w64 c.args.at) in
    let place : SFits w64 here.position = search rules in
    let over = is_not_before here.position at place c.loop-here-test.false in
    sym (open_none at here.position c.loop-here.inside (unread_entries here.position here.epoch here.items.now here.rest.now)
    (unread_consecutive here.position here.epoch here.items.now here.rest.now) over)
    ∙ c.loop-here.invariant.same
    ∙ ap (λ o. is_open_by o false (entries_after (to_z w64 (of_z w64 c.args.base)) c.args.batches.now)) (to_z-of_z w64 c.args.at c.ranges.at)
    ∙ ap (λ o. is_open_by c.args.at false (entries_after o c.args.batches.now)) (to_z-of_z w64 c.args.base c.ranges.base)
