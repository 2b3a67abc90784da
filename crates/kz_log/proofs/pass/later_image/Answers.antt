use Rattle.std.proofs.Common.{◌∙◌, ◌+ℤ◌, ap, sym, subst, pos, List, is_some, false, to_z, of_z, w32, w64, rules, refl, arith}
use Rattle.std.proofs.lemmas.Int.{ints, to_z-of_z}
use mir.Val.{SFits}
use Rattle.kz_types.specs.declared.log.Entry.{Entry}
use Rattle.kz_spec_data.specs.Log.{all_entries_applied}
use Rattle.kz_log.specs.Reading.{entries_after, unread_entries, Knows, image_after}
use Rattle.kz_log.proofs.Batches.{is_before, is_not_before, within, pass_none, unread_consecutive}
use Rattle.kz_log.proofs.pass.later_image.Goals as goal

pub loop-here-init : goal.loop-here-init
loop-here-init c =
    let at = to_z w64 (of_z w64 c.args.at) in
    let base = to_z w64 (of_z w64 c.args.base) in record {
      same = ap (λ es. image_after at false es c.in_ok-made.made) c.start-here.ensures.records ∙ ap (image_after at false (entries_after base c.args.batches.now)) c.in_ok-made.ensures;
      known = tt;
      room =
          let from = to_z-of_z w64 c.args.base c.ranges.base in
          let place = c.start-here.ensures.place in let room = c.start-here.ensures.room in let end = c.requires in omega (arith, ints, from, place, room, end);
    }

pub loop-here-preserved : goal.loop-here-preserved
loop-here-preserved c =
    let here = c.loop-here.here in
    let r = c.in-Some.r in
    let at = to_z w64 (of_z w64 c.args.at) in
    let fits : SFits w32 r.epoch = search rules in
    let place : SFits w64 here.position = search rules in
    let e : Entry = record { offset = here.position +ℤ pos 1; epoch = r.epoch; item = r.item.now } in
    let es : List Entry = unread_entries r.next.position r.next.epoch r.next.items.now r.next.rest.now in
    let read = c.in-Some.ensures.record in
    let epoch_is = sym (to_z-of_z w32 r.epoch fits) in
    let under = within at here.position e refl (is_before here.position at place c.loop-here-test.true) in
    let taken = c.in_ok-known-in-Some.ensures es e refl epoch_is refl under (subst (Knows at c.loop-here.known) read c.loop-here.invariant.known) in record {
      same = sym taken.2 ∙ ap (λ xs. image_after at (is_some c.loop-here.known) xs c.loop-here.made) (sym read) ∙ c.loop-here.invariant.same;
      known = taken.0;
      room = let next = c.in-Some.ensures.place in let room = c.in-Some.ensures.room in let was = c.loop-here.invariant.room in omega (arith, ints, next, room, was);
    }

pub returns : goal.returns
returns c =
    let here = c.loop-here.here in
    let at = to_z w64 (of_z w64 c.args.at) in
    let place : SFits w64 here.position = search rules in
    let over = is_not_before here.position at place c.loop-here-test.false in
    sym (ap (λ es. all_entries_applied es c.loop-here.made) (pass_none at here.position (is_some c.loop-here.known) (unread_entries here.position here.epoch here.items.now here.rest.now)
    (unread_consecutive here.position here.epoch here.items.now here.rest.now) over))
    ∙ c.loop-here.invariant.same
    ∙ ap (λ o. image_after o false (entries_after (to_z w64 (of_z w64 c.args.base)) c.args.batches.now) c.args.image.now) (to_z-of_z w64 c.args.at c.ranges.at)
    ∙ ap (λ o. image_after c.args.at false (entries_after o c.args.batches.now) c.args.image.now) (to_z-of_z w64 c.args.base c.ranges.base)
