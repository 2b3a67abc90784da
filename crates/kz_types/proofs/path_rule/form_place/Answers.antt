use Rattle.std.proofs.Common.{◌≡◌, ◌<◌, length, sym, ◌∙◌, subst, arith, le_refl, refl}
use Rattle.std.proofs.lemmas.Bool.{eqb-false}
use Rattle.kz_types.specs.Places.{IsFormPlace}
use Rattle.kz_types.proofs.FormPlaces.{first_done, at_end, at_slash, at_hidden, nothing_yet, next_part, next_byte}
use Rattle.kz_types.proofs.path_rule.form_place.Goals as goal
use Rattle.kz_types.proofs.path_rule.form_place.Goals.{then-byte-eq47+else-not-may_be_part, else-byte-eq47+else-not-is_shown}

pub loop-at-init : goal.loop-at-init
loop-at-init c =
    let some = eqb-false (length c.args.bytes.now) 0 (sym c.is_empty.ensures ∙ c.if-is_empty.false) in record {
      some = omega arith;
      started = omega arith;
      done = first_done c.args.bytes.now (omega (arith, some)) c.if-bytes-ne47.false;
      shown = refl;
    }

pub returns-then-not-may_be_part : goal.returns-then-not-may_be_part
returns-then-not-may_be_part c =
    let i = c.loop-at.invariant in
    at_slash c.args.bytes.now c.loop-at.start c.loop-at.at i.some i.started (let lt = c.loop-at-test.true in omega arith) i.done i.shown c.if-byte-eq47.true (sym c.may_be_part.ensures ∙ c.if-not-may_be_part.true)

pub returns-then-not-is_shown : goal.returns-then-not-is_shown
returns-then-not-is_shown c =
    let i = c.loop-at.invariant in
    at_hidden c.args.bytes.now c.loop-at.start c.loop-at.at i.some i.started (let lt = c.loop-at-test.true in omega arith) i.done i.shown (sym c.is_shown.ensures ∙ c.if-not-is_shown.true) c.if-byte-eq47.false

pub loop-at-preserved : goal.loop-at-preserved
loop-at-preserved c =
    let i = c.loop-at.invariant in
    let lt : c.loop-at.at < length c.args.bytes.now = c.loop-at-test.true in
    elim c.if-byte-eq47.branch [
      | then-byte-eq47+else-not-may_be_part w ↦ rw w.start-is (record {
        some = omega arith;
        started = le_refl _;
        done = next_part c.args.bytes.now c.loop-at.start c.loop-at.at i.some i.started (omega arith) i.done i.shown lt w.if-byte-eq47.true (sym w.may_be_part.ensures ∙ w.if-not-may_be_part.false);
        shown = nothing_yet c.args.bytes.now _;
      })
      | else-byte-eq47+else-not-is_shown w ↦ rw w.start-is (record {
        some = i.some;
        started = let h = i.started in omega arith;
        done = i.done;
        shown = next_byte c.args.bytes.now c.loop-at.start c.loop-at.at i.some i.started (omega arith) i.done i.shown lt (sym w.is_shown.ensures ∙ w.if-not-is_shown.false);
      })
    ]

pub returns : goal.returns
returns c =
    let i = c.loop-at.invariant in
    let some = eqb-false (length c.args.bytes.now) 0 (sym c.is_empty.ensures ∙ c.if-is_empty.false) in
    let last = c.loop-at.auto.at-end (omega (arith, some)) in
    let past = c.loop-at-test.false in
    let end : c.loop-at.at ≡ length c.args.bytes.now = omega (arith, last, past) in
    subst (IsFormPlace c.args.bytes.now) end (at_end c.args.bytes.now c.loop-at.start c.loop-at.at i.some i.started last i.done i.shown end)
