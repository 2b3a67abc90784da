use Rattle.std.proofs.Common.{◌≡◌, ◌∙◌, ◌+◌, ◌&&◌, ap, length, arith, le_refl}
use Rattle.std.proofs.lemmas.Bool.{eq-eqb}
use Rattle.std.proofs.lemmas.List.{take_rest}
use Rattle.kz_types.proofs.PathRules.{refuse, goes_on, ends, none_more, shown_more, shown_none}
use Rattle.kz_types.proofs.path_rule.has_parts.Goals as goal
use Rattle.kz_types.proofs.path_rule.has_parts.Goals.{then-byte-eq47+else-not-shown_may_be_part, else-byte-eq47}

pub shown_may_be_part-requires : goal.shown_may_be_part-requires
shown_may_be_part-requires c = c.loop-at.invariant.shown

pub shown_may_be_part-requires-2 : goal.shown_may_be_part-requires-2
shown_may_be_part-requires-2 c =
    let last = c.loop-at.auto.at-end in
    let end : c.loop-at.at ≡ length c.args.bytes.now = let some = last c.if-bytes-lt1.false in let past = c.loop-at-test.false in omega arith in
    rw end at c.loop-at.invariant.shown

pub returns-then-not-shown_may_be_part : goal.returns-then-not-shown_may_be_part
returns-then-not-shown_may_be_part c =
    refuse c.args.bytes.now c.loop-at.start c.loop-at.at c.shown_may_be_part.result c.loop-at.invariant.started c.loop-at-test.true c.loop-at.invariant.no_slash
    (eq-eqb _ 47 c.if-byte-eq47.true) c.loop-at.invariant.left c.shown_may_be_part.ensures c.if-not-shown_may_be_part.true

pub loop-at-preserved : goal.loop-at-preserved
loop-at-preserved c = elim c.if-byte-eq47.branch [
  | then-byte-eq47+else-not-shown_may_be_part w ↦ rw w.start-is (rw w.shown-is (record {
    shown = shown_none c.args.bytes.now (c.loop-at.at + 1);
    started = le_refl _;
    no_slash = λ k low high. absurd (omega arith);
    left = goes_on c.args.bytes.now c.loop-at.start c.loop-at.at w.shown_may_be_part.result c.loop-at.invariant.started c.loop-at-test.true c.loop-at.invariant.no_slash
        (eq-eqb _ 47 w.if-byte-eq47.true) c.loop-at.invariant.left w.shown_may_be_part.ensures w.if-not-shown_may_be_part.false;
  }))
  | else-byte-eq47 w ↦ rw w.start-is (rw w.shown-is (record {
    shown = w.are_both-shown.ensures ∙ ap (λ b. c.loop-at.shown && b) w.is_shown.ensures
        ∙ shown_more c.args.bytes.now c.loop-at.start c.loop-at.at c.loop-at.shown c.loop-at.invariant.started c.loop-at-test.true c.loop-at.invariant.shown;
    started = let h = c.loop-at.invariant.started in omega arith;
    no_slash = none_more c.args.bytes.now c.loop-at.start c.loop-at.at c.loop-at.invariant.no_slash w.if-byte-eq47.false;
    left = c.loop-at.invariant.left;
  }))
]

pub returns : goal.returns
returns c =
    let last = c.loop-at.auto.at-end in
    let end : c.loop-at.at ≡ length c.args.bytes.now = let some = last c.if-bytes-lt1.false in let past = c.loop-at-test.false in omega arith in
    let whole = rw (take_rest c.args.bytes.now c.loop-at.start) at c.shown_may_be_part-2.ensures in
    ends c.args.bytes.now c.loop-at.start c.shown_may_be_part-2.result (let h = c.loop-at.invariant.started in omega arith) (rw end at c.loop-at.invariant.no_slash) c.loop-at.invariant.left whole
    (eq-eqb _ 47 c.if-bytes-ne47.false)
