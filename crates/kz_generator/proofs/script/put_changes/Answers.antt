use Rattle.std.proofs.Common.{rules, ◌+◌, ◌-◌, ◌++◌, refl, sym, subst, arith}
use Rattle.kz_output.specs.Outputs.{Puts}
use Rattle.kz_output.proofs.Chains.{nothing_put, no_call, one_more, front_then}
use Rattle.kz_output.proofs.Loops.{front_goes_on}
use Rattle.kz_spec_machine.specs.Generator.{events_at, events_after}
use Rattle.kz_generator.specs.Texts.{lines_of}
use Rattle.kz_generator.proofs.Parts.{lines_none, next_at, next_change, around_change}
use Rattle.kz_generator.proofs.script.put_changes.Goals as goal

pub loop-done-init : goal.loop-done-init
loop-done-init g c = (
  refl,
  omega arith,
  subst (λ text. Puts (g.K.Sink.taken c.args.out.now) c.args.output.now (g.K.Sink.taken c.args.out.now) c.args.output.now text) (sym lines_none) (nothing_put _ _),
  no_call _ _,
)

pub returns-in-Err-clause-err : goal.returns-in-Err-clause-err
returns-in-Err-clause-err g c =
    let n = c.args.changes in
    let i = c.loop-done.done in
    let value = next_at n i c.loop-done.value c.next_value-value.result c.next_value-value.ensures.next c.loop-done.invariant.0 in
    front_goes_on _ _ c.args.output.now (lines_of (events_after n 0 i) ++ lines_of (events_at n (i + 1))) (lines_of (events_after n (i + 1) (n - (i + 1)))) _
    (front_then _ _ _ c.args.output.now c.loop-done.output _ _ c.loop-done.invariant.2 (c.in-Err.ensures.err n value))
    (around_change n i c.loop-done-test.true)

pub loop-done-preserved : goal.loop-done-preserved
loop-done-preserved g c =
    let n = c.args.changes in
    let i = c.loop-done.done in
    let value = next_at n i c.loop-done.value c.next_value-value.result c.next_value-value.ensures.next c.loop-done.invariant.0 in (
      sym value,
      search rules,
      subst (λ text. Puts (g.K.Sink.taken c.args.out.now) c.args.output.now (g.K.Sink.taken c.put_change.new.out) c.put_change.new.output text) (sym (next_change n i))
          (one_more _ _ _ c.args.output.now c.loop-done.output c.put_change.new.output _ _ c.loop-done.invariant.2 (c.in-Ok.ensures.ok n value)),
      search rules,
    )
