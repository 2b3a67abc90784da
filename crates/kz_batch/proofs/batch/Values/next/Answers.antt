use Rattle.std.proofs.Common.{◌≡◌, ◌-◌, ◌<◌, ◌∷◌, [], sym, ap, ◌∙◌, arith}
use Rattle.kz_batch.specs.Answers.{values_in}
use Rattle.kz_batch.proofs.Loops.{next_values, next_there, none_left}
use Rattle.kz_batch.proofs.batch.Values.next.Goals as goal

pub returns-then-self-eq0 : goal.returns-then-self-eq0
returns-then-self-eq0 c =
    let e : values_in c.self.inside.count c.self.inside.records ≡ [] = rw c.if-self-eq0.true (none_left c.self.inside.records) in
    (sym c.self.view_is ∙ e, sym c.self.view_is ∙ e)

pub invariant_of-self : goal.invariant_of-self
invariant_of-self c =
    let found = c.in-Ok.ensures in
    let lt : 0 < c.self.inside.count = omega arith in
    (next_values c.self.inside.count c.self.inside.records c.read_entry.new.reader found.0 lt found.2 c.self.invariant).1

pub unreachable-requires : goal.unreachable-requires
unreachable-requires c =
    let lt : 0 < c.self.inside.count = omega arith in
    next_there c.self.inside.count c.self.inside.records c.in-Err.field-0 lt c.in-Err.ensures c.self.invariant

pub returns : goal.returns
returns c =
    let found = c.in-Ok.ensures in
    let lt : 0 < c.self.inside.count = omega arith in
    let next = (next_values c.self.inside.count c.self.inside.records c.read_entry.new.reader found.0 lt found.2 c.self.invariant).0 in
    sym c.self.view_is ∙ next ∙ ap (λ v. v ∷ values_in (c.self.inside.count - 1) c.read_entry.new.reader) found.1.1
