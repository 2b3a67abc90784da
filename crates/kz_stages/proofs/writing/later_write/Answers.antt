use Rattle.std.proofs.Common.{ap}
use Rattle.kz_stages.specs.declared.writing.Scope.TheVariants.{All, Change}
use Rattle.kz_stages.specs.Writes.{held_remainder, held_scope}
use Rattle.kz_stages.proofs.Writings.{later_is, holds_none}
use Rattle.kz_stages.proofs.writing.later_write.Goals as goal

pub returns-in-WriteResync : goal.returns-in-WriteResync
returns-in-WriteResync c = λ r holds.
    let is = c.in-WriteResync.is in
    later_is c.args.old All c.in-WriteResync.remaining r c.done.new.self.target c.done.new.self.ops (ap held_scope is) (ap held_remainder is) holds c.done.ensures.target c.done.ensures.ops

pub returns-in-WriteDelta : goal.returns-in-WriteDelta
returns-in-WriteDelta c = λ r holds.
    let is = c.in-WriteDelta.is in
    let done = c.done-in-WriteDelta in
    later_is c.args.old Change c.in-WriteDelta.remaining r done.new.self.target done.new.self.ops (ap held_scope is) (ap held_remainder is) holds done.ensures.target done.ensures.ops

pub returns-in_default : goal.returns-in_default
returns-in_default c = λ r holds. absurd (holds_none c.args.old r c.in_default.not-WriteResync c.in_default.not-WriteDelta holds)
