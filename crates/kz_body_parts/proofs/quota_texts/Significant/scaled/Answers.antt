use Rattle.kz_laws_values.proofs.QuotaScales.{whole_zero, no_whole, whole_raised}
use Rattle.kz_body_parts.proofs.quota_texts.Significant.scaled.Goals as goal

pub returns-then-self-eq0 : goal.returns-then-self-eq0
returns-then-self-eq0 c = λ digits are number zeros.
    whole_zero digits c.args.self.number c.args.self.zeros c.args.up c.args.down (record { number_is = number; zeros_are = zeros }) c.if-self-eq0.true

pub returns-then-up-down : goal.returns-then-up-down
returns-then-up-down c = λ digits are number zeros.
    no_whole digits c.args.self.number c.args.self.zeros c.args.up c.args.down are (record { number_is = number; zeros_are = zeros }) c.if-self-eq0.false c.if-up-down.true

pub returns : goal.returns
returns c = λ digits are number zeros.
    whole_raised digits c.args.self.number c.args.self.zeros c.args.up c.args.down c.raised.result (record { number_is = number; zeros_are = zeros }) c.if-up-down.false c.raised.ensures
