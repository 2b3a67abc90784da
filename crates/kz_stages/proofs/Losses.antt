-- A driver whose write isn't answered begins again.
use Rattle.std.proofs.Common.{◌≡◌, ◌≢◌, ℤ, List, Option, Some, None, sym, ap, ◌∙◌}
use Rattle.kz_types.specs.declared.tree.Op.{Op}
use Rattle.kz_types.specs.declared.machine.Recorded.{Recorded}
use Rattle.kz_spec_machine.specs.Driver.{Driver, Request, nothing, write_request, begins_again, without_answer}

pub write_lost : (q : Request) (claim : Option ℤ) (ops : List Op) (target : Recorded) (d after : Driver)
    → q ≡ write_request claim ops target → after ≡ begins_again d → q ≢ nothing → after ≡ without_answer q d
write_lost q None ops target d after is made asked = absurd (asked is)
write_lost q (Some claim) ops target d after is made asked = made ∙ ap (λ (x : Request). without_answer x d) (sym is)
