use Rattle.std.proofs.Common.{sym, ap, ◌∙◌}
use Rattle.kz_types.specs.declared.driver.ClaimSeen.{ClaimSeen}
use Rattle.kz_spec_machine.specs.Driver.{after_look}
use Rattle.kz_stages.specs.Rows.{driver_of}
use Rattle.kz_stages.proofs.Looks.{look_is}
use Rattle.kz_stages.proofs.become_controller.read_control_znodes.Goals as goal

pub returns-clause-ok : goal.returns-clause-ok
returns-clause-ok g c =
    let d = driver_of c.args.row.now in
    ap (λ (seen : ClaimSeen). after_look seen d) (sym c.in_ok-seen.ensures.ok) ∙ (look_is c.in_ok-seen.seen d ∙ c.in_ok-after_look.ensures.ok)
