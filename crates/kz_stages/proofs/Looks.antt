-- What follows a look is said by what stands against the claim.
use Rattle.std.proofs.Common.{◌≡◌, ℤ, Bool, true, false, Option, Some, None, refl}
use Rattle.std.specs.Prelude.{if◌then◌else◌, int_lt, not, ◌&&◌, ◌||◌, codes}
use Rattle.std.specs.Ordering.{int_eq}
use Rattle.std.specs.Option.{option_or}
use Rattle.kz_types.specs.declared.limits.TheConstants.{MAX_VERSION}
use Rattle.kz_types.specs.declared.tree.Row.{Row}
use Rattle.kz_types.specs.declared.driver.ClaimSeen.{ClaimSeen}
use Rattle.kz_types.specs.declared.driver.Stage.TheVariants as stage
use Rattle.kz_types.specs.declared.machine.Reply.{Reply}
use Rattle.kz_types.specs.declared.machine.Reply.TheVariants as reply
use Rattle.kz_types.specs.Numbers.{canonical}
use Rattle.kz_spec_data.specs.Bodies.{of_form}
use Rattle.kz_spec_data.specs.Control.{epoch_path, migration_path, whole_of}
use Rattle.kz_spec_machine.specs.Driver.{Driver, epoch_or_zero, at_stage, resigned_driver, views_migrated, shown_by, unless_fenced, unless_full_epoch, unless_bad_epoch, unless_full_record, after_look}
use Rattle.kz_fence.specs.declared.checks.ClaimFault.{ClaimFault}
use Rattle.kz_fence.specs.declared.checks.ClaimFault.TheVariants.{HigherEpoch, Limit}
use Rattle.kz_fence.specs.Checks.{fault_of_control, fault_of_number, fault_of_epoch, fault_of_record, claim_fault}
use Rattle.kz_stages.specs.Checks.{after_check}

-- a refusal, or what follows where there is none
chosen : (b : Bool) (f : ClaimFault) (later : Option ClaimFault) (seen : ClaimSeen) (d : Driver) (told rest : Driver × Reply) → told ≡ after_check (Some f) seen d → rest ≡ after_check later seen d
    → (if b then told else rest) ≡ after_check (option_or (if b then Some f else None) later) seen d
chosen true f later seen d told rest h k = h
chosen false f later seen d told rest h k = k

fenced_is : (o : Option ℤ) (later : Option ClaimFault) (seen : ClaimSeen) (d : Driver) (rest : Driver × Reply) → rest ≡ after_check later seen d
    → unless_fenced o d rest ≡ after_check (option_or (fault_of_control o (epoch_or_zero d.epoch)) later) seen d
fenced_is None later seen d rest h = h
fenced_is (Some e) later seen d rest h = chosen (int_lt (epoch_or_zero d.epoch) e) (HigherEpoch e) later seen d (resigned_driver d, reply.FencedEpoch e) rest refl h

number_is : (o : Option ℤ) (version : ℤ) (later : Option ClaimFault) (seen : ClaimSeen) (d : Driver) (rest : Driver × Reply) → rest ≡ after_check later seen d
    → unless_full_epoch (of_form (codes "controller_epoch") o) version d rest ≡ after_check (option_or (fault_of_number (of_form (codes "controller_epoch") o) version) later) seen d
number_is None version later seen d rest h = refl
number_is (Some n) version later seen d rest h = chosen (int_eq n MAX_VERSION || int_eq version MAX_VERSION) (Limit epoch_path) later seen d (d, reply.Limit epoch_path) rest refl h

epoch_is : (o : Option Row) (later : Option ClaimFault) (seen : ClaimSeen) (d : Driver) (rest : Driver × Reply) → rest ≡ after_check later seen d
    → unless_bad_epoch o d rest ≡ after_check (option_or (fault_of_epoch o) later) seen d
epoch_is None later seen d rest h = h
epoch_is (Some r) later seen d rest h = number_is (whole_of (canonical r.body)) r.version later seen d rest h

full_is : (b : Bool) (seen : ClaimSeen) (d : Driver) (told rest : Driver × Reply) → told ≡ after_check (Some (Limit migration_path)) seen d → rest ≡ after_check None seen d
    → (if b then told else rest) ≡ after_check (if b then Some (Limit migration_path) else None) seen d
full_is true seen d told rest h k = h
full_is false seen d told rest h k = k

recorded_is : (o : Option Row) (seen : ClaimSeen) (d : Driver) (rest : Driver × Reply) → rest ≡ after_check None seen d
    → unless_full_record o d rest ≡ after_check (fault_of_record o (views_migrated d)) seen d
recorded_is None seen d rest h = h
recorded_is (Some r) seen d rest h = full_is (not (views_migrated d) && int_eq r.version MAX_VERSION) seen d (d, reply.Limit migration_path) rest refl h

pub look_is : (seen : ClaimSeen) (d : Driver) → after_look seen d ≡ after_check (claim_fault seen (epoch_or_zero d.epoch) (views_migrated d)) seen d
look_is seen d =
    let end : Driver × Reply = (at_stage (stage.ClaimLeadership seen) d, reply.Looked) in
    let record_checked = unless_full_record seen.migration d end in
    let epoch_checked = unless_bad_epoch seen.epoch d record_checked in
    let of_record = fault_of_record seen.migration (views_migrated d) in
    fenced_is (shown_by seen.control) (option_or (fault_of_epoch seen.epoch) of_record) seen d epoch_checked
    (epoch_is seen.epoch of_record seen d record_checked (recorded_is seen.migration seen d end refl))
