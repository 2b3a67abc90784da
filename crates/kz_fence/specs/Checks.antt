-- What stands against a claim.
use Rattle.std.specs.Prelude.{◌≡◌, ◌≤ℤ◌, ⊤, Bool, not, ◌&&◌, ◌||◌, ℤ, int_lt, Option, Some, None, Result, Ok, Err, if◌then◌else◌}
use Rattle.std.specs.Ordering.{int_eq}
use Rattle.std.specs.Option.{option_or}
use Rattle.kz_types.specs.declared.limits.TheConstants.{MAX_VERSION}
use Rattle.kz_types.specs.declared.tree.Row.{Row}
use Rattle.kz_types.specs.declared.driver.ClaimSeen.{ClaimSeen}
use Rattle.kz_types.specs.declared.fault.BodyFault.{BodyFault}
use Rattle.kz_spec_data.specs.Control.{epoch_path, migration_path, read_epoch}
use Rattle.kz_spec_machine.specs.Driver.{shown_by, claimed_number, claimed_version}
use Rattle.kz_fence.specs.declared.checks.ClaimFault.{ClaimFault}
use Rattle.kz_fence.specs.declared.checks.ClaimFault.TheVariants.{HigherEpoch, BadEpochBody, Limit, NoMemory}

-- The epoch that `/controller` shows is above the controller's own.
abbrev pub fault_of_control : Option ℤ → ℤ → Option ClaimFault
fault_of_control None epoch = None
fault_of_control (Some shown) epoch = if int_lt epoch shown then Some (HigherEpoch shown) else None

abbrev pub fault_of_number : Result ℤ BodyFault → ℤ → Option ClaimFault
fault_of_number (Err e) version = Some BadEpochBody
fault_of_number (Ok number) version = if int_eq number MAX_VERSION || int_eq version MAX_VERSION then Some (Limit epoch_path) else None

-- The number of `/controller_epoch` can't be read, or it or the data version can't rise.
abbrev pub fault_of_epoch : Option Row → Option ClaimFault
fault_of_epoch None = None
fault_of_epoch (Some r) = fault_of_number (read_epoch r.body) r.version

-- `/migration` would be set, and its data version can't rise. It isn't set where the log is migrated.
abbrev pub fault_of_record : Option Row → Bool → Option ClaimFault
fault_of_record None migrated = None
fault_of_record (Some r) migrated = if not migrated && int_eq r.version MAX_VERSION then Some (Limit migration_path) else None

-- The first of what stands against the claim of what was seen, by a controller of an epoch that knows, or doesn't, that the
-- log is migrated. Neither its id nor the time has a say.
abbrev pub claim_fault : ClaimSeen → ℤ → Bool → Option ClaimFault
claim_fault seen epoch migrated =
    option_or (fault_of_control (shown_by seen.control) epoch)
    (option_or (fault_of_epoch seen.epoch) (fault_of_record seen.migration migrated))

-- The number and the data version of `/controller_epoch` can rise by a claim.
abbrev pub CanRise : Option Row → Type 0
CanRise row = (claimed_number row ≤ℤ MAX_VERSION) × (claimed_version row ≤ℤ MAX_VERSION)

-- Nothing stands against the claim.
abbrev pub CanClaim : ClaimSeen → ℤ → Bool → Type 0
CanClaim seen epoch migrated = (claim_fault seen epoch migrated ≡ None) × CanRise seen.epoch

-- A fault is what stands against the claim, or out of memory.
abbrev pub IsClaimFault : Option ClaimFault → ClaimFault → Type 0
IsClaimFault said (HigherEpoch epoch) = said ≡ Some (HigherEpoch epoch)
IsClaimFault said BadEpochBody = said ≡ Some BadEpochBody
IsClaimFault said (Limit path) = said ≡ Some (Limit path)
IsClaimFault said NoMemory = ⊤
