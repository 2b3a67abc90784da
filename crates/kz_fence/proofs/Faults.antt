-- What stands against a claim first is told.
use Rattle.std.proofs.Common.{◌≡◌, None, Option, sym, ap, ◌∙◌, subst}
use Rattle.std.specs.Option.{option_or}
use Rattle.kz_fence.specs.declared.checks.ClaimFault.{ClaimFault}
use Rattle.kz_fence.specs.declared.checks.ClaimFault.TheVariants.{HigherEpoch, BadEpochBody, Limit, NoMemory}
use Rattle.kz_fence.specs.Checks.{IsClaimFault}

pub first_told : (said later : Option ClaimFault) (f : ClaimFault) → IsClaimFault said f → IsClaimFault (option_or said later) f
first_told said later (HigherEpoch epoch) h = ap (λ o. option_or o later) h
first_told said later BadEpochBody h = ap (λ o. option_or o later) h
first_told said later (Limit path) h = ap (λ o. option_or o later) h
first_told said later NoMemory h = tt

pub later_told : (said later : Option ClaimFault) (f : ClaimFault) → said ≡ None → IsClaimFault later f → IsClaimFault (option_or said later) f
later_told said later f none h = subst (λ o. IsClaimFault (option_or o later) f) (sym none) h

pub none_told : (said later : Option ClaimFault) → said ≡ None → later ≡ None → option_or said later ≡ None
none_told said later none h = ap (λ o. option_or o later) none ∙ h
