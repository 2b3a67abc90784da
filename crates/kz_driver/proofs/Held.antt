-- A write of the operations that a driver holds is the machine's: they are those that remain, or the check of its claim is
-- refused, whatever the operations are.
use Rattle.std.proofs.Common.{◌≡◌, ◌⊎◌, inl, inr, ℕ, ℤ, Bool, true, false, not, List, ◌∷◌, Option, Some, None, Result, Ok, Err, refl, sym, ap, ◌∙◌, subst}
use Rattle.std.specs.Prelude.{IfOk, OnErr, if◌then◌else◌}
use Rattle.kz_types.specs.declared.codes.TheConstants.{BAD_VERSION, NO_NODE}
use Rattle.kz_types.specs.declared.tree.Row.{Row}
use Rattle.kz_types.specs.declared.tree.Op.{Op}
use Rattle.kz_types.specs.declared.tree.Op.TheVariants as op
use Rattle.kz_types.specs.declared.driver.Stage.{Stage}
use Rattle.kz_types.specs.declared.machine.Recorded.{Recorded}
use Rattle.kz_types.specs.declared.machine.Reply.{Reply}
use Rattle.kz_types.specs.declared.fault.TreeFault.{TreeFault}
use Rattle.kz_types.specs.declared.fault.TreeFault.TheVariants as fault
use Rattle.kz_spec_data.specs.Control.{epoch_path}
use Rattle.kz_spec_data.specs.Tree.{Tree, Refusal, code, row_at, fits_version, check_refusal, multi}
use Rattle.kz_spec_machine.specs.Driver.{Driver, write_ops, writes, after_write}
use Rattle.kz_laws_machine.proofs.FenceDrivers.{multi_refused}
use Rattle.kz_requests.specs.declared.fault.StepFault.{StepFault}
use Rattle.kz_requests.specs.Fares.{IsAfterRequest, tree_after}
use Rattle.kz_resync.specs.Remainders.{Remainder}
use Rattle.kz_stages.specs.Writes.{IsWritten}

-- what a driver holds is what remains, where the check of its claim passes
abbrev pub AreLeft : Tree → Option ℤ → List Op → List Op → Type 0
AreLeft t held ops left = (claim : ℤ) → held ≡ Some claim → check_refusal claim (row_at epoch_path t.rows) ≡ None → ops ≡ left

-- a write is one of two cases
pub data Cases (t : Tree) (claim : ℤ) (ops left : List Op) (target : Recorded) : Type 0 where
  alike : ops ≡ left → Cases t claim ops left target
  refused : (c : ℤ) → multi t (write_ops claim ops target) ≡ Err (fault.Refused 0 c) → multi t (write_ops claim left target) ≡ Err (fault.Refused 0 c) → Cases t claim ops left target

by_check : (t : Tree) (claim : ℤ) (ops left : List Op) (target : Recorded) (m : Option Row) → row_at epoch_path t.rows ≡ m → (check_refusal claim m ≡ None → ops ≡ left) → Cases t claim ops left target
by_check t claim ops left target None is same =
    let refusal : check_refusal claim (row_at epoch_path t.rows) ≡ Some (code NO_NODE) = ap (check_refusal claim) is in
    refused NO_NODE (multi_refused t (op.Check epoch_path claim) _ NO_NODE refusal) (multi_refused t (op.Check epoch_path claim) _ NO_NODE refusal)
by_check t claim ops left target (Some r) is same = by_version (not (fits_version claim r)) refl
  where
    by_version : (b : Bool) → not (fits_version claim r) ≡ b → Cases t claim ops left target
    by_version true other =
        let refusal : check_refusal claim (row_at epoch_path t.rows) ≡ Some (code BAD_VERSION) = ap (check_refusal claim) is ∙ ap (λ (b : Bool). if b then Some (code BAD_VERSION) else None) other in
        refused BAD_VERSION (multi_refused t (op.Check epoch_path claim) _ BAD_VERSION refusal) (multi_refused t (op.Check epoch_path claim) _ BAD_VERSION refusal)
    by_version false fits = alike (same (ap (λ (b : Bool). if b then Some (code BAD_VERSION) else None) fits))

pub cases : (t : Tree) (claim : ℤ) (ops left : List Op) (target : Recorded) → AreLeft t (Some claim) ops left → Cases t claim ops left target
cases t claim ops left target same = by_check t claim ops left target (row_at epoch_path t.rows) refl (λ passes. same claim refl passes)

-- ---- the driver

written_alike : (t : Tree) (claim : ℤ) (ops left : List Op) (target : Recorded) (more : List Op → Stage) (last : Stage) (d : Driver) → Cases t claim ops left target
    → after_write claim left target more last d (multi t (write_ops claim left target)) ≡ after_write claim ops target more last d (multi t (write_ops claim ops target))
written_alike t claim ops left target more last d (alike same) = ap (λ os. after_write claim os target more last d (multi t (write_ops claim os target))) (sym same)
written_alike t claim ops left target more last d (refused c mine other) = ap (after_write claim left target more last d) other ∙ sym (ap (after_write claim ops target more last d) mine)

pub writes_alike : (t : Tree) (held : Option ℤ) (ops left : List Op) (target : Recorded) (more : List Op → Stage) (last : Stage) (d : Driver) → AreLeft t held ops left
    → writes t held left target more last d ≡ writes t held ops target more last d
writes_alike t None ops left target more last d same = refl
writes_alike t (Some claim) ops left target more last d same = written_alike t claim ops left target more last d (cases t claim ops left target same)

-- ---- the tree

pub trees_alike : (t : Tree) (claim : ℤ) (ops left : List Op) (target : Recorded) → Cases t claim ops left target → tree_after (multi t (write_ops claim ops target)) t ≡ tree_after (multi t (write_ops claim left target)) t
trees_alike t claim ops left target (alike same) = ap (λ os. tree_after (multi t (write_ops claim os target)) t) same
trees_alike t claim ops left target (refused c mine other) = ap (λ m. tree_after m t) mine ∙ sym (ap (λ m. tree_after m t) other)

abbrev pub left_of : List Op → Remainder → Remainder
left_of left r = record { ops = left; target = r.target }

pub tree_alike : {A : Type 0} (reaches : Bool) (t : Tree) (held : Option ℤ) (r : Remainder) (left : List Op) (outcome : Result A StepFault) (new : Tree) → AreLeft t held r.ops left → IsWritten reaches t held r outcome new → IsWritten reaches t held (left_of left r) outcome new
tree_alike reaches t None r left outcome new same h = h
tree_alike reaches t (Some claim) r left outcome new same h = subst (λ made. IsAfterRequest reaches made t outcome new) (trees_alike t claim r.ops left r.target (cases t claim r.ops left r.target same)) h
