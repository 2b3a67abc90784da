-- What is written, what became of it, and what the driver does after it.
use Rattle.std.proofs.Common.{◌≡◌, ◌<◌, ◌∷◌, ◌++◌, ℕ, ℤ, Bool, true, false, cond, List, Option, Some, Result, Ok, Err, length, refl, sym, ap, subst, ◌∙◌, arith}
use Rattle.kz_types.specs.declared.tree.Op.{Op}
use Rattle.kz_types.specs.declared.tree.Op.TheVariants as op
use Rattle.kz_types.specs.declared.driver.Stage.{Stage}
use Rattle.kz_types.specs.declared.machine.Recorded.{Recorded}
use Rattle.kz_types.specs.declared.fault.TreeFault.{TreeFault}
use Rattle.kz_types.specs.declared.fault.TreeFault.TheVariants as fault
use Rattle.kz_types.specs.declared.machine.Reply.{Reply}
use Rattle.kz_types.specs.declared.machine.Reply.TheVariants as reply
use Rattle.kz_spec_data.specs.Control.{epoch_path}
use Rattle.kz_spec_data.specs.Tree.{Tree, multi}
use Rattle.kz_spec_data.specs.Difference.{chunk, after_chunk}
use Rattle.kz_spec_machine.specs.Driver.{Driver, after_write, is_last_write, is_claim_refused, record_ops, write_ops, writes}
use Rattle.kz_resync.specs.Remainders.{Remainder}
use Rattle.kz_stages.specs.declared.row.Stage.{Stage as HeldStage}
use Rattle.kz_stages.specs.declared.row.Stage.TheVariants as held
use Rattle.kz_stages.specs.declared.writing.Scope.{Scope}
use Rattle.kz_stages.specs.declared.writing.WriteOutcome.{WriteOutcome}
use Rattle.kz_stages.specs.declared.writing.WriteOutcome.TheVariants.{Last, More, Fenced, Refused, Stopped}
use Rattle.kz_stages.specs.Writes.{held_remainder, held_scope, more_of, outcome_of_taken, write_outcome, after_write_outcome}

-- the operations of the next write, which is the last one or not
pub written_ops : (claim : ℤ) (r : Remainder) (own : ℤ) (ops : List Op) (is_last : Bool) (target : Recorded)
    → own ≡ claim → ops ≡ chunk r.ops → is_last ≡ is_last_write r.ops → target ≡ r.target
    → op.Check epoch_path own ∷ (ops ++ record_ops is_last target) ≡ write_ops claim r.ops r.target
written_ops claim r own ops is_last target by first last to = λ i. op.Check epoch_path (by i) ∷ (first i ++ record_ops (last i) (to i))

-- a write has operations
pub some_written : (claim : ℤ) (r : Remainder) (ops : List Op) → ops ≡ write_ops claim r.ops r.target → 0 < length ops
some_written claim r ops is = subst (λ (xs : List Op). 0 < length xs) (sym is) (omega arith)

-- a write that the tree took was the last one, or others remain
pub taken_is : (r : Remainder) (is_last : Bool) (offset : ℤ) (ops : List Op) → is_last ≡ is_last_write r.ops → offset ≡ r.target.offset → ops ≡ chunk r.ops
    → cond is_last (Last offset) (More (length ops)) ≡ outcome_of_taken r
taken_is r is_last offset ops last to first = λ i. cond (last i) (Last (to i)) (More (length (first i)))

-- a fault that is neither a refusal nor a limit
pub other_fault : (claim : ℤ) (r : Remainder) (f : TreeFault) → ((index : ℕ) (code : ℤ) → f ≡ fault.Refused index code → ⊥) → ((index number : ℕ) → f ≡ fault.Limit index number → ⊥)
    → Stopped (reply.TreeFailed f) ≡ write_outcome claim r (Err f)
other_fault claim r (fault.Refused index code) not_refused not_limit = absurd (not_refused index code refl)
other_fault claim r (fault.Limit index number) not_refused not_limit = absurd (not_limit index number refl)
other_fault claim r fault.NoMemory not_refused not_limit = refl
other_fault claim r fault.Device not_refused not_limit = refl
other_fault claim r fault.Down not_refused not_limit = refl
other_fault claim r (fault.Full size) not_refused not_limit = refl

-- what is left of one thing is left of another that is the same
pub same_held : (x r : Remainder) → Some x ≡ Some r → x ≡ r
same_held x r e = cc

-- the stage after a write, where others remain
pub later_is : (old : HeldStage) (scope : Scope) (x r : Remainder) (target : Recorded) (ops : List Op)
    → held_scope old ≡ scope → held_remainder old ≡ Some x → held_remainder old ≡ Some r → target ≡ x.target → ops ≡ after_chunk x.ops
    → more_of scope target ops ≡ more_of (held_scope old) r.target (after_chunk r.ops)
later_is old scope x r target ops of_scope has holds to left =
    let same : x ≡ r = same_held x r (sym has ∙ holds) in
    λ i. more_of (sym of_scope i) ((to ∙ ap (λ (y : Remainder). y.target) same) i) ((left ∙ ap (λ (y : Remainder). after_chunk y.ops) same) i)

-- at no other stage does a driver write
pub holds_none : (s : HeldStage) (r : Remainder) → ((x : Remainder) → s ≡ held.WriteResync x → ⊥) → ((x : Remainder) → s ≡ held.WriteDelta x → ⊥) → held_remainder s ≡ Some r → ⊥
holds_none (held.WriteResync x) r no_resync no_delta holds = no_resync x refl
holds_none (held.WriteDelta x) r no_resync no_delta holds = no_delta x refl
holds_none s r no_resync no_delta holds = cc

by_choice : (b : Bool) (x y : WriteOutcome) (r : Remainder) (more : List Op → Stage) (last : Stage) (d : Driver) → after_write_outcome (cond b x y) r more last d ≡ cond b (after_write_outcome x r more last d) (after_write_outcome y r more last d)
by_choice true x y r more last d = refl
by_choice false x y r more last d = refl

pub written_is : (claim : ℤ) (r : Remainder) (more : List Op → Stage) (last : Stage) (d : Driver) (m : Result Tree TreeFault) → after_write_outcome (write_outcome claim r m) r more last d ≡ after_write claim r.ops r.target more last d m
written_is claim r more last d (Ok t) = by_choice (is_last_write r.ops) (Last r.target.offset) (More (length (chunk r.ops))) r more last d
written_is claim r more last d (Err (fault.Refused index code)) = by_choice (is_claim_refused index code) (Fenced claim) Refused r more last d
written_is claim r more last d (Err (fault.Limit index number)) = refl
written_is claim r more last d (Err fault.NoMemory) = refl
written_is claim r more last d (Err fault.Device) = refl
written_is claim r more last d (Err fault.Down) = refl
written_is claim r more last d (Err (fault.Full len)) = refl

-- a driver that writes under its claim
pub writes_is : (t : Tree) (own : Option ℤ) (claim : ℤ) (r : Remainder) (more : List Op → Stage) (last : Stage) (d : Driver) (w : WriteOutcome) (end : Driver × Reply)
    → own ≡ Some claim → w ≡ write_outcome claim r (multi t (write_ops claim r.ops r.target)) → after_write_outcome w r more last d ≡ end → writes t own r.ops r.target more last d ≡ end
writes_is t own claim r more last d w end by told after =
    ap (λ h. writes t h r.ops r.target more last d) by
    ∙ (sym (written_is claim r more last d (multi t (write_ops claim r.ops r.target)))
    ∙ (ap (λ v. after_write_outcome v r more last d) (sym told) ∙ after))

-- what holds of a write under a claim, of these operations, holds where the claim is the driver's, and these are what it has
-- still to write
pub under_claim : (P : Option ℤ → Remainder → Type 0) (own : Option ℤ) (claim : ℤ) (x r : Remainder) → own ≡ Some claim → x ≡ r → P (Some claim) x → P own r
under_claim P own claim x r by same h = subst (λ (o : Option ℤ). P o r) (sym by) (subst (λ (y : Remainder). P (Some claim) y) same h)
