-- Turns of steps that leave one step less each.
use Rattle.std.proofs.Common.{◌≡◌, ◌⊎◌, ℕ, zero, suc, ◌≤◌, ℤ, Bool, true, false, if◌then◌else◌, List, [], ◌∷◌, Some, refl, sym, ap, subst, arith}
use Rattle.kz_types.specs.declared.machine.Reply.{Reply}
use Rattle.kz_types.specs.declared.plan.Plan.TheVariants as plan
use Rattle.kz_spec_machine.specs.Driver.{Shared, Driver, epoch_or_zero, Request, nothing, read_log, list_brokers, look_up, read_page, write, add, request_at, shared_after, after_answer, is_of_log, reaches, reaches_store, hearing, hears_answer, driver_after, StepResult, planned_step, step}
use Rattle.kz_spec_machine.specs.Machine.{ends, TurnResult, with_reply, turn}
use Rattle.kz_laws_events.proofs.Tests.{true_or_false}
use Rattle.kz_laws_bounds.specs.Bounds.{EndsByItself}
use Rattle.kz_laws_bounds.proofs.Left.{Left, Goes}

-- ---- a delivered request is heard of

heard : (s : Shared) (epoch now : ℤ) (r : Request) → hearing plan.Deliver s epoch now r ≡ hears_answer
heard s epoch now nothing = refl
heard s epoch now read_log = refl
heard s epoch now list_brokers = refl
heard s epoch now look_up = refl
heard s epoch now (read_page after) = refl
heard s epoch now (write ops) = refl
heard s epoch now (add records) = refl

answered : (s : Shared) (epoch now : ℤ) (r : Request) (given : Driver × Reply) (d : Driver) → driver_after (hearing plan.Deliver s epoch now r) given r d ≡ given
answered s epoch now r given d = ap (λ h. driver_after h given r d) (heard s epoch now r)

always : (b : Bool) → reaches plan.Deliver b ≡ true
always true = refl
always false = refl

made : (r : Request) (x s : Shared) → (if reaches_store plan.Deliver r then x else s) ≡ x
made r x s = ap (λ (b : Bool). if b then x else s) (always (is_of_log r))

-- a step does what its request and its answer do
pub goes_on : (s : Shared) (running : List ℤ) (now : ℤ) (d : Driver) (n : ℕ) → Goes (shared_after s (epoch_or_zero d.epoch) now (request_at s now d d.stage)) (after_answer s running now d d.stage) n
    → (ends (step s running now d).reply ≡ true) ⊎ Left (step s running now d).shared (step s running now d).driver n
unfolding step planned_step
goes_on s running now d n goes =
    let r = request_at s now d d.stage in
    let given : Driver × Reply = after_answer s running now d d.stage in
    let after : Shared = shared_after s (epoch_or_zero d.epoch) now r in
    subst (λ (x : Driver × Reply). Goes (if reaches_store plan.Deliver r then after else s) x n) (sym (answered s (epoch_or_zero d.epoch) now r given d))
    (subst (λ (x : Shared). Goes x given n) (sym (made r after s)) goes)

-- ---- the last reply

ends_alone : (r : Reply) → ends r ≡ true → EndsByItself (r ∷ [])
ends_alone r is = ap (λ (b : Bool). Some b) is

pub ends_later : (r : Reply) (rs : List Reply) → EndsByItself rs → EndsByItself (r ∷ rs)
ends_later r [] over = absurd (cc)
ends_later r (x ∷ rs) over = over

same_bool : (a b : Bool) → Some a ≡ Some b → a ≡ b
same_bool a b is = cc

-- a reply that doesn't end a turn isn't the last
ends_before : (r : Reply) (rs : List Reply) → ends r ≡ false → EndsByItself (r ∷ rs) → EndsByItself rs
ends_before r [] on over = absurd (true_or_false (ends r) (same_bool (ends r) true over) on)
ends_before r (x ∷ rs) on over = over

-- ---- one step of a turn

pub turn_ended : (b : Bool) (r : StepResult) (t : TurnResult) → ends r.reply ≡ b → (b ≡ false → EndsByItself t.replies)
    → EndsByItself (if b then record { shared = r.shared; driver = r.driver; replies = r.reply ∷ [] } else with_reply r.reply t).replies
turn_ended true r t is rest = ends_alone r.reply is
turn_ended false r t is rest = ends_later r.reply t.replies (rest refl)

-- ---- a turn that has ended is the same with more steps

same_by : (b : Bool) (r : StepResult) (t u : TurnResult) → ends r.reply ≡ b → (EndsByItself t.replies → u ≡ t)
    → EndsByItself (if b then record { shared = r.shared; driver = r.driver; replies = r.reply ∷ [] } else with_reply r.reply t).replies
    → (if b then record { shared = r.shared; driver = r.driver; replies = r.reply ∷ [] } else with_reply r.reply u) ≡ (if b then record { shared = r.shared; driver = r.driver; replies = r.reply ∷ [] } else with_reply r.reply t)
same_by true r t u is rest over = refl
same_by false r t u is rest over = ap (with_reply r.reply) (rest (ends_before r.reply t.replies is over))

pub turn_same : (n m : ℕ) (s : Shared) (running : List ℤ) (now : ℤ) (d : Driver) → n ≤ m → EndsByItself (turn n s running now d).replies → turn m s running now d ≡ turn n s running now d
unfolding turn
turn_same zero m s running now d low over = absurd (cc)
turn_same (suc n) zero s running now d low over = absurd (omega (arith, low))
turn_same (suc n) (suc m) s running now d low over =
    let r : StepResult = step s running now d in
    same_by (ends r.reply) r (turn n r.shared running now r.driver) (turn m r.shared running now r.driver) refl (turn_same n m r.shared running now r.driver (less n m low)) over
  where
    less : (a b : ℕ) → suc a ≤ suc b → a ≤ b
    less a b low = omega (arith, low)
